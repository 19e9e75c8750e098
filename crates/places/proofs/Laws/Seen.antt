-- What an entry says, by the tests of the code, one after the other.
use Prim.Native.Nat.{ℕ, ◌+◌, ◌/◌, ◌%◌, ◌≤◌, ◌<◌}
use mathlib.Core.Path.{◌≡◌, refl, sym, ap, ◌∙◌}
use mathlib.Core.Bool.{Bool, true, false, cond, ◌&&◌, not}
use native.Mathlib.Omega.{arith}
use lib.ListN.{length, get_or}
use lib.Dec.{leb, eqb}
use borrow.Author.Tests.{eqb-true, eqb-false, leb-true, eq-eqb, ne_eqb, le-leb, lt-leb}
use Rattle.model.specs.Chip.{Image}
use Rattle.model.specs.Slot.{most_contents}
use Rattle.std.specs.Prelude.{Some, Ok}
use Rattle.find.specs.declared.FoundSlot.{FoundSlot}
use Rattle.find.specs.Search.{slot_found}
use Rattle.places.specs.Places.{absent, stale, is_slot_place, entry_seen}

module _ (B : ℕ) (s : Image) (e : ℕ) where
  pub seen_absent : e ≡ 0 → absent ≡ entry_seen B s e
  unfolding entry_seen
  seen_absent z = simp (eq-eqb e 0 z)

  module _ (z : e ≡ 0 → ⊥) where
    pub seen_uneven : (e % 256 ≡ 0 → ⊥) → stale ≡ entry_seen B s e
    unfolding entry_seen is_slot_place
    seen_uneven h = simp (ne_eqb e 0 z, ne_eqb (e % 256) 0 h)

    module _ (h : e % 256 ≡ 0) where
      pub seen_header : e / 256 % (B + 1) ≡ 0 → stale ≡ entry_seen B s e
      unfolding entry_seen is_slot_place
      seen_header i = simp (ne_eqb e 0 z, eq-eqb (e % 256) 0 h, eq-eqb (e / 256 % (B + 1)) 0 i)

      module _ (i : e / 256 % (B + 1) ≡ 0 → ⊥) where
        pub seen_outside : length s < e + 256 → stale ≡ entry_seen B s e
        unfolding entry_seen is_slot_place
        seen_outside o = simp (ne_eqb e 0 z, eq-eqb (e % 256) 0 h, ne_eqb (e / 256 % (B + 1)) 0 i, lt-leb (e + 256) (length s) o)

        module _ (o : e + 256 ≤ length s) where
          pub seen_long : 248 < get_or s (e + 1) 0 → stale ≡ entry_seen B s e
          unfolding entry_seen is_slot_place most_contents
          seen_long l = simp (ne_eqb e 0 z, eq-eqb (e % 256) 0 h, ne_eqb (e / 256 % (B + 1)) 0 i, le-leb (e + 256) (length s) o, lt-leb (get_or s (e + 1) 0) 248 l)

          pub seen_at : get_or s (e + 1) 0 ≤ 248 → (l : ℕ) → l ≡ get_or s (e + 1) 0 → Ok (slot_found e l) ≡ entry_seen B s e
          unfolding entry_seen is_slot_place most_contents
          seen_at f l q = simp (ne_eqb e 0 z, eq-eqb (e % 256) 0 h, ne_eqb (e / 256 % (B + 1)) 0 i, le-leb (e + 256) (length s) o, le-leb (get_or s (e + 1) 0) 248 f, q)

-- ---- all at once, and back: what is known of a place that was believed, whatever image and table are

pub record Believed (B : ℕ) (s : Image) (e : ℕ) (x : FoundSlot) : Type 0 where
  pub place : x.place.0 ≡ e
  pub some : e ≡ 0 → ⊥
  pub even : e % 256 ≡ 0
  pub slot : e / 256 % (B + 1) ≡ 0 → ⊥
  pub inside : e + 256 ≤ length s
  pub long : x.length ≡ get_or s (e + 1) 0
  pub short : x.length ≤ 248

pub believed_seen : (B : ℕ) (s : Image) (e : ℕ) (x : FoundSlot) → Believed B s e x → entry_seen B s e ≡ Ok (Some x)
believed_seen B s e x h =
    sym (seen_at B s e h.some h.even h.slot h.inside (omega (arith, h.long, h.short)) x.length h.long)
    ∙ ap (λ (y : ℕ). Ok (slot_found y x.length)) (sym h.place)

pub seen_believed : (B : ℕ) (s : Image) (e : ℕ) (x : FoundSlot) → entry_seen B s e ≡ Ok (Some x) → Believed B s e x
unfolding entry_seen is_slot_place most_contents
seen_believed B s e x h = go (eqb e 0) (eqb (e % 256) 0) (eqb (e / 256 % (B + 1)) 0) (leb (e + 256) (length s)) (leb (get_or s (e + 1) 0) 248) refl refl refl refl refl h
  where
    go : (a b c d f : Bool) → eqb e 0 ≡ a → eqb (e % 256) 0 ≡ b → eqb (e / 256 % (B + 1)) 0 ≡ c → leb (e + 256) (length s) ≡ d → leb (get_or s (e + 1) 0) 248 ≡ f
        → cond a absent (cond ((b && (not c && d)) && f) (Ok (slot_found e (get_or s (e + 1) 0))) stale) ≡ Ok (Some x) → Believed B s e x
    go true b c d f i j k m n q = absurd (let z : ◌≡◌ {A = ℕ} 0 1 = cc in omega arith)
    go false false c d f i j k m n q = absurd (let z : ◌≡◌ {A = ℕ} 0 1 = cc in omega arith)
    go false true true d f i j k m n q = absurd (let z : ◌≡◌ {A = ℕ} 0 1 = cc in omega arith)
    go false true false false f i j k m n q = absurd (let z : ◌≡◌ {A = ℕ} 0 1 = cc in omega arith)
    go false true false true false i j k m n q = absurd (let z : ◌≡◌ {A = ℕ} 0 1 = cc in omega arith)
    go false true false true true i j k m n q =
        let w : ◌≡◌ {A = FoundSlot} (record { place = record { 0 = e }; length = get_or s (e + 1) 0 }) x = cc in
        let l : get_or s (e + 1) 0 ≡ x.length = ap (λ (y : FoundSlot). y.length) w in
        record {
          place = ap (λ (y : FoundSlot). y.place.0) (sym w);
          some = eqb-false e 0 i;
          even = eqb-true (e % 256) 0 j;
          slot = eqb-false (e / 256 % (B + 1)) 0 k;
          inside = leb-true (e + 256) (length s) m;
          long = sym l;
          short = omega (arith, l, leb-true (get_or s (e + 1) 0) 248 n);
        }
