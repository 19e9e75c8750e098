-- A table of places, entry by entry (request #102): what a mount that answered 0 fills it with, and image and table in step, fact by fact. The count of entries is a variable where it can be: nothing computes a list of 65,536.
use Prim.Native.Nat.{ℕ, zero, suc, ◌+◌, ◌-◌, ◌%◌, ◌≤◌, ◌<◌}
use Rattle.std.specs.Prelude.{◌≡◌, true, [], ◌∷◌, ◌++◌, length, get_or, drop}
use Rattle.std.proofs.Math.Path.{refl, ap}
use Rattle.std.proofs.Common.{sym, ◌∙◌, length-append, length-drop, ext_get_or, get_or-drop, get_or-append-add, drop_at}
use native.Mathlib.Omega.{arith}
use Rattle.std.proofs.Math.Decide.{dec_lt}
use Rattle.std.proofs.Math.ListN.{get_or-append}
use borrow.Author.Tests.{ltb-false, not-false}
use Rattle.model.specs.Chip.{Image, right_size}
use Rattle.model.specs.Slot.{number_ok, live, slot_of}
use Rattle.model.specs.State.{View, entries_in, holds, clean, state, view}
use Rattle.model.specs.Mounted.{Places, least_places, place_entry, places_from, filled_places, MountOutcome, mount_refusals, mount_outcome, InStep}
use Rattle.model.proofs.Laws.Mounted.{mount_clean}
use Rattle.model.proofs.Laws.Chip.{size_facts}
use Rattle.model.proofs.Laws.Segments.{part_of}
use Rattle.model.proofs.Laws.SlotPage.{live_facts}
use Rattle.model.proofs.Laws.Effects.{slot_kind}
use Rattle.bridge.specs.Refusals.{none_applies, neither}
use Rattle.bridge.specs.Held.{Held, held_row, held_lengths}
use Rattle.bridge.specs.Views.Places.{FirstLive, first_live, in_view}

-- ---- a filled table

module _ (N B : ℕ) (v : View) where
  from_length : (k c : ℕ) → length (places_from N B v k c) ≡ c
  unfolding places_from
  from_length k zero = refl
  from_length k (suc c) = ap suc (from_length (suc k) c)

  from_get : (k c i : ℕ) → i < c → get_or (places_from N B v k c) i 0 ≡ place_entry N B v (k + i)
  unfolding places_from
  from_get k zero i h = absurd (omega arith)
  from_get k (suc c) zero h = let e : k + 0 ≡ k = omega arith in rw e
  from_get k (suc c) (suc i) h = let e : k + suc i ≡ suc k + i = omega arith in rw e (from_get (suc k) c i (omega arith))

  -- c entries after entry 0, and then those of t
  abbrev filled_to : ℕ → Places → Places
  filled_to c t = 1 ∷ (places_from N B v 1 c ++ drop (suc c) t)

  to_length : (c : ℕ) (t : Places) → suc c ≤ length t → length (filled_to c t) ≡ length t
  to_length c t h = omega (arith, length-append (places_from N B v 1 c) (drop (suc c) t), from_length 1 c, length-drop (suc c) t)

  to_low : (c : ℕ) (t : Places) (k : ℕ) → k < c → get_or (filled_to c t) (suc k) 0 ≡ place_entry N B v (suc k)
  to_low c t k h =
      let e : 1 + k ≡ suc k = omega arith in
      get_or-append (places_from N B v 1 c) (drop (suc c) t) 0 k (omega (arith, from_length 1 c)) ∙ rw e at (from_get 1 c k h)

  to_past : (c : ℕ) (t : Places) (i : ℕ) → get_or (filled_to c t) (suc (c + i)) 0 ≡ get_or t (suc c + i) 0
  to_past c t i = rw (from_length 1 c) at (get_or-append-add (places_from N B v 1 c) (drop (suc c) t) i 0) ∙ get_or-drop (suc c) t i 0

  to_drop : (c : ℕ) (t : Places) → drop (suc c) (filled_to c t) ≡ drop (suc c) t
  to_drop c t = drop_at (1 ∷ places_from N B v 1 c) (drop (suc c) t) (suc c) (ap suc (from_length 1 c))

  to_is : (c : ℕ) (t u : Places) → suc c ≤ length t → length u ≡ length t → drop (suc c) u ≡ drop (suc c) t → get_or u 0 0 ≡ 1
      → ((k : ℕ) → 0 < k → k < suc c → get_or u k 0 ≡ place_entry N B v k) → u ≡ filled_to c t
  to_is c t u h l d o f = ext_get_or 0 u (filled_to c t) (l ∙ sym (to_length c t h)) (λ i b. each i)
    where
      past : (k : ℕ) → c ≤ k → get_or u (suc k) 0 ≡ get_or (filled_to c t) (suc k) 0
      past k g =
          let e : c + (k - c) ≡ k = omega arith in
          let m : suc c + (k - c) ≡ suc k = omega arith in
          let p : get_or u (suc k) 0 ≡ get_or t (suc k) 0 = rw m at (sym (get_or-drop (suc c) u (k - c) 0) ∙ ap (λ (y : Places). get_or y (k - c) 0) d ∙ get_or-drop (suc c) t (k - c) 0) in
          p ∙ sym (rw (e, m) at (to_past c t (k - c)))

      each : (i : ℕ) → get_or u i 0 ≡ get_or (filled_to c t) i 0
      each zero = o
      each (suc k) = elim (dec_lt k c) [
        | yes g ↦ f (suc k) (omega arith) (omega arith) ∙ sym (to_low c t k g)
        | no g ↦ past k (omega arith)
      ]

  module _ (t : Places) where
    pub filled_zero : get_or (filled_places N B v t) 0 0 ≡ 1
    unfolding filled_places
    filled_zero = refl

    pub filled_entry : (k : ℕ) → 0 < k → k < least_places → get_or (filled_places N B v t) k 0 ≡ place_entry N B v k
    unfolding filled_places
    filled_entry zero a b = absurd (omega arith)
    filled_entry (suc k) a b = to_low 65535 t k (omega arith)

    pub filled_past : drop least_places (filled_places N B v t) ≡ drop least_places t
    unfolding filled_places
    filled_past = to_drop 65535 t

    pub filled_length : least_places ≤ length t → length (filled_places N B v t) ≡ length t
    unfolding filled_places
    filled_length h = to_length 65535 t h

    -- a table that has its entries is the filled one
    pub filled_is : (u : Places) → least_places ≤ length t → length u ≡ length t → drop least_places u ≡ drop least_places t → get_or u 0 0 ≡ 1
        → ((k : ℕ) → 0 < k → k < least_places → get_or u k 0 ≡ place_entry N B v k) → u ≡ filled_places N B v t
    unfolding filled_places
    filled_is u h l d o f = to_is 65535 t u h l d o f

-- ---- a mount that answered 0

-- what it asks for
pub record Mountable (N B : ℕ) (s : Image) (t : Places) : Type 0 where
  pub size : right_size N B s ≡ true
  pub fine : state N B s ≡ clean
  pub long : least_places ≤ length t

module _ (N B : ℕ) (s : Image) (t : Places) where
  pub mount_asks : (mount_outcome N B s t).code ≡ 0 → Mountable N B s t
  unfolding mount_outcome mount_refusals
  mount_asks e =
      let a = none_applies 0 _ _ e in
      let b = none_applies 9 _ _ a.1 in
      let c = none_applies 3 _ _ b.1 in
      let d = none_applies 4 _ _ c.1 in
      record { size = not-false (right_size N B s) a.0; fine = neither (state N B s) c.0 d.0; long = ltb-false (length t) least_places b.0 }

  pub mount_fills : Mountable N B s t → mount_outcome N B s t ≡ record { code = 0; places = filled_places N B (view N B s) t }
  mount_fills m = mount_clean N B s t m.size m.long m.fine

-- ---- in step

pub record Kept (N B : ℕ) (s : Image) (t : Places) : Type 0 where
  pub size : right_size N B s ≡ true
  pub fine : state N B s ≡ clean
  pub long : least_places ≤ length t
  pub usable : get_or t 0 0 ≡ 1
  pub entry : (k : ℕ) → 0 < k → k < least_places → get_or t k 0 ≡ place_entry N B (view N B s) k

module _ (N B : ℕ) (s : Image) (t : Places) where
  pub in_step_kept : InStep N B s t → Kept N B s t
  in_step_kept e =
      let m = mount_asks N B s t (ap (λ (o : MountOutcome). o.code) e) in
      let same : filled_places N B (view N B s) t ≡ t = ap (λ (o : MountOutcome). o.places) (sym (mount_fills N B s t m) ∙ e) in
      record {
        size = m.size;
        fine = m.fine;
        long = m.long;
        usable = ap (λ (y : Places). get_or y 0 0) (sym same) ∙ filled_zero N B (view N B s) t;
        entry = λ k a b. ap (λ (y : Places). get_or y k 0) (sym same) ∙ filled_entry N B (view N B s) t k a b;
      }

  pub kept_in_step : Kept N B s t → InStep N B s t
  kept_in_step h =
      let same : t ≡ filled_places N B (view N B s) t = filled_is N B (view N B s) t t h.long refl refl h.usable h.entry in
      mount_fills N B s t (record { size = h.size; fine = h.fine; long = h.long }) ∙ ap (λ (y : Places). record { code = 0; places = y }) (sym same)

-- a mount that answered 0 leaves them in step
pub mount_in_step : (N B : ℕ) (s : Image) (t : Places) → (mount_outcome N B s t).code ≡ 0 → InStep N B s (mount_outcome N B s t).places
mount_in_step N B s t e =
    let m = mount_asks N B s t e in
    let v = view N B s in
    let k : Kept N B s (filled_places N B v t) = record { size = m.size; fine = m.fine; long = omega (arith, filled_length N B v t m.long, m.long); usable = filled_zero N B v t; entry = filled_entry N B v t } in
    rw (mount_fills N B s t m) (kept_in_step N B s (filled_places N B v t) k)

-- ---- a stored block's slot

-- its page, in the segment with its number
pub live_page : (N B b : ℕ) (s : Image) (v : View) → Held N B s v → (f : FirstLive b v.first v.slots)
    → slot_of (get_or (part_of N B ((v.first + length f.gap.rows_before) % N) s) (suc (length f.gap.before)) []) ≡ live b f.contents
live_page N B b s v h f =
    let i = in_view B v f.gap (live b f.contents) f.split (held_lengths N B s v h) in
    let n = v.first + length f.gap.rows_before in
    let z = size_facts N B s h.size in
    let r = held_row N B s v h (length f.gap.rows_before) i.row in
    slot_kind N B z.two s z.whole n (length f.gap.before) r.0 r.1 n (get_or v.slots (length f.gap.rows_before) []) i.short r.2 ∙ i.kind

-- a stored block's number is one
pub held_number : (N B b : ℕ) (s : Image) (v : View) → Held N B s v → holds b (entries_in v) ≡ true → number_ok b ≡ true
unfolding entries_in
held_number N B b s v h e = let f = first_live b v.first v.slots e in (live_facts _ b f.contents (live_page N B b s v h f)).number
