-- Room for a put: a clean view with no room gets some by one opening or by as many tidyings as `compactions` says, and keeps its table.
use Prim.Native.Nat.{ℕ, zero, suc, ◌+◌, ◌-◌, ◌*◌, ◌≤◌, ◌<◌}
use Rattle.std.specs.Prelude.{◌≡◌, Bool, cond, ◌||◌, ◌&&◌, ltb}
use Rattle.std.proofs.Math.Path.{refl, ap}
use Rattle.std.proofs.Common.{sym, ◌∙◌, true≢false, arith, mul-le-mul_right, ltb-true, ltb-false, lt-ltb, le-ltb}
use Rattle.std.proofs.Math.Bool.{true, false, not, and-eq-true_iff}
use mathlib.Core.List.{List, [], ◌∷◌, ◌++◌, flatten}
use Rattle.std.proofs.Math.ListN.{length, length-append}
use Rattle.std.proofs.lemmas.Bool.{not-true, not-false}
use Rattle.model.specs.Lists.{all, count}
use Rattle.model.specs.Header.{Version, new_version, tally_of}
use Rattle.model.specs.Slot.{Slot, is_empty, is_dead, is_torn, is_wrong}
use Rattle.model.specs.State.{View, entries, entries_in, distinct, none_wrong_or_torn, capacity}
use Rattle.model.specs.Steps.{top_number, has_room, copied, open_next, compact_oldest, compact_until_room, room_for, compactions, new_numbers}
use Rattle.model.specs.Table.{lookup, Agree}
use Rattle.model.specs.Laws.Lists.{all_append, all_parts, all_flatten, none_count, some_count, flatten_last}
use Rattle.model.proofs.Laws.Tables.{distinct_swap, agree_swap}
use Rattle.bridge.specs.Predicted.{CleanView}
use Rattle.bridge.specs.Views.Slots.{full, none_dead, sound, entries_append, rows_length, full_counted}
use Rattle.bridge.specs.Views.Shape.{clean_shape, shape_clean, clean_distinct, clean_within, row_added, added_entries, added_room, added_top, all_full, opened_shape, opened_entries, opened_room, opened_top, tidied_view, tidied_shape}

-- ---- the count of tidyings

pub compactions_some : (l : List (List Slot)) → 1 ≤ length l → 1 ≤ compactions l
unfolding compactions
compactions_some [] h = absurd (omega arith)
compactions_some (s ∷ l) h = go (none_dead s)
  where
    go : (t : Bool) → 1 ≤ cond t (suc (compactions l)) 1
    go true = omega arith
    go false = omega arith

pub compactions_length : (l : List (List Slot)) → compactions l ≤ length l
unfolding compactions
compactions_length [] = omega arith
compactions_length (s ∷ l) = go (none_dead s) (compactions_length l)
  where
    go : (t : Bool) → compactions l ≤ length l → cond t (suc (compactions l)) 1 ≤ suc (length l)
    go true h = omega arith
    go false h = omega arith

-- rows after one with a dead slot do not count
pub compactions_append : (l r : List (List Slot)) → none_dead (flatten l) ≡ false → compactions (l ++ r) ≡ compactions l
unfolding compactions flatten all
compactions_append [] r h = absurd (true≢false h)
compactions_append (s ∷ l) r h = go (none_dead s) (sym (all_append (λ k. not (is_dead k)) s (flatten l)) ∙ h) (λ p. compactions_append l r p)
  where
    go : (t : Bool) → (t && none_dead (flatten l)) ≡ false → (none_dead (flatten l) ≡ false → compactions (l ++ r) ≡ compactions l)
        → cond t (suc (compactions (l ++ r))) 1 ≡ cond t (suc (compactions l)) 1
    go true p ih = ap suc (ih p)
    go false p ih = refl

-- ---- one tidying

-- a full row holds fewer than B entries if it has a dead slot, and only then
pub row_room : (B : ℕ) (s : List Slot) → length s ≡ B → sound s ≡ true → full s ≡ true → ltb (length (entries s)) B ≡ not (none_dead s)
row_room B s l h f = go (none_dead s) refl
  where
    go : (t : Bool) → none_dead s ≡ t → ltb (length (entries s)) B ≡ not t
    go true e = le-ltb (length (entries s)) B (omega (arith, full_counted s h f, none_count is_dead s e))
    go false e = lt-ltb (length (entries s)) B (omega (arith, full_counted s h f, some_count is_dead s e))

pub record Tidied (N B : ℕ) (v w : View) : Type 0 where
  pub clean : CleanView N B w
  pub table : Agree (entries_in w) (entries_in v)
  pub size : length (entries_in w) ≡ length (entries_in v)
  pub number : top_number w ≡ suc (top_number v)
  -- it was the last tidying, or there is one fewer to come
  pub done : has_room w ≡ true → compactions v.slots ≡ 1
  pub further : has_room w ≡ false → none_dead (flatten v.slots) ≡ false → (none_dead (flatten w.slots) ≡ false) × (compactions v.slots ≡ suc (compactions w.slots))

module _ (N B : ℕ) where
  pub tidied : (v : View) → CleanView N B v → has_room v ≡ false → Tidied N B v (compact_oldest N B v).result
  unfolding entries_in none_wrong_or_torn flatten all compactions top_number row_added
  tidied v c h = go v.first v.slots v.version c h
    where
      go : (n : ℕ) (l : List (List Slot)) (e : Version) → CleanView N B (record { first = n; slots = l; version = e }) → has_room (record { first = n; slots = l; version = e }) ≡ false
          → Tidied N B (record { first = n; slots = l; version = e }) (compact_oldest N B (record { first = n; slots = l; version = e })).result
      go n [] e c h = absurd (omega (arith, c.some))
      go n (s ∷ l) e c h = record {
        clean = shape_clean (tidied_shape (clean_shape c) h) (ap distinct now ∙ distinct_swap (entries s) (entries (flatten l)) was)
            (omega (arith, ap length now, length-append (entries (flatten l)) (entries s), counted, clean_within c));
        table = λ b. ap (lookup b) now ∙ (agree_swap (entries s) (entries (flatten l)) was b ∙ ap (lookup b) (sym (entries_append s (flatten l))));
        size = omega (arith, ap length now, length-append (entries (flatten l)) (entries s), counted);
        number = ap top_number (tidied_view N B n s l e) ∙ (added_top (new_version (tally_of e)) B (suc n) l (entries s) ∙ omega arith);
        done = λ p. rw (not-true (none_dead s) (sym room ∙ p));
        further = λ p q. later (not-false (none_dead s) (sym room ∙ p)) (sym (all_append (λ k. not (is_dead k)) s (flatten l)) ∙ q);
      }
        where
          now : entries_in (compact_oldest N B (record { first = n; slots = s ∷ l; version = e })).result ≡ entries (flatten l) ++ entries s
          now = ap entries_in (tidied_view N B n s l e) ∙ added_entries (new_version (tally_of e)) B (suc n) l (entries s)

          was : distinct (entries s ++ entries (flatten l)) ≡ true
          was = ap distinct (sym (entries_append s (flatten l))) ∙ clean_distinct c

          counted : length (entries (s ++ flatten l)) ≡ length (entries s) + length (entries (flatten l))
          counted = ap length (entries_append s (flatten l)) ∙ length-append (entries s) (entries (flatten l))

          room : has_room (compact_oldest N B (record { first = n; slots = s ∷ l; version = e })).result ≡ not (none_dead s)
          room = ap has_room (tidied_view N B n s l e) ∙ (added_room (new_version (tally_of e)) B (suc n) l (entries s)
              ∙ row_room B s c.rows.0 (all_parts (λ k. not (is_wrong k || is_torn k)) s (flatten l) c.sound).0
              ((and-eq-true_iff (full s) (all (λ x. full x) l)).0 (all_full (clean_shape c) h)).0)

          later : none_dead s ≡ true → (none_dead s && none_dead (flatten l)) ≡ false
              → (none_dead (flatten (compact_oldest N B (record { first = n; slots = s ∷ l; version = e })).result.slots) ≡ false)
              × (cond (none_dead s) (suc (compactions l)) 1 ≡ suc (compactions (compact_oldest N B (record { first = n; slots = s ∷ l; version = e })).result.slots))
          later d0 q =
              let d : none_dead (flatten l) ≡ false = rw d0 at q in
              let z : (compact_oldest N B (record { first = n; slots = s ∷ l; version = e })).result.slots ≡ l ++ (copied B (entries s) ∷ []) = ap (λ y. y.slots) (tidied_view N B n s l e) in (
                rw (z, flatten_last l (copied B (entries s)), all_append (λ k. not (is_dead k)) (flatten l) (copied B (entries s)), d),
                rw (z, d0, compactions_append l (copied B (entries s) ∷ []) d),
              )

  -- ---- as many as it takes

  pub room_stays : (k : ℕ) (v : View) → has_room v ≡ true → (compact_until_room N B k v).result ≡ v
  unfolding compact_until_room
  room_stays zero v h = refl
  room_stays (suc k) v h = rw h

-- the view w has room, made from v by m segments that got a number
pub record Made (N B : ℕ) (v w : View) (m : ℕ) : Type 0 where
  pub clean : CleanView N B w
  pub room : has_room w ≡ true
  pub table : Agree (entries_in w) (entries_in v)
  pub size : length (entries_in w) ≡ length (entries_in v)
  pub number : top_number w ≡ top_number v + m

module _ (N B : ℕ) where
  pub room_after_tidying : (k : ℕ) (v : View) → CleanView N B v → has_room v ≡ false → none_dead (flatten v.slots) ≡ false → compactions v.slots ≤ k
      → Made N B v (compact_until_room N B k v).result (compactions v.slots)
  unfolding compact_until_room
  room_after_tidying zero v c h d m = absurd (omega (arith, compactions_some v.slots c.some))
  room_after_tidying (suc k) v c h d m =
      rw h (go (compact_oldest N B v).result (has_room (compact_oldest N B v).result) refl (tidied N B v c h) (λ p q r s. room_after_tidying k (compact_oldest N B v).result p q r s))
    where
      go : (w : View) (t : Bool) → has_room w ≡ t → Tidied N B v w
          → (CleanView N B w → has_room w ≡ false → none_dead (flatten w.slots) ≡ false → compactions w.slots ≤ k → Made N B w (compact_until_room N B k w).result (compactions w.slots))
          → Made N B v (compact_until_room N B k w).result (compactions v.slots)
      go w true e x ih = rw (room_stays N B k w e)
          (record { clean = x.clean; room = e; table = x.table; size = x.size; number = omega (arith, x.number, x.done e) })
      go w false e x ih =
          let f = x.further e d in
          let i = ih x.clean e f.0 (omega arith) in
          record { clean = i.clean; room = i.room; table = λ b. i.table b ∙ x.table b; size = i.size ∙ x.size; number = omega (arith, i.number, x.number) }

-- ---- no room: every slot is live or dead

pub full_view : {N B : ℕ} {v : View} → CleanView N B v → has_room v ≡ false → length (entries_in v) + count is_dead (flatten v.slots) ≡ length v.slots * B
unfolding none_wrong_or_torn entries_in
full_view {N} {B} {v} c h =
    full_counted (flatten v.slots) c.sound (all_flatten (λ x. not (is_empty x)) v.slots ∙ all_full (clean_shape c) h) ∙ rows_length B v.slots c.rows

-- some are dead, where all segments but one are in use
pub some_dead : (N B : ℕ) → 2 ≤ N → 2 ≤ B → (v : View) → CleanView N B v → has_room v ≡ false → N - 1 ≤ length v.slots → none_dead (flatten v.slots) ≡ false
unfolding capacity
some_dead N B n m v c h k = go (none_dead (flatten v.slots)) refl
  where
    go : (t : Bool) → none_dead (flatten v.slots) ≡ t → t ≡ false
    go false e = refl
    go true e =
        let q : length v.slots ≡ N - 1 = omega (arith, c.spare) in
        let r : length (entries_in v) + count is_dead (flatten v.slots) ≡ (N - 1) * B = rw q at (full_view c h) in
        let w : length (entries_in v) ≤ (N - 1) * B - 1 = clean_within c in
        let z : 1 * B ≤ (N - 1) * B = mul-le-mul_right B (omega arith) in
        absurd (omega (arith, none_count is_dead (flatten v.slots) e))

-- ---- room for a put

pub opened_clean : {N B : ℕ} {v : View} → CleanView N B v → has_room v ≡ false → length v.slots < N - 1 → CleanView N B (open_next N B v).result
opened_clean {N} {B} {v} c e k = let x = opened_entries N B v in
    shape_clean (opened_shape (clean_shape c) e k) (ap distinct x ∙ clean_distinct c) (omega (arith, ap length x, clean_within c))

pub room_made : (N B : ℕ) → 2 ≤ N → 2 ≤ B → (v : View) → CleanView N B v → Made N B v (room_for N B v).result (new_numbers N v)
unfolding room_for new_numbers
room_made N B n m v c = go (has_room v) (ltb (length v.slots) (N - 1)) refl refl
  where
    go : (t u : Bool) → has_room v ≡ t → ltb (length v.slots) (N - 1) ≡ u
        → Made N B v (cond t (record { steps = []; result = v }) (cond u (open_next N B v) (compact_until_room N B (N - 1) v))).result (cond t 0 (cond u 1 (compactions v.slots)))
    go true u e f = record { clean = c; room = e; table = λ b. refl; size = refl; number = omega arith }
    go false true e f =
        let k = ltb-true (length v.slots) (N - 1) f in
        let x = opened_entries N B v in
        record {
          clean = opened_clean c e k;
          room = opened_room N B v (omega arith);
          table = λ b. ap (lookup b) x;
          size = ap length x;
          number = opened_top N B v c.some ∙ omega arith;
        }
    go false false e f =
        let k = ltb-false (length v.slots) (N - 1) f in
        room_after_tidying N B (N - 1) v c e (some_dead N B n m v c e k) (omega (arith, compactions_length v.slots, c.spare))
