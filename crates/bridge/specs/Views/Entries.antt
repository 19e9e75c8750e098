-- The table of places that a view fills (request #102): entry by entry, and what making room, a put and a delete change of it.
use Prim.Native.Nat.{ℕ, zero, suc, ◌+◌, ◌-◌, ◌*◌, ◌≤◌, ◌<◌}
use Rattle.std.specs.Prelude.{◌≡◌, Bool, cond, ◌||◌, get_or, drop}
use Rattle.std.proofs.Math.Path.{refl, ap}
use Rattle.std.proofs.Common.{sym, ◌∙◌, true≢false, arith}
use Rattle.std.proofs.Math.Bool.{true, false}
use mathlib.Core.List.{List, [], ◌∷◌, ◌++◌, flat_map, flatten, append_assoc, append-nil}
use Rattle.std.proofs.Math.ListN.{length, replicate, length-append}
use Rattle.std.proofs.Math.Dec.{ltb}
use borrow.Author.Tests.{ltb-false}
use Rattle.model.specs.Slot.{Slot, empty, dead}
use Rattle.model.specs.State.{View, entries, entries_in, holds, distinct, Place, place_from, place_of}
use Rattle.model.specs.Steps.{slot_at, top_number, has_room, copied, open_next, compact_oldest, room_for, compactions, new_numbers}
use Rattle.model.specs.Mounted.{place_entry}
use Rattle.model.specs.Laws.Lists.{flatten_append, flatten_one}
use Rattle.model.proofs.Laws.Tables.{holds_append, copies_append, distinct_copies, held_copies}
use Rattle.bridge.specs.Predicted.{CleanView}
use Rattle.bridge.specs.Views.Slots.{entries_append, copied_entries, copied_none}
use Rattle.bridge.specs.Views.Shape.{clean_distinct}
use Rattle.bridge.specs.Views.Room.{some_dead, compactions_length}
use Rattle.bridge.specs.Views.Times.{compact_times, Needs, after_times, room_times}

-- entry k, of rows whose numbers start at n
unfoldable pub rows_entry : ℕ → ℕ → ℕ → List (List Slot) → ℕ → ℕ
rows_entry N B n rows k = let p = place_from k n rows in cond (holds k (entries (flatten rows))) (slot_at N B p.number p.slot * 256) 0

pub view_entry : (N B : ℕ) (v : View) (k : ℕ) → place_entry N B v k ≡ rows_entry N B v.first v.slots k
unfolding place_entry rows_entry entries_in place_of
view_entry N B v k = refl

-- ---- rows joined

pub held_rows : (k : ℕ) (x y : List (List Slot)) → holds k (entries (flatten (x ++ y))) ≡ (holds k (entries (flatten x)) || holds k (entries (flatten y)))
held_rows k x y = rw (flatten_append x y, entries_append (flatten x) (flatten y), holds_append k (entries (flatten x)) (entries (flatten y)))

place_append : (k n : ℕ) (x y : List (List Slot)) → place_from k n (x ++ y) ≡ cond (holds k (entries (flatten x))) (place_from k n x) (place_from k (n + length x) y)
unfolding place_from flatten entries flat_map holds
place_append k n [] y = ap (λ (m : ℕ). place_from k m y) (omega arith)
place_append k n (s ∷ x) y =
    let next : suc n + length x ≡ n + suc (length x) = omega arith in
    let ih : place_from k (suc n) (x ++ y) ≡ cond (holds k (entries (flatten x))) (place_from k (suc n) x) (place_from k (n + suc (length x)) y) = rw next at (place_append k (suc n) x y) in
    go (holds k (entries s)) refl (sym (ap (holds k) (entries_append s (flatten x)) ∙ holds_append k (entries s) (entries (flatten x)))) ih
  where
    go : (t : Bool) → holds k (entries s) ≡ t → (holds k (entries s) || holds k (entries (flatten x))) ≡ holds k (entries (s ++ flatten x))
        → place_from k (suc n) (x ++ y) ≡ cond (holds k (entries (flatten x))) (place_from k (suc n) x) (place_from k (n + suc (length x)) y)
        → place_from k n (s ∷ (x ++ y)) ≡ cond (holds k (entries (s ++ flatten x))) (place_from k n (s ∷ x)) (place_from k (n + suc (length x)) y)
    go true e h ih = rw (← h, e)
    go false e h ih = rw (← h, e) ih

pub entry_append : (N B n : ℕ) (x y : List (List Slot)) (k : ℕ)
    → rows_entry N B n (x ++ y) k ≡ cond (holds k (entries (flatten x))) (rows_entry N B n x k) (rows_entry N B (n + length x) y k)
unfolding rows_entry
entry_append N B n x y k = rw (held_rows k x y, place_append k n x y) (go (holds k (entries (flatten x))) refl)
  where
    at : Place → ℕ
    at p = slot_at N B p.number p.slot * 256

    go : (t : Bool) → holds k (entries (flatten x)) ≡ t
        → cond (t || holds k (entries (flatten y))) (at (cond t (place_from k n x) (place_from k (n + length x) y))) 0
        ≡ cond t (cond t (at (place_from k n x)) 0) (cond (holds k (entries (flatten y))) (at (place_from k (n + length x) y)) 0)
    go true e = refl
    go false e = refl

pub entry_absent : (N B n : ℕ) (x : List (List Slot)) (k : ℕ) → holds k (entries (flatten x)) ≡ false → rows_entry N B n x k ≡ 0
unfolding rows_entry
entry_absent N B n x k h = rw h

either : (x y : Bool) → (x || y) ≡ false → (x ≡ false) × (y ≡ false)
either true y h = absurd (true≢false h)
either false y h = (refl, h)

-- in a view with each block once, one that is in the first rows is not in the others
apart : (k : ℕ) (x y : List (List Slot)) → distinct (entries (flatten (x ++ y))) ≡ true → holds k (entries (flatten y)) ≡ true → holds k (entries (flatten x)) ≡ false
apart k x y d h = go (holds k (entries (flatten x))) refl
  where
    joined : entries (flatten (x ++ y)) ≡ entries (flatten x) ++ entries (flatten y)
    joined = rw (flatten_append x y, entries_append (flatten x) (flatten y))

    go : (t : Bool) → holds k (entries (flatten x)) ≡ t → t ≡ false
    go false e = refl
    go true e =
        absurd (omega (arith, distinct_copies (entries (flatten x) ++ entries (flatten y)) (rw joined at d) k, copies_append k (entries (flatten x)) (entries (flatten y)), held_copies k _ e, held_copies k _ h))

-- ---- making room

-- the last m rows of w are new; the entries of the blocks in them are theirs, and the others are as in v
pub record Moved (N B : ℕ) (v w : View) (m : ℕ) : Type 0 where
  pub kept : List (List Slot)
  pub new : List (List Slot)
  pub split : w.slots ≡ kept ++ new
  pub count : length new ≡ m
  pub next : w.first + length kept ≡ suc (top_number v)
  pub entry : (k : ℕ) → place_entry N B w k ≡ cond (holds k (entries (flatten new))) (rows_entry N B (suc (top_number v)) new k) (place_entry N B v k)

-- nothing moved
moved_none : (N B : ℕ) (v : View) → 1 ≤ length v.slots → Moved N B v v 0
unfolding top_number holds entries flatten flat_map
moved_none N B v h = record { kept = v.slots; new = []; split = sym (append-nil v.slots); count = refl; next = omega arith; entry = λ k. refl }

module _ (N B : ℕ) where
  -- one compaction more: its target is the last of the new rows
  moved_more : (v w : View) (m : ℕ) → CleanView N B (compact_oldest N B w).result → Moved N B v w m → m < length w.slots → Moved N B v (compact_oldest N B w).result (suc m)
  unfolding compact_oldest entries_in
  moved_more v w m c d h = go d.kept d.split d.next
    where
      go : (kept : List (List Slot)) → w.slots ≡ kept ++ d.new → w.first + length kept ≡ suc (top_number v) → Moved N B v (compact_oldest N B w).result (suc m)
      go [] e n = absurd (omega (arith, ap length e, d.count))
      go (s ∷ kept) e n = record {
        kept = kept;
        new = new;
        split = rows;
        count = omega (arith, length-append d.new (target ∷ []), d.count);
        next = omega arith;
        entry = λ k. whole k (holds k (entries (flatten new))) refl;
      }
        where
          target : List Slot
          target = copied B (entries s)

          new : List (List Slot)
          new = d.new ++ (target ∷ [])

          rows : drop 1 w.slots ++ (copied B (entries (get_or w.slots 0 [])) ∷ []) ≡ kept ++ new
          rows = rw e (append_assoc kept d.new (target ∷ []))

          next : suc w.first + length kept ≡ suc (top_number v)
          next = omega arith

          after : (k : ℕ) → place_entry N B (compact_oldest N B w).result k ≡ cond (holds k (entries (flatten kept))) (rows_entry N B (suc w.first) kept k) (rows_entry N B (suc (top_number v)) new k)
          after k = view_entry N B (compact_oldest N B w).result k ∙ (ap (λ y. rows_entry N B (suc w.first) y k) rows ∙ (entry_append N B (suc w.first) kept new k
              ∙ ap (λ (y : ℕ). cond (holds k (entries (flatten kept))) (rows_entry N B (suc w.first) kept k) (rows_entry N B y new k)) next))

          whole : (k : ℕ) (t : Bool) → holds k (entries (flatten new)) ≡ t → place_entry N B (compact_oldest N B w).result k ≡ cond t (rows_entry N B (suc (top_number v)) new k) (place_entry N B v k)
          whole k true p = after k ∙ rw (apart k kept new (rw rows at (clean_distinct c)) p)
          whole k false p =
              let gone : rows_entry N B (suc (top_number v)) new k ≡ 0 = entry_absent N B (suc (top_number v)) new k p in
              let q = either (holds k (entries (flatten d.new))) (holds k (entries (flatten (target ∷ [])))) (sym (held_rows k d.new (target ∷ [])) ∙ p) in
              let here : holds k (entries (flatten (s ∷ []))) ≡ false = rw (flatten_one s) (rw (flatten_one target, copied_entries B (entries s)) at q.1) in
              let one : w.first + 1 ≡ suc w.first = omega arith in
              let was : place_entry N B w k ≡ cond (holds k (entries (flatten kept))) (rows_entry N B (suc w.first) kept k) 0 =
              view_entry N B w k ∙ (ap (λ y. rows_entry N B w.first y k) e ∙ (entry_append N B w.first (s ∷ []) (kept ++ d.new) k
              ∙ rw (here, one) (entry_append N B (suc w.first) kept d.new k ∙ rw (entry_absent N B (suc w.first + length kept) d.new k q.0)))) in
              after k ∙ (rw gone (sym was) ∙ (d.entry k ∙ rw q.0))

  moved_times : (v : View) → Needs N B v → (i : ℕ) → i ≤ compactions v.slots → Moved N B v (compact_times N B i v).result i
  unfolding compact_times
  moved_times v n zero h = moved_none N B v n.clean.some
  moved_times v n (suc i) h =
      let a = after_times N B v n i (omega arith) in
      moved_more v (compact_times N B i v).result i (after_times N B v n (suc i) h).clean (moved_times v n i (omega arith)) (omega (arith, a.rows, compactions_length v.slots))

  -- an opened segment holds nothing
  moved_opened : (v : View) → 1 ≤ length v.slots → Moved N B v (open_next N B v).result 1
  unfolding open_next top_number
  moved_opened v h = record {
    kept = v.slots;
    new = replicate B empty ∷ [];
    split = refl;
    count = refl;
    next = omega arith;
    entry = λ k. view_entry N B (open_next N B v).result k ∙ (entry_append N B v.first v.slots (replicate B empty ∷ []) k
        ∙ rw (none k, entry_absent N B (v.first + length v.slots) (replicate B empty ∷ []) k (none k), view_entry N B v k) (same k (holds k (entries (flatten v.slots))) refl));
  }
    where
      none : (k : ℕ) → holds k (entries (flatten (replicate B empty ∷ []))) ≡ false
      none k = rw (flatten_one (replicate B empty), copied_none B, copied_entries B []) (unfold holds in refl)

      same : (k : ℕ) (t : Bool) → holds k (entries (flatten v.slots)) ≡ t → cond t (rows_entry N B v.first v.slots k) 0 ≡ rows_entry N B v.first v.slots k
      same k true e = refl
      same k false e = sym (entry_absent N B v.first v.slots k e)

  pub room_moved : 2 ≤ N → 2 ≤ B → (v : View) → CleanView N B v → Moved N B v (room_for N B v).result (new_numbers N v)
  unfolding new_numbers
  room_moved n b v c = go (has_room v) (ltb (length v.slots) (N - 1)) refl refl
    where
      go : (t u : Bool) → has_room v ≡ t → ltb (length v.slots) (N - 1) ≡ u → Moved N B v (room_for N B v).result (cond t 0 (cond u 1 (compactions v.slots)))
      go true u e f = unfold room_for in (rw e (moved_none N B v c.some))
      go false true e f = unfold room_for in (rw (e, f) (moved_opened v c.some))
      go false false e f =
          let all : N - 1 ≤ length v.slots = ltb-false (length v.slots) (N - 1) f in
          rw (room_times N B n b v c e f) (moved_times v (record { clean = c; none = e; dead = some_dead N B n b v c e all }) (compactions v.slots) (omega arith))
