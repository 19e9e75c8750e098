-- What a move that is not refused asks for; the table of its source fits the target then.
use Rattle.std.specs.Prelude.{ℕ, suc, ◌≤◌, ◌<◌, ◌≡◌, true, ◌&&◌, length, get_or}
use Rattle.std.proofs.Math.Path.{ap}
use Rattle.std.proofs.Common.{◌∙◌, arith}
use mathlib.Core.List.{List, [], ◌∷◌, ◌++◌, flatten}
use borrow.Author.Tests.{ltb-false, not-false}
use Rattle.model.specs.Chip.{Image, Bytes, largest_image, right_size}
use Rattle.model.specs.Slot.{Slot}
use Rattle.model.specs.State.{entries, distinct, capacity, clean, state, view, entries_in}
use Rattle.model.specs.Table.{Table, table_of}
use Rattle.model.specs.Answers.{first_of}
use Rattle.model.specs.Laws.Lists.{and_left, and_right}
use Rattle.model.proofs.Laws.CopyOut.{Valids}
use Rattle.bridge.specs.Views.Slots.{entries_append}
use Rattle.bridge.specs.Views.Shape.{clean_distinct}
use Rattle.bridge.specs.Refusals.{none_applies, neither}
use Rattle.bridge.specs.Held.{held_of_clean, clean_view, row_valid}
use Rattle.moves.specs.Moves.{by_number, fresh_work, move_refusals, move_work, move_outcome}
use Rattle.moves.proofs.Sorted.{sorted_length, sorted_distinct, sorted_valids}
use Rattle.moves.proofs.Fresh.{Fits}
use Rattle.moves.proofs.Works.{Sees, few_steps, same_work}

-- ---- the table of a clean image can be written

pub valids_append : (x y : Table) → Valids x → Valids y → Valids (x ++ y)
valids_append [] y a b = b
valids_append (e ∷ x) y a b = (a.0, valids_append x y a.1 b)

rows_valid : (l : List (List Slot)) → ((k : ℕ) → k < length l → Valids (entries (get_or l k []))) → Valids (entries (flatten l))
unfolding flatten entries mathlib.Core.List.flat_map
rows_valid [] f = tt
rows_valid (r ∷ l) f = rw (entries_append r (flatten l)) (valids_append (entries r) (entries (flatten l)) (f 0 (omega arith)) (rows_valid l (λ k h. f (suc k) (omega arith))))

module _ (N B : ℕ) (s : Image) (z : right_size N B s ≡ true) (c : state N B s ≡ clean) where
  pub table_distinct : distinct (table_of N B s) ≡ true
  unfolding table_of
  table_distinct = clean_distinct (clean_view N B s z c)

  pub table_valid : Bytes s → Valids (table_of N B s)
  unfolding table_of entries_in
  table_valid b = rows_valid (view N B s).slots (λ k h. row_valid N B s (view N B s) (held_of_clean N B s z c) b k h)

-- ---- what a move that is not refused asks for

pub record Movable (N B : ℕ) (s : Image) (M D : ℕ) (t : Image) : Type 0 where
  pub source : right_size N B s ≡ true
  pub target : right_size M D t ≡ true
  pub fine : state N B s ≡ clean
  pub few : length (table_of N B s) ≤ capacity M D

-- the table by rising number fits the target
pub movable_fits : (N B : ℕ) (s : Image) (M D : ℕ) (t : Image) → Bytes s → Movable N B s M D t → Fits M D (by_number (table_of N B s))
movable_fits N B s M D t b m = record {
  once = sorted_distinct (table_of N B s) (table_distinct N B s m.source m.fine);
  few = omega (arith, sorted_length (table_of N B s), m.few);
  valid = sorted_valids (table_of N B s) (table_valid N B s m.source m.fine b);
}

module _ (N B : ℕ) (s : Image) (M D : ℕ) (t : Image) where
  pub asks : first_of (move_refusals N B s M D t) ≡ 0 → Movable N B s M D t
  unfolding move_refusals
  asks e =
      let a = none_applies 0 _ _ e in
      let b = none_applies 3 _ _ a.1 in
      let c = none_applies 4 _ _ b.1 in
      let d = none_applies 6 _ _ c.1 in
      let z = not-false (right_size N B s && right_size M D t) a.0 in
      record {
        source = and_left (right_size N B s) (right_size M D t) z;
        target = and_right (right_size N B s) (right_size M D t) z;
        fine = neither (state N B s) b.0 c.0;
        few = ltb-false (capacity M D) (length (table_of N B s)) d.0;
      }

  pub move_sees : Bytes s → Sees (move_refusals N B s M D t) M D (table_of N B s) t
  move_sees b e = let m = asks e in (m.target, movable_fits N B s M D t b m)

  pub moved_few : (allowance : ℕ) → Bytes s → (move_outcome N B s M D t allowance).count ≤ largest_image
  unfolding move_outcome move_work
  moved_few allowance b = few_steps (move_refusals N B s M D t) M D (table_of N B s) t allowance (move_sees b)

  -- the source decides, and the list is the same whatever the target held
  pub work_same : (u : Image) → Bytes s → right_size M D u ≡ right_size M D t → move_work N B s M D u ≡ move_work N B s M D t
  unfolding move_work
  work_same u b z = ap (λ rows. fresh_work rows M D (table_of N B s) u) same ∙ same_work (move_refusals N B s M D t) M D (table_of N B s) t u (move_sees b) z
    where
      same : move_refusals N B s M D u ≡ move_refusals N B s M D t
      same = unfold move_refusals in rw z
