-- Where fewer slots are live than may be, whatever they hold: fewer segments in use than may be, or two empty slots in the top.
use Prim.Native.Nat.{ℕ, suc, ◌+◌, ◌-◌, ◌*◌, ◌≤◌, ◌<◌}
use mathlib.Core.Path.{◌≡◌, refl, ap}
use mathlib.Core.Bool.{true}
use mathlib.Core.List.{List, [], ◌∷◌, flat_map, flatten, append-nil}
use native.Mathlib.Nat.{suc-mul, mul-le-mul_right}
use native.Mathlib.Omega.{arith}
use lib.ListN.{length, length-append}
use Rattle.model.specs.Slot.{Slot, empty, torn, dead, cut, wrong, live, is_empty, entry_of}
use Rattle.model.specs.State.{View, entries, entries_in, empty_last, only_top_empty, empty_slots_last, capacity}
use Rattle.model.specs.Steps.{top_row, first_empty}
use Rattle.model.specs.Laws.Lists.{and_right}
use Rattle.bridge.specs.Predicted.{Rows, CleanView}
use Rattle.bridge.specs.Views.Slots.{full, entries_append, entries_length, all_empty_entries, rows_length}

-- ---- the top

top_empty_last : (l : List (List Slot)) → only_top_empty l ≡ true → empty_last (top_row l) ≡ true
unfolding only_top_empty top_row empty_last
top_empty_last [] h = refl
top_empty_last (t ∷ []) h = h
top_empty_last (s ∷ t ∷ l) h = top_empty_last (t ∷ l) (and_right (full s) (only_top_empty (t ∷ l)) h)

-- no slot behind the first empty one is live
live_before : (row : List Slot) → empty_last row ≡ true → length (entries row) ≤ first_empty row
unfolding empty_last entries flat_map entry_of first_empty is_empty
live_before [] h = omega arith
live_before (empty ∷ row) h = omega (arith, ap length (all_empty_entries row h))
live_before (torn ∷ row) h = omega (arith, live_before row h)
live_before (dead ∷ row) h = omega (arith, live_before row h)
live_before (cut ∷ row) h = omega (arith, live_before row h)
live_before (wrong ∷ row) h = omega (arith, live_before row h)
live_before (live b c ∷ row) h = omega (arith, live_before row h)

-- at most B are live in each row but the top
live_in_rows : (B : ℕ) (l : List (List Slot)) → Rows B l → 1 ≤ length l → length (entries (flatten l)) + B ≤ length l * B + length (entries (top_row l))
unfolding flatten top_row
live_in_rows B [] r h = absurd (omega arith)
live_in_rows B (t ∷ []) r h = rw (append-nil t) (omega arith)
live_in_rows B (x ∷ y ∷ l) r h =
    omega (arith, live_in_rows B (y ∷ l) r.1 (omega arith), ap length (entries_append x (flatten (y ∷ l))), length-append (entries x) (entries (flatten (y ∷ l))), entries_length x, r.0, suc-mul (suc (length l)) B)

-- ---- fewer than C

module _ (N B : ℕ) (slots : 2 ≤ B) (v : View) (c : CleanView N B v) where
  pub few_in_use : length v.slots + 1 < N → length (entries_in v) < capacity N B
  unfolding capacity entries_in
  few_in_use h =
      let l = length v.slots in
      let most : suc l * B ≤ (N - 1) * B = mul-le-mul_right B (omega arith) in
      omega (arith, most, suc-mul l B, entries_length (flatten v.slots), rows_length B v.slots c.rows)

  pub two_empty : first_empty (top_row v.slots) + 1 < B → length (entries_in v) < capacity N B
  unfolding capacity entries_in empty_slots_last
  two_empty h =
      let most : length v.slots * B ≤ (N - 1) * B = mul-le-mul_right B c.spare in
      omega (arith, most, live_in_rows B v.slots c.rows c.some, live_before (top_row v.slots) (top_empty_last v.slots c.last))
