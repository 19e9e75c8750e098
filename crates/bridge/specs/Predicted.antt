-- The view after a request, predicted from the view before; and what a clean view is.
use Rattle.std.specs.Prelude.{ℕ, ◌-◌, ◌≤◌, ◌<◌, ◌≡◌, true, false, cond, ◌||◌, List, [], ◌∷◌, length, replicate, ltb}
use Rattle.model.specs.Chip.{erase_limit}
use Rattle.model.specs.Header.{new_version, is_former, tally_of}
use Rattle.model.specs.Slot.{Slot, empty, dead, live}
use Rattle.model.specs.State.{View, entries_in, holds, capacity, Place, place_of, none_wrong_or_torn, blocks_distinct, empty_slots_last, within_capacity}
use Rattle.model.specs.Steps.{top_row, top_number, first_empty, room_for}
unfoldable pub use Rattle.model.proofs.Laws.View.{slot_changed}

-- ---- predictions

-- a slot written at the top's first empty place
unfoldable pub written : ℕ → List ℕ → View → View
written b c v = slot_changed (top_number v) (first_empty (top_row v.slots)) (live b c) v

-- a slot marked dead
unfoldable pub marked : Place → View → View
marked p v = slot_changed p.number p.slot dead v

-- a block put where there is room: its slot written, and then the old one, if it has one, marked
abbrev pub put_into : ℕ → List ℕ → View → View
put_into b c r = cond (holds b (entries_in r)) (marked (place_of b r) (written b c r)) (written b c r)

unfoldable pub after_put : ℕ → ℕ → ℕ → List ℕ → View → View
after_put N B b c v = put_into b c (room_for N B v).result

unfoldable pub after_delete : ℕ → View → View
after_delete b v = marked (place_of b v) v

unfoldable pub fresh : ℕ → View
fresh B = record { first = 0; slots = replicate B empty ∷ []; version = new_version 0 }

-- ---- a clean view

abbrev pub Rows : ℕ → List (List Slot) → Type 0
Rows B [] = Unit {0}
Rows B (s ∷ r) = (length s ≡ B) × Rows B r

-- conditions 1 and 5 to 8 of Clean; each segment has B slots
pub record CleanView (N B : ℕ) (v : View) : Type 0 where
  pub some : 1 ≤ length v.slots
  pub spare : length v.slots ≤ N - 1
  pub rows : Rows B v.slots
  pub sound : none_wrong_or_torn v ≡ true
  pub once : blocks_distinct v ≡ true
  pub last : empty_slots_last v ≡ true
  pub within : within_capacity N B v ≡ true

-- new headers can carry the tally on: version 2, and a total that fits
pub record Carries (v : View) : Type 0 where
  pub second : is_former v.version ≡ false
  pub fits : tally_of v.version < erase_limit

-- a put of this block is not refused as full
abbrev pub Fits : ℕ → ℕ → ℕ → View → Type 0
Fits N B b v = holds b (entries_in v) || ltb (length (entries_in v)) (capacity N B) ≡ true
