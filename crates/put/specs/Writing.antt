-- A put: what its parts want to know of the image, and its last steps.
use Rattle.std.specs.Prelude.{ℕ, ◌+◌, ◌-◌, ◌≤◌, ◌<◌, ◌≡◌, true, false, List, [], ◌++◌, length, leb, Option, None, Some}
use Rattle.model.specs.Chip.{Image, Bytes, Step, most_segments, right_size}
use Rattle.model.specs.Header.{is_former, tally_of}
use Rattle.model.specs.Slot.{number_ok}
use Rattle.model.specs.State.{View, view, clean, state}
use Rattle.model.specs.Steps.{on_page, slot_at, write_slot, mark_dead, top_row, first_empty, write_at_top, mark_old, is_worn}
use Rattle.model.specs.Answers.{length_ok, is_full}
use Rattle.model.specs.declared.Performed.{Performed}
use Rattle.find.specs.declared.FoundSlot.{FoundSlot}
use Rattle.find.specs.Search.{rows_at, found_in}
use Rattle.flash.specs.Ran.{Ran, shifted}
use Rattle.flash.specs.Pages.{Sized}
use Rattle.room.specs.declared.Plan.{Plan}
use Rattle.room.specs.declared.Room.{Room}
use Rattle.room.specs.Room.{Planned}
use Rattle.request.specs.Request.{Finished}

-- ---- what each part of a put wants to know of the image

pub record Puttable (N B : ℕ) (p : Plan) (b : ℕ) (c : List ℕ) (s : Image) : Type 0 where
  pub plan : Planned N B p s
  pub bytes : Bytes s
  pub number : number_ok b ≡ true
  pub taken : length_ok (length c) ≡ true

-- not refused. The search was made at least where nothing will move, and the tally is right at least where there will be a new header
pub record Accepted (N B : ℕ) (p : Plan) (total : ℕ) (f : Option FoundSlot) (b : ℕ) (c : List ℕ) (s : Image) : Type 0 where
  pub put : Puttable N B p b c s
  pub second : is_former (view N B s).version ≡ false
  pub found : leb B p.slot ≡ false → f ≡ found_in N B p.first.0 (rows_at N B s p.used p.first.0) b
  pub space : is_full N B b (view N B s) ≡ false
  pub fresh : is_worn N (view N B s) ≡ false
  pub tally : B ≤ p.slot → total ≡ tally_of (view N B s).version

-- room is made, and the old slot is searched
pub record Ready (N B : ℕ) (r : Room) (f : Option FoundSlot) (b : ℕ) (c : List ℕ) (budget : ℕ) (s : Image) : Type 0 where
  pub size : right_size N B s ≡ true
  pub state : state N B s ≡ clean
  pub first : r.first.0 ≡ (view N B s).first
  pub used : r.used ≡ length (view N B s).slots
  pub slot : r.slot ≡ first_empty (top_row (view N B s).slots)
  pub room : r.slot < B
  pub old : f ≡ found_in N B r.first.0 (rows_at N B s r.used r.first.0) b
  pub short : length c ≤ 248
  pub left : r.left ≤ budget

-- the last steps of a put
unfoldable pub last_steps : ℕ → ℕ → ℕ → List ℕ → View → List Step
last_steps N B b c v = write_at_top N B b c v ++ mark_old N B b v

-- ---- the last steps on any image

-- an old slot begins inside the image
abbrev pub OldInside : Option FoundSlot → ℕ → Type 0
OldInside (Some x) bytes = x.place.0 < bytes
OldInside None bytes = Unit {0}

-- what writing a slot and marking an old one ask for, whatever the image
pub record Placed (N B : ℕ) (r : Room) (f : Option FoundSlot) (c : List ℕ) (budget bytes : ℕ) : Type 0 where
  pub sized : Sized N B bytes
  pub some : 1 ≤ r.used
  pub few : r.used ≤ most_segments
  pub room : r.slot < B
  pub old : OldInside f bytes
  pub short : length c ≤ 248
  pub left : r.left ≤ budget

-- the old slot marked, if there is one
unfoldable pub mark_found : Option FoundSlot → List Step
mark_found (Some x) = shifted x.place.0 mark_dead
mark_found None = []

-- the last steps by what was found out: where the slot is free, and where the old one is
unfoldable pub last_steps_at : ℕ → ℕ → Room → Option FoundSlot → ℕ → List ℕ → List Step
last_steps_at N B r f b c = on_page (slot_at N B (r.first.0 + r.used - 1) r.slot) (write_slot b c) ++ mark_found f

pub record Wrote (N B : ℕ) (r : Room) (f : Option FoundSlot) (b : ℕ) (c : List ℕ) (budget : ℕ) (p : Performed) (from to : Image) : Type 0 where
  pub left : ℕ
  pub ran : Ran (last_steps_at N B r f b c) B r.left left from to
  pub finished : Finished budget left r.left (length (last_steps_at N B r f b c)) p
