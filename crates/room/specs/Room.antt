-- Room for a put: what is asked of any image, what is known of a clean one before room is made, and what is known after.
use Rattle.std.specs.Prelude.{ℕ, ◌+◌, ◌*◌, ◌≤◌, ◌<◌, ◌≡◌, true, false, List, length}
use Rattle.model.specs.Chip.{Image, Bytes, Step, most_segments, right_size}
use Rattle.model.specs.Header.{is_former, tally_of}
use Rattle.model.specs.State.{clean, state, view}
use Rattle.model.specs.Steps.{top_row, first_empty, room_for, compactions, is_worn}
use Rattle.flash.specs.Ran.{Ran}
use Rattle.flash.specs.Pages.{Sized}
use Rattle.room.specs.declared.Plan.{Plan}
use Rattle.room.specs.declared.Room.{Room}

-- a plan by which any image of so many bytes can be written
pub record Plannable (N B : ℕ) (p : Plan) (bytes : ℕ) : Type 0 where
  pub sized : Sized N B bytes
  pub some : 1 ≤ p.used
  pub spare : p.used + 1 ≤ N
  pub number : p.first.0 + p.used ≤ 100000 * most_segments
  pub few : p.compactions ≤ p.used

-- no slot is empty, and only one segment is not in use
pub record Full (N B : ℕ) (p : Plan) : Type 0 where
  pub top : B ≤ p.slot
  pub used : N ≤ p.used + 1

-- the segments in use of a clean image. The compactions are counted only where there will be some
pub record Planned (N B : ℕ) (p : Plan) (s : Image) : Type 0 where
  pub size : right_size N B s ≡ true
  pub state : state N B s ≡ clean
  pub first : p.first.0 ≡ (view N B s).first
  pub used : p.used ≡ length (view N B s).slots
  pub slot : p.slot ≡ first_empty (top_row (view N B s).slots)
  pub compactions : Full N B p → p.compactions ≡ compactions (view N B s).slots

-- an image of bytes, of version 2, where a put is not refused as worn; and the tally, which new headers carry on, where there will be one
pub record Writable (N B : ℕ) (p : Plan) (total : ℕ) (s : Image) : Type 0 where
  pub plan : Planned N B p s
  pub bytes : Bytes s
  pub second : is_former (view N B s).version ≡ false
  pub fresh : is_worn N (view N B s) ≡ false
  pub tally : B ≤ p.slot → total ≡ tally_of (view N B s).version

-- room was made, as far as the budget went. The slot is told if some of the budget is left, so that all of the steps were done
pub record Roomed (N B budget : ℕ) (r : Room) (from to : Image) : Type 0 where
  pub ran : Ran (room_for N B (view N B from)).steps B budget r.left from to
  pub first : r.first.0 ≡ (room_for N B (view N B from)).result.first
  pub used : r.used ≡ length (room_for N B (view N B from)).result.slots
  pub slot : 0 < r.left → r.slot ≡ first_empty (top_row (room_for N B (view N B from)).result.slots)

-- whatever the image is, some steps were done under the budget, and the numbers stay small; on a clean one the steps are those of the definition
pub record Worked (N B : ℕ) (p : Plan) (total budget : ℕ) (r : Room) (from to : Image) : Type 0 where
  pub steps : List Step
  pub ran : Ran steps B budget r.left from to
  pub some : 1 ≤ r.used
  pub spare : r.used + 1 ≤ N
  pub low : p.first.0 + p.used ≤ r.first.0 + r.used
  pub number : r.first.0 + r.used ≤ p.first.0 + p.used + most_segments
  pub exact : Writable N B p total from → Roomed N B budget r from to
