-- A mounted put once room was made: its parts on any image with any table.
use Rattle.std.specs.Prelude.{ℕ, ◌+◌, ◌-◌, ◌*◌, ◌≤◌, ◌≡◌, ◌⊎◌, List, length, get_or, Option, Ok}
use Rattle.model.specs.Chip.{Image, most_segments}
use Rattle.model.specs.Steps.{slot_at}
use Rattle.model.specs.Answers.{code_of}
use Rattle.model.specs.Mounted.{Places, unusable}
use Rattle.model.specs.declared.Performed.{Performed}
use Rattle.flash.specs.Pages.{Sized}
use Rattle.find.specs.declared.FoundSlot.{FoundSlot}
use Rattle.request.specs.Request.{Finished}
use Rattle.places.specs.Places.{stale, entry_seen, noted}
use Rattle.room.specs.declared.Room.{Room}
use Rattle.put.specs.Writing.{Wrote}

-- what is known of the numbers, whatever the image
pub record RoomMade (N B : ℕ) (r : Room) (c : List ℕ) (budget bytes : ℕ) : Type 0 where
  pub sized : Sized N B bytes
  pub some : 1 ≤ r.used
  pub few : r.used ≤ most_segments
  pub short : length c ≤ 248
  pub left : r.left ≤ budget

-- the slot was written, the old one marked where the entry says it is, and the new place noted
pub record Written (N B : ℕ) (r : Room) (f : Option FoundSlot) (b : ℕ) (c : List ℕ) (budget : ℕ) (q : Performed) (s u : Image) (t w : Places) : Type 0 where
  pub seen : entry_seen B s (get_or t b 0) ≡ Ok f
  pub wrote : Wrote N B r f b c budget q s u
  pub table : w ≡ noted t b (slot_at N B (r.first.0 + r.used - 1) r.slot * 256) (code_of q.answer)

-- nothing was written: there is no free slot, or the entry cannot be; both tell that the table is not that of the image
pub record Stopped (B : ℕ) (r : Room) (b budget : ℕ) (q : Performed) (s u : Image) (t w : Places) : Type 0 where
  pub why : (B ≤ r.slot) ⊎ (entry_seen B s (get_or t b 0) ≡ stale)
  pub image : u ≡ s
  pub finished : Finished budget r.left 0 1 q
  pub table : w ≡ unusable t

abbrev pub Continued : (N B : ℕ) (r : Room) (b : ℕ) (c : List ℕ) (budget : ℕ) (q : Performed) (s u : Image) (t w : Places) → Type 0
Continued N B r b c budget q s u t w = ((f : Option FoundSlot) × Written N B r f b c budget q s u t w) ⊎ Stopped B r b budget q s u t w
