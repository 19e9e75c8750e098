-- What the live slots of a segment hold, and that they were copied.
use Rattle.std.specs.Prelude.{ℕ, ◌+◌, ◌*◌, ◌%◌, ◌≡◌, List, map, length, drop}
use Rattle.model.specs.Chip.{Image}
use Rattle.model.specs.Slot.{slot_of, Entry}
use Rattle.model.specs.State.{entries}
use Rattle.model.specs.Steps.{copy_entries}
use Rattle.model.proofs.Laws.Segments.{part_of}
use Rattle.flash.specs.Ran.{Programmed}

-- what the live slots of the segment with number o hold
unfoldable pub live_entries : ℕ → ℕ → ℕ → Image → List Entry
live_entries N B o s = entries (map slot_of (drop 1 (part_of N B (o % N) s)))

-- the page of the first slot of the segment at an index
abbrev pub first_slot : ℕ → ℕ → ℕ
first_slot B i = i * (B + 1) + 1

-- two numbers belong to different segments
abbrev pub Apart : ℕ → ℕ → ℕ → Type 0
Apart N o n = o % N ≡ n % N → ⊥

-- the live slots of the segment with number o were written to that with number n, and counted
pub record Copied (N B o n budget left count : ℕ) (from to : Image) : Type 0 where
  pub ran : Programmed (copy_entries N B n 0 (live_entries N B o from)) budget left from to
  pub counted : count ≡ length (live_entries N B o from)
