-- What the contracts of this crate say beside the definitions of the model.
use Rattle.std.specs.Prelude.{ℕ, ◌%◌, ◌≡◌, List, ◌∷◌, ◌++◌, length}
use Rattle.std.proofs.Common.{append_assoc}
use Rattle.model.specs.Chip.{Image, erase}
use Rattle.model.specs.Header.{Version, new_version}
use Rattle.model.specs.Slot.{Entry}
use Rattle.model.specs.Steps.{copy_entries, compact, settle}
use Rattle.flash.specs.Ran.{Ran}
use Rattle.header_steps.specs.Parts.{begin_compaction, finish_copy, copy_out_parts}
use Rattle.live_slots.specs.Live.{live_entries}

-- the whole compaction, whose target gets a new header with this total
pub record Compaction (N B total o n budget left count : ℕ) (from to : Image) : Type 0 where
  pub ran : Ran (compact N B (new_version total) o n (live_entries N B o from)) B budget left from to
  pub counted : count ≡ length (live_entries N B o from)

-- the steps of a compaction part by part: the old segment is erased after the copying is finished and before the last step
pub compact_parts : (N B : ℕ) (e : Version) (o n : ℕ) (es : List Entry)
    → compact N B e o n es ≡ begin_compaction N B e o n ++ (copy_entries N B n 0 es ++ (finish_copy N B e o n ++ (erase (o % N) ∷ settle N B n)))
unfolding compact
compact_parts N B e o n es = rw (copy_out_parts N B e o n es) (simp append_assoc)
