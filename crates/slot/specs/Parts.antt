-- What the contracts of this crate say beside the definitions of the model.
use Rattle.std.specs.Prelude.{ℕ, List, [], ◌∷◌, ◌++◌}
use Rattle.model.specs.Chip.{Page, Step, program}
use Rattle.model.specs.Slot.{write_begun, written}
use Rattle.model.specs.Steps.{program_part}

-- the steps that write a slot of contents of length n, with the bytes of a page that was made up
unfoldable pub slot_parts : Page → ℕ → List Step
slot_parts p n = program 0 write_begun ∷ (program_part p 1 3 ++ (program_part p 8 n ++ (program 0 written ∷ [])))
