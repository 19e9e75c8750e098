-- The segment after the one with number n, erased; before that its erase is counted in n's header.
use Rattle.std.specs.Prelude.{ℕ, ◌+◌, ◌%◌, List, [], ◌∷◌, ◌++◌}
use Rattle.model.specs.Chip.{Image, Step, erase}
use Rattle.model.specs.Header.{header_version}
use Rattle.model.specs.Steps.{on_page, header_at, count_erase}
use Rattle.tally.specs.Seen.{header_in}

unfoldable pub counting : ℕ → ℕ → ℕ → Image → List Step
counting N B n s = on_page (header_at N B n) (count_erase (header_version (header_in N B n s)))

unfoldable pub erasing : ℕ → ℕ → ℕ → Image → List Step
erasing N B n s = counting N B n s ++ (erase ((n + 1) % N) ∷ [])
