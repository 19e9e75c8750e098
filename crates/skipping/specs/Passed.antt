-- Entries of a table of places that tell none.
use Rattle.std.specs.Prelude.{ℕ, ◌≤◌, ◌<◌, ◌≡◌, length, get_or}
use Rattle.model.specs.Mounted.{Places, least_places}

-- entries that tell no place
abbrev pub AllNone : Places → Type 0
AllNone t = (k : ℕ) → k < length t → get_or t k 0 ≡ 0

-- from one block number to another there is none
pub record Passed (t : Places) (from to : ℕ) : Type 0 where
  pub up : from ≤ to
  pub most : to ≤ least_places
  pub none : (k : ℕ) → from ≤ k → k < to → get_or t k 0 ≡ 0
