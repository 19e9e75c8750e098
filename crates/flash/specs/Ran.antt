-- The relation that every writer's contract states: a list of steps carried out under a budget.
use Rattle.std.specs.Prelude.{ℕ, ◌+◌, ◌-◌, ◌<◌, ◌≡◌, List, [], ◌∷◌, length, take}
use Rattle.model.specs.Chip.{Image, Step, program, erase, run}

-- the image is that after as many of the steps as the budget covers, and each step done has taken one from the budget
pub record Ran (steps : List Step) (B budget left : ℕ) (from to : Image) : Type 0 where
  pub image : to ≡ run B (take budget steps) from
  pub rest : left ≡ budget - length steps

-- the same for steps that only program bytes, whatever the count of slots
abbrev pub Programmed : List Step → ℕ → ℕ → Image → Image → Type 0
Programmed steps budget left from to = (B : ℕ) → Ran steps B budget left from to

-- the same steps where the image that they were for begins at offset k of a larger one
unfoldable pub shifted : ℕ → List Step → List Step
shifted k [] = []
shifted k (program at v ∷ xs) = program (k + at) v ∷ shifted k xs
shifted k (erase i ∷ xs) = erase i ∷ shifted k xs

-- every step programs a byte below offset c
abbrev pub Within : ℕ → List Step → Type 0
Within c [] = Unit {0}
Within c (program at v ∷ xs) = (at < c) × Within c xs
Within c (erase i ∷ xs) = ⊥
