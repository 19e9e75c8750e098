-- What a walk from the top down goes by: the largest of some numbers, and what is left to walk over.
use Rattle.std.specs.Prelude.{ℕ, max, ◌≡◌, refl, length, take}
use Rattle.std.proofs.Common.{ap}
use mathlib.Core.List.{List, [], ◌∷◌, map}
use Rattle.model.specs.Chip.{Image, most_segments}
use Rattle.model.specs.State.{Segment, number_after, next_number}
use Rattle.index.proofs.Walks.{Held}

-- 0 if there are none
unfoldable pub largest : List ℕ → ℕ
largest [] = 0
largest (x ∷ l) = max x (largest l)

pub largest_next : (m : List Segment) → largest (map number_after m) ≡ next_number m
unfolding largest next_number map
largest_next [] = refl
largest_next (x ∷ m) = ap (max (number_after x)) (largest_next m)

-- segments of an image are left to walk over, those done blank: a table has their numbers, and next is the one after the top's
pub record Descent (N B : ℕ) (s : Image) (m : List Segment) (left : List ℕ) (next : ℕ) : Type 0 where
  pub held : Held N B s m
  pub numbers : take N left ≡ map number_after m
  pub top : next ≡ next_number m
  pub places : length left ≡ most_segments
