-- What the contracts of this crate say beside the definitions of `moves`.
use Rattle.std.specs.Prelude.{ℕ}
use Rattle.model.specs.Chip.{Image}
use Rattle.places.specs.Places.{Fillable}
use Rattle.moves.proofs.Facts.{Movable}

-- a move that nothing refuses, with the numbers of the source's segments in use: the smallest and their count
pub record Carriable (N B : ℕ) (s : Image) (first used M D : ℕ) (t : Image) : Type 0 where
  pub movable : Movable N B s M D t
  pub fillable : Fillable N B s first used
