-- A chip of which any number of bytes is one erase unit (request #109). Programming is as on the store's chip, whose unit is a segment of B + 1 pages.
use Rattle.std.specs.Prelude.{ℕ, ◌+◌, ◌-◌, ◌*◌, ◌≡◌, cond, List, [], ◌∷◌, ◌++◌, length, get_or, take, drop, set, leb}
use Rattle.model.specs.Chip.{Image, Step, program, erase, clear, erased}

-- the image with the S bytes of unit i replaced by these
unfoldable pub with_unit : ℕ → ℕ → List ℕ → Image → Image
with_unit S i u s = take (i * S) s ++ (u ++ drop (i * S + S) s)

-- outside the image a step does nothing
unfoldable pub step_in : ℕ → Step → Image → Image
step_in S (program at v) s = set s at (clear (get_or s at 0) v)
step_in S (erase i) s = cond (leb (i * S + S) (length s)) (with_unit S i (erased S) s) s

unfoldable pub run_in : ℕ → List Step → Image → Image
run_in S [] s = s
run_in S (x ∷ xs) s = run_in S xs (step_in S x s)

-- as `Ran`, on a chip whose erase unit has S bytes
pub record RanIn (steps : List Step) (S budget left : ℕ) (from to : Image) : Type 0 where
  pub image : to ≡ run_in S (take budget steps) from
  pub rest : left ≡ budget - length steps
