-- Request #103's corners, proved of its definitions: entries of one table under one statement.
use Rattle.std.specs.Prelude.{ℕ, ◌≡◌, refl, Bool, true, false, cond, not, ◌&&◌, List, [], ◌∷◌, ◌++◌, eqb}
use Rattle.model.specs.Lists.{all, chunk}
use Rattle.model.specs.Chip.{erased}
use Rattle.model.specs.Header.{is_blank}
use Rattle.model.specs.Blank.{groups_of, looked_at, blank_groups}

-- bytes, whether all are 255, and the groups looked at
pub record Corner : Type 0 where
  pub bytes : List ℕ
  pub yes : Bool
  pub groups : ℕ

abbrev corner : List ℕ → Bool → ℕ → Corner
corner s b n = record { bytes = s; yes = b; groups = n }

-- one byte that differs, with so many bytes 255 before it and after it
abbrev other : ℕ → ℕ → List ℕ
other n m = erased n ++ (254 ∷ erased m)

unfoldable pub corners : List Corner
corners =
    corner [] true 0 ∷
    corner (erased 1) true 1 ∷
    corner (erased 8) true 1 ∷
    corner (erased 9) true 2 ∷
    corner (erased 600) true 75 ∷
    corner (other 0 0) false 1 ∷
    corner (other 0 599) false 1 ∷
    corner (other 7 8) false 1 ∷
    corner (other 8 8) false 2 ∷
    corner (other 599 0) false 75 ∷
    corner (other 600 0) false 76 ∷
    corner (other 0 0 ++ other 9 0) false 1 ∷
    []

abbrev holds : Corner → Bool
holds c = cond c.yes (is_blank c.bytes) (not (is_blank c.bytes)) && eqb (blank_groups c.bytes) c.groups

pub corners_hold : all holds corners ≡ true
unfolding all corners erased is_blank blank_groups groups_of looked_at chunk
corners_hold = refl
