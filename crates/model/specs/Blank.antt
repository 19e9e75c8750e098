-- Request #103, "Blank test by whole words": bytes looked at in groups of eight, up to the first group that differs.
-- Whether all are 255 is `Header.is_blank`.
use Rattle.std.specs.Prelude.{ℕ, suc, ◌+◌, ◌/◌, cond, List, [], ◌∷◌, length}
use Rattle.model.specs.Lists.{chunk}
use Rattle.model.specs.Header.{is_blank}

-- groups of eight bytes, from the first byte on; the last may be shorter
unfoldable pub groups_of : List ℕ → List (List ℕ)
groups_of s = chunk ((length s + 7) / 8) 8 s

-- how many of some groups are looked at: the one that differs is, those after it are not
unfoldable pub looked_at : List (List ℕ) → ℕ
looked_at [] = 0
looked_at (g ∷ gs) = suc (cond (is_blank g) (looked_at gs) 0)

-- the count of groups looked at
unfoldable pub blank_groups : List ℕ → ℕ
blank_groups s = looked_at (groups_of s)
