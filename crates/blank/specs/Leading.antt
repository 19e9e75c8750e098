-- Parts of some bytes looked at in order, up to the first that differs.
use Rattle.std.specs.Prelude.{ℕ, suc, cond, List, [], ◌∷◌}
use Rattle.model.specs.Header.{is_blank}

-- how many parts come before the first that differs
unfoldable pub leading_blank : List (List ℕ) → ℕ
leading_blank [] = 0
leading_blank (p ∷ ps) = cond (is_blank p) (suc (leading_blank ps)) 0
