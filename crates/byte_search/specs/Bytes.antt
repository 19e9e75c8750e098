-- A byte looked for, and a part of a list.
use Rattle.std.specs.Prelude.{ℕ, zero, suc, cond, List, [], ◌∷◌, take, drop, eqb}

-- how many bytes come before the first of this value; all, where there is none
unfoldable pub index_of : ℕ → List ℕ → ℕ
index_of b [] = zero
index_of b (x ∷ xs) = cond (eqb x b) zero (suc (index_of b xs))

-- what stands from `start` on and before `end`
unfoldable pub slice : ℕ → ℕ → List ℕ → List ℕ
slice start end xs = drop start (take end xs)
