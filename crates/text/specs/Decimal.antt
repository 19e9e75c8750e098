-- Numbers written in decimal.
use Rattle.std.specs.Prelude.{ℕ, zero, suc, ◌+◌, ◌/◌, ◌%◌, cond, List, [], ◌∷◌, ◌++◌, ltb}

-- the decimal digits of a number, of which there are at most so many and one
unfoldable pub decimal_of : ℕ → ℕ → List ℕ
decimal_of zero n = (48 + n % 10) ∷ []
decimal_of (suc k) n = cond (ltb n 10) ((48 + n) ∷ []) (decimal_of k (n / 10) ++ ((48 + n % 10) ∷ []))

-- those of a number of 64 bits
unfoldable pub decimal : ℕ → List ℕ
decimal n = decimal_of 19 n
