-- Numbers read from decimal digits.
use Rattle.std.specs.Prelude.{ℕ, ◌+◌, ◌-◌, ◌*◌, Bool, true, cond, ◌&&◌, List, [], ◌∷◌, Option, Some, None, Result, Err, ltb, leb}

unfoldable pub is_digit : ℕ → Bool
is_digit b = leb 48 b && leb b 57

-- the digit that a byte is
unfoldable pub digit_of : ℕ → Option ℕ
digit_of b = cond (is_digit b) (Some (b - 48)) None

unfoldable pub all_digits : List ℕ → Bool
all_digits [] = true
all_digits (b ∷ s) = is_digit b && all_digits s

-- the value of digits that follow others of a value
unfoldable pub value_from : ℕ → List ℕ → ℕ
value_from v [] = v
value_from v (b ∷ s) = value_from (10 * v + (b - 48)) s

-- numbers are read below this
unfoldable pub number_bound : ℕ
number_bound = 10000000000000000000

unfoldable pub number_from : ℕ → List ℕ → Option ℕ
number_from v s = cond (all_digits s && ltb (value_from v s) number_bound) (Some (value_from v s)) None

-- one digit or more, and nothing else
unfoldable pub number_of : List ℕ → Option ℕ
number_of [] = None
number_of (b ∷ s) = number_from 0 (b ∷ s)

-- a number, if it is below a bound
unfoldable pub fits : ℕ → Option ℕ → Option ℕ
fits bound (Some n) = cond (ltb n bound) (Some n) None
fits bound None = None

-- a number that fits 16 bits, and one that fits 32
unfoldable pub number16_of : List ℕ → Option ℕ
number16_of w = fits 65536 (number_of w)

unfoldable pub number32_of : List ℕ → Option ℕ
number32_of w = fits 4294967296 (number_of w)

-- a word that is to be a number: what follows from it, or what is wrong
unfoldable pub as_number : {T X : Type 0} → Option ℕ → X → (ℕ → Result T X) → Result T X
as_number (Some n) x go = go n
as_number None x go = Err x
