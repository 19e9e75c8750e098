-- Numbers from 0 to 255, read from decimal digits.
use Rattle.std.specs.Prelude.{ℕ, List, Option}
use Rattle.qbx_numbers.specs.Number.{fits, number_of}

-- a number that fits a byte
unfoldable pub byte_of : List ℕ → Option ℕ
byte_of w = fits 256 (number_of w)
