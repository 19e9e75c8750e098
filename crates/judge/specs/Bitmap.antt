-- A set of numbers as a list of words: one bit for each number, z to a word.
use Rattle.std.specs.Prelude.{ℕ, ◌/◌, ◌%◌, ◌^◌, Bool, List, get_or, set, eqb}
use Rattle.std.specs.Int.Bits.{bit_or}

unfoldable pub in_bits : ℕ → List ℕ → ℕ → Bool
in_bits z s x = eqb (get_or s (x / z) 0 / 2 ^ (x % z) % 2) 1

unfoldable pub put_bit : ℕ → List ℕ → ℕ → List ℕ
put_bit z s x = set s (x / z) (bit_or (get_or s (x / z) 0) (2 ^ (x % z)))
