-- Bytes in hex, two digits each.
use Rattle.std.specs.Prelude.{ℕ, ◌+◌, ◌/◌, ◌%◌, ◌≡◌, refl, cond, List, [], ◌∷◌, ltb}
use Rattle.text.specs.Text.{text}

-- 0 to 9, and then from a on
unfoldable pub hex_digit : ℕ → ℕ
hex_digit n = cond (ltb n 10) (48 + n) (87 + n)

unfoldable pub hex : List ℕ → List ℕ
hex [] = []
hex (b ∷ s) = hex_digit (b / 16) ∷ hex_digit (b % 16) ∷ hex s

-- the digits on either side of 9, and the larger one first
pub shown : hex (0 ∷ 9 ∷ 10 ∷ 160 ∷ 255 ∷ []) ≡ text "00090aa0ff"
unfolding hex hex_digit text
shown = refl
