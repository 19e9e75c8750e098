-- One byte more in hex.
use Prim.Native.Nat.{ℕ, ◌+◌, ◌/◌, ◌%◌, ◌<◌}
use mathlib.Core.Path.{◌≡◌, refl, sym, ap, ◌∙◌}
use mathlib.Core.List.{List, [], ◌∷◌, ◌++◌}
use native.Mathlib.Numerals.{add-one}
use lib.ListN.{length, take, get_or}
use lib.Seq.{take-suc}
use Rattle.settings_hex.specs.Hex.{hex_digit, hex}

hex_more : (s : List ℕ) (b : ℕ) → hex s ++ (hex_digit (b / 16) ∷ hex_digit (b % 16) ∷ []) ≡ hex (s ++ (b ∷ []))
unfolding hex
hex_more [] b = refl
hex_more (a ∷ s) b = ap (λ (t : List ℕ). hex_digit (a / 16) ∷ hex_digit (a % 16) ∷ t) (hex_more s b)

pub hex_next : (s : List ℕ) (i : ℕ) → i < length s → hex (take i s) ++ (hex_digit (get_or s i 0 / 16) ∷ hex_digit (get_or s i 0 % 16) ∷ []) ≡ hex (take (i + 1) s)
hex_next s i h = hex_more (take i s) (get_or s i 0) ∙ ap hex (sym (rw (add-one i) (take-suc s i 0 h)))
