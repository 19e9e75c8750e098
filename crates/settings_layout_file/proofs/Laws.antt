-- What two words say.
use Prim.Native.Nat.{ℕ, ◌≤◌, ◌<◌}
use mathlib.Core.Path.{◌≡◌, refl, sym}
use mathlib.Core.List.{List, [], ◌∷◌}
use native.Mathlib.Omega.{arith}
use lib.ListN.{length, get_or}
use Rattle.std.specs.Prelude.{Option, Some, None, Ok, Err}
use Rattle.qbx_numbers.specs.Number.{number_of, fits}
use Rattle.qbx_share_file.specs.AnyFile.{parts, odd}
use Rattle.qbx_share_file.specs.ShareFile.{filled, is_blank, words_of}
use Rattle.qbx_share_file.proofs.Laws.Words.{none_behind}
use Rattle.settings_numbers.specs.Byte.{byte_of}
use Rattle.settings_layout_file.specs.LayoutFile.{pair_of, line_of}

no_word : (ws : List (List ℕ)) → length ws ≤ 0 → Ok None ≡ line_of ws
unfolding line_of
no_word [] h = refl
no_word (x ∷ ws) h = absurd (omega arith)

pub blank_line : (line : List ℕ) → length (get_or (words_of line) 0 []) ≡ 0 → Ok None ≡ line_of (words_of line)
unfolding words_of
blank_line line e = no_word (filled (parts is_blank line)) (none_behind (parts is_blank line) 0 e)

pub long_line : (ws : List (List ℕ)) → 0 < length (get_or ws 2 []) → Err odd ≡ line_of ws
unfolding line_of
long_line [] h = absurd (omega arith)
long_line (x ∷ []) h = absurd (omega arith)
long_line (x ∷ y ∷ []) h = absurd (omega arith)
long_line (x ∷ y ∷ z ∷ ws) h = refl

no_second : (p : Option ℕ) → pair_of p None ≡ Err odd
unfolding pair_of
no_second (Some n) = refl
no_second None = refl

up_to_two : (ws : List (List ℕ)) → (length (get_or ws 0 []) ≡ 0 → ⊥) → length ws ≤ 2 → pair_of (byte_of (get_or ws 0 [])) (byte_of (get_or ws 1 [])) ≡ line_of ws
unfolding line_of byte_of number_of fits
up_to_two [] n h = absurd (n refl)
up_to_two (x ∷ []) n h = no_second (byte_of x)
up_to_two (x ∷ y ∷ []) n h = refl
up_to_two (x ∷ y ∷ z ∷ ws) n h = absurd (omega arith)

-- a word and not three
pub two_words : (line : List ℕ) (p q : Option ℕ) → (length (get_or (words_of line) 0 []) ≡ 0 → ⊥) → length (get_or (words_of line) 2 []) ≤ 0
    → byte_of (get_or (words_of line) 0 []) ≡ p → byte_of (get_or (words_of line) 1 []) ≡ q → pair_of p q ≡ line_of (words_of line)
unfolding words_of
two_words line p q n e a b = rw (sym a, sym b) (up_to_two (filled (parts is_blank line)) n (none_behind (parts is_blank line) 2 (omega arith)))
