-- Words of a line, one after the other, and what three of them say.
use Prim.Native.Nat.{ℕ, zero, suc, ◌+◌, ◌-◌, ◌≤◌, ◌<◌}
use mathlib.Core.Path.{◌≡◌, refl, sym, ap, ◌∙◌}
use mathlib.Core.Bool.{Bool, true, false}
use mathlib.Core.List.{List, [], ◌∷◌}
use native.Mathlib.Numerals.{add-one}
use native.Mathlib.Omega.{arith}
use lib.ListN.{length, take, drop, get_or, drop_of_length-le}
use lib.Seq.{take-nil, drop-cons, drop-drop}
use Rattle.std.specs.Prelude.{Option, Some, None, Ok, Err}
use Rattle.qbx_numbers.specs.Number.{number_of, fits, number32_of}
use Rattle.qbx_share_file.specs.AnyFile.{parts, odd}
use Rattle.qbx_share_file.specs.ShareFile.{filled, is_blank, words_of, share_of, line_of}
use Rattle.qbx_share_file.specs.Steps.{reach}
use Rattle.qbx_share_file.proofs.Laws.Parts.{parts_first, filled_others}

-- ---- from the front

blank_by : (b : ℕ) (s : List ℕ) (t : Bool) → is_blank b ≡ t → reach is_blank (b ∷ s) ≡ 0 → words_of (b ∷ s) ≡ words_of s
unfolding words_of parts filled reach
blank_by b s true e h = rw e
blank_by b s false e h = let z = rw e at h in absurd (omega arith)

word_by : (b : ℕ) (s : List ℕ) (t : Bool) → is_blank b ≡ t → 0 < reach is_blank (b ∷ s) → words_of (b ∷ s) ≡ take (reach is_blank (b ∷ s)) (b ∷ s) ∷ words_of (drop (reach is_blank (b ∷ s)) (b ∷ s))
unfolding words_of reach filled
word_by b s true e h = let z = rw e at h in absurd (omega arith)
word_by b s false e h =
    rw (parts_first is_blank (b ∷ s), e) (ap (λ (ws : List (List ℕ)). (b ∷ take (reach is_blank s) s) ∷ ws) (rw e at (filled_others is_blank (b ∷ s))))

word_first : (s : List ℕ) → 0 < reach is_blank s → words_of s ≡ take (reach is_blank s) s ∷ words_of (drop (reach is_blank s) s)
unfolding reach
word_first [] h = absurd (omega arith)
word_first (b ∷ s) h = word_by b s (is_blank b) refl h

-- ---- at an offset, with the next blank at `end`

module _ (line : List ℕ) (at end : ℕ) (found : end ≡ at + reach is_blank (drop at line)) where
  pub words_blank : at < length line → end ≡ at → words_of (drop at line) ≡ words_of (drop (at + 1) line)
  words_blank h e =
      let r : reach is_blank (drop at line) ≡ 0 = omega arith in
      let z : reach is_blank (get_or line at 0 ∷ drop (suc at) line) ≡ 0 = rw (drop-cons line at 0 h) at r in
      rw (drop-cons line at 0 h, add-one) (blank_by (get_or line at 0) (drop (suc at) line) (is_blank (get_or line at 0)) refl z)

  words_word : at < end → words_of (drop at line) ≡ take (end - at) (drop at line) ∷ words_of (drop end line)
  words_word h =
      let r : reach is_blank (drop at line) ≡ end - at = omega arith in
      let d : at + (end - at) ≡ end = omega arith in
      rw (word_first (drop at line) (omega arith), r, drop-drop (end - at) at line, d)

  pub word_here : (left : ℕ) → at < end → left ≡ 0 → take (end - at) (drop at line) ≡ get_or (words_of (drop at line)) left []
  word_here left h e = rw (e, words_word h)

  pub word_over : (left : ℕ) → at < end → 0 < left → get_or (words_of (drop at line)) left [] ≡ get_or (words_of (drop end line)) (left - 1) []
  word_over left h l =
      let e : left ≡ suc (left - 1) = omega arith in
      ap (λ (n : ℕ). get_or (words_of (drop at line)) n []) e ∙ rw (words_word h)

pub word_none : (line : List ℕ) (at left : ℕ) → length line ≤ at → take (at - at) (drop at line) ≡ get_or (words_of (drop at line)) left []
unfolding words_of parts filled
word_none line at left h = rw (drop_of_length-le line h) (take-nil {A = ℕ} (at - at))

-- ---- a word that is empty is not there

pub none_behind : (ps : List (List ℕ)) (k : ℕ) → length (get_or (filled ps) k []) ≡ 0 → length (filled ps) ≤ k
unfolding filled
none_behind [] k e = omega arith
none_behind ([] ∷ ps) k e = none_behind ps k e
none_behind ((b ∷ p) ∷ ps) zero e = absurd (omega arith)
none_behind ((b ∷ p) ∷ ps) (suc k) e = omega (arith, none_behind ps k e)

-- ---- what words say

no_word : (ws : List (List ℕ)) → length ws ≤ 0 → Ok None ≡ line_of ws
unfolding line_of
no_word [] h = refl
no_word (x ∷ ws) h = absurd (omega arith)

pub blank_line : (line : List ℕ) → length (get_or (words_of line) 0 []) ≡ 0 → Ok None ≡ line_of (words_of line)
unfolding words_of
blank_line line e = no_word (filled (parts is_blank line)) (none_behind (parts is_blank line) 0 e)

pub long_line : (ws : List (List ℕ)) → 0 < length (get_or ws 3 []) → Err odd ≡ line_of ws
unfolding line_of
long_line [] h = absurd (omega arith)
long_line (x ∷ []) h = absurd (omega arith)
long_line (x ∷ y ∷ []) h = absurd (omega arith)
long_line (x ∷ y ∷ z ∷ []) h = absurd (omega arith)
long_line (x ∷ y ∷ z ∷ w ∷ ws) h = refl

no_second : (p r : Option ℕ) → share_of p None r ≡ Err odd
unfolding share_of
no_second (Some n) r = refl
no_second None r = refl

no_third : (p q : Option ℕ) → share_of p q None ≡ Err odd
unfolding share_of
no_third (Some n) (Some m) = refl
no_third (Some n) None = refl
no_third None q = refl

up_to_three : (ws : List (List ℕ)) → (length (get_or ws 0 []) ≡ 0 → ⊥) → length ws ≤ 3 → share_of (number32_of (get_or ws 0 [])) (number32_of (get_or ws 1 [])) (number32_of (get_or ws 2 [])) ≡ line_of ws
unfolding line_of number32_of number_of fits
up_to_three [] n h = absurd (n refl)
up_to_three (x ∷ []) n h = no_second (number32_of x) None
up_to_three (x ∷ y ∷ []) n h = no_third (number32_of x) (number32_of y)
up_to_three (x ∷ y ∷ z ∷ []) n h = refl
up_to_three (x ∷ y ∷ z ∷ w ∷ ws) n h = absurd (omega arith)

-- a word and not four
pub three_words : (line : List ℕ) (p q r : Option ℕ) → (length (get_or (words_of line) 0 []) ≡ 0 → ⊥) → length (get_or (words_of line) 3 []) ≤ 0
    → number32_of (get_or (words_of line) 0 []) ≡ p → number32_of (get_or (words_of line) 1 []) ≡ q → number32_of (get_or (words_of line) 2 []) ≡ r → share_of p q r ≡ line_of (words_of line)
unfolding words_of
three_words line p q r n e a b c = rw (sym a, sym b, sym c) (up_to_three (filled (parts is_blank line)) n (none_behind (parts is_blank line) 3 (omega arith)))
