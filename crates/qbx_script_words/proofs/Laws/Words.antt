-- Words of a line, found one after the other. `end` is where the next space stands, or the line's end.
use Prim.Native.Nat.{ℕ, zero, suc, ◌+◌, ◌-◌, ◌<◌, ◌≤◌}
use mathlib.Core.Path.{◌≡◌, ◌∙◌, ap}
use mathlib.Core.List.{List, []}
use native.Mathlib.Omega.{arith}
use lib.ListN.{length, take, drop, drop_of_length-le}
use lib.Seq.{take-length, take-nil, drop-nil, drop-drop}
use Rattle.byte_search.specs.Bytes.{index_of, slice}
use Rattle.qbx_script_words.specs.Script.{word_at}

-- a part with nothing in it
pub take_none : (at : ℕ) (l : List ℕ) → take (at - at) (drop at l) ≡ []
take_none at l = let z : at - at ≡ 0 = omega arith in rw z

pub word_first : (k : ℕ) (l : List ℕ) → word_at (k - 0) l ≡ word_at k l
word_first k l = let z : k - 0 ≡ k = omega arith in ap (λ (n : ℕ). word_at n l) z

word_none : (k : ℕ) → word_at k [] ≡ []
unfolding word_at
word_none zero = take-nil {A = ℕ} (index_of 32 [])
word_none (suc k) = rw (drop-nil {A = ℕ} (index_of 32 [] + 1)) (word_none k)

module _ (line : List ℕ) (at end : ℕ) (found : end ≡ at + index_of 32 (slice at (length line) line)) where
  -- how far it is to the space
  far : index_of 32 (drop at line) ≡ end - at
  unfolding slice
  far =
      let e : slice at (length line) line ≡ drop at line = rw (take-length line) in
      let f : end ≡ at + index_of 32 (drop at line) = found ∙ ap (λ (l : List ℕ). at + index_of 32 l) e in
      omega arith

  module _ (within : at ≤ end) where
    pub word_next : (k i : ℕ) → i < k → word_at (k - i) (drop at line) ≡ word_at (k - (i + 1)) (drop (end + 1) line)
    unfolding word_at
    word_next k i h =
        let s : k - i ≡ suc (k - (i + 1)) = omega arith in
        let e : at + (end - at + 1) ≡ end + 1 = omega arith in
        let m = k - (i + 1) in
        let past : drop (end - at + 1) (drop at line) ≡ drop (end + 1) line = drop-drop (end - at + 1) at line ∙ ap (λ (n : ℕ). drop n line) e in
        ap (λ (n : ℕ). word_at n (drop at line)) s ∙ ap (λ (j : ℕ). word_at m (drop (j + 1) (drop at line))) far ∙ ap (word_at m) past

    pub word_over : (k i : ℕ) → i < k → end ≡ length line → word_at (k - i) (drop at line) ≡ []
    word_over k i h l =
        let m : length line ≤ end + 1 = omega arith in
        word_next k i h ∙ ap (word_at (k - (i + 1))) (drop_of_length-le line m) ∙ word_none (k - (i + 1))

    pub word_here : (k i : ℕ) → k ≤ i → word_at (k - i) (drop at line) ≡ take (end - at) (drop at line)
    unfolding word_at
    word_here k i h = let s : k - i ≡ 0 = omega arith in rw (s, far)
