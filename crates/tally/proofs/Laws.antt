-- Laws of the tally: bits of a byte, cleared bits counted, bytes that have none left, and the step that clears one more.
use Prim.Native.Nat.{ℕ, suc, ◌+◌, ◌-◌, ◌*◌, ◌/◌, ◌%◌, ◌^◌, ◌≤◌, ◌<◌}
use mathlib.Core.Path.{◌≡◌, refl, sym, ap, ◌∙◌}
use mathlib.Core.Logic.{⊎_elim}
use mathlib.Core.Bool.{Bool, true, false, cond, ◌&&◌, false≢true}
use mathlib.Core.List.{List, [], ◌∷◌, ◌++◌}
use native.Mathlib.Nat.{add-zero, zero-add, mod-lt}
use native.Mathlib.Numerals.{add-one}
use native.Mathlib.Omega.{arith}
use lib.ListN.{length, get_or, take, drop, length-drop, drop_of_length-le}
use lib.Seq.{drop-cons, take_all, get_or-drop, length-take-le}
use lib.Count.{ones, ones_in, count_leading_zeros, leading_top}
use lib.Dec.{leb, eqb, leb-suc-zero, leb-suc-suc}
use borrow.Author.Tests.{eqb-true, eqb-false, eq-eqb, ne_eqb, leb-true}
use Rattle.model.specs.Lists.{all, count}
use Rattle.model.specs.Chip.{Image, Page, Step, program, pages_of}
use Rattle.model.specs.Header.{Version, version1, version2, is_former, bit_values, cleared_in, cleared_bits, tally_of, no_bit_left, header_version, is_blank}
use Rattle.model.specs.State.{blank, segments_of, slots_in, version_in, next_number, top_index, top_version}
use Rattle.model.specs.Steps.{on_page, header_at, highest_of, highest_bit, clear_next, count_erase}
use Rattle.model.specs.Laws.Lists.{and_left, and_right}
use Rattle.model.proofs.Laws.Bytes.{below, all_below}
use Rattle.model.specs.Laws.Chunk.{chunk_part}
use Rattle.model.proofs.Laws.Segments.{part_of, part_page, page_in, segment_at}
use Rattle.model.proofs.Laws.Effects.{in_use_parts, top_at}
use Rattle.model.proofs.Laws.Clean.{in_use_numbered}
use Rattle.flash.specs.Ran.{Programmed, Within}
use Rattle.flash.specs.Pages.{Sized}
use Rattle.flash.proofs.Laws.{ran_none}
use Rattle.flash.proofs.Pages.{on_page_lem, in_page, header_inside}
use Rattle.header.specs.Parts.{header_total}
use Rattle.header.proofs.Laws.Tests.{either_version}
use Rattle.tally.specs.Seen.{header_in, tally_seen, zeros_before}
use Rattle.tally.specs.declared.Tally.{Tally}

-- ---- bytes

pub cleared_or_set : (x : ℕ) → x < 256 → cleared_in x + ones x ≡ 8
unfolding all_below cleared_in bit_values count ones ones_in
cleared_or_set x h = eqb-true (cleared_in x + ones x) 8 (below (λ y. eqb (cleared_in y + ones y) 8) 256 refl x h)

pub highest_shift : (x : ℕ) → x < 256 → 128 / 2 ^ count_leading_zeros 8 x ≡ highest_bit x
unfolding all_below highest_bit highest_of bit_values count_leading_zeros
highest_shift x h = eqb-true (128 / 2 ^ count_leading_zeros 8 x) (highest_bit x) (below (λ y. eqb (128 / 2 ^ count_leading_zeros 8 y) (highest_bit y)) 256 refl x h)

pub highest_most : (x : ℕ) → x < 256 → highest_bit x ≤ x
unfolding all_below highest_bit highest_of bit_values
highest_most x h = leb-true (highest_bit x) x (below (λ y. leb (highest_bit y) y) 256 refl x h)

pub leading_less : (x : ℕ) → 0 < x → x < 256 → count_leading_zeros 8 x < 8
leading_less x p h = omega (arith, (leading_top 8 x p h).1)

-- ---- cleared bits

pub blank_none : (s : List ℕ) → is_blank s ≡ true → cleared_bits s ≡ 0
unfolding is_blank cleared_bits cleared_in bit_values count
blank_none [] e = refl
blank_none (x ∷ s) e =
    rw (eqb-true x 255 (and_left (eqb x 255) (is_blank s) e), zero-add) (blank_none s (and_right (eqb x 255) (is_blank s) e))

pub cleared_next : (s : List ℕ) (i : ℕ) → i < length s → cleared_bits (drop i s) ≡ cleared_in (get_or s i 0) + cleared_bits (drop (i + 1) s)
unfolding cleared_bits
cleared_next s i h = rw (drop-cons s i 0 h, add-one)

pub cleared_end : (s : List ℕ) (i : ℕ) → length s ≤ i → cleared_bits (drop i s) ≡ 0
unfolding cleared_bits
cleared_end s i h = rw (drop_of_length-le s h)

-- ---- bytes that have no bit left

pub zeros_next : (s : List ℕ) (i : ℕ) → i < length s → get_or s i 0 ≡ 0 → zeros_before (drop i s) ≡ 1 + zeros_before (drop (i + 1) s)
unfolding zeros_before
zeros_next s i h e = rw (drop-cons s i 0 h, eq-eqb (get_or s i 0) 0 e, add-one) (omega arith)

pub zeros_stop : (s : List ℕ) (i : ℕ) → i < length s → (get_or s i 0 ≡ 0 → ⊥) → zeros_before (drop i s) ≡ 0
unfolding zeros_before
zeros_stop s i h n = rw (drop-cons s i 0 h, ne_eqb (get_or s i 0) 0 n)

pub zeros_end : (s : List ℕ) (i : ℕ) → length s ≤ i → zeros_before (drop i s) ≡ 0
unfolding zeros_before
zeros_end s i h = rw (drop_of_length-le s h)

zeros_all : (s : List ℕ) → leb (length s) (zeros_before s) ≡ all (λ x. eqb x 0) s
unfolding zeros_before all
zeros_all [] = refl
zeros_all (x ∷ s) = go (eqb x 0) (zeros_all s)
  where
    go : (t : Bool) → leb (length s) (zeros_before s) ≡ all (λ y. eqb y 0) s → leb (suc (length s)) (cond t (suc (zeros_before s)) 0) ≡ t && all (λ y. eqb y 0) s
    go true later = leb-suc-suc (length s) (zeros_before s) ∙ later
    go false later = leb-suc-zero (length s)

-- ---- one more bit cleared

next_none : (at : ℕ) (s : List ℕ) → length s ≤ zeros_before s → clear_next at s ≡ []
unfolding zeros_before clear_next
next_none at [] h = refl
next_none at (x ∷ s) h = go (eqb x 0) (next_none (suc at) s) h
  where
    go : (t : Bool) → (length s ≤ zeros_before s → clear_next (suc at) s ≡ []) → suc (length s) ≤ cond t (suc (zeros_before s)) 0
        → cond t (clear_next (suc at) s) (program at (x - highest_bit x) ∷ []) ≡ []
    go true later k = later (omega arith)
    go false later k = absurd (omega arith)

-- the step on the first byte that has a bit left
abbrev First : ℕ → List ℕ → ℕ → List Step
First at s k = program (at + k) (get_or s k 0 - highest_bit (get_or s k 0)) ∷ []

next_some : (at : ℕ) (s : List ℕ) → zeros_before s < length s → (0 < get_or s (zeros_before s) 0) × (clear_next at s ≡ First at s (zeros_before s))
unfolding zeros_before clear_next
next_some at [] h = absurd (omega arith)
next_some at (x ∷ s) h = go (eqb x 0) refl (next_some (suc at) s) h
  where
    go : (t : Bool) → eqb x 0 ≡ t → (zeros_before s < length s → (0 < get_or s (zeros_before s) 0) × (clear_next (suc at) s ≡ First (suc at) s (zeros_before s)))
        → cond t (suc (zeros_before s)) 0 < suc (length s)
        → (0 < get_or (x ∷ s) (cond t (suc (zeros_before s)) 0) 0) × (cond t (clear_next (suc at) s) (program at (x - highest_bit x) ∷ []) ≡ First at (x ∷ s) (cond t (suc (zeros_before s)) 0))
    go true e later k =
        let r = later (omega arith) in
        let q : suc at + zeros_before s ≡ at + suc (zeros_before s) = omega arith in
        (r.0, r.1 ∙ rw q)
    go false e later k = (omega (arith, eqb-false x 0 e), rw add-zero)

next_within : (at : ℕ) (s : List ℕ) → at + length s ≤ 256 → Within 256 (clear_next at s)
unfolding clear_next
next_within at [] h = tt
next_within at (x ∷ s) h = go (eqb x 0) (next_within (suc at) s (omega arith))
  where
    go : (t : Bool) → Within 256 (clear_next (suc at) s) → Within 256 (cond t (clear_next (suc at) s) (program at (x - highest_bit x) ∷ []))
    go true later = later
    go false later = (omega arith, tt)

-- ---- in a header page

former_steps_lem : (e : Version) → is_former e ≡ true → count_erase e ≡ []
unfolding is_former count_erase
former_steps_lem version1 p = refl
former_steps_lem (version2 total bits) p = absurd (false≢true p)

pub former_seen : (e : Version) → is_former e ≡ true → record { former = true; count = 0; no_bit_left = false } ≡ tally_seen e
unfolding is_former tally_seen tally_of no_bit_left
former_seen version1 p = refl
former_seen (version2 total bits) p = absurd (false≢true p)

pub former_counts : (h : Page) (n : ℕ) → is_former (header_version h) ≡ true → Programmed (count_erase (header_version h)) n n h h
former_counts h n p B = rw (former_steps_lem (header_version h) p) (ran_none B n h)

-- the bits as they are lent
abbrev Bits : Page → List ℕ
Bits h = take 224 (drop 32 h)

module _ (h : Page) (l : length h ≡ 256) where
  bits_length : length (drop 32 h) ≡ 224
  bits_length = omega (arith, length-drop 32 h)

  bits_all : Bits h ≡ drop 32 h
  bits_all = take_all 224 (drop 32 h) (omega (arith, bits_length))

  module _ (p : is_former (header_version h) ≡ false) where
    second : header_version h ≡ version2 (header_total h) (Bits h)
    unfolding is_former
    second = rw bits_all (⊎_elim (λ e. absurd (false≢true (sym p ∙ ap is_former e))) (λ e. e) (either_version h))

    pub second_seen : (total cleared zeros : ℕ) → total ≡ header_total h → cleared ≡ cleared_bits (Bits h) → zeros ≡ zeros_before (Bits h)
        → record { former = false; count = total + cleared; no_bit_left = leb 224 zeros } ≡ tally_seen (header_version h)
    unfolding tally_seen is_former tally_of no_bit_left
    second_seen total cleared zeros et ec ez =
        let b : 224 ≡ length (Bits h) = rw bits_all (sym bits_length) in
        let u : leb 224 (zeros_before (Bits h)) ≡ all (λ x. eqb x 0) (Bits h) = ap (λ (y : ℕ). leb y (zeros_before (Bits h))) b ∙ zeros_all (Bits h) in
        rw (second, et, ec, ez, u)

    pub none_left : (n k : ℕ) → k ≡ zeros_before (Bits h) → 224 ≤ k → Programmed (count_erase (header_version h)) n n h h
    unfolding count_erase
    none_left n k e m B = rw (second, next_none 32 (Bits h) (omega (arith, ap length bits_all, bits_length))) (ran_none B n h)

    module _ (k : ℕ) (e : k ≡ zeros_before (Bits h)) (m : k < 224) where
      some_left : (0 < get_or (Bits h) k 0) × (clear_next 32 (Bits h) ≡ First 32 (Bits h) k)
      some_left = rw e (next_some 32 (Bits h) (omega (arith, ap length bits_all, bits_length)))

      byte : get_or (Bits h) k 0 ≡ get_or h (32 + k) 0
      byte = rw (bits_all, get_or-drop)

      pub bit_left : 0 < get_or h (32 + k) 0
      bit_left = rw byte at some_left.0

      pub one_counted : (bit : ℕ) {n r : ℕ} {t : Page} → bit ≡ highest_bit (get_or h (32 + k) 0)
          → Programmed (program (32 + k) (get_or h (32 + k) 0 - bit) ∷ []) n r h t → Programmed (count_erase (header_version h)) n r h t
      unfolding count_erase
      one_counted bit q d B = rw (second, some_left.1, byte, ← q) (d B)

-- ---- in an image

page_within : (h : Page) → length h ≡ 256 → Within 256 (count_erase (header_version h))
unfolding count_erase
page_within h l = ⊎_elim (λ e. rw e tt) (λ e. rw e (next_within 32 (drop 32 h) (omega (arith, bits_length h l)))) (either_version h)

module _ (N B n at : ℕ) (s : Image) (sized : Sized N B (length s)) (e : at ≡ header_at N B n * 256) where
  lent : take (at + 256 - at) (drop at s) ≡ header_in N B n s
  unfolding header_in
  lent = let k : at + 256 - at ≡ 256 = omega arith in rw (k, e)

  pub seen_in : (r : Tally) → r ≡ tally_seen (header_version (take (at + 256 - at) (drop at s))) → r ≡ tally_seen (header_version (header_in N B n s))
  seen_in r q = rw lent at q

  pub counted_in : {b r : ℕ} {q : Page} → Programmed (count_erase (header_version (take (at + 256 - at) (drop at s)))) b r (take (at + 256 - at) (drop at s)) q
      → Programmed (on_page (header_at N B n) (count_erase (header_version (header_in N B n s)))) b r s (take at s ++ (q ++ drop (at + 256 - at) (drop at s)))
  counted_in d =
      let i : at + 256 ≤ length s = omega (arith, header_inside N B n (length s) sized) in
      let h = take (at + 256 - at) (drop at s) in
      let w : Within 256 (count_erase (header_version h)) = page_within h (length-take-le (at + 256 - at) (drop at s) (omega (arith, length-drop at s)) ∙ omega arith) in
      rw (← lent) (in_page at (header_at N B n) (count_erase (header_version h)) e (on_page_lem at s (count_erase (header_version h)) i w d))

-- ---- the top's header

-- has the version of the image
pub top_version_lem : (N B : ℕ) (s : Image) → 0 < N → 0 < next_number (segments_of N B s) → header_version (header_in N B (next_number (segments_of N B s) - 1) s) ≡ top_version N (segments_of N B s)
unfolding top_version top_index header_in header_at pages_of
top_version_lem N B s p some =
    let n = next_number (segments_of N B s) - 1 in
    let i = n % N in
    let x = get_or (segments_of N B s) i blank in
    let h = mod-lt n p in
    let e : i * (B + 1) ≡ i * (B + 1) + 0 = omega arith in
    let page : take 256 (drop (i * (B + 1) * 256) s) ≡ get_or (part_of N B i s) 0 [] = rw e (sym (part_page N B i 0 s h (omega arith) ∙ chunk_part 256 (N * (B + 1)) (i * (B + 1) + 0) s (page_in N B i 0 h (omega arith)))) in
    let t = in_use_numbered x n (top_at N B s some ∙ omega (arith, some)) in
    ap header_version page ∙ (in_use_parts N B i (part_of N B i s) (version_in x) t.0 n (slots_in x) (sym (segment_at N B i s h) ∙ t.1)).version
