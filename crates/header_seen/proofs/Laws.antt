-- Laws of the test of a header in use: bytes compared, the status, what follows the fields, and the ways out.
use Prim.Native.Nat.{ℕ, zero, suc, ◌+◌, ◌-◌, ◌*◌, ◌/◌, ◌%◌, ◌≤◌, ◌<◌}
use mathlib.Core.Path.{◌≡◌, refl, sym, ap, ◌∙◌}
use mathlib.Core.Logic.{⊎_elim}
use mathlib.Core.Bool.{Bool, true, false, ◌&&◌, and-false, and_assoc}
use mathlib.Core.List.{List, [], ◌∷◌, ◌++◌}
use native.Mathlib.Numerals.{add-one}
use native.Mathlib.Omega.{arith}
use lib.ListN.{length, get_or, take, drop, length-drop, drop_of_length-le}
use lib.Seq.{drop-cons, drop-drop, take_all}
use lib.Dec.{ltb, eqb}
use borrow.Author.Tests.{eq-eqb, ne_eqb, lt-ltb, le-ltb}
use Rattle.model.specs.Lists.{same}
use Rattle.model.specs.Chip.{Page, erased, erase_limit, number_limit}
use Rattle.model.specs.Header.{number_bytes, inverted, value, opened, erase_pending, compacted, status_in_use, Version, version1, version2, new_version, is_former, version_number, total_fits, tally_bytes, header_page, header_status, header_number, header_version, old_index, header_in_use, is_blank}
use Rattle.model.proofs.Laws.Bytes.{same_refl}
use Rattle.blank.proofs.Blank.{same_erased}
use Rattle.header.specs.Parts.{header_total, header_fields}
use Rattle.header.proofs.Laws.Tests.{four_bytes, either_version}
use Rattle.header_seen.specs.Seen.{header_seen, tally_fits}
use Rattle.std.specs.Prelude.{Some, None}

-- ---- numbers

low_digit : (a m : ℕ) → a < 256 → (a + 256 * m) % 256 ≡ a
low_digit a m h = omega arith

other_digits : (a m : ℕ) → a < 256 → (a + 256 * m) / 256 ≡ m
other_digits a m h = omega arith

value_bytes : (a b c d : ℕ) → a < 256 → b < 256 → c < 256 → d < 256 → number_bytes (value (a ∷ b ∷ c ∷ d ∷ [])) ≡ a ∷ b ∷ c ∷ d ∷ []
unfolding number_bytes value
value_bytes a b c d ha hb hc hd = simp (low_digit, other_digits)

-- ---- two runs of bytes compared

pub same_stop : (a b : List ℕ) (i : ℕ) → length a ≡ length b → i < length a → (get_or a i 0 ≡ get_or b i 0 → ⊥) → same (drop i a) (drop i b) ≡ false
unfolding same
same_stop a b i l h n = rw (drop-cons a i 0 h, drop-cons b i 0 (omega arith), ne_eqb (get_or a i 0) (get_or b i 0) n)

pub same_next : (a b : List ℕ) (i : ℕ) → length a ≡ length b → i < length a → get_or a i 0 ≡ get_or b i 0 → same (drop i a) (drop i b) ≡ same (drop (i + 1) a) (drop (i + 1) b)
unfolding same
same_next a b i l h e = rw (drop-cons a i 0 h, drop-cons b i 0 (omega arith), eq-eqb (get_or a i 0) (get_or b i 0) e, add-one)

pub same_end : (a b : List ℕ) (i : ℕ) → length a ≡ length b → length a ≤ i → same (drop i a) (drop i b) ≡ true
unfolding same
same_end a b i l h = let k : length b ≤ i = omega arith in rw (drop_of_length-le a h, drop_of_length-le b k)

-- ---- status

pub use_opened : (st : ℕ) → st ≡ opened → status_in_use st ≡ true
unfolding status_in_use
use_opened st e = rw e

pub use_pending : (st : ℕ) → st ≡ erase_pending → status_in_use st ≡ true
unfolding status_in_use
use_pending st e = rw e

pub use_compacted : (st : ℕ) → (st ≡ opened → ⊥) → (st ≡ erase_pending → ⊥) → status_in_use st ≡ eqb st compacted
unfolding status_in_use
use_compacted st n m = rw (ne_eqb st opened n, ne_eqb st erase_pending m)

pub old_opened : (N i st : ℕ) → st ≡ opened → old_index N i st ≡ 255
unfolding old_index
old_opened N i st e = rw e

pub old_next : (N i st : ℕ) → (st ≡ opened → ⊥) → old_index N i st ≡ (i + 1) % N
unfolding old_index
old_next N i st n = rw (ne_eqb st opened n)

-- ---- what follows the fields

module _ (h : Page) where
  pub fits_former : is_former (header_version h) ≡ true → length h ≡ 256 → is_blank (take (length h - 17) (drop 17 h)) ≡ tally_fits h
  unfolding tally_fits
  fits_former e l = rw (e, take_all (length h - 17) (drop 17 h) (omega (arith, length-drop 17 h)))

  pub total_over : is_former (header_version h) ≡ false → erase_limit ≤ header_total h → tally_fits h ≡ false
  unfolding tally_fits
  total_over e l = rw (e, le-ltb (header_total h) erase_limit l)

  pub fits_second : is_former (header_version h) ≡ false → header_total h < erase_limit → is_blank (take 11 (drop 21 h)) ≡ tally_fits h
  unfolding tally_fits
  fits_second e l = rw (e, lt-ltb (header_total h) erase_limit l)

-- ---- in two parts: the fields compared, what follows them looked at

same_parts : (k : ℕ) (a b : List ℕ) → same a b ≡ (same (take k a) (take k b) && same (drop k a) (drop k b))
unfolding same
same_parts zero a b = refl
same_parts (suc k) [] [] = refl
same_parts (suc k) [] (y ∷ b) = refl
same_parts (suc k) (x ∷ a) [] = refl
same_parts (suc k) (x ∷ a) (y ∷ b) =
    ap (λ (t : Bool). eqb x y && t) (same_parts k a b) ∙ sym (and_assoc (eqb x y) (same (take k a) (take k b)) (same (drop k a) (drop k b)))

-- bytes compared with their own first, then others; with erased ones, then their own last
same_ahead : (k : ℕ) (s r : List ℕ) → same s (take k s ++ r) ≡ same (drop k s) r
unfolding same
same_ahead zero s r = refl
same_ahead (suc k) [] r = refl
same_ahead (suc k) (x ∷ s) r = rw (eq-eqb x x refl) (same_ahead k s r)

same_behind : (k : ℕ) (s : List ℕ) → k ≤ length s → same s (erased k ++ drop k s) ≡ is_blank (take k s)
unfolding same erased is_blank
same_behind zero s h = same_refl s
same_behind (suc k) [] h = absurd (omega arith)
same_behind (suc k) (x ∷ s) h = ap (λ (t : Bool). eqb x 255 && t) (same_behind k s (omega arith))

page_fields : (N B : ℕ) (e : Version) (st n old : ℕ) → take 17 (header_page N B e st n old) ≡ take 17 (header_fields N B (is_former e) st n old)
unfolding header_page header_fields number_bytes inverted new_version version_number is_former
page_fields N B version1 st n old = refl
page_fields N B (version2 total bits) st n old = refl

page_tally : (N B : ℕ) (e : Version) (st n old : ℕ) → drop 17 (header_page N B e st n old) ≡ tally_bytes e
unfolding header_page number_bytes inverted
page_tally N B e st n old = refl

and_swap : (a b c : Bool) → (a && (b && c)) ≡ (b && (a && c))
and_swap true b c = refl
and_swap false true c = refl
and_swap false false c = refl

module _ (h : Page) (l : length h ≡ 256) (known : (k : ℕ) → get_or h k 0 < 256) where
  former_tally : same (drop 17 h) (tally_bytes version1) ≡ is_blank (drop 17 h)
  unfolding tally_bytes
  former_tally = let d : length (drop 17 h) ≡ 239 = omega (arith, length-drop 17 h) in rw (← d) (same_erased (drop 17 h))

  total_bytes : number_bytes (header_total h) ≡ take 4 (drop 17 h)
  unfolding header_total
  total_bytes = rw (four_bytes h 17 (omega arith)) (value_bytes _ _ _ _ (known 17) (known 18) (known 19) (known 20))

  second_tally : same (drop 17 h) (tally_bytes (version2 (header_total h) (drop 32 h))) ≡ is_blank (take 11 (drop 21 h))
  unfolding tally_bytes
  second_tally =
      let b : drop 11 (drop 21 h) ≡ drop 32 h = drop-drop 11 21 h in
      rw (total_bytes, same_ahead 4 (drop 17 h) (erased 11 ++ drop 32 h), drop-drop 4 17 h, ← b) (same_behind 11 (drop 21 h) (omega (arith, length-drop 21 h)))

  tally_same : (total_fits (header_version h) && same (drop 17 h) (tally_bytes (header_version h))) ≡ tally_fits h
  unfolding total_fits tally_fits is_former
  tally_same = ⊎_elim (λ e. rw e former_tally) (λ e. rw e (ap (λ (t : Bool). ltb (header_total h) erase_limit && t) second_tally)) (either_version h)

  page_parts : (N B st n old : ℕ) (p : Page) → p ≡ header_fields N B (is_former (header_version h)) st n old
      → (total_fits (header_version h) && same h (header_page N B (header_version h) st n old)) ≡ (same (take 17 h) (take 17 p) && tally_fits h)
  page_parts N B st n old p q =
      let e = header_version h in
      rw (same_parts 17 h (header_page N B e st n old), page_fields N B e st n old, page_tally N B e st n old, ← q, ← tally_same)
      (and_swap (total_fits e) (same (take 17 h) (take 17 p)) (same (drop 17 h) (tally_bytes e)))

-- ---- in use

module _ (N B i : ℕ) (h : Page) where
  pub unused_status : status_in_use (get_or h 5 0) ≡ false → header_in_use N B i h ≡ false
  unfolding header_in_use header_status
  unused_status e = rw e

  pub unused_number : (n : ℕ) → n ≡ header_number h → 100000 * N ≤ n → header_in_use N B i h ≡ false
  unfolding header_in_use number_limit
  unused_number n e l = rw (le-ltb (header_number h) (100000 * N) (omega arith), and-false (total_fits (header_version h))) (and-false (status_in_use (header_status h)))

  pub unused_index : (n : ℕ) → n ≡ header_number h → (n % N ≡ i → ⊥) → header_in_use N B i h ≡ false
  unfolding header_in_use
  unused_index n e d =
      rw (← e, ne_eqb (n % N) i d, and-false (ltb n (number_limit N)), and-false (total_fits (header_version h))) (and-false (status_in_use (header_status h)))

  -- f tells whether the fields are the same
  pub used_page : (former : Bool) (n old : ℕ) (p : Page) (f : Bool) → ((k : ℕ) → get_or h k 0 < 256) → status_in_use (get_or h 5 0) ≡ true → n ≡ header_number h → n < 100000 * N → n % N ≡ i
      → former ≡ is_former (header_version h) → old ≡ old_index N i (get_or h 5 0) → p ≡ header_fields N B former (get_or h 5 0) n old → length h ≡ 256
      → f ≡ same (take 17 h) (take 17 p) → header_in_use N B i h ≡ (f && tally_fits h)
  unfolding header_in_use header_status number_limit
  used_page former n old p f known u e l k v o q c t =
      rw (← e, u, lt-ltb n (100000 * N) l, eq-eqb (n % N) i k, ← o, t) (page_parts h c known N B (get_or h 5 0) n old p (rw (← v) q))

  pub seen_used : (former : Bool) (n : ℕ) → former ≡ is_former (header_version h) → n ≡ header_number h → header_in_use N B i h ≡ true
      → header_seen N B i h ≡ Some (record { former = former; status = get_or h 5 0; number = record { 0 = n } })
  unfolding header_seen header_status
  seen_used former n v e u = rw (u, ← v, ← e)

  pub seen_unused : header_in_use N B i h ≡ false → header_seen N B i h ≡ None
  unfolding header_seen
  seen_unused e = rw e
