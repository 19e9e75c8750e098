-- Laws of slot pages: the test of a live slot byte by byte is the test of the definition; a slot of another kind than live holds nothing.
use Prim.Native.Nat.{ℕ, zero, suc, ◌+◌, ◌-◌, ◌*◌, ◌/◌, ◌%◌, ◌≤◌, ◌<◌}
use mathlib.Core.Path.{◌≡◌, refl, ◌∙◌}
use mathlib.Core.Bool.{Bool, true, false, cond, ◌&&◌, and-false}
use mathlib.Core.List.{List, [], ◌∷◌, ◌++◌}
use native.Mathlib.Omega.{arith}
use lib.ListN.{length, get_or, take, drop, length-drop}
use lib.Seq.{length-take-le, take_all, drop-drop}
use lib.Dec.{leb, eqb}
use borrow.Author.Tests.{leb-true, eq-eqb, ne_eqb, le-leb, lt-leb, lt-ltb}
use Rattle.model.specs.Lists.{same}
use Rattle.model.specs.Chip.{Page, erased}
use Rattle.model.specs.Header.{is_blank}
use Rattle.model.specs.Slot.{most_contents, write_begun, written, number_ok, slot_page, page_block, page_contents, slot_fits, Slot, empty, torn, dead, cut, wrong, live, slot_of, kind_of, entry_of}
use Rattle.model.specs.declared.BlockNumber.{BlockNumber}
use Rattle.model.specs.declared.SlotKind.{SlotKind}
use Rattle.model.specs.declared.SlotKind.TheVariants.{Empty, Torn, Live, Dead, Cut, Wrong}
use Rattle.model.specs.Laws.Lists.{and_left}
use Rattle.blank.proofs.Blank.{same_erased}

-- contents, then erased bytes to the end
same_tail : (n : ℕ) (q : List ℕ) → n ≤ length q → same q (take n q ++ erased (length q - n)) ≡ is_blank (drop n q)
unfolding same
same_tail zero q h = let e : length q - 0 ≡ length q = omega arith in rw e (same_erased q)
same_tail (suc n) [] h = absurd (omega arith)
same_tail (suc n) (x ∷ q) h =
    let e : suc (length q) - suc n ≡ length q - n = omega arith in
    rw (e, eq-eqb x x refl) (same_tail n q (omega arith))

and_assoc_four : (a b c d t : Bool) → (a && (b && (c && (d && t)))) ≡ ((a && (b && (c && (d && true)))) && t)
and_assoc_four false b c d t = refl
and_assoc_four true false c d t = refl
and_assoc_four true true false d t = refl
and_assoc_four true true true false t = refl
and_assoc_four true true true true t = refl

page_fits : (x₀ x₁ x₂ x₃ x₄ x₅ x₆ x₇ : ℕ) (q : List ℕ) → length q ≡ 248 → x₀ ≡ written → x₂ < 256 → x₁ ≤ 248
    → same (x₀ ∷ x₁ ∷ x₂ ∷ x₃ ∷ x₄ ∷ x₅ ∷ x₆ ∷ x₇ ∷ q) (slot_page (x₂ + 256 * x₃) (take x₁ q)) ≡ (is_blank (x₄ ∷ x₅ ∷ x₆ ∷ x₇ ∷ []) && is_blank (drop x₁ q))
unfolding same slot_page is_blank most_contents
page_fits x₀ x₁ x₂ x₃ x₄ x₅ x₆ x₇ q l e b h =
    let c : length (take x₁ q) ≡ x₁ = length-take-le x₁ q (omega arith) in
    let low : (x₂ + 256 * x₃) % 256 ≡ x₂ = omega arith in
    let high : (x₂ + 256 * x₃) / 256 ≡ x₃ = omega arith in
    let s : same q (take x₁ q ++ erased (248 - x₁)) ≡ is_blank (drop x₁ q) = rw l at (same_tail x₁ q (omega arith)) in
    rw (c, low, high, eq-eqb x₀ 63 e, eq-eqb x₁ x₁ refl, eq-eqb x₂ x₂ refl, eq-eqb x₃ x₃ refl, s)
    (and_assoc_four (eqb x₄ 255) (eqb x₅ 255) (eqb x₆ 255) (eqb x₇ 255) (is_blank (drop x₁ q)))

-- a written page of 256 bytes equals the page of its block and contents just if bytes 4 to 7 and those after the contents are erased
pub same_slot : (p : Page) → length p ≡ 256 → get_or p 0 0 ≡ written → get_or p 2 0 < 256 → get_or p 1 0 ≤ 248
    → same p (slot_page (page_block p) (page_contents p)) ≡ (is_blank (take 4 (drop 4 p)) && is_blank (drop (get_or p 1 0) (drop 8 p)))
unfolding page_block page_contents
same_slot [] l e b h = absurd (omega arith)
same_slot (x₀ ∷ []) l e b h = absurd (omega arith)
same_slot (x₀ ∷ x₁ ∷ []) l e b h = absurd (omega arith)
same_slot (x₀ ∷ x₁ ∷ x₂ ∷ []) l e b h = absurd (omega arith)
same_slot (x₀ ∷ x₁ ∷ x₂ ∷ x₃ ∷ []) l e b h = absurd (omega arith)
same_slot (x₀ ∷ x₁ ∷ x₂ ∷ x₃ ∷ x₄ ∷ []) l e b h = absurd (omega arith)
same_slot (x₀ ∷ x₁ ∷ x₂ ∷ x₃ ∷ x₄ ∷ x₅ ∷ []) l e b h = absurd (omega arith)
same_slot (x₀ ∷ x₁ ∷ x₂ ∷ x₃ ∷ x₄ ∷ x₅ ∷ x₆ ∷ []) l e b h = absurd (omega arith)
same_slot (x₀ ∷ x₁ ∷ x₂ ∷ x₃ ∷ x₄ ∷ x₅ ∷ x₆ ∷ x₇ ∷ q) l e b h = page_fits x₀ x₁ x₂ x₃ x₄ x₅ x₆ x₇ q (omega arith) e b h

-- ---- the ways out of the test of a written slot

pub fits_long : (p : Page) → 248 < get_or p 1 0 → slot_fits p ≡ false
unfolding slot_fits most_contents
fits_long p h = rw (lt-leb (get_or p 1 0) 248 h)

fits_misnumbered : (p : Page) → number_ok (page_block p) ≡ false → slot_fits p ≡ false
unfolding slot_fits
fits_misnumbered p e = rw e (and-false (leb (get_or p 1 0) most_contents))

pub fits_zero : (p : Page) → get_or p 2 0 + 256 * get_or p 3 0 ≡ 0 → slot_fits p ≡ false
unfolding number_ok page_block
fits_zero p h = fits_misnumbered p (rw h)

pub fits_most : (p : Page) → get_or p 2 0 + 256 * get_or p 3 0 ≡ 65535 → slot_fits p ≡ false
unfolding number_ok page_block
fits_most p h = fits_misnumbered p (rw h)

-- the length and the number fit
pub record Numbered (p : Page) : Type 0 where
  pub whole : length p ≡ 256
  pub status : get_or p 0 0 ≡ written
  pub short : get_or p 1 0 ≤ 248
  pub low : get_or p 2 0 < 256
  pub high : get_or p 3 0 < 256
  pub some : get_or p 2 0 + 256 * get_or p 3 0 ≡ 0 → ⊥
  pub most : get_or p 2 0 + 256 * get_or p 3 0 ≡ 65535 → ⊥

fits_rest : (p : Page) → Numbered p → slot_fits p ≡ (is_blank (take 4 (drop 4 p)) && is_blank (drop (8 + get_or p 1 0) p))
unfolding slot_fits most_contents number_ok page_block
fits_rest p h =
    let n : ℕ = get_or p 2 0 + 256 * get_or p 3 0 in
    rw (le-leb (get_or p 1 0) 248 h.short, lt-ltb 0 n (omega arith), lt-ltb n 65535 (omega arith), ← (drop-drop (get_or p 1 0) 8 p))
    (same_slot p h.whole h.status h.low h.short)

pub fits_gap : (p : Page) → Numbered p → is_blank (take 4 (drop 4 p)) ≡ false → slot_fits p ≡ false
fits_gap p h e = fits_rest p h ∙ rw e

pub fits_tail : (p : Page) (end : ℕ) → Numbered p → is_blank (take 4 (drop 4 p)) ≡ true → end ≡ 8 + get_or p 1 0 → slot_fits p ≡ is_blank (take (length p - end) (drop end p))
fits_tail p end h e k =
    let t : take (length p - end) (drop end p) ≡ drop end p = take_all (length p - end) (drop end p) (omega (arith, length-drop end p)) in
    fits_rest p h ∙ rw (e, t, k)

-- ---- the kinds

module _ (p : Page) where
  pub kind_live : (l b : ℕ) → get_or p 0 0 ≡ written → slot_fits p ≡ true → l ≡ get_or p 1 0 → b ≡ get_or p 2 0 + 256 * get_or p 3 0 → length p ≡ 256
      → kind_of (slot_of p) ≡ Live l (record { 0 = b })
  unfolding slot_of kind_of page_block page_contents slot_fits most_contents
  kind_live l b st f lb bb w =
      let short : get_or p 1 0 ≤ 248 = leb-true (get_or p 1 0) 248 (and_left (leb (get_or p 1 0) 248) _ f) in
      let c : length (take (get_or p 1 0) (drop 8 p)) ≡ get_or p 1 0 = length-take-le (get_or p 1 0) (drop 8 p) (omega (arith, length-drop 8 p)) in
      rw (eq-eqb (get_or p 0 0) 63 st, f, c, lb, bb)

  pub kind_unfit : get_or p 0 0 ≡ written → slot_fits p ≡ false → kind_of (slot_of p) ≡ Wrong
  unfolding slot_of kind_of
  kind_unfit st f = rw (eq-eqb (get_or p 0 0) 63 st, f)

  pub kind_torn : get_or p 0 0 ≡ write_begun → kind_of (slot_of p) ≡ Torn
  unfolding slot_of kind_of
  kind_torn st = rw st

  pub kind_dead : get_or p 0 0 ≡ 0x1F → kind_of (slot_of p) ≡ Dead
  unfolding slot_of kind_of
  kind_dead st = rw st

  pub kind_cut : get_or p 0 0 ≡ 0x5F → kind_of (slot_of p) ≡ Cut
  unfolding slot_of kind_of
  kind_cut st = rw st

  -- no status of the other kinds
  pub record Unmarked : Type 0 where
    pub written : get_or p 0 0 ≡ 0x3F → ⊥
    pub begun : get_or p 0 0 ≡ 0x7F → ⊥
    pub dead : get_or p 0 0 ≡ 0x1F → ⊥
    pub cut : get_or p 0 0 ≡ 0x5F → ⊥

  unmarked : Unmarked → kind_of (slot_of p) ≡ cond (is_blank p) Empty Wrong
  unfolding slot_of kind_of
  unmarked h =
      rw (ne_eqb (get_or p 0 0) 0x3F h.written, ne_eqb (get_or p 0 0) 0x7F h.begun, ne_eqb (get_or p 0 0) 0x1F h.dead, ne_eqb (get_or p 0 0) 0x5F h.cut) (go (is_blank p))
    where
      go : (t : Bool) → kind_of (cond t empty wrong) ≡ cond t Empty Wrong
      go true = refl
      go false = refl

  pub kind_blank : Unmarked → is_blank p ≡ true → kind_of (slot_of p) ≡ Empty
  kind_blank h e = unmarked h ∙ rw e

  pub kind_other : Unmarked → is_blank p ≡ false → kind_of (slot_of p) ≡ Wrong
  kind_other h e = unmarked h ∙ rw e

-- ---- the kinds that `let SlotKind::Live .. else` tells apart

abbrev pub Other : SlotKind → Type 0
Other k = (l : ℕ) (b : BlockNumber) → k ≡ Live l b → ⊥

-- a slot of another kind holds nothing
pub other_holds : (k : Slot) → Other (kind_of k) → entry_of k ≡ []
unfolding kind_of entry_of
other_holds empty h = refl
other_holds torn h = refl
other_holds dead h = refl
other_holds cut h = refl
other_holds wrong h = refl
other_holds (live b c) h = absurd (h (length c) (record { 0 = b }) refl)
