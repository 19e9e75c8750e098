-- Every board of the table has its account and its picture: computed over pages, and carried to the image by the law that joins the two.
use Rattle.std.specs.Prelude.{ℕ, suc, ◌+◌, ◌*◌, ◌≤◌, ◌<◌, ◌≡◌, Bool, true, cond, ◌&&◌, length, eqb}
use Prim.Native.String.{String}
use Rattle.std.proofs.Math.Path.{refl}
use Rattle.std.proofs.Common.{sym, ap, ◌∙◌, arith, suc-mul, length-append, take_at, drop_at, eqb-true, eq-eqb}
use Rattle.std.proofs.Math.Bool.{false}
use Rattle.std.proofs.lemmas.Bool.{false≢true}
use mathlib.Core.List.{List, [], ◌∷◌, ◌++◌, flatten}
use Rattle.model.specs.Lists.{same, all, chunk}
use Rattle.model.specs.Chip.{Image, Page, image_length, in_range, right_size, pages_of}
use Rattle.model.specs.Slot.{is_replaced, is_cut}
use Rattle.model.specs.State.{Segment, segments_on, segments_of, conditions, is_clean, state_of, clean}
use Rattle.model.specs.Answers.{is_damaged}
use Rattle.model.specs.Laws.Lists.{and_left, and_right, and_both}
use Rattle.model.proofs.Laws.Bench.{evaluate}
use Rattle.text.specs.Text.{text}
use Rattle.text.specs.Decimal.{decimal_of, decimal}
use Rattle.text.specs.Buffer.{labelled}
use Rattle.account_text.specs.Account.{unseen, shown_in, shown, use_word, slot_counts, segment_line, segment_lines, live_at, live_from, live_in, live_slots, insert, by_block, block_text, block_line, block_lines, first_failing, last_line, account_on, account_text, wrong_size}
use Rattle.account_text.specs.Map.{mark, legend, margin, row_break, marks_from, padded, row_start, state_word, map_row, map_rows, all_rows, map_on, map_text}
use Rattle.account_text.specs.Boards.{Board, boards}

-- ---- a board's texts

-- lines, each with its end
unfoldable pub joined : List String → List ℕ
joined [] = []
joined (x ∷ r) = text x ++ (10 ∷ joined r)

unfoldable pub image_of : Board → Image
image_of b = flatten b.pages

-- the account and the picture of its image are these
unfoldable pub holds : Board → Bool
holds b = same (account_text b.segments b.slots (image_of b)) (joined b.account) && same (map_text b.segments b.slots (image_of b)) (joined b.picture ++ legend)

-- ---- over pages

-- pages of 256 bytes, as many as an image has
well_made : Board → Bool
well_made b = in_range b.segments b.slots && (eqb (length b.pages) (b.segments * (b.slots + 1)) && all (λ p. eqb (length p) 256) b.pages)

on_pages : Board → Bool
on_pages b = let l = segments_on b.segments b.slots b.pages in
    well_made b && (same (account_on b.segments b.slots l) (joined b.account) && same (map_on b.segments b.slots l) (joined b.picture ++ legend))

-- the places, from 0, of those that fail
failing : ℕ → List Board → List ℕ
failing i [] = []
failing i (b ∷ r) = cond (on_pages b) (failing (suc i) r) (i ∷ failing (suc i) r)

computed : failing 0 boards ≡ []
unfolding evaluate is_replaced is_cut text decimal_of decimal labelled unseen shown_in shown use_word slot_counts segment_line segment_lines live_at live_from live_in live_slots insert by_block block_text block_line block_lines first_failing last_line account_on mark legend margin row_break marks_from padded row_start state_word map_row map_rows all_rows map_on joined well_made on_pages failing boards
computed = refl

-- ---- pages joined and cut again

flat_length : (ps : List Page) → all (λ p. eqb (length p) 256) ps ≡ true → length (flatten ps) ≡ length ps * 256
unfolding all flatten
flat_length [] h = refl
flat_length (p ∷ ps) h =
    let a = eqb-true (length p) 256 (and_left (eqb (length p) 256) (all (λ q. eqb (length q) 256) ps) h) in
    let b = flat_length ps (and_right (eqb (length p) 256) (all (λ q. eqb (length q) 256) ps) h) in
    let c = length-append p (flatten ps) in
    let d = suc-mul (length ps) 256 in
    omega arith

flat_pages : (ps : List Page) → all (λ p. eqb (length p) 256) ps ≡ true → chunk (length ps) 256 (flatten ps) ≡ ps
unfolding all flatten chunk
flat_pages [] h = refl
flat_pages (p ∷ ps) h =
    let a = eqb-true (length p) 256 (and_left (eqb (length p) 256) (all (λ q. eqb (length q) 256) ps) h) in
    rw (take_at p (flatten ps) 256 a, drop_at p (flatten ps) 256 a) (ap {B = List Page} (λ y. p ∷ y) (flat_pages ps (and_right (eqb (length p) 256) (all (λ q. eqb (length q) 256) ps) h)))

pub size_of_lem : (N B : ℕ) (ps : List Page) → in_range N B ≡ true → length ps ≡ N * (B + 1) → all (λ p. eqb (length p) 256) ps ≡ true → right_size N B (flatten ps) ≡ true
unfolding right_size image_length
size_of_lem N B ps r c w = and_both (in_range N B) (eqb (length (flatten ps)) (N * (B + 1) * 256)) r (eq-eqb (length (flatten ps)) (N * (B + 1) * 256) (flat_length ps w ∙ ap (λ (k : ℕ). k * 256) c))

pub cut_of : (N B : ℕ) (ps : List Page) → length ps ≡ N * (B + 1) → all (λ p. eqb (length p) 256) ps ≡ true → segments_of N B (flatten ps) ≡ segments_on N B ps
unfolding segments_of pages_of
cut_of N B ps c w = ap (segments_on N B) (ap (λ (k : ℕ). chunk k 256 (flatten ps)) (sym c) ∙ flat_pages ps w)

-- what is said of the pages is said of the image
carried : (b : Board) → on_pages b ≡ true → holds b ≡ true
unfolding on_pages well_made holds image_of account_text map_text
carried b h =
    let N = b.segments in
    let B = b.slots in
    let ps = b.pages in
    let l = segments_on N B ps in
    let range = in_range N B in
    let counts = eqb (length ps) (N * (B + 1)) in
    let pages = all (λ p. eqb (length p) 256) ps in
    let texts = same (account_on N B l) (joined b.account) && same (map_on N B l) (joined b.picture ++ legend) in
    let made = and_left (range && (counts && pages)) texts h in
    let rest = and_right range (counts && pages) made in
    let c = eqb-true (length ps) (N * (B + 1)) (and_left counts pages rest) in
    let w = and_right counts pages rest in
    rw (size_of_lem N B ps (and_left range (counts && pages) made) c w, cut_of N B ps c w) (and_right (range && (counts && pages)) texts h)

each : (i : ℕ) (bs : List Board) → failing i bs ≡ [] → all holds bs ≡ true
unfolding failing all
each i [] h = refl
each i (b ∷ bs) h = go (on_pages b) refl h (each (suc i) bs)
  where
    go : (t : Bool) → on_pages b ≡ t → cond t (failing (suc i) bs) (i ∷ failing (suc i) bs) ≡ [] → (failing (suc i) bs ≡ [] → all holds bs ≡ true) → (holds b && all holds bs) ≡ true
    go true e q ih = and_both (holds b) (all holds bs) (carried b e) (ih q)
    go false e q ih = absurd (let z : ◌≡◌ {A = ℕ} 0 1 = cc in omega arith)

-- every board of the table has its account and its picture
pub boards_hold : all holds boards ≡ true
boards_hold = each 0 boards computed

-- another size gives only `fails 0`, and so does the picture
pub other_size : (N B : ℕ) (s : Image) → right_size N B s ≡ false → (account_text N B s ≡ joined ("fails 0" ∷ [])) × (map_text N B s ≡ joined ("fails 0" ∷ []))
unfolding account_text map_text wrong_size text joined
other_size N B s h = rw h (refl, refl)

-- ---- the place of the first condition that fails, of a damaged image: 1 to 8

none_fails : (k : ℕ) (ts : List Bool) → 0 < k → all (λ t. t) ts ≡ false → (k ≤ first_failing k ts) × (first_failing k ts < k + length ts)
unfolding first_failing all
none_fails k [] p h = absurd (false≢true (sym h))
none_fails k (t ∷ ts) p h = go t h (none_fails (suc k) ts (omega arith))
  where
    go : (t : Bool) → (t && all (λ x. x) ts) ≡ false → (all (λ x. x) ts ≡ false → (suc k ≤ first_failing (suc k) ts) × (first_failing (suc k) ts < suc k + length ts))
        → (k ≤ cond t (first_failing (suc k) ts) k) × (cond t (first_failing (suc k) ts) k < k + suc (length ts))
    go true q ih = let r = ih q in (omega (arith, r.0), omega (arith, r.1))
    go false q ih = (omega arith, omega arith)

pub fails_one_to_eight : (N B : ℕ) (l : List Segment) → is_damaged (state_of N B l) ≡ true → (1 ≤ first_failing 1 (conditions N B l)) × (first_failing 1 (conditions N B l) ≤ 8)
unfolding conditions
fails_one_to_eight N B l h = let r = none_fails 1 (conditions N B l) (omega arith) (unclean (is_clean N B l) refl) in (r.0, omega (arith, r.1))
  where
    unclean : (t : Bool) → is_clean N B l ≡ t → all (λ x. x) (conditions N B l) ≡ false
    unclean true e = absurd (false≢true (sym undamaged ∙ (sym (ap is_damaged (cleaned e)) ∙ h)))
      where
        undamaged : is_damaged clean ≡ false
        undamaged = unfold is_damaged in refl

        cleaned : is_clean N B l ≡ true → state_of N B l ≡ clean
        cleaned e = unfold state_of in (rw e)
    unclean false e = unfold is_clean in e
