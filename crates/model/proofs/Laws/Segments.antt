-- Steps inside one segment, whole or cut, change that segment only, and an erase does too.
use Rattle.std.specs.Prelude.{ℕ, zero, suc, ◌+◌, ◌-◌, ◌*◌, ◌/◌, ◌%◌, ◌≤◌, ◌<◌, ◌≡◌, refl, get_or}
use Rattle.std.proofs.Common.{sym, ◌∙◌, subst, inl, inr, div-add-mod', le-leb}
use Rattle.std.proofs.Math.Path.{ap}
use mathlib.Core.List.{List, [], ◌∷◌, ◌++◌}
use native.Mathlib.Omega.{arith}
use Rattle.std.proofs.Math.Nat.{mul-le-mul_right, suc-mul}
use Rattle.std.proofs.Math.ListN.{length, take, drop, set, length-take, length-drop}
use lib.Seq.{set-set, set-get_or, get_or-set_same}
use Rattle.model.specs.Lists.{chunk}
use Rattle.model.specs.Chip.{Image, Page, Step, program, erase, clear, erased, with_segment, segment_bytes, step, run, image_length, pages_of, by_segment, Cut}
use Rattle.model.specs.State.{blank, segment_of, segments_from, segments_on, segments_of}
use Rattle.model.specs.Steps.{on_page}
use Rattle.model.specs.Laws.Chunk.{chunk_length, chunk_set, chunk_get, part_length, chunk_replace, replace_part}
use Rattle.model.proofs.Laws.Pages.{pages_run, InPage, run_on_page, cut_on_page}

-- the pages, segment by segment; those of segment i
abbrev pub parts : ℕ → ℕ → Image → List (List Page)
parts N B s = by_segment N B (pages_of N B s)

abbrev pub part_of : ℕ → ℕ → ℕ → Image → List Page
part_of N B i s = get_or (parts N B s) i []

pub parts_length : (N B : ℕ) (s : Image) → length (parts N B s) ≡ N
unfolding by_segment
parts_length N B s = chunk_length N (B + 1) (pages_of N B s)

pub page_in : (N B i q : ℕ) → i < N → q < B + 1 → i * (B + 1) + q < N * (B + 1)
page_in N B i q h k = omega (arith, mul-le-mul_right (B + 1) h, suc-mul i (B + 1))

-- page q of segment i is a page of the image
pub part_page : (N B i q : ℕ) (s : Image) → i < N → q < B + 1 → get_or (part_of N B i s) q [] ≡ get_or (pages_of N B s) (i * (B + 1) + q) []
unfolding by_segment
part_page N B i q s h k = chunk_get (B + 1) N i q [] (pages_of N B s) h k

pub part_size : (N B i : ℕ) (s : Image) → i < N → length (part_of N B i s) ≡ B + 1
unfolding by_segment pages_of
part_size N B i s h = part_length (B + 1) N i (pages_of N B s) h (omega (arith, chunk_length (N * (B + 1)) 256 s))

pub page_size : (N B i q : ℕ) (s : Image) → length s ≡ image_length N B → i < N → q < B + 1 → length (get_or (part_of N B i s) q []) ≡ 256
unfolding pages_of image_length
page_size N B i q s e h k = rw (part_page N B i q s h k) (part_length 256 (N * (B + 1)) (i * (B + 1) + q) s (page_in N B i q h k) (omega arith))

-- byte k of page q of segment i
pub page_byte : (N B i q k : ℕ) (s : Image) → i < N → q < B + 1 → k < 256 → get_or (get_or (part_of N B i s) q []) k 0 ≡ get_or s ((i * (B + 1) + q) * 256 + k) 0
unfolding pages_of
page_byte N B i q k s h j l = rw (part_page N B i q s h j) (chunk_get 256 (N * (B + 1)) (i * (B + 1) + q) k 0 s (page_in N B i q h j) l)

-- ---- segments of an image

segments_set : (N B k i : ℕ) (g : List (List Page)) (ps : List Page) → segments_from N B k (set g i ps) ≡ set (segments_from N B k g) i (segment_of N B (k + i) ps)
unfolding segments_from
segments_set N B k i [] ps = refl
segments_set N B k zero (x ∷ g) ps = let e : k + 0 ≡ k = omega arith in rw e
segments_set N B k (suc i) (x ∷ g) ps = let e : k + suc i ≡ suc k + i = omega arith in rw (e, segments_set N B (suc k) i g ps)

segments_get : (N B k i : ℕ) (g : List (List Page)) → i < length g → get_or (segments_from N B k g) i blank ≡ segment_of N B (k + i) (get_or g i [])
unfolding segments_from
segments_get N B k i [] h = absurd (omega arith)
segments_get N B k zero (x ∷ g) h = let e : k + 0 ≡ k = omega arith in rw e
segments_get N B k (suc i) (x ∷ g) h = let e : k + suc i ≡ suc k + i = omega arith in rw (e, segments_get N B (suc k) i g (omega arith))

segments_long : (N B k : ℕ) (g : List (List Page)) → length (segments_from N B k g) ≡ length g
unfolding segments_from
segments_long N B k [] = refl
segments_long N B k (x ∷ g) = ap suc (segments_long N B (suc k) g)

pub segments_length : (N B : ℕ) (s : Image) → length (segments_of N B s) ≡ N
unfolding segments_of segments_on
segments_length N B s = segments_long N B 0 (parts N B s) ∙ parts_length N B s

pub segment_at : (N B i : ℕ) (s : Image) → i < N → get_or (segments_of N B s) i blank ≡ segment_of N B i (part_of N B i s)
unfolding segments_of segments_on
segment_at N B i s h = let e : 0 + i ≡ i = omega arith in rw e at (segments_get N B 0 i (parts N B s) (omega (arith, parts_length N B s)))

-- ---- a change of one segment only

-- the pages of all other segments are the same
abbrev pub Only : ℕ → ℕ → ℕ → Image → Image → Type 0
Only N B i s u = parts N B u ≡ set (parts N B s) i (part_of N B i u)

pub only_segments : (N B i : ℕ) (s u : Image) → Only N B i s u → segments_of N B u ≡ set (segments_of N B s) i (segment_of N B i (part_of N B i u))
unfolding segments_of segments_on
only_segments N B i s u h = let e : 0 + i ≡ i = omega arith in
    ap (λ y. segments_from N B 0 y) h ∙ rw e at (segments_set N B 0 i (parts N B s) (part_of N B i u))

pub only_refl : (N B i : ℕ) (s : Image) → Only N B i s s
only_refl N B i s = sym (set-get_or (parts N B s) i [])

pub only_trans : (N B i : ℕ) (s t u : Image) → Only N B i s t → Only N B i t u → Only N B i s u
only_trans N B i s t u h k = k ∙ (ap (λ y. set y i (part_of N B i u)) h ∙ set-set (parts N B s) i (part_of N B i t) (part_of N B i u))

-- what a list of parts changed at i makes of the image: that segment only, and its pages
pub only_part : (N B i : ℕ) (s u : Image) (ps : List Page) → i < N → parts N B u ≡ set (parts N B s) i ps → Only N B i s u × (part_of N B i u ≡ ps)
only_part N B i s u ps h e =
    let p : part_of N B i u ≡ ps = ap (λ (y : List (List Page)). get_or y i []) e ∙ get_or-set_same (parts N B s) i ps [] (omega (arith, parts_length N B s)) in
    (e ∙ ap (λ y. set (parts N B s) i y) (sym p), p)

-- ---- programming

-- one byte changed
pub byte_parts : (N B i q k v : ℕ) (s : Image) → i < N → q < B + 1 → k < 256
    → parts N B (set s ((i * (B + 1) + q) * 256 + k) v) ≡ set (parts N B s) i (set (part_of N B i s) q (set (get_or (part_of N B i s) q []) k v))
unfolding by_segment pages_of
byte_parts N B i q k v s h j l =
    let p = i * (B + 1) + q in
    let a : chunk (N * (B + 1)) 256 (set s (p * 256 + k) v) ≡ set (chunk (N * (B + 1)) 256 s) p (set (get_or (chunk (N * (B + 1)) 256 s) p []) k v) = chunk_set 256 (N * (B + 1)) p k v s l in
    let b = chunk_set (B + 1) N i q (set (get_or (chunk (N * (B + 1)) 256 s) p []) k v) (chunk (N * (B + 1)) 256 s) j in
    ap (λ (y : List Page). chunk N (B + 1) y) a
    ∙ (b ∙ ap (λ (y : Page). set (chunk N (B + 1) (chunk (N * (B + 1)) 256 s)) i (set (get_or (chunk N (B + 1) (chunk (N * (B + 1)) 256 s)) i []) q (set y k v))) (sym (part_page N B i q s h j)))

-- an offset inside segment i
abbrev pub Within : ℕ → ℕ → ℕ → Type 0
Within B i at = (i * (B + 1) * 256 ≤ at) × (at < (i * (B + 1) + (B + 1)) * 256)

only_byte : (N B i at v : ℕ) (s : Image) → i < N → Within B i at → Only N B i s (set s at v)
only_byte N B i at v s h w =
    let d = at - i * (B + 1) * 256 in
    let e = div-add-mod' d 256 in
    let l : d % 256 < 256 = omega arith in
    let j : d / 256 < B + 1 = omega (arith, w.0, w.1) in
    let g : (i * (B + 1) + d / 256) * 256 + d % 256 ≡ at = omega (arith, w.0, e) in
    subst (λ (y : ℕ). Only N B i s (set s y v)) g (only_part N B i s (set s ((i * (B + 1) + d / 256) * 256 + d % 256) v) _ h (byte_parts N B i (d / 256) (d % 256) v s h j l)).0

-- every step programs a byte of segment i
abbrev pub InSegment : ℕ → ℕ → List Step → Type 0
InSegment B i [] = Unit {0}
InSegment B i (program at v ∷ xs) = Within B i at × InSegment B i xs
InSegment B i (erase k ∷ xs) = ⊥

pub in_segment_append : (B i : ℕ) (xs ys : List Step) → InSegment B i xs → InSegment B i ys → InSegment B i (xs ++ ys)
in_segment_append B i [] ys p q = q
in_segment_append B i (program at v ∷ xs) ys p q = (p.0, in_segment_append B i xs ys p.1 q)
in_segment_append B i (erase k ∷ xs) ys p q = p

pub page_in_segment : (B i q : ℕ) (xs : List Step) → q < B + 1 → InPage xs → InSegment B i (on_page (i * (B + 1) + q) xs)
unfolding on_page
page_in_segment B i q [] h p = tt
page_in_segment B i q (program at v ∷ xs) h p = ((omega (arith, p.0), omega (arith, p.0)), page_in_segment B i q xs h p.1)
page_in_segment B i q (erase k ∷ xs) h p = absurd p

pub only_run : (N B i : ℕ) (xs : List Step) (s : Image) → i < N → InSegment B i xs → Only N B i s (run B xs s)
unfolding run step
only_run N B i [] s h p = only_refl N B i s
only_run N B i (program at v ∷ xs) s h p = let t = set s at (clear (get_or s at 0) v) in
    only_trans N B i s t (run B xs t) (only_byte N B i at (clear (get_or s at 0) v) s h p.0) (only_run N B i xs t h p.1)
only_run N B i (erase k ∷ xs) s h p = absurd p

pub only_cut : (N B i : ℕ) (xs : List Step) (s u : Image) → i < N → InSegment B i xs → Cut B xs s u → Only N B i s u
unfolding step
only_cut N B i [] s u h p c = subst (λ y. Only N B i s y) (sym c) (only_refl N B i s)
only_cut N B i (erase k ∷ xs) s u h p c = absurd p
only_cut N B i (program at v ∷ xs) s u h p (inl e) = subst (λ y. Only N B i s y) (sym e) (only_refl N B i s)
only_cut N B i (program at v ∷ xs) s u h p (inr (inl (x, b, e))) = subst (λ y. Only N B i s y) (sym e) (only_byte N B i at x s h p.0)
only_cut N B i (program at v ∷ xs) s u h p (inr (inr c)) = let t = set s at (clear (get_or s at 0) v) in
    only_trans N B i s t u (only_byte N B i at (clear (get_or s at 0) v) s h p.0) (only_cut N B i xs t u h p.1 c)

-- ---- steps inside one page, and cuts of them

module _ (N B i q : ℕ) (h : i < N) (j : q < B + 1) (xs : List Step) (p : InPage xs) (s : Image) (z : length s ≡ image_length N B) where
  pub part_run : part_of N B i (run B (on_page (i * (B + 1) + q) xs) s) ≡ set (part_of N B i s) q (run B xs (get_or (part_of N B i s) q []))
  part_run = (only_part N B i s (run B (on_page (i * (B + 1) + q) xs) s) _ h whole).1
    where
      inside : i * (B + 1) + q < length (pages_of N B s)
      inside = unfold pages_of in omega (arith, page_in N B i q h j, chunk_length (N * (B + 1)) 256 s)

      new : pages_of N B (run B (on_page (i * (B + 1) + q) xs) s) ≡ set (pages_of N B s) (i * (B + 1) + q) (run B xs (get_or (part_of N B i s) q []))
      new = pages_run N B (on_page (i * (B + 1) + q) xs) s z ∙ (run_on_page B (i * (B + 1) + q) xs (pages_of N B s) inside p
          ∙ ap (λ (y : Page). set (pages_of N B s) (i * (B + 1) + q) (run B xs y)) (sym (part_page N B i q s h j)))

      whole : parts N B (run B (on_page (i * (B + 1) + q) xs) s) ≡ set (parts N B s) i (set (part_of N B i s) q (run B xs (get_or (part_of N B i s) q [])))
      whole = ap (λ y. by_segment N B y) new ∙ (unfold by_segment in chunk_set (B + 1) N i q (run B xs (get_or (part_of N B i s) q [])) (pages_of N B s) j)

  -- a cut leaves some page that is a cut of that page alone
  pub part_cut : (u : Image) → Cut B (on_page (i * (B + 1) + q) xs) s u
      → (page : Page) × Cut B xs (get_or (part_of N B i s) q []) page × (part_of N B i u ≡ set (part_of N B i s) q page)
  part_cut u c = (r.0, rw (part_page N B i q s h j) (unfold pages_of in r.1), (only_part N B i s u _ h whole).1)
    where
      r : (page : Page) × Cut B xs (get_or (chunk (N * (B + 1)) 256 s) (i * (B + 1) + q) []) page × (chunk (N * (B + 1)) 256 u ≡ set (chunk (N * (B + 1)) 256 s) (i * (B + 1) + q) page)
      r = cut_on_page B (N * (B + 1)) (i * (B + 1) + q) xs s u (page_in N B i q h j) p c

      whole : parts N B u ≡ set (parts N B s) i (set (part_of N B i s) q r.0)
      whole = unfold by_segment pages_of in (ap (λ (y : List Page). chunk N (B + 1) y) r.2 ∙ chunk_set (B + 1) N i q r.0 (chunk (N * (B + 1)) 256 s) j)

-- ---- a segment's bytes replaced: an erase, whole or cut inside

module _ (N B i : ℕ) (h : i < N) (s : Image) (z : length s ≡ image_length N B) where
  pub segment_fits : (i * (B + 1) + (B + 1)) * 256 ≤ length s
  unfolding image_length
  segment_fits = omega (arith, mul-le-mul_right (B + 1) h, suc-mul i (B + 1))

  pub segment_bytes_length : length (segment_bytes B i s) ≡ (B + 1) * 256
  unfolding segment_bytes
  segment_bytes_length = length-take ((B + 1) * 256) (drop (i * (B + 1) * 256) s) ∙ omega (arith, length-drop (i * (B + 1) * 256) s, segment_fits)

  pub replaced_parts : (u : List ℕ) → length u ≡ (B + 1) * 256 → parts N B (with_segment B i u s) ≡ set (parts N B s) i (chunk (B + 1) 256 u)
  unfolding by_segment pages_of with_segment image_length
  replaced_parts u k =
      let m = B + 1 in
      let ps = chunk (N * m) 256 s in
      let n : length ps ≡ N * m = chunk_length (N * m) 256 s in
      let a : chunk (N * m) 256 (take (i * m * 256) s ++ (u ++ drop ((i * m + m) * 256) s)) ≡ take (i * m) ps ++ (chunk m 256 u ++ drop (i * m + m) ps) =
      chunk_replace 256 (N * m) (i * m) m u s (omega (arith, mul-le-mul_right m h, suc-mul i m)) k segment_fits in
      let e : (i + 1) * m ≡ i * m + m = omega arith in
      let b : chunk N m (take (i * m) ps ++ (chunk m 256 u ++ drop ((i + 1) * m) ps)) ≡ take i (chunk N m ps) ++ (chunk 1 m (chunk m 256 u) ++ drop (i + 1) (chunk N m ps)) =
      chunk_replace m N i 1 (chunk m 256 u) ps (omega arith) (chunk_length m 256 u ∙ omega arith) (omega (arith, mul-le-mul_right m h, suc-mul i m)) in
      ap (λ (y : List Page). chunk N m y) a ∙ (rw e at b) ∙ ap (λ (y : List (List Page)). take i (chunk N m ps) ++ (y ++ drop (i + 1) (chunk N m ps))) (single (chunk m 256 u) (chunk_length m 256 u))
      ∙ replace_part (chunk N m ps) i (chunk m 256 u) (omega (arith, chunk_length N m ps))
    where
      single : (x : List Page) → length x ≡ B + 1 → chunk 1 (B + 1) x ≡ x ∷ []
      single x q = unfold chunk in ap {B = List (List Page)} (λ (y : List Page). y ∷ []) (lib.Seq.take_all (B + 1) x (omega arith))

  pub erased_image : step B (erase i) s ≡ with_segment B i (erased ((B + 1) * 256)) s
  unfolding step
  erased_image = rw (le-leb ((i * (B + 1) + (B + 1)) * 256) (length s) segment_fits)
