-- The recovery of (b), cut. Whatever a cut erase leaves of the old segment, the top stays the top: if that segment looks in use, then with the number that it had.
use Rattle.std.specs.Prelude.{ℕ, zero, suc, ◌+◌, ◌-◌, ◌*◌, ◌%◌, ◌≤◌, ◌<◌, ◌≡◌, ◌⊎◌, true, length, set}
use Rattle.std.proofs.Math.Path.{refl, subst}
use Rattle.std.proofs.Common.{sym, ap, ◌∙◌, inl, inr, arith, length-append}
use Rattle.std.proofs.Math.Logic.{⊎_elim}
use mathlib.Core.List.{List, [], ◌∷◌, ◌++◌}
use Rattle.std.proofs.Math.ListN.{get_or}
use Rattle.std.proofs.lemmas.List.{set-get_or}
use Rattle.model.specs.Chip.{Image, Page, erase, erased, with_segment, segment_bytes, step, run, right_size, Raised, Cut}
use Rattle.model.specs.Header.{number_bytes, inverted, header_number}
use Rattle.model.specs.State.{Segment, blank, invalid, in_use, segment_of, segments_of, number_after, next_number, top_settled, case_b, unfinished, state_of, state}
use Rattle.model.specs.Steps.{header_at, settle, mend_steps}
use Rattle.model.specs.Answers.{recover}
use Rattle.model.proofs.Laws.Chip.{size_facts, run_size, whole_cut, cut_append, cut_size}
use Rattle.model.proofs.Laws.Bytes.{within_le, number_bytes_lem, inverted_bytes, number_length, inverted_length, bytes_append, bytes_get, erased_get, erased_length}
use Rattle.model.proofs.Laws.HeaderPage.{number_fits, number_raised}
use Rattle.model.proofs.Laws.Segments.{part_of, erased_image}
use Rattle.model.proofs.Laws.Effects.{in_use_parts, erase_effect}
use Rattle.crash.specs.Sound.{AtLeast, header_byte, SoundAs, Sound, CutOf}
use Rattle.crash.specs.Alike.{like_of}
use Rattle.crash.specs.Tops.{SameTop, same_image, same_trans}
use Rattle.crash.proofs.States.{mended, recover_steps_lem, Kept, recovered_view, kept_same, kept_with, kept_clean, kept_case}
use Rattle.crash.specs.RecoverCount.{header_byte_lem, other_byte, counts}
use Rattle.crash.proofs.RecoverErase.{replaced_byte, raised_segments, raised_byte}
use Rattle.crash.proofs.RecoverOwing.{apart, below, by_old, counted_mended, counted_next, counted_state, inside, left, mended_b, most, replaced_mended, replaced_next, replaced_state, replaced_top_same, rest_segments, settle_whole, settled_same, settled_there, size, two, wiped_segments, wiped_size}

-- ---- bytes that are at least given ones

at_least_get : (at : ℕ) (xs : List ℕ) (s : Image) → AtLeast at xs s → (k : ℕ) → k < length xs → get_or xs k 0 ≤ get_or s (at + k) 0
at_least_get at [] s h k b = absurd (omega arith)
at_least_get at (x ∷ xs) s h zero b = let e : at + 0 ≡ at = omega arith in rw e h.0
at_least_get at (x ∷ xs) s h (suc k) b = let e : at + suc k ≡ suc at + k = omega arith in rw e (at_least_get (suc at) xs s h.1 k (omega arith))

at_least_of : (at : ℕ) (xs : List ℕ) (s : Image) → ((k : ℕ) → k < length xs → get_or xs k 0 ≤ get_or s (at + k) 0) → AtLeast at xs s
at_least_of at [] s f = tt
at_least_of at (x ∷ xs) s f =
    let e : at + 0 ≡ at = omega arith in
    (rw e at (f 0 (omega arith)), at_least_of (suc at) xs s (λ k b. let d : at + suc k ≡ suc at + k = omega arith in rw d at (f (suc k) (omega arith))))

-- a number's bytes and their inverse, as the header has them
abbrev pub both : ℕ → List ℕ
both n = number_bytes n ++ inverted (number_bytes n)

pub both_length : (n : ℕ) → length (both n) ≡ 8
both_length n = omega (arith, length-append (number_bytes n) (inverted (number_bytes n)), number_length n, inverted_length (number_bytes n))

both_bytes : (n k : ℕ) → get_or (both n) k 0 < 256
both_bytes n k = bytes_get (both n) k (bytes_append (number_bytes n) (inverted (number_bytes n)) (number_bytes_lem n) (inverted_bytes (number_bytes n)))

-- bytes 8 to 15 of the header of segment i are at least those of number n
abbrev pub Keeps : ℕ → ℕ → ℕ → Image → Type 0
Keeps B i n u = (k : ℕ) → k < 8 → get_or (both n) k 0 ≤ get_or u (i * (B + 1) * 256 + (8 + k)) 0

keeps_get : (B i n : ℕ) (u : Image) → AtLeast (i * (B + 1) * 256 + 8) (both n) u → Keeps B i n u
keeps_get B i n u h = λ k b. let e : i * (B + 1) * 256 + 8 + k ≡ i * (B + 1) * 256 + (8 + k) = omega arith in rw e at (at_least_get (i * (B + 1) * 256 + 8) (both n) u h k (omega (arith, both_length n)))

pub keeps_of : (B i n : ℕ) (u : Image) → Keeps B i n u → AtLeast (i * (B + 1) * 256 + 8) (both n) u
keeps_of B i n u f = at_least_of (i * (B + 1) * 256 + 8) (both n) u (λ k b. let e : i * (B + 1) * 256 + 8 + k ≡ i * (B + 1) * 256 + (8 + k) = omega arith in rw e (f k (omega (arith, both_length n))))

-- ---- cuts

-- an image with another segment after the top, of which the same can be said, is (b) too and shows the same
keep : (N B : ℕ) (s u : Image) (y : Segment) → right_size N B s ≡ true → state N B s ≡ unfinished case_b → right_size N B u ≡ true
    → segments_of N B u ≡ set (segments_of N B s) (next_number (segments_of N B s) % N) y → number_after y ≤ next_number (segments_of N B s)
    → N ≤ next_number (segments_of N B s) → Keeps B (next_number (segments_of N B s) % N) (next_number (segments_of N B s) - N) u → Kept N B s u
unfolding state
keep N B s u y z e zu q g hn b =
    let m = next_number (segments_of N B s) in
    let f : state N B u ≡ unfinished case_b = ap (λ (v : List Segment). state_of N B v) q ∙ replaced_state N B s z e y g in
    let nn : next_number (segments_of N B u) ≡ m = ap next_number q ∙ replaced_next N B s z e y g in
    let so : SoundAs N B u (segments_of N B u) (unfinished case_b) =
    subst (λ (v : ℕ). (N ≤ v) × AtLeast (header_byte N B v 8) (both (v - N)) u) (sym nn) (hn, (unfold header_at in keeps_of B (m % N) (m - N) u b)) in
    kept_case N B s u case_b z zu e (mended_b N B s z e) f (mended_b N B u zu f)
    (like_of N (mended N (segments_of N B s) case_b) (mended N (segments_of N B u) case_b) (unfold mended in (ap (λ (v : List Segment). top_settled N v) q ∙ replaced_mended N B s z e y g))) so

module _ (N B : ℕ) (s : Image) (z : right_size N B s ≡ true) (e : state N B s ≡ unfinished case_b) (h : Sound N B s) where
  abbrev m : ℕ
  m = next_number (segments_of N B s)

  abbrev j : ℕ
  j = next_number (segments_of N B s) % N

  enough : N ≤ m
  enough = (subst (λ y. SoundAs N B s (segments_of N B s) y) e h).0

  keeps : Keeps B j (m - N) s
  unfolding header_at
  keeps = keeps_get B j (m - N) s (subst (λ y. SoundAs N B s (segments_of N B s) y) e h).1

  -- a segment in use whose header keeps those bytes has the old segment's number
  kept_number : (u : Image) → Keeps B j (m - N) u → number_after (segment_of N B j (part_of N B j u)) ≤ m
  unfolding number_after
  kept_number u b = go (segment_of N B j (part_of N B j u)) refl
    where
      page : Page
      page = get_or (part_of N B j u) 0 []

      go : (x : Segment) → segment_of N B j (part_of N B j u) ≡ x → number_after x ≤ m
      go blank q = omega arith
      go invalid q = omega arith
      go (in_use ver st a ks) q =
          let p = in_use_parts N B j (part_of N B j u) ver st a ks q in
          let small = number_fits N (m - 1) (most N B s z e) (below N B s z e) in
          let r : header_number page ≡ m - N = number_raised N B j page (m - N) (most N B s z e) (omega (arith, two N B s z e)) p.header
          (λ k l. rw (header_byte_lem N B j (8 + k) u (inside N B s z e) (omega arith)) (b k l)) in
          omega (arith, p.number, r, enough, two N B s z e)

  -- an erase cut inside: one segment differs, and keeps those bytes
  module _ (u : Image) (v : List ℕ) (r : Raised (segment_bytes B (next_number (segments_of N B s) % N) s) v) (q : u ≡ with_segment B (next_number (segments_of N B s) % N) v s) where
    raised_new : segments_of N B u ≡ set (segments_of N B s) j (segment_of N B j (part_of N B j u))
    raised_new = subst (λ (y : Image). segments_of N B y ≡ set (segments_of N B s) j (segment_of N B j (part_of N B j y))) (sym q) (raised_segments N B j (inside N B s z e) s (size N B s z e) v r)

    raised_keeps : Keeps B j (m - N) u
    raised_keeps = subst (λ (y : Image). Keeps B j (m - N) y) (sym q) (λ k l.
        let at = j * (B + 1) * 256 + (8 + k) in
        let up = within_le (get_or s at 0) (get_or (with_segment B j v s) at 0) (raised_byte N B j (inside N B s z e) s (size N B s z e) v r (8 + k) (omega arith)) in
        omega (arith, keeps k l))

  erasing : (u : Image) → right_size N B u ≡ true → Cut B (erase j ∷ []) s u → Kept N B s u
  erasing u zu (inl q) = kept_same N B s u h q
  erasing u zu (inr (inl (v, r, q))) = keep N B s u (segment_of N B j (part_of N B j u)) z e zu (raised_new u v r q) (kept_number u (raised_keeps u v r q)) enough (raised_keeps u v r q)
  erasing u zu (inr (inr q)) = keep N B s u blank z e zu (ap (λ y. segments_of N B y) q ∙ erase_effect N B (two N B s z e) s (size N B s z e) j (inside N B s z e))
      (unfold number_after in omega arith) enough (subst (λ (y : Image). Keeps B j (m - N) y) (sym (q ∙ erased_image N B j (inside N B s z e) s (size N B s z e))) (λ k l.
      let byte = replaced_byte N B j (inside N B s z e) s (size N B s z e) (erased ((B + 1) * 256)) (erased_length ((B + 1) * 256)) (8 + k) (omega arith) in
      omega (arith, byte, erased_get ((B + 1) * 256) (8 + k) (omega arith), both_bytes (m - N) k)))

  -- the erase changes the old segment alone, and leaves it no larger number
  pub erasing_left : (u : Image) → Cut B (erase (next_number (segments_of N B s) % N) ∷ []) s u
      → (u ≡ s) ⊎ ((y : Segment) × (segments_of N B u ≡ set (segments_of N B s) (next_number (segments_of N B s) % N) y) × (number_after y ≤ next_number (segments_of N B s)))
  erasing_left u (inl q) = inl q
  erasing_left u (inr (inl (v, r, q))) = inr (segment_of N B j (part_of N B j u), raised_new u v r q, kept_number u (raised_keeps u v r q))
  erasing_left u (inr (inr q)) = inr (blank, ap (λ y. segments_of N B y) q ∙ erase_effect N B (two N B s z e) s (size N B s z e) j (inside N B s z e), (unfold number_after in omega arith))

  -- the top is the same
  erasing_top : (u : Image) → Cut B (erase j ∷ []) s u → SameTop N B s u
  erasing_top u c = ⊎_elim (λ q. same_image N B s u q) (λ q. replaced_top_same N B s z e q.0 q.2 u q.1) (erasing_left u c)

  pub rest_top : (u : Image) → Cut B (erase (next_number (segments_of N B s) % N) ∷ settle N B (next_number (segments_of N B s) - 1)) s u → SameTop N B s u
  unfolding run
  rest_top u c =
      let t = step B (erase j) s in
      let erased = erasing_top t (whole_cut B (erase j ∷ []) s) in
      ⊎_elim (λ d. erasing_top u d)
      (λ d. ⊎_elim (λ q. same_trans N B s t u erased (same_image N B t u q))
      (λ q. same_trans N B s t u erased (settled_same N B s z e t (wiped_size N B s z e) (wiped_segments N B s z e) u q))
      (settle_whole N B s z e t (wiped_size N B s z e) (wiped_segments N B s z e) u d))
      (cut_append B (erase j ∷ []) (settle N B (m - 1)) s u c)

  -- the erase and the status cut, as a compaction ends too
  pub rest_cut : (u : Image) → Cut B (erase (next_number (segments_of N B s) % N) ∷ settle N B (next_number (segments_of N B s) - 1)) s u → Kept N B s u
  unfolding run
  rest_cut u c =
      let t = step B (erase j) s in
      let erased = erasing t (run_size N B (erase j ∷ []) s ∙ z) (whole_cut B (erase j ∷ []) s) in
      ⊎_elim (λ d. erasing u (cut_size N B (erase j ∷ []) s u d ∙ z) d)
      (λ d. ⊎_elim (λ q. subst (λ (y : Image). Kept N B s y) (sym q) erased)
      (λ q. kept_clean N B s case_b z e (mended_b N B s z e) u (like_of N (mended N (segments_of N B s) case_b) (segments_of N B u) (ap (λ y. segments_of N B y) q ∙ rest_segments N B s z e)))
      (settle_whole N B s z e t (wiped_size N B s z e) (wiped_segments N B s z e) u d))
      (cut_append B (erase j ∷ []) (settle N B (m - 1)) s u c)

  -- the count cut
  pub counted_kept : (u : Image) → Cut B (counts N B (segments_of N B s)) s u → Kept N B s u
  unfolding header_at
  counted_kept u d =
      let zu = cut_size N B (counts N B (segments_of N B s)) s u d ∙ z in
      let f = counted_state N B s z e u d in
      let bytes : Keeps B j (m - N) u = λ k l. rw (other_byte N B ((m - 1) % N) j (8 + k) s u (left N B s z e u d).0 (λ q. apart N B s z e (sym q)) (inside N B s z e) (omega arith)) (keeps k l) in
      kept_case N B s u case_b z zu e (mended_b N B s z e) f (mended_b N B u zu f) (counted_mended N B s z e u d)
      (subst (λ (v : ℕ). (N ≤ v) × AtLeast (header_byte N B v 8) (both (v - N)) u) (sym (counted_next N B s z e u d)) (enough, keeps_of B j (m - N) u bytes))

-- the top after the count, and where the old segment is blank already
module _ (N B : ℕ) (s : Image) (z : right_size N B s ≡ true) (e : state N B s ≡ unfinished case_b) (h : Sound N B s) where
  pub ended_top : (u : Image) → Cut B (erase (next_number (segments_of N B s) % N) ∷ settle N B (next_number (segments_of N B s) - 1)) (run B (counts N B (segments_of N B s)) s) u
      → SameTop N B (run B (counts N B (segments_of N B s)) s) u
  ended_top u d =
      let t = run B (counts N B (segments_of N B s)) s in
      let first = whole_cut B (counts N B (segments_of N B s)) s in
      rest_top N B t (run_size N B (counts N B (segments_of N B s)) s ∙ z) (counted_state N B s z e t first) (counted_kept N B s z e h t first).0 u (rw (counted_next N B s z e t first) d)

  pub settled_top : get_or (segments_of N B s) (next_number (segments_of N B s) % N) blank ≡ blank → (u : Image) → Cut B (settle N B (next_number (segments_of N B s) - 1)) s u → SameTop N B s u
  settled_top q u d =
      let i = next_number (segments_of N B s) % N in
      let same : segments_of N B s ≡ set (segments_of N B s) i blank = sym (ap (λ (y : Segment). set (segments_of N B s) i y) (sym q) ∙ set-get_or (segments_of N B s) i blank) in
      let whole = (size_facts N B s z).whole in
      ⊎_elim (λ w. same_image N B s u w) (λ w. settled_same N B s z e s whole same u w) (settle_whole N B s z e s whole same u d)

-- the recovery cut
pub cut_b : (N B : ℕ) (s : Image) (z : right_size N B s ≡ true) (e : state N B s ≡ unfinished case_b) → Sound N B s → (u : Image) → CutOf N B s recover u → Kept N B s u
cut_b N B s z e h u c = by_old N B s z e (Kept N B s u) blank_old (λ q d. counted_old (rw (recover_steps_lem N B s case_b z e ∙ d) at c))
  where
    l' : List Segment
    l' = segments_of N B s

    blank_old : get_or (segments_of N B s) (next_number (segments_of N B s) % N) blank ≡ blank → mend_steps N B (segments_of N B s) case_b ≡ settle N B (next_number (segments_of N B s) - 1) → Kept N B s u
    blank_old q d =
        let same : segments_of N B s ≡ set l' (next_number l' % N) blank = sym (ap (λ (y : Segment). set l' (next_number l' % N) y) (sym q) ∙ set-get_or l' (next_number l' % N) blank) in
        let whole = (size_facts N B s z).whole in
        ⊎_elim (λ w. kept_same N B s u h w)
        (λ w. kept_clean N B s case_b z e (mended_b N B s z e) u (like_of N (mended N l' case_b) (segments_of N B u) (ap (λ y. segments_of N B y) w ∙ settled_there N B s z e s whole same)))
        (settle_whole N B s z e s whole same u (rw (recover_steps_lem N B s case_b z e ∙ d) at c))

    t : Image
    t = run B (counts N B (segments_of N B s)) s

    first : Cut B (counts N B (segments_of N B s)) s t
    first = whole_cut B (counts N B (segments_of N B s)) s

    counted_old : Cut B (counts N B (segments_of N B s) ++ (erase (next_number (segments_of N B s) % N) ∷ settle N B (next_number (segments_of N B s) - 1))) s u → Kept N B s u
    counted_old d = ⊎_elim (λ k. counted_kept N B s z e h u k)
        (λ k. kept_with N B t u (recovered_view N B s) (counted_kept N B s z e h t first)
        (rest_cut N B t (run_size N B (counts N B (segments_of N B s)) s ∙ z) (counted_state N B s z e t first) (counted_kept N B s z e h t first).0 u (rw (counted_next N B s z e t first) k)))
        (cut_append B (counts N B (segments_of N B s)) (erase (next_number (segments_of N B s) % N) ∷ settle N B (next_number (segments_of N B s) - 1)) s u d)
