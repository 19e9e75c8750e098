-- An erase that is cut inside: it changes one segment only, and bits of that only rise. With it the recovery of (a), whole and cut.
use Rattle.std.specs.Prelude.{ℕ, ◌+◌, ◌-◌, ◌*◌, ◌/◌, ◌%◌, ◌≤◌, ◌<◌, ◌≡◌, ◌⊎◌, Bool, false, cond, length}
use Rattle.std.proofs.Math.Path.{refl, ap, subst}
use Rattle.std.proofs.Common.{sym, ◌∙◌, inl, inr, ⊎_elim, arith, length-set, get_or-take, get_or-append-add, length-take-le}
use Rattle.std.proofs.Math.Bool.{true}
use Rattle.std.proofs.lemmas.Bool.{false≢true}
use mathlib.Core.List.{List, [], ◌∷◌, ◌++◌}
use Rattle.std.proofs.Math.ListN.{get_or, take, drop, set, get_or-append}
use Rattle.std.proofs.lemmas.List.{set-get_or}
use Rattle.std.proofs.Math.Seq.{get_or-drop}
use Rattle.model.specs.Lists.{chunk}
use Rattle.model.specs.Chip.{Image, Page, erase, clear, with_segment, segment_bytes, run, image_length, right_size, Raised, Cut}
use Rattle.model.specs.Header.{all_blank}
use Rattle.model.specs.State.{Segment, blank, invalid, in_use, segment_of, segments_of, is_invalid, number_after, version_in, next_number, top_index, next_index, is_clean, next_blanked, is_a, case_a, unfinished, state_of, state}
use Rattle.model.specs.Steps.{header_at, erase_next, mend_steps}
use Rattle.model.specs.Answers.{recover}
use Rattle.model.specs.Histories.{recovered}
use Rattle.model.specs.Laws.Lists.{and_left, and_right}
use Rattle.model.proofs.Laws.Chip.{size_facts, raised_length, run_size, run_append, whole_cut, cut_append, cut_size}
use Rattle.model.proofs.Laws.Bytes.{raised_get, bit_6_kept}
use Rattle.model.proofs.Laws.HeaderPage.{bit_6_unused}
use Rattle.model.proofs.Laws.Segments.{part_of, Only, only_part, only_segments, replaced_parts, segment_fits, segment_bytes_length, segments_length}
use Rattle.model.proofs.Laws.Effects.{index, erase_effect}
use Rattle.model.proofs.Laws.Ring.{next_kept}
use Rattle.model.proofs.Laws.Clean.{clean_ring, used_next}
use Rattle.crash.specs.Sound.{SoundAs, Sound, CutOf}
use Rattle.crash.specs.Alike.{Like, like_of, index_apart, like_next, like_blanked, like_a}
use Rattle.crash.specs.RecoverCount.{header_byte_lem, other_byte, counts, counted_like}
use Rattle.crash.specs.Tops.{SameTop, same_set}
use Rattle.crash.proofs.States.{is_case, mended, case_of, state_case, recover_steps_lem, recovered_run, Kept, recovered_view, kept_same, kept_with, Mended, kept_clean, kept_case}

-- ---- a segment's bytes replaced, and an erase cut inside

module _ (N B i : ℕ) (h : i < N) (s : Image) (z : length s ≡ image_length N B) (v : List ℕ) where
  pub replaced_byte : length v ≡ (B + 1) * 256 → (k : ℕ) → k < 256 → get_or (with_segment B i v s) (i * (B + 1) * 256 + k) 0 ≡ get_or v k 0
  unfolding with_segment
  replaced_byte e k l =
      let front = take (i * (B + 1) * 256) s in
      let rest = drop ((i * (B + 1) + (B + 1)) * 256) s in
      ap (λ (y : ℕ). get_or (front ++ (v ++ rest)) (y + k) 0) (sym (length-take-le (i * (B + 1) * 256) s (omega (arith, segment_fits N B i h s z))))
      ∙ (get_or-append-add front (v ++ rest) k 0 ∙ get_or-append v rest 0 k (omega arith))

  module _ (r : Raised (segment_bytes B i s) v) where
    raised_size : length v ≡ (B + 1) * 256
    raised_size = raised_length (segment_bytes B i s) v r ∙ segment_bytes_length N B i h s z

    pub raised_segments : segments_of N B (with_segment B i v s) ≡ set (segments_of N B s) i (segment_of N B i (part_of N B i (with_segment B i v s)))
    raised_segments = only_segments N B i s (with_segment B i v s) (only_part N B i s (with_segment B i v s) (chunk (B + 1) 256 v) h (replaced_parts N B i h s z v raised_size)).0

    -- byte k of the header has every bit that it had
    pub raised_byte : (k : ℕ) → k < 256 → clear (get_or s (i * (B + 1) * 256 + k) 0) (get_or (with_segment B i v s) (i * (B + 1) * 256 + k) 0) ≡ get_or s (i * (B + 1) * 256 + k) 0
    raised_byte k l = rw (← old, replaced_byte raised_size k l) (raised_get (segment_bytes B i s) v r k)
      where
        old : get_or (segment_bytes B i s) k 0 ≡ get_or s (i * (B + 1) * 256 + k) 0
        old = unfold segment_bytes in (get_or-take ((B + 1) * 256) (drop (i * (B + 1) * 256) s) k 0 (omega arith) ∙ get_or-drop (i * (B + 1) * 256) s k 0)

-- with bit 6 of its status set, a segment is blank or invalid
pub unused_segment : (N B i : ℕ) (ps : List Page) → get_or (get_or ps 0 []) 5 0 / 64 % 2 ≡ 1 → (segment_of N B i ps ≡ blank) ⊎ (segment_of N B i ps ≡ invalid)
unfolding segment_of
unused_segment N B i ps e = rw (bit_6_unused N B i (get_or ps 0 []) e) (go (all_blank ps))
  where
    go : (t : Bool) → (cond t blank invalid ≡ blank) ⊎ (cond t blank invalid ≡ invalid)
    go true = inl refl
    go false = inr refl

-- ---- (a)

module _ (N B : ℕ) (s : Image) (z : right_size N B s ≡ true) (e : state N B s ≡ unfinished case_a) where
  abbrev l : List Segment
  l = segments_of N B s

  -- the segment after the top
  abbrev i : ℕ
  i = next_number l % N

  size : length s ≡ image_length N B
  size = (size_facts N B s z).whole

  inside : i < N
  inside = index N B (size_facts N B s z).two s size (next_number l)

  pub torn_segment : get_or (segments_of N B s) (next_number (segments_of N B s) % N) blank ≡ invalid
  unfolding state is_case is_a next_index
  torn_segment = is_invalid_lem (get_or l i blank) (and_left (is_invalid (get_or l i blank)) (is_clean N B (next_blanked N l)) (case_of N B l case_a e))
    where
      is_invalid_lem : (x : Segment) → is_invalid x ≡ true → x ≡ invalid
      is_invalid_lem blank q = absurd (false≢true (unfold is_invalid in q))
      is_invalid_lem invalid q = refl
      is_invalid_lem (in_use ver st n ks) q = absurd (false≢true (unfold is_invalid in q))

  blanked_same : next_number (next_blanked N l) ≡ next_number l
  unfolding next_blanked next_index number_after
  blanked_same = next_kept l i blank (ap number_after (sym torn_segment))

  -- there is a top: a clean image has one
  pub some : 0 < next_number l
  unfolding state is_case is_a
  some =
      let c = and_right (is_invalid (get_or l (next_index N l) blank)) (is_clean N B (next_blanked N l)) (case_of N B l case_a e) in
      let r = clean_ring N B (next_blanked N l) (unfold next_blanked in (length-set l (next_index N l) blank ∙ segments_length N B s)) c in
      omega (arith, r.some, used_next N (next_blanked N l) r, blanked_same)

  pub steps_a : mend_steps N B l case_a ≡ counts N B l ++ (erase i ∷ [])
  unfolding mend_steps erase_next next_index
  steps_a = refl

  mended_is : mended N l case_a ≡ set l i blank
  unfolding mended next_blanked next_index
  mended_is = refl

  bit_a : Sound N B s → get_or s (i * (B + 1) * 256 + 5) 0 / 64 % 2 ≡ 1
  unfolding header_at
  bit_a h = subst (λ y. SoundAs N B s l y) e h

  -- counted, it is (a) still, and is mended to the same
  module _ (u : Image) (c : Cut B (counts N B (segments_of N B s)) s u) where
    left : Only N B ((next_number l - 1) % N) s u × Like N l (segments_of N B u)
    left = counted_like N B s z some u c

    abbrev m : List Segment
    m = segments_of N B u

    two : 2 ≤ N
    two = (size_facts N B s z).two

    in_list : top_index N l < length l
    unfolding top_index
    in_list = omega (arith, index N B two s size (next_number l - 1), segments_length N B s)

    pub counted_state : state N B u ≡ unfinished case_a
    unfolding state is_case
    counted_state = state_case N B m case_a (segments_length N B u) (like_a N B l m left.1 (segments_length N B s) two some blanked_same (case_of N B l case_a e))

    counted_mended : Like N (mended N l case_a) (mended N m case_a)
    unfolding mended
    counted_mended = like_blanked N l m left.1 in_list (segments_length N B s) two some blanked_same

    pub counted_next : next_number m ≡ next_number l
    counted_next = like_next N l m left.1 in_list

    counted_bit : Sound N B s → SoundAs N B u m (unfinished case_a)
    unfolding header_at
    counted_bit h = rw counted_next (ap (λ (y : ℕ). y / 64 % 2) (other_byte N B ((next_number l - 1) % N) i 5 s u left.0 (λ q. index_apart N (next_number l) two some (sym q)) inside (omega arith)) ∙ bit_a h)

  abbrev s1 : Image
  s1 = run B (counts N B l) s

  z1 : right_size N B s1 ≡ true
  z1 = run_size N B (counts N B l) s ∙ z

  pub mended_a : Mended N B s case_a
  unfolding run
  mended_a =
      let c = whole_cut B (counts N B l) s in
      let same : segments_of N B (recovered N B s) ≡ mended N (segments_of N B s1) case_a =
      ap (λ y. segments_of N B y) (recovered_run N B s case_a z e ∙ (ap (λ y. run B y s) steps_a ∙ run_append B (counts N B l) (erase i ∷ []) s))
      ∙ (erase_effect N B (size_facts N B s z).two s1 (size_facts N B s1 z1).whole i inside
      ∙ (unfold mended next_blanked next_index in ap (λ (y : ℕ). set (segments_of N B s1) (y % N) blank) (sym (counted_next s1 c)))) in
      subst (λ (y : List Segment). Like N (mended N l case_a) y) (sym same) (counted_mended s1 c)

-- an image with the same segments and the bit is (a) too, and shows the same
same_segments : (N B : ℕ) (s u : Image) → right_size N B s ≡ true → right_size N B u ≡ true → state N B s ≡ unfinished case_a → segments_of N B u ≡ segments_of N B s
    → get_or u (next_number (segments_of N B s) % N * (B + 1) * 256 + 5) 0 / 64 % 2 ≡ 1 → Kept N B s u
unfolding state header_at
same_segments N B s u z zu e q b =
    let f : state N B u ≡ unfinished case_a = ap (λ y. state_of N B y) q ∙ e in
    kept_case N B s u case_a z zu e (mended_a N B s z e) f (mended_a N B u zu f) (like_of N (mended N (segments_of N B s) case_a) (mended N (segments_of N B u) case_a) (ap (λ y. mended N y case_a) q))
    (subst (λ (y : List Segment). get_or u (next_number y % N * (B + 1) * 256 + 5) 0 / 64 % 2 ≡ 1) (sym q) b)

-- the erase cut
erase_cut : (N B : ℕ) (s u : Image) → right_size N B s ≡ true → state N B s ≡ unfinished case_a → Sound N B s → Cut B (erase (next_number (segments_of N B s) % N) ∷ []) s u → Kept N B s u
erase_cut N B s u z e h c = go c
  where
    l' : List Segment
    l' = segments_of N B s

    k : ℕ
    k = next_number (segments_of N B s) % N

    zu : right_size N B u ≡ true
    zu = cut_size N B (erase k ∷ []) s u c ∙ z

    blanked : segments_of N B u ≡ set l' k blank → Kept N B s u
    blanked q = kept_clean N B s case_a z e (mended_a N B s z e) u (like_of N (mended N l' case_a) (segments_of N B u) (q ∙ sym (mended_is N B s z e)))

    go : Cut B (erase k ∷ []) s u → Kept N B s u
    go (inl q) = kept_same N B s u h q
    go (inr (inl (v, r, q))) = ⊎_elim
        (λ p. blanked (new ∙ ap (λ (y : Segment). set l' k y) p))
        (λ p. same_segments N B s u z zu e (new ∙ (ap (λ (y : Segment). set l' k y) (p ∙ sym (torn_segment N B s z e)) ∙ set-get_or l' k blank)) bit)
        (unused_segment N B k (part_of N B k u) (rw (header_byte_lem N B k 5 u (inside N B s z e) (omega arith)) bit))
      where
        bit : get_or u (k * (B + 1) * 256 + 5) 0 / 64 % 2 ≡ 1
        bit = bit_6_kept (get_or s (k * (B + 1) * 256 + 5) 0) (get_or u (k * (B + 1) * 256 + 5) 0)
            (subst (λ (y : Image). clear (get_or s (k * (B + 1) * 256 + 5) 0) (get_or y (k * (B + 1) * 256 + 5) 0) ≡ get_or s (k * (B + 1) * 256 + 5) 0) (sym q)
            (raised_byte N B k (inside N B s z e) s (size N B s z e) v r 5 (omega arith)))
            (bit_a N B s z e h)

        new : segments_of N B u ≡ set l' k (segment_of N B k (part_of N B k u))
        new = subst (λ (y : Image). segments_of N B y ≡ set l' k (segment_of N B k (part_of N B k y))) (sym q) (raised_segments N B k (inside N B s z e) s (size N B s z e) v r)
    go (inr (inr q)) = blanked (ap (λ y. segments_of N B y) q ∙ erase_effect N B (size_facts N B s z).two s (size N B s z e) k (inside N B s z e))

-- whatever the erase leaves of that segment is blank or invalid
pub erase_left : (N B : ℕ) (s u : Image) → right_size N B s ≡ true → state N B s ≡ unfinished case_a → Sound N B s → Cut B (erase (next_number (segments_of N B s) % N) ∷ []) s u
    → (y : Segment) × (segments_of N B u ≡ set (segments_of N B s) (next_number (segments_of N B s) % N) y) × ((y ≡ blank) ⊎ (y ≡ invalid))
erase_left N B s u z e h c = go c
  where
    k : ℕ
    k = next_number (segments_of N B s) % N

    go : Cut B (erase k ∷ []) s u → (y : Segment) × (segments_of N B u ≡ set (segments_of N B s) k y) × ((y ≡ blank) ⊎ (y ≡ invalid))
    go (inl q) = (invalid, ap (λ y. segments_of N B y) q ∙ sym (ap (λ (y : Segment). set (segments_of N B s) k y) (sym (torn_segment N B s z e)) ∙ set-get_or (segments_of N B s) k blank), inr refl)
    go (inr (inl (v, r, q))) = (segment_of N B k (part_of N B k u), new, unused_segment N B k (part_of N B k u) (rw (header_byte_lem N B k 5 u (inside N B s z e) (omega arith)) bit))
      where
        bit : get_or u (k * (B + 1) * 256 + 5) 0 / 64 % 2 ≡ 1
        bit = bit_6_kept (get_or s (k * (B + 1) * 256 + 5) 0) (get_or u (k * (B + 1) * 256 + 5) 0)
            (subst (λ (y : Image). clear (get_or s (k * (B + 1) * 256 + 5) 0) (get_or y (k * (B + 1) * 256 + 5) 0) ≡ get_or s (k * (B + 1) * 256 + 5) 0) (sym q)
            (raised_byte N B k (inside N B s z e) s (size N B s z e) v r 5 (omega arith)))
            (bit_a N B s z e h)

        new : segments_of N B u ≡ set (segments_of N B s) k (segment_of N B k (part_of N B k u))
        new = subst (λ (y : Image). segments_of N B y ≡ set (segments_of N B s) k (segment_of N B k (part_of N B k y))) (sym q) (raised_segments N B k (inside N B s z e) s (size N B s z e) v r)
    go (inr (inr q)) = (blank, ap (λ y. segments_of N B y) q ∙ erase_effect N B (size_facts N B s z).two s (size N B s z e) k (inside N B s z e), inl refl)

-- the top is the same
erase_top : (N B : ℕ) (s u : Image) → right_size N B s ≡ true → state N B s ≡ unfinished case_a → Sound N B s → Cut B (erase (next_number (segments_of N B s) % N) ∷ []) s u → SameTop N B s u
unfolding number_after version_in
erase_top N B s u z e h c =
    let (y, q, k) = erase_left N B s u z e h c in
    let old = torn_segment N B s z e in
    same_set N B s u (next_number (segments_of N B s) % N) y q (⊎_elim (λ d. ap number_after d) (λ d. ap number_after d) k ∙ ap number_after (sym old)) (⊎_elim (λ d. ap version_in d) (λ d. ap version_in d) k ∙ ap version_in (sym old))

-- the count cut
pub counted_kept : (N B : ℕ) (s w : Image) (z : right_size N B s ≡ true) (e : state N B s ≡ unfinished case_a) → Sound N B s → Cut B (counts N B (segments_of N B s)) s w → Kept N B s w
counted_kept N B s w z e h d =
    let zw = cut_size N B (counts N B (segments_of N B s)) s w d ∙ z in
    let f = counted_state N B s z e w d in
    kept_case N B s w case_a z zw e (mended_a N B s z e) f (mended_a N B w zw f) (counted_mended N B s z e w d) (counted_bit N B s z e w d h)

-- the erase after the count
module _ (N B : ℕ) (s : Image) (z : right_size N B s ≡ true) (e : state N B s ≡ unfinished case_a) (h : Sound N B s) where
  abbrev t : Image
  t = run B (counts N B (segments_of N B s)) s

  whole : Cut B (counts N B (segments_of N B s)) s t
  whole = whole_cut B (counts N B (segments_of N B s)) s

  pub cut_a : (u : Image) → CutOf N B s recover u → Kept N B s u
  cut_a u c = ⊎_elim (λ d. counted_kept N B s u z e h d)
      (λ d. kept_with N B t u (recovered_view N B s) (counted_kept N B s t z e h whole)
      (erase_cut N B t u (z1 N B s z e) (counted_state N B s z e t whole) (counted_kept N B s t z e h whole).0 (rw (counted_next N B s z e t whole) d)))
      (cut_append B (counts N B (segments_of N B s)) (erase (next_number (segments_of N B s) % N) ∷ []) s u (rw (recover_steps_lem N B s case_a z e ∙ steps_a N B s z e) at c))

  pub erased_top : (u : Image) → Cut B (erase (next_number (segments_of N B s) % N) ∷ []) (run B (counts N B (segments_of N B s)) s) u → SameTop N B (run B (counts N B (segments_of N B s)) s) u
  erased_top u d = erase_top N B t u (z1 N B s z e) (counted_state N B s z e t whole) (counted_kept N B s t z e h whole).0 (rw (counted_next N B s z e t whole) d)
