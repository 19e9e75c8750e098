-- The survey of an image by its cases: the top owing, the segment after it torn, or neither.
use Rattle.std.specs.Prelude.{ℕ, ◌+◌, ◌-◌, ◌*◌, ◌≤◌, ◌<◌, ◌≡◌, Bool, ◌||◌, not, List, length, get_or, leb, eqb}
use Rattle.std.proofs.Math.Path.{refl, sym, ap}
use Rattle.std.proofs.Common.{◌∙◌, subst, arith}
use Rattle.std.proofs.Math.Bool.{true, false, cond, and-eq-true_iff}
use Rattle.std.proofs.Math.ListN.{length-set}
use Rattle.model.specs.Chip.{Image}
use Rattle.model.specs.State.{Segment, blank, segments_of, is_in_use, is_invalid, is_owing, next_number, top_index, next_index, used_count, first_number, slots_from, numbers_from, view_of, entries_in, holds, capacity, next_blanked, top_settled, filled, last_slot, place_of, last_block, older, Exception, case_a, case_b, case_c, case_d, State, clean, unfinished, damaged, state_of}
use Rattle.model.specs.Steps.{slot_at, top_row, compactions}
use Rattle.model.proofs.Laws.Ring.{slots_length}
use Rattle.model.proofs.Laws.Segments.{segments_length}
use Rattle.judge.specs.declared.Sum.{Sum}
use Rattle.sums.specs.declared.Exam.{Exam}
use Rattle.sums.specs.Exams.{exam_of}
use Rattle.scan.specs.declared.Surveyed.TheVariants.{Clean, TornSegment, ErasePending, TornSlot, OldSlot, Damaged}
use Rattle.judge.specs.Endings.{in_order, ends_torn, ends_twin}
use Rattle.judge.specs.Cases.{frame, mended_state, state_by, state_by_lem, frame_ring, view_top, view_block}
use Rattle.judge.specs.Heads.{frame_of}
use Rattle.judge.specs.Tally.{bad_sum}
use Rattle.judge.specs.Verdict.{orderly, torn_within, twin_within, verdict}
use Rattle.judge.proofs.VerdictLaws.{Told}
use Rattle.find.specs.Search.{found_in}
use Rattle.scan.specs.Surveys.{survey_in, mend_in, survey_of}
use Rattle.scan.specs.SurveyLaws.{Within, within_same, within_blanked, within_settled, exam_told, exam_sum, exam_orderly, exam_verdict}

module _ (N B : ℕ) (s : Image) (some : 0 < N) where
  abbrev l : List Segment
  l = segments_of N B s

  -- a list of segments examined
  abbrev pub examined : List Segment → Exam
  examined m = exam_of N B s (frame_of N m)

  size : length l ≡ N
  size = segments_length N B s

  survey_at : (x : State) → state_of N B l ≡ x → survey_of N B l ≡ survey_in N B l x
  unfolding survey_of
  survey_at x e = ap (survey_in N B l) e

  mended_state_lem : (x : Exception) (m : List Segment) → length m ≡ N → Within m l → mended_state N B x m ≡ cond (orderly (capacity N B) (examined m).sum) (unfinished x) damaged
  unfolding mended_state
  mended_state_lem x m z w = rw (exam_orderly N B s some m z w)

  -- ---- the top is owing

  blanked_size : length (next_blanked N l) ≡ N
  unfolding next_blanked
  blanked_size = length-set l (next_index N l) blank ∙ size

  settled_size : length (top_settled N l) ≡ N
  unfolding top_settled
  settled_size = length-set (next_blanked N l) (top_index N l) _ ∙ blanked_size

  module _ (owing : is_owing (get_or l (top_index N l) blank) ≡ true) where
    owing_state : state_of N B l ≡ cond (eqb (used_count (top_settled N l)) (N - 1)) (cond (orderly (capacity N B) (examined (top_settled N l)).sum) (unfinished case_b) damaged) damaged
    unfolding state_by
    owing_state = state_by_lem N B l size some ∙ rw (owing, mended_state_lem case_b (top_settled N l) settled_size (within_settled N l size some))

    pub owing_few : eqb (used_count (top_settled N l)) (N - 1) ≡ false → survey_of N B l ≡ Damaged
    unfolding survey_in
    owing_few e = survey_at damaged (owing_state ∙ rw e)

    pub owing_bad : orderly (capacity N B) (examined (top_settled N l)).sum ≡ false → survey_of N B l ≡ Damaged
    unfolding survey_in
    owing_bad e = survey_at damaged (owing_state ∙ (rw e (same (eqb (used_count (top_settled N l)) (N - 1)))))
      where
        same : (t : Bool) → cond t damaged damaged ≡ damaged
        same true = refl
        same false = refl

    pub owing_good : eqb (used_count (top_settled N l)) (N - 1) ≡ true → orderly (capacity N B) (examined (top_settled N l)).sum ≡ true
        → survey_of N B l ≡ ErasePending (record { 0 = next_number l - 1 }) (not (is_in_use (get_or l (next_index N l) blank) || is_invalid (get_or l (next_index N l) blank)))
    unfolding survey_in mend_in
    owing_good e g = survey_at (unfinished case_b) (owing_state ∙ rw (e, g))

  -- ---- the segment after the top is torn

  module _ (paid : is_owing (get_or l (top_index N l) blank) ≡ false) (torn : is_invalid (get_or l (next_index N l) blank) ≡ true) where
    torn_state : state_of N B l ≡ cond (orderly (capacity N B) (examined (next_blanked N l)).sum) (unfinished case_a) damaged
    unfolding state_by
    torn_state = state_by_lem N B l size some ∙ rw (paid, torn, mended_state_lem case_a (next_blanked N l) blanked_size (within_blanked N l))

    pub torn_bad : orderly (capacity N B) (examined (next_blanked N l)).sum ≡ false → survey_of N B l ≡ Damaged
    unfolding survey_in
    torn_bad e = survey_at damaged (torn_state ∙ rw e)

    pub torn_good : orderly (capacity N B) (examined (next_blanked N l)).sum ≡ true → survey_of N B l ≡ TornSegment (record { 0 = next_number l - 1 })
    unfolding survey_in mend_in
    torn_good e = survey_at (unfinished case_a) (torn_state ∙ rw e)

  -- ---- neither: the slots decide

  exam_framed : (p : Sum → Bool) → p bad_sum ≡ false → p (examined l).sum ≡ true → frame N l ≡ true
  exam_framed p b h = go (frame N l) refl
    where
      go : (t : Bool) → frame N l ≡ t → t ≡ true
      go true e = refl
      go false e = let q : (examined l).sum ≡ bad_sum = exam_sum N B s some l ∙ rw e in sym b ∙ (ap p (sym q) ∙ h)

  -- tests that sums of rows that were not looked at fail
  bad_sums : (C : ℕ) → (orderly C bad_sum ≡ false) × (torn_within C bad_sum ≡ false) × (twin_within C bad_sum ≡ false)
  unfolding orderly torn_within twin_within bad_sum in_order ends_torn ends_twin
  bad_sums C = (refl, refl, refl)

  pub framed_orderly : (C : ℕ) → orderly C (examined l).sum ≡ true → frame N l ≡ true
  framed_orderly C h = exam_framed (orderly C) (bad_sums C).0 h

  pub framed_torn : (C : ℕ) → torn_within C (examined l).sum ≡ true → frame N l ≡ true
  framed_torn C h = exam_framed (torn_within C) (bad_sums C).1 h

  pub framed_twin : (C : ℕ) → twin_within C (examined l).sum ≡ true → frame N l ≡ true
  framed_twin C h = exam_framed (twin_within C) (bad_sums C).2 h

  framed_told : (f : frame N l ≡ true) → Told N B (view_of N l) (examined l).sum
  framed_told f = subst (λ (x : Sum). Told N B (view_of N l) x) (sym (exam_sum N B s some l ∙ rw f)) (exam_told N B s some l size (within_same l) f)

  exam_first : (examined l).first ≡ (view_of N l).first
  unfolding exam_of frame_of view_of
  exam_first = refl

  exam_used : (examined l).used ≡ length (view_of N l).slots
  unfolding exam_of frame_of view_of
  exam_used = sym (slots_length N l (used_count l) (first_number l))

  -- some segment is in use
  pub framed_some : frame N l ≡ true → 1 ≤ (examined l).used
  framed_some f = let r = frame_ring N l size f in let e : (examined l).used ≡ used_count l = (unfold exam_of frame_of in refl) in omega (arith, r.some)

  -- as many numbers from the first on are in use
  pub framed_chain : frame N l ≡ true → numbers_from N l (examined l).used (examined l).first ≡ true
  unfolding exam_of frame_of
  framed_chain f = (frame_ring N l size f).chain

  -- and their rows are the view's
  pub exam_found : (b : ℕ) → found_in N B (examined l).first (slots_from N l (examined l).used (examined l).first) b ≡ found_in N B (view_of N l).first (view_of N l).slots b
  unfolding exam_of frame_of view_of
  exam_found b = refl

  pub twin_held : (C : ℕ) → twin_within C (examined l).sum ≡ true → holds (examined l).sum.block.0 (entries_in (view_of N l)) ≡ true
  unfolding entries_in
  twin_held C h = (framed_told (framed_twin C h)).held ((and-eq-true_iff (ends_twin (examined l).sum.ending) (leb (examined l).sum.live C)).0 (unfold twin_within in h)).0

  module _ (paid : is_owing (get_or l (top_index N l) blank) ≡ false) (whole : is_invalid (get_or l (next_index N l) blank) ≡ false) where
    slots_state : state_of N B l ≡ verdict (capacity N B) (examined l).sum
    unfolding state_by
    slots_state = state_by_lem N B l size some ∙ (rw (paid, whole) (exam_verdict N B s some))

    pub slots_clean : orderly (capacity N B) (examined l).sum ≡ true
        → survey_of N B l ≡ Clean (record { 0 = (examined l).first }) (examined l).used (examined l).sum.live (examined l).sum.written (examined l).sum.compactions
    unfolding survey_in
    slots_clean h =
        let t = framed_told (framed_orderly (capacity N B) h) in
        let i : in_order (examined l).sum.ending ≡ true = ((and-eq-true_iff (in_order (examined l).sum.ending) (leb (examined l).sum.live (capacity N B))).0 (unfold orderly in h)).0 in
        survey_at clean (slots_state ∙ clean_verdict) ∙ (rw (exam_first, exam_used, t.live, t.free i, t.compactions) (unfold entries_in in refl))
      where
        clean_verdict : verdict (capacity N B) (examined l).sum ≡ clean
        clean_verdict = unfold verdict in rw h

    pub slots_torn : orderly (capacity N B) (examined l).sum ≡ false → torn_within (capacity N B) (examined l).sum ≡ true
        → survey_of N B l ≡ TornSlot (record { 0 = slot_at N B (next_number l - 1) ((examined l).sum.written - 1) * 256 })
    unfolding survey_in mend_in
    slots_torn o h =
        let f = framed_torn (capacity N B) h in
        let e : ends_torn (examined l).sum.ending ≡ true = ((and-eq-true_iff (ends_torn (examined l).sum.ending) (leb (examined l).sum.live (capacity N B))).0 (unfold torn_within in h)).0 in
        survey_at (unfinished case_c) (slots_state ∙ torn_verdict) ∙ (rw (written f e))
      where
        torn_verdict : verdict (capacity N B) (examined l).sum ≡ unfinished case_c
        torn_verdict = unfold verdict in rw (o, h)

        written : (f : frame N l ≡ true) → ends_torn (examined l).sum.ending ≡ true → (examined l).sum.written - 1 ≡ last_slot N l
        written f e = let r = frame_ring N l size f in
            let w : (examined l).sum.written ≡ filled (top_row (view_of N l).slots) = (framed_told f).last (rw e) in
            ap (λ (k : ℕ). k - 1) (w ∙ ap filled (sym (view_top N B l r f))) ∙ (unfold last_slot in refl)

    pub slots_twin : orderly (capacity N B) (examined l).sum ≡ false → torn_within (capacity N B) (examined l).sum ≡ false → twin_within (capacity N B + 1) (examined l).sum ≡ true
        → survey_of N B l ≡ OldSlot (record { 0 = slot_at N B (place_of (examined l).sum.block.0 (view_of N l)).number (place_of (examined l).sum.block.0 (view_of N l)).slot * 256 })
    unfolding survey_in mend_in
    slots_twin o c h = survey_at (unfinished case_d) (slots_state ∙ twin_verdict) ∙ (rw (block_is (framed_twin (capacity N B + 1) h)) (unfold older in refl))
      where
        twin_verdict : verdict (capacity N B) (examined l).sum ≡ unfinished case_d
        twin_verdict = unfold verdict in rw (o, c, h)

        e : ends_twin (examined l).sum.ending ≡ true
        e = ((and-eq-true_iff (ends_twin (examined l).sum.ending) (leb (examined l).sum.live (capacity N B + 1))).0 (unfold twin_within in h)).0

        block_is : frame N l ≡ true → (examined l).sum.block.0 ≡ last_block N l
        block_is f = (framed_told f).block e ∙ sym (view_block N B l (frame_ring N l size f) f)

    pub slots_damaged : orderly (capacity N B) (examined l).sum ≡ false → torn_within (capacity N B) (examined l).sum ≡ false → twin_within (capacity N B + 1) (examined l).sum ≡ false → survey_of N B l ≡ Damaged
    unfolding survey_in
    slots_damaged o c h = survey_at damaged (slots_state ∙ none)
      where
        none : verdict (capacity N B) (examined l).sum ≡ damaged
        none = unfold verdict in rw (o, c, h)
