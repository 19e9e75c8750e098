-- The survey from what its steps return.
use Prim.Native.Nat.{ℕ, ◌+◌, ◌-◌, ◌*◌, ◌≤◌, ◌<◌}
use mathlib.Core.Path.{◌≡◌, refl, sym, ap, ap₂, ◌∙◌}
use mathlib.Core.Bool.{Bool, true, false, cond, ◌||◌, ◌&&◌, not}
use mathlib.Core.List.{List}
use native.Mathlib.Omega.{arith}
use lib.ListN.{length, get_or}
use lib.Dec.{eqb}
use borrow.Author.Tests.{eq-eqb, ne_eqb, eqb-true, eqb-false}
use Rattle.model.specs.Chip.{Image, right_size}
use Rattle.model.specs.State.{Segment, blank, segments_of, is_in_use, is_invalid, is_owing, next_number, top_index, next_index, used_count, slots_from, numbers_from, View, view_of, entries_in, holds, capacity, place_of, next_blanked, top_settled}
use Rattle.model.specs.Steps.{slot_at}
use Rattle.model.proofs.Laws.Chip.{size_facts}
use Rattle.flash.specs.Pages.{Sized}
use Rattle.flash.proofs.Pages.{sized}
use Rattle.model.specs.declared.SlotPlace.{SlotPlace}
use Rattle.judge.specs.declared.Sum.{Sum}
use Rattle.judge.specs.declared.Headers.{Headers}
use Rattle.sums.specs.declared.Exam.{Exam}
use Rattle.sums.specs.Exams.{exam_of, Bounded}
use Rattle.scan.specs.declared.Surveyed.{Surveyed}
use Rattle.scan.specs.declared.Surveyed.TheVariants.{TornSegment, ErasePending, TornSlot, OldSlot, Damaged}
use Rattle.judge.specs.Cases.{frame}
use Rattle.judge.specs.Heads.{frame_of, heads_mended, headers_by, headers_of}
use Rattle.judge.specs.Verdict.{orderly, torn_within, twin_within}
use Rattle.scan.specs.Surveys.{survey_of, owing_in, torn_in, clean_in, old_in, Looked}
use Rattle.find.specs.Search.{found_in}
use Rattle.scan.proofs.SurveyCases.{owing_few, owing_bad, owing_good, torn_bad, torn_good, framed_some, framed_orderly, framed_twin, framed_chain, exam_found, twin_held, slots_clean, slots_torn, slots_twin, slots_damaged}

-- a test of sums against a number that was reckoned
pub tested : (t : ℕ → Sum → Bool) (x : Sum) {m n : ℕ} {r : Bool} → m ≡ n → r ≡ t m x → t n x ≡ r
tested t x e q = sym (q ∙ ap (λ (y : ℕ). t y x) e)

-- a block that is there is found
old_found : (N B b : ℕ) (v : View) → holds b (entries_in v) ≡ true → old_in (found_in N B v.first v.slots b) ≡ OldSlot (record { 0 = slot_at N B (place_of b v).number (place_of b v).slot * 256 })
unfolding found_in old_in entries_in place_of
old_found N B b v h = rw h

-- ---- by what the headers tell

module _ (N B : ℕ) (s : Image) (h : Headers) (x : Exam) (w : Looked N B s h x) where
  abbrev l : List Segment
  l = segments_of N B s

  some : 0 < N
  some = w.size.some

  next_is : h.next ≡ next_number l
  next_is = ap (λ (y : Headers). y.next) w.headers ∙ (unfold headers_of headers_by in refl)

  owing_is : h.owing ≡ is_owing (get_or l (top_index N l) blank)
  owing_is = ap (λ (y : Headers). y.owing) w.headers ∙ (unfold headers_of headers_by in refl)

  torn_is : h.torn ≡ is_invalid (get_or l (next_index N l) blank)
  torn_is = ap (λ (y : Headers). y.torn) w.headers ∙ (unfold headers_of headers_by in refl)

  blank_is : h.blank ≡ not (is_in_use (get_or l (next_index N l) blank) || is_invalid (get_or l (next_index N l) blank))
  blank_is = ap (λ (y : Headers). y.blank) w.headers ∙ (unfold headers_of headers_by in refl)

  frame_is : h.frame ≡ frame_of N (heads_mended N l)
  frame_is = ap (λ (y : Headers). y.frame) w.headers ∙ (unfold headers_of headers_by in refl)

  -- the exam is that of a list of segments, if that is how they are mended
  exam_of_lem : (m : List Segment) → heads_mended N l ≡ m → x ≡ exam_of N B s (frame_of N m)
  exam_of_lem m e = w.exam ∙ ap (exam_of N B s) (frame_is ∙ ap (frame_of N) e)

  module _ (owing : h.owing ≡ true) where
    at_top : is_owing (get_or l (top_index N l) blank) ≡ true
    at_top = sym owing_is ∙ owing

    settled_exam : x ≡ exam_of N B s (frame_of N (top_settled N l))
    settled_exam = exam_of_lem (top_settled N l) (unfold heads_mended in rw at_top)

    used_is : x.used ≡ used_count (top_settled N l)
    used_is = ap (λ (y : Exam). y.used) settled_exam ∙ (unfold exam_of frame_of in refl)

    pub owing_survey : owing_in N B h x ≡ survey_of N B l
    unfolding owing_in
    owing_survey = go (eqb (x.used + 1) N) (orderly (capacity N B) x.sum) refl refl
      where
        orderly_is : orderly (capacity N B) (exam_of N B s (frame_of N (top_settled N l))).sum ≡ orderly (capacity N B) x.sum
        orderly_is = ap (λ (y : Exam). orderly (capacity N B) y.sum) (sym settled_exam)

        go : (u t : Bool) → eqb (x.used + 1) N ≡ u → orderly (capacity N B) x.sum ≡ t → cond (u && t) (ErasePending (record { 0 = h.next - 1 }) h.blank) Damaged ≡ survey_of N B l
        go false t a b = sym (owing_few N B s some at_top (ne_eqb (used_count (top_settled N l)) (N - 1) (λ q. eqb-false (x.used + 1) N a (omega (arith, used_is, w.least)))))
        go true false a b = sym (owing_bad N B s some at_top (orderly_is ∙ b))
        go true true a b =
            let n = eqb-true (x.used + 1) N a in
            ap₂ {C = Surveyed} (λ (k : ℕ) (o : Bool). ErasePending (record { 0 = k - 1 }) o) next_is blank_is
            ∙ sym (owing_good N B s some at_top (eq-eqb (used_count (top_settled N l)) (N - 1) (omega (arith, used_is))) (orderly_is ∙ b))

  module _ (paid : h.owing ≡ false) (torn : h.torn ≡ true) where
    pub torn_survey : torn_in N B h x ≡ survey_of N B l
    unfolding torn_in
    torn_survey = go (orderly (capacity N B) x.sum) refl
      where
        blanked_exam : x ≡ exam_of N B s (frame_of N (next_blanked N l))
        blanked_exam = exam_of_lem (next_blanked N l) (unfold heads_mended in rw (sym owing_is ∙ paid, sym torn_is ∙ torn))

        orderly_is : orderly (capacity N B) (exam_of N B s (frame_of N (next_blanked N l))).sum ≡ orderly (capacity N B) x.sum
        orderly_is = ap (λ (y : Exam). orderly (capacity N B) y.sum) (sym blanked_exam)

        go : (t : Bool) → orderly (capacity N B) x.sum ≡ t → cond t (TornSegment (record { 0 = h.next - 1 })) Damaged ≡ survey_of N B l
        go false b = sym (torn_bad N B s some (sym owing_is ∙ paid) (sym torn_is ∙ torn) (orderly_is ∙ b))
        go true b = ap {B = Surveyed} (λ (k : ℕ). TornSegment (record { 0 = k - 1 })) next_is ∙ sym (torn_good N B s some (sym owing_is ∙ paid) (sym torn_is ∙ torn) (orderly_is ∙ b))

  -- ---- neither: the slots decide

  module _ (paid : h.owing ≡ false) (whole : h.torn ≡ false) where
    not_owing : is_owing (get_or l (top_index N l) blank) ≡ false
    not_owing = sym owing_is ∙ paid

    not_torn : is_invalid (get_or l (next_index N l) blank) ≡ false
    not_torn = sym torn_is ∙ whole

    slots_exam : exam_of N B s (frame_of N l) ≡ x
    slots_exam = sym (exam_of_lem l (unfold heads_mended in rw (not_owing, not_torn)))

    -- a test on the sums
    on_sums : {A : Type 0} (t : Sum → A) (y : A) → t x.sum ≡ y → t (exam_of N B s (frame_of N l)).sum ≡ y
    on_sums t y h = ap (λ (z : Exam). t z.sum) slots_exam ∙ h

    first_small : frame N l ≡ true → x.first < 4294967296
    first_small f = let u : 1 ≤ x.used = rw (← slots_exam) (framed_some N B s some f) in omega (arith, w.bounded.whole)

    pub clean_small : orderly (capacity N B) x.sum ≡ true → x.first < 4294967296
    clean_small t = first_small (framed_orderly N B s some (capacity N B) (on_sums (orderly (capacity N B)) true t))

    pub slots_orderly : orderly (capacity N B) x.sum ≡ true → clean_in x ≡ survey_of N B l
    unfolding clean_in
    slots_orderly h = sym (ap clean_in slots_exam) ∙ sym (slots_clean N B s some not_owing not_torn (on_sums (orderly (capacity N B)) true h))

    pub slots_torn_last : (p : SlotPlace) → orderly (capacity N B) x.sum ≡ false → torn_within (capacity N B) x.sum ≡ true → p.0 ≡ slot_at N B (h.next - 1) (x.sum.written - 1) * 256
        → TornSlot p ≡ survey_of N B l
    slots_torn_last p o h q =
        let z : p.0 ≡ slot_at N B (next_number l - 1) ((exam_of N B s (frame_of N l)).sum.written - 1) * 256 =
        q ∙ ap₂ (λ (n : ℕ) (y : Exam). slot_at N B (n - 1) (y.sum.written - 1) * 256) next_is (sym slots_exam) in
        ap {B = Surveyed} (λ (k : ℕ). TornSlot (record { 0 = k })) z
        ∙ sym (slots_torn N B s some not_owing not_torn (on_sums (orderly (capacity N B)) false o) (on_sums (torn_within (capacity N B)) true h))

    -- what the search for the older slot requires
    pub twin_small : twin_within (capacity N B + 1) x.sum ≡ true → x.first < 4294967296
    twin_small t = first_small (framed_twin N B s some (capacity N B + 1) (on_sums (twin_within (capacity N B + 1)) true t))

    pub twin_chain : twin_within (capacity N B + 1) x.sum ≡ true → numbers_from N l x.used x.first ≡ true
    twin_chain h = rw (← slots_exam) (framed_chain N B s some (framed_twin N B s some (capacity N B + 1) (on_sums (twin_within (capacity N B + 1)) true h)))

    pub slots_twin_last : orderly (capacity N B) x.sum ≡ false → torn_within (capacity N B) x.sum ≡ false → twin_within (capacity N B + 1) x.sum ≡ true
        → old_in (found_in N B x.first (slots_from N l x.used x.first) x.sum.block.0) ≡ survey_of N B l
    slots_twin_last o c h =
        let t = on_sums (twin_within (capacity N B + 1)) true h in
        sym (ap (λ (y : Exam). old_in (found_in N B y.first (slots_from N l y.used y.first) y.sum.block.0)) slots_exam)
        ∙ (ap old_in (exam_found N B s some (exam_of N B s (frame_of N l)).sum.block.0)
        ∙ (old_found N B (exam_of N B s (frame_of N l)).sum.block.0 (view_of N l) (twin_held N B s some (capacity N B + 1) t)
        ∙ sym (slots_twin N B s some not_owing not_torn (on_sums (orderly (capacity N B)) false o) (on_sums (torn_within (capacity N B)) false c) t)))

    pub slots_bad : orderly (capacity N B) x.sum ≡ false → torn_within (capacity N B) x.sum ≡ false → twin_within (capacity N B + 1) x.sum ≡ false → Damaged ≡ survey_of N B l
    slots_bad o c h = sym (slots_damaged N B s some not_owing not_torn (on_sums (orderly (capacity N B)) false o) (on_sums (torn_within (capacity N B)) false c) (on_sums (twin_within (capacity N B + 1)) false h))

-- ---- an image of a right size

pub right_size_lem : (N B : ℕ) (s : Image) → right_size N B s ≡ true → Sized N B (length s) × (2 ≤ N) × (2 ≤ B)
right_size_lem N B s h = let z = size_facts N B s h in (sized N B s h, z.two, z.slots)

pub looked : (N B : ℕ) (s : Image) (h : Headers) (x : Exam) → right_size N B s ≡ true → h ≡ headers_of N (segments_of N B s) → h.next ≤ 4294967296 → x ≡ exam_of N B s h.frame → Bounded x → Looked N B s h x
looked N B s h x r a b e k = let z = right_size_lem N B s r in record { size = z.0; least = z.1; slots = z.2; headers = a; below = b; exam = e; bounded = k }
