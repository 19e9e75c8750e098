-- What a survey of an image says: its state, and what a request needs in that state.
use Rattle.std.specs.Prelude.{ℕ, ◌+◌, ◌-◌, ◌*◌, ◌≤◌, ◌≡◌, cond, ◌||◌, ◌&&◌, not, List, length, get_or, eqb, Option, None, Some}
use Rattle.std.proofs.Math.Path.{refl}
use Rattle.model.specs.Chip.{Image}
use Rattle.model.specs.State.{Segment, blank, segments_of, is_in_use, is_invalid, next_number, next_index, view_of, entries_in, capacity, last_slot, older, Exception, case_a, case_b, case_c, case_d, State, clean, unfinished, damaged, state_of}
use Rattle.model.specs.Steps.{slot_at, top_row, first_empty, compactions}
use Rattle.flash.specs.Pages.{Sized}
use Rattle.judge.specs.declared.Headers.{Headers}
use Rattle.sums.specs.declared.Exam.{Exam}
use Rattle.sums.specs.Exams.{exam_of, Bounded}
use Rattle.find.specs.declared.FoundSlot.{FoundSlot}
use Rattle.scan.specs.declared.Surveyed.{Surveyed}
use Rattle.scan.specs.declared.Surveyed.TheVariants.{Clean, TornSegment, ErasePending, TornSlot, OldSlot, Damaged}
use Rattle.judge.specs.Heads.{headers_of}
use Rattle.judge.specs.Verdict.{orderly}

-- ---- a survey

unfoldable pub mend_in : ℕ → ℕ → List Segment → Exception → Surveyed
mend_in N B l case_a = TornSegment (record { 0 = next_number l - 1 })
mend_in N B l case_b = ErasePending (record { 0 = next_number l - 1 }) (not (is_in_use (get_or l (next_index N l) blank) || is_invalid (get_or l (next_index N l) blank)))
mend_in N B l case_c = TornSlot (record { 0 = slot_at N B (next_number l - 1) (last_slot N l) * 256 })
mend_in N B l case_d = OldSlot (record { 0 = slot_at N B (older N l).number (older N l).slot * 256 })

unfoldable pub survey_in : ℕ → ℕ → List Segment → State → Surveyed
survey_in N B l clean = let v = view_of N l in
    Clean (record { 0 = v.first }) (length v.slots) (length (entries_in v)) (first_empty (top_row v.slots)) (compactions v.slots)
survey_in N B l (unfinished x) = mend_in N B l x
survey_in N B l damaged = Damaged

unfoldable pub survey_of : ℕ → ℕ → List Segment → Surveyed
survey_of N B l = survey_in N B l (state_of N B l)

-- the state that a survey says
unfoldable pub state_in : Surveyed → State
state_in (Clean n u l f c) = clean
state_in (TornSegment n) = unfinished case_a
state_in (ErasePending n b) = unfinished case_b
state_in (TornSlot p) = unfinished case_c
state_in (OldSlot p) = unfinished case_d
state_in Damaged = damaged

pub survey_state : (N B : ℕ) (l : List Segment) → state_in (survey_of N B l) ≡ state_of N B l
unfolding survey_of
survey_state N B l = go (state_of N B l)
  where
    go : (s : State) → state_in (survey_in N B l s) ≡ s
    go clean = unfold survey_in state_in in refl
    go (unfinished case_a) = unfold survey_in mend_in state_in in refl
    go (unfinished case_b) = unfold survey_in mend_in state_in in refl
    go (unfinished case_c) = unfold survey_in mend_in state_in in refl
    go (unfinished case_d) = unfold survey_in mend_in state_in in refl
    go damaged = unfold survey_in state_in in refl

-- ---- by the segments in use, examined

-- the survey where the top is owing, and where the segment after it is torn
unfoldable pub owing_in : ℕ → ℕ → Headers → Exam → Surveyed
owing_in N B h e = cond (eqb (e.used + 1) N && orderly (capacity N B) e.sum) (ErasePending (record { 0 = h.next - 1 }) h.blank) Damaged

unfoldable pub torn_in : ℕ → ℕ → Headers → Exam → Surveyed
torn_in N B h e = cond (orderly (capacity N B) e.sum) (TornSegment (record { 0 = h.next - 1 })) Damaged

-- the survey of a clean image, and of one with an older slot that was searched
unfoldable pub clean_in : Exam → Surveyed
clean_in e = Clean (record { 0 = e.first }) e.used e.sum.live e.sum.written e.sum.compactions

unfoldable pub old_in : Option FoundSlot → Surveyed
old_in (Some x) = OldSlot x.place
old_in None = Damaged

-- the headers of an image of a right size, and the segments in use that they tell of, examined
pub record Looked (N B : ℕ) (s : Image) (h : Headers) (e : Exam) : Type 0 where
  pub size : Sized N B (length s)
  pub least : 2 ≤ N
  pub slots : 2 ≤ B
  pub headers : h ≡ headers_of N (segments_of N B s)
  pub below : h.next ≤ 4294967296
  pub exam : e ≡ exam_of N B s h.frame
  pub bounded : Bounded e
