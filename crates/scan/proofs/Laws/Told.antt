-- What a survey says of the image.
use Prim.Native.Nat.{ℕ, ◌-◌, ◌*◌}
use mathlib.Core.Path.{◌≡◌, sym, ap, ◌∙◌}
use mathlib.Core.Bool.{Bool, ◌||◌, not}
use lib.ListN.{get_or}
use Rattle.model.specs.Chip.{Image}
use Rattle.model.specs.State.{blank, segments_of, is_in_use, is_invalid, next_number, next_index, last_slot, older, case_a, case_b, case_c, case_d, State, clean, unfinished, damaged, state_of, state}
use Rattle.model.specs.Steps.{slot_at}
use Rattle.model.specs.declared.SegmentNumber.{SegmentNumber}
use Rattle.model.specs.declared.SlotPlace.{SlotPlace}
use Rattle.scan.specs.declared.Surveyed.{Surveyed}
use Rattle.scan.specs.declared.Surveyed.TheVariants.{Clean, TornSegment, ErasePending, TornSlot, OldSlot, Damaged}
use Rattle.scan.specs.Surveys.{mend_in, survey_in, survey_of, state_in, survey_state}

module _ (N B : ℕ) (s : Image) (r : Surveyed) (e : r ≡ survey_of N B (segments_of N B s)) where
  pub survey_says : state_in r ≡ state N B s
  unfolding state
  survey_says = ap state_in e ∙ survey_state N B (segments_of N B s)

  stated : {x : State} → state N B s ≡ x → state_of N B (segments_of N B s) ≡ x
  unfolding state
  stated e = e

  says : (x : Surveyed) → r ≡ x → state N B s ≡ state_in x
  says x w = sym survey_says ∙ ap state_in w

  pub told : (x : Surveyed) {y : State} → r ≡ x → state N B s ≡ y → x ≡ survey_in N B (segments_of N B s) y
  unfolding survey_of
  told x w c = sym w ∙ (e ∙ ap (survey_in N B (segments_of N B s)) (stated c))

  pub survey_damaged : r ≡ Damaged → state N B s ≡ damaged
  unfolding state_in
  survey_damaged w = says Damaged w

  pub survey_clean : (n : SegmentNumber) (u l f c : ℕ) → r ≡ Clean n u l f c → state N B s ≡ clean
  unfolding state_in
  survey_clean n u l f c w = says (Clean n u l f c) w

  pub survey_torn_segment : (n : SegmentNumber) → r ≡ TornSegment n → (state N B s ≡ unfinished case_a) × (n.0 ≡ next_number (segments_of N B s) - 1)
  unfolding state_in survey_in mend_in
  survey_torn_segment n w =
      let c : state N B s ≡ unfinished case_a = says (TornSegment n) w in
      let t : TornSegment n ≡ TornSegment (record { 0 = next_number (segments_of N B s) - 1 }) = told (TornSegment n) w c in
      let m : n ≡ record { 0 = next_number (segments_of N B s) - 1 } = cc in
      (c, ap (λ (y : SegmentNumber). y.0) m)

  pub survey_pending : (n : SegmentNumber) (b : Bool) → r ≡ ErasePending n b → (state N B s ≡ unfinished case_b) × (n.0 ≡ next_number (segments_of N B s) - 1)
      × (b ≡ not (is_in_use (get_or (segments_of N B s) (next_index N (segments_of N B s)) blank) || is_invalid (get_or (segments_of N B s) (next_index N (segments_of N B s)) blank)))
  unfolding state_in survey_in mend_in
  survey_pending n b w =
      let x = get_or (segments_of N B s) (next_index N (segments_of N B s)) blank in
      let c : state N B s ≡ unfinished case_b = says (ErasePending n b) w in
      let t : ErasePending n b ≡ ErasePending (record { 0 = next_number (segments_of N B s) - 1 }) (not (is_in_use x || is_invalid x)) = told (ErasePending n b) w c in
      let m : n ≡ record { 0 = next_number (segments_of N B s) - 1 } = cc in
      (c, ap (λ (y : SegmentNumber). y.0) m, cc)

  pub survey_torn_slot : (p : SlotPlace) → r ≡ TornSlot p → (state N B s ≡ unfinished case_c) × (p.0 ≡ slot_at N B (next_number (segments_of N B s) - 1) (last_slot N (segments_of N B s)) * 256)
  unfolding state_in survey_in mend_in
  survey_torn_slot p w =
      let l = segments_of N B s in
      let c : state N B s ≡ unfinished case_c = says (TornSlot p) w in
      let t : TornSlot p ≡ TornSlot (record { 0 = slot_at N B (next_number l - 1) (last_slot N l) * 256 }) = told (TornSlot p) w c in
      let m : p ≡ record { 0 = slot_at N B (next_number l - 1) (last_slot N l) * 256 } = cc in
      (c, ap (λ (y : SlotPlace). y.0) m)

  pub survey_old_slot : (p : SlotPlace) → r ≡ OldSlot p → (state N B s ≡ unfinished case_d) × (p.0 ≡ slot_at N B (older N (segments_of N B s)).number (older N (segments_of N B s)).slot * 256)
  unfolding state_in survey_in mend_in
  survey_old_slot p w =
      let l = segments_of N B s in
      let c : state N B s ≡ unfinished case_d = says (OldSlot p) w in
      let t : OldSlot p ≡ OldSlot (record { 0 = slot_at N B (older N l).number (older N l).slot * 256 }) = told (OldSlot p) w c in
      let m : p ≡ record { 0 = slot_at N B (older N l).number (older N l).slot * 256 } = cc in
      (c, ap (λ (y : SlotPlace). y.0) m)
