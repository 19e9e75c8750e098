-- A survey by its kinds: a clean image and its plan, or another.
use Prim.Native.Nat.{ℕ, ◌≤◌}
use mathlib.Core.Path.{◌≡◌, refl, ap, ◌∙◌}
use mathlib.Core.Bool.{true}
use native.Mathlib.Omega.{arith}
use lib.ListN.{length}
use Rattle.model.specs.Chip.{Image, right_size}
use Rattle.model.specs.State.{segments_of, View, entries_in, clean, state, view}
use Rattle.model.specs.Steps.{top_row, first_empty, compactions as compactions_in}
use Rattle.model.specs.declared.SegmentNumber.{SegmentNumber}
use Rattle.scan.specs.declared.Surveyed.{Surveyed}
use Rattle.scan.specs.declared.Surveyed.TheVariants.{Clean, TornSegment, ErasePending, TornSlot, OldSlot, Damaged}
use Rattle.scan.specs.Surveys.{survey_in, survey_of, state_in}
use Rattle.bridge.specs.Views.Room.{compactions_length}
use Rattle.room.specs.Room.{Planned}
use Rattle.scan.proofs.Laws.Told.{survey_says, told, survey_clean}

-- a survey of another kind
abbrev pub Other : Surveyed → Type 0
Other r = (first : SegmentNumber) (used live free compactions : ℕ) → r ≡ Clean first used live free compactions → ⊥

other_state : (r : Surveyed) → Other r → state_in r ≡ clean → ⊥
unfolding state_in
other_state (Clean n u l f c) h e = absurd (h n u l f c refl)
other_state (TornSegment n) h e = let z : ◌≡◌ {A = ℕ} 0 1 = cc in omega arith
other_state (ErasePending n b) h e = let z : ◌≡◌ {A = ℕ} 0 1 = cc in omega arith
other_state (TornSlot p) h e = let z : ◌≡◌ {A = ℕ} 0 1 = cc in omega arith
other_state (OldSlot p) h e = let z : ◌≡◌ {A = ℕ} 0 1 = cc in omega arith
other_state Damaged h e = let z : ◌≡◌ {A = ℕ} 0 1 = cc in omega arith

module _ (N B : ℕ) (s : Image) (r : Surveyed) (e : r ≡ survey_of N B (segments_of N B s)) where
  pub survey_other : Other r → state N B s ≡ clean → ⊥
  survey_other o c = other_state r o (survey_says N B s r e ∙ c)

  -- what a survey of a clean image tells
  module _ (first : SegmentNumber) (used live free compactions : ℕ) (w : r ≡ Clean first used live free compactions) where
    abbrev v : View
    v = view N B s

    survey_told : Clean first used live free compactions ≡ Clean (record { 0 = v.first }) (length v.slots) (length (entries_in v)) (first_empty (top_row v.slots)) (compactions_in v.slots)
    unfolding view survey_in
    survey_told = told N B s r e (Clean first used live free compactions) w (survey_clean N B s r e first used live free compactions w)

    pub survey_plan : right_size N B s ≡ true → Planned N B (record { first = first; used = used; slot = free; compactions = compactions }) s
    survey_plan z = let f = survey_told in record {
      size = z;
      state = survey_clean N B s r e first used live free compactions w;
      first = let n : first ≡ record { 0 = v.first } = cc in ap (λ (y : SegmentNumber). y.0) n;
      used = cc;
      slot = cc;
      compactions = λ h. cc;
    }

    pub survey_live : live ≡ length (entries_in (view N B s))
    survey_live = let f = survey_told in cc

    pub survey_few : compactions ≤ used
    survey_few =
        let f = survey_told in
        let c : compactions ≡ compactions_in v.slots = cc in
        let u : used ≡ length v.slots = cc in
        omega (arith, compactions_length v.slots)
