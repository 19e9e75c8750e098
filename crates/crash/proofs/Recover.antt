-- A finished recovery leaves a clean image. A cut one leaves an image that a recovery can be run on again, and that shows the same table.
use Rattle.std.specs.Prelude.{ℕ, ◌≡◌, refl, true}
use Rattle.std.proofs.Common.{sym, ap, ◌∙◌}
use Rattle.std.proofs.Math.Path.{subst}
use mathlib.Core.List.{List}
use Rattle.model.specs.Chip.{Image, right_size}
use Rattle.model.specs.Header.{is_former}
use Rattle.model.specs.State.{Segment, segments_of, top_version, view_of, Exception, case_a, case_b, case_c, case_d, State, clean, unfinished, damaged, state}
use Rattle.model.specs.Steps.{mend_steps}
use Rattle.model.specs.Answers.{recover, work_of}
use Rattle.model.specs.Histories.{recovered}
use Rattle.model.proofs.Laws.Segments.{segments_length}
use Rattle.model.proofs.Laws.Counted.{SameRows}
use Rattle.bridge.specs.Accepted.{recover_none}
use Rattle.crash.specs.Sound.{SoundAs, Sound, Clean, CutOf}
use Rattle.crash.proofs.Requests.{recovered_clean, idle_cut}
use Rattle.crash.proofs.States.{is_case, mended, state_case, recover_steps_lem, recovered_view, SoundWith, Kept, kept_same, Mended, mended_rows, mended_former, done}
use Rattle.crash.proofs.RecoverMarks.{mended_c, mended_d, cut_c, cut_d}
use Rattle.crash.proofs.RecoverErase.{mended_a, cut_a}
use Rattle.crash.proofs.RecoverOwing.{mended_b}
use Rattle.crash.proofs.OwingCuts.{cut_b}

-- the steps of a recovery mend the segments
pub recovery_mends : (N B : ℕ) (s : Image) → right_size N B s ≡ true → (x : Exception) → state N B s ≡ unfinished x → Mended N B s x
recovery_mends N B s z case_a e = mended_a N B s z e
recovery_mends N B s z case_b e = mended_b N B s z e
recovery_mends N B s z case_c e = mended_c N B s z e
recovery_mends N B s z case_d e = mended_d N B s z e

-- an image that passes the test of a case is in that state, and is recovered to the rows of its mended segments
module _ (N B : ℕ) (u : Image) (x : Exception) (z : right_size N B u ≡ true) (h : is_case N B (segments_of N B u) x ≡ true) where
  pub case_state : state N B u ≡ unfinished x
  unfolding state
  case_state = state_case N B (segments_of N B u) x (segments_length N B u) h

  pub case_steps : (work_of N B u recover).steps ≡ mend_steps N B (segments_of N B u) x
  case_steps = recover_steps_lem N B u x z case_state

  pub case_shows : (m : List Segment) → mended N (segments_of N B u) x ≡ m → SoundAs N B u (segments_of N B u) (unfinished x) → SoundWith N B u (view_of N m)
  case_shows m e k =
      let r = recovery_mends N B u z x case_state in
      let version : is_former (top_version N m) ≡ is_former (view_of N m).version = (unfold view_of in refl) in (
        subst (λ y. SoundAs N B u (segments_of N B u) y) (sym case_state) k,
        subst (λ (y : List Segment). SameRows (recovered_view N B u) (view_of N y)) e (mended_rows N B u x z case_state r),
        mended_former N B u x z case_state r ∙ (ap (λ y. is_former (top_version N y)) e ∙ version),
      )

pub recover_done : (N B : ℕ) (s : Image) → right_size N B s ≡ true → Sound N B s → Clean N B (recovered N B s)
recover_done N B s z h = go (state N B s) refl h
  where
    go : (x : State) → state N B s ≡ x → SoundAs N B s (segments_of N B s) x → Clean N B (recovered N B s)
    go clean e k = subst (λ (y : Image). Clean N B y) (sym (recovered_clean N B s e)) e
    go (unfinished x) e k = done N B s x z e (recovery_mends N B s z x e)
    go damaged e k = absurd k

pub recover_cut : (N B : ℕ) (s u : Image) → right_size N B s ≡ true → Sound N B s → CutOf N B s recover u → Kept N B s u
recover_cut N B s u z h c = go (state N B s) refl h
  where
    case : (x : Exception) → state N B s ≡ unfinished x → Kept N B s u
    case case_a e = cut_a N B s z e h u c
    case case_b e = cut_b N B s z e h u c
    case case_c e = cut_c N B s z u e h c
    case case_d e = cut_d N B s z u e h c

    go : (x : State) → state N B s ≡ x → SoundAs N B s (segments_of N B s) x → Kept N B s u
    go clean e k = kept_same N B s u h (idle_cut N B s u recover (recover_none N B s e) c)
    go (unfinished x) e k = case x e
    go damaged e k = absurd k
