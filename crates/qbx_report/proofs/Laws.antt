-- The state that a survey says; the segment left aside; the top's version and tally.
use Prim.Native.Nat.{ℕ, ◌-◌, ◌%◌, ◌<◌}
use mathlib.Core.Path.{◌≡◌, refl, sym, ap, ◌∙◌}
use mathlib.Core.Bool.{cond}
use mathlib.Core.List.{List}
use native.Mathlib.Omega.{arith}
use lib.ListN.{length, get_or, set}
use lib.Seq.{set_out}
use borrow.Author.Tests.{eq-eqb, ne_eqb}
use Rattle.model.specs.Chip.{Image}
use Rattle.model.specs.Header.{header_version}
use Rattle.model.specs.State.{Segment, blank, next_number, next_index, top_version, State, clean, unfinished, damaged, case_a, case_b, case_c, case_d, state_of, segments_of}
use Rattle.tally.specs.declared.Tally.{Tally}
use Rattle.tally.specs.Seen.{header_in, tally_seen}
use Rattle.tally.proofs.Laws.{top_version_lem}
use Rattle.judge.specs.declared.Headers.{Headers}
use Rattle.judge.specs.Heads.{headers_by, headers_of}
use Rattle.scan.specs.declared.Surveyed.{Surveyed}
use Rattle.scan.specs.Surveys.{survey_of, state_in, survey_state}
use Rattle.account_text.specs.Account.{unseen, shown_in, shown}
use Rattle.qbx_state.specs.declared.Condition.{Condition}
use Rattle.qbx_state.specs.declared.Condition.TheVariants.{Clean, UnfinishedA, UnfinishedB, UnfinishedC, UnfinishedD, Damaged}
use Rattle.qbx_state.specs.declared.TopSeen.TheVariants.{Missing, Version1, Version2}
use Rattle.qbx_census.specs.declared.Census.{Census}
use Rattle.qbx_census.specs.Census.{set_aside, census_of}
use Rattle.qbx_report.specs.Report.{condition_of, aside_in, version_told, top_told}

-- ---- the state

pub condition_told : (N B : ℕ) (l : List Segment) (r t : Surveyed) → r ≡ survey_of N B l → r ≡ t → condition_of (state_in t) ≡ condition_of (state_of N B l)
condition_told N B l r t e q = ap (λ (x : Surveyed). condition_of (state_in x)) (sym q ∙ e) ∙ ap condition_of (survey_state N B l)

-- ---- the segment left aside

module _ (N : ℕ) (l : List Segment) where
  -- the tag of another condition than (b)
  pub aside_none : (k : Condition) → (k ≡ UnfinishedB → ⊥) → aside_in N l k ≡ N
  unfolding aside_in
  aside_none Clean h = refl
  aside_none UnfinishedA h = refl
  aside_none UnfinishedB h = absurd (h refl)
  aside_none UnfinishedC h = refl
  aside_none UnfinishedD h = refl
  aside_none Damaged h = refl

  -- what the account shows has the one left aside that a state leaves
  aside_shown : (B : ℕ) → length l ≡ N → set_aside (aside_in N l (condition_of (state_of N B l))) l ≡ shown N B l
  unfolding shown
  aside_shown B z = go (state_of N B l)
    where
      none : set l N (unseen (get_or l N blank)) ≡ l
      none = set_out l N (unseen (get_or l N blank)) (omega (arith, z))

      go : (x : State) → set_aside (aside_in N l (condition_of x)) l ≡ shown_in N l x
      go clean = unfold aside_in condition_of shown_in in none
      go (unfinished case_a) = unfold aside_in condition_of shown_in in none
      go (unfinished case_b) = unfold aside_in condition_of shown_in in refl
      go (unfinished case_c) = unfold aside_in condition_of shown_in in none
      go (unfinished case_d) = unfold aside_in condition_of shown_in in none
      go damaged = unfold aside_in condition_of shown_in in none

  pub census_shown : (B : ℕ) → length l ≡ N → (k : Condition) → k ≡ condition_of (state_of N B l) → (i : ℕ) → i ≡ aside_in N l k → (r : Census) → r ≡ census_of (set_aside i l) → r ≡ census_of (shown N B l)
  census_shown B z k e i a r q = q ∙ ap census_of (ap (λ (j : ℕ). set_aside j l) (a ∙ ap (aside_in N l) e) ∙ aside_shown B z)

-- ---- the top

module _ (N B : ℕ) (s : Image) (some : 0 < N) where
  abbrev l : List Segment
  l = segments_of N B s

  module _ (h : Headers) (e : h ≡ headers_of N l) where
    next_is : h.next ≡ next_number l
    unfolding headers_of headers_by
    next_is = ap (λ (x : Headers). x.next) e

    pub aside_next : (k : Condition) → k ≡ UnfinishedB → h.next % N ≡ aside_in N l k
    unfolding aside_in next_index
    aside_next k q = rw (q, next_is)

    pub top_missing : h.next ≡ 0 → Missing ≡ top_told N l
    unfolding top_told
    top_missing z = rw (eq-eqb (next_number l) 0 (sym next_is ∙ z))

    module _ (z : h.next ≡ 0 → ⊥) (t : Tally) (q : t ≡ tally_seen (header_version (header_in N B (h.next - 1) s))) where
      told : t ≡ tally_seen (top_version N l)
      told = q ∙ (ap (λ (n : ℕ). tally_seen (header_version (header_in N B (n - 1) s))) next_is ∙ ap tally_seen (top_version_lem N B s some (omega (arith, z, next_is))))

      pub top_told_lem : cond t.former Version1 (Version2 t.count t.no_bit_left) ≡ top_told N l
      unfolding top_told version_told tally_seen
      top_told_lem = rw (told, ne_eqb (next_number l) 0 (λ y. z (next_is ∙ y)))
