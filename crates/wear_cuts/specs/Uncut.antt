-- Where there is no cut, the statement gives demand 3: a sequence of calls is a history whose K is 0, with the same count, and E is at most F.
use Prim.Native.Nat.{ℕ, zero, suc, ◌+◌, ◌-◌, ◌*◌, ◌/◌, ◌≤◌, ◌<◌}
use Rattle.std.specs.Prelude.{◌≡◌, ◌≢◌, take}
use Rattle.std.proofs.Math.Path.{refl, ap}
use Rattle.std.proofs.Common.{◌∙◌, arith, le-div_iff_mul-le, div-mul-le_self, mul-le-mul_right, ne_eqb}
use mathlib.Core.List.{List, [], ◌∷◌}
use Rattle.model.specs.Chip.{Image}
use Rattle.model.specs.Answers.{Request, format, put, delete, read, read_or, recover, outcome_of}
use Rattle.model.specs.Histories.{Proper, reply_of}
use Rattle.model.specs.Sequences.{Call, play, Observed, observe, observed, InSequence, Uncut, Ledger, start, noted, ledger, erase_count, erases_of}
use Rattle.model.specs.Begun.{cut_seen, cuts_in}
use Rattle.model.proofs.Laws.Chip.{size_facts}
use Rattle.model.proofs.Laws.Begun.{turn_of, turns_of, AllProper, played}
use Rattle.bridge.specs.Allowance.{ends}
use Rattle.crash.specs.Machine.{OnTable}
use Rattle.wear.specs.Demand3.{ErasesPaid, FewErases, Balanced, Demand3}
use Rattle.wear.proofs.Sequence.{format_answered}
use Rattle.tallied.specs.Law.{Unformatted}
use Rattle.wear_counts.specs.Counts.{marks_of, noted_as, ledger_of}
use Rattle.wear_counts.specs.Law.{FewEach, FromFormat, WearWithCuts}

-- ---- the same calls as a history

in_sequence : (r : Request) → InSequence r → Proper r × OnTable r
in_sequence format i = absurd i
in_sequence (put b c) i = (i, tt)
in_sequence (delete b) i = (tt, tt)
in_sequence (read b) i = (tt, tt)
in_sequence (read_or b f) i = (tt, tt)
in_sequence recover i = (tt, tt)

module _ (N B : ℕ) where
  all_proper : (xs : List Call) (s : Image) → Uncut (observed N B s xs) → AllProper xs
  unfolding observed observe
  all_proper [] s u = tt
  all_proper (x ∷ xs) s u = ((in_sequence x.request u.0).0, all_proper xs (outcome_of N B s x.allowance x.request).image u.2)

  none_formats : (xs : List Call) (s : Image) → Uncut (observed N B s xs) → Unformatted (turns_of N B s xs)
  unfolding observed observe turns_of
  none_formats [] s u = tt
  none_formats (x ∷ xs) s u = ((in_sequence x.request u.0).1, none_formats xs (outcome_of N B s x.allowance x.request).image u.2)

  none_cut : (xs : List Call) (s : Image) → Uncut (observed N B s xs) → cuts_in (turns_of N B s xs) ≡ 0
  unfolding observed observe turns_of cuts_in cut_seen reply_of
  none_cut [] s u = refl
  none_cut (x ∷ xs) s u = rw (ne_eqb (outcome_of N B s x.allowance x.request).code 9 u.1) (omega (arith, none_cut xs (outcome_of N B s x.allowance x.request).image u.2))

  same_noted : (s : Image) (x : Call) (t : Ledger) → (outcome_of N B s x.allowance x.request).code ≢ 9 → noted_as (turn_of N B s x) (turn_of N B s x).seen t ≡ noted (observe N B s x) t
  unfolding noted_as observe reply_of
  same_noted s x t n =
      rw (ne_eqb (outcome_of N B s x.allowance x.request).code 9 n, (ends N B s x.allowance x.request n).whole)

  same_ledger : (xs : List Call) (s : Image) (t : Ledger) → Uncut (observed N B s xs) → ledger_of (turns_of N B s xs) t ≡ ledger (observed N B s xs) t
  unfolding observed turns_of ledger_of ledger
  same_ledger [] s t u = refl
  same_ledger (x ∷ xs) s t u =
      let m = (outcome_of N B s x.allowance x.request).image in
      ap (λ (y : Ledger). ledger_of (turns_of N B m xs) y) (same_noted s x t (unfold observe in u.1)) ∙ same_ledger xs m (noted (observe N B s x) t) u.2

  same_few : (xs : List Call) (s : Image) → Uncut (observed N B s xs) → FewEach N (turns_of N B s xs) → FewErases N (observed N B s xs)
  unfolding observed observe turns_of
  same_few [] s u f = tt
  same_few (x ∷ xs) s u f = (rw (ends N B s x.allowance x.request u.1).whole at f.0, same_few xs (outcome_of N B s x.allowance x.request).image u.2 f.1)

  -- ---- prefixes

  observed_take : (k : ℕ) (xs : List Call) (s : Image) → observed N B s (take k xs) ≡ take k (observed N B s xs)
  unfolding observed
  observed_take zero xs s = refl
  observed_take (suc k) [] s = refl
  observed_take (suc k) (x ∷ xs) s = ap {B = List Observed} (λ y. observe N B s x ∷ y) (observed_take k xs (outcome_of N B s x.allowance x.request).image)

uncut_take : (k : ℕ) (os : List Observed) → Uncut os → Uncut (take k os)
uncut_take zero os u = tt
uncut_take (suc k) [] u = tt
uncut_take (suc k) (o ∷ os) u = (u.0, u.1, uncut_take k os u.2)

-- ---- the corollary, of the statement alone

module _ (law : WearWithCuts) (N B : ℕ) (s : Image) (allowance : ℕ) (e : (outcome_of N B s allowance format).code ≡ 0) where
  abbrev m : Image
  m = (outcome_of N B s allowance format).image

  -- the calls as a history from that format
  from : (xs : List Call) → Uncut (observed N B m xs) → FromFormat N B (turns_of N B m xs) (play N B m xs)
  from xs u = record { before = s; allowance = allowance; finished = e; runs = played N B xs m (all_proper N B xs m u); unformatted = none_formats N B xs m u }

  paid : (xs : List Call) → Uncut (observed N B m xs) → ErasesPaid N B (ledger (observed N B m xs) start)
  paid xs u =
      let es = turns_of N B m xs in
      let t = ledger (observed N B m xs) start in
      let l = law N B es (play N B m xs) (from xs u) in
      let bound : marks_of es / (N - 1) * ((N - 1) * B - t.largest) ≤ t.replaced + 0 = rw (same_ledger N B xs m start u, none_cut N B xs m u) at l.0 in
      let few : erase_count t ≤ marks_of es + 0 = rw (same_ledger N B xs m start u, none_cut N B xs m u) at l.1 in
      let some : 0 < N - 1 = omega (arith, (size_facts N B s (format_answered N B s allowance e).0).two) in
      let d : erase_count t / (N - 1) ≤ marks_of es / (N - 1) = (le-div_iff_mul-le some).1 (omega (arith, few, div-mul-le_self (erase_count t) (N - 1))) in
      omega (arith, bound, mul-le-mul_right ((N - 1) * B - t.largest) d)

  level : (xs : List Call) → Uncut (observed N B m xs) → Balanced N (ledger (observed N B m xs) start)
  level xs u i j hi hj =
      let es = turns_of N B m xs in
      let l = law N B es (play N B m xs) (from xs u) in
      let q : erases_of i (ledger (observed N B m xs) start) ≤ erases_of j (ledger (observed N B m xs) start) + (1 + 0) = rw (same_ledger N B xs m start u, none_cut N B xs m u) at (l.2 i j hi hj) in
      omega (arith, q)

pub without_cuts : WearWithCuts → Demand3
without_cuts law N B s allowance xs e u =
    let m = (outcome_of N B s allowance format).image in (
      paid law N B s allowance e xs u,
      same_few N B xs m u (law N B (turns_of N B m xs) (play N B m xs) (from law N B s allowance e xs u)).5,
      λ k. rw (observed_take N B k xs m) at (level law N B s allowance e (take k xs) (rw (observed_take N B k xs m) (uncut_take k (observed N B m xs) u))),
    )
