-- Request #112, "the erase count with cuts", as one statement over histories of any length.
use Rattle.std.specs.Prelude.{ℕ, ◌+◌, ◌-◌, ◌*◌, ◌/◌, ◌≤◌, ◌<◌, ◌≡◌, List, [], ◌∷◌, length, eqb}
use Rattle.model.specs.Lists.{count}
use Rattle.model.specs.Chip.{Image}
use Rattle.model.specs.State.{holds, clean, state, view}
use Rattle.model.specs.Answers.{Request, format, work_of, outcome_of}
use Rattle.model.specs.Histories.{Proper, recovered, shown}
use Rattle.model.specs.Sequences.{among, start, erase_count, erases_of}
use Rattle.model.specs.Begun.{CutBegun, Turn, Turns, cuts_in, by_recovery}
use Rattle.crash.specs.Machine.{OnTable}
use Rattle.tallied.specs.Law.{Unformatted}
use Rattle.wear_counts.specs.Counts.{marks_of, ledger_of}

-- with F tidyings that reached the owing mark: the whole part of F/(N-1), times ((N-1)B - L), is at most R + K
abbrev pub TidyingsPaid : ℕ → ℕ → List Turn → Type 0
TidyingsPaid N B es = marks_of es / (N - 1) * ((N - 1) * B - (ledger_of es start).largest) ≤ (ledger_of es start).replaced + cuts_in es

-- erases begun are at most F + K
abbrev pub FewBegun : List Turn → Type 0
FewBegun es = erase_count (ledger_of es start) ≤ marks_of es + cuts_in es

-- the erases begun, by segment, differ by at most 1 + K on these two
abbrev pub Within : List Turn → (ℕ → ℕ) → ℕ → ℕ → Type 0
Within es begun i j = begun i ≤ begun j + (1 + cuts_in es)

-- on any two segments, whenever the image is clean: after each request, and there in any state;
abbrev pub WithinCuts : ℕ → List Turn → Type 0
WithinCuts N es = (i j : ℕ) → i < N → j < N → Within es (λ x. erases_of x (ledger_of es start)) i j

-- and within a request that has come, uncut, to image w, with these erases begun
abbrev pub WithinRequest : ℕ → ℕ → List Turn → Image → Type 0
WithinRequest N B es u = (r : Request) (w : Image) (ds : List ℕ) (f : ℕ) → OnTable r → Proper r → CutBegun B (work_of N B u r).steps u w ds f → state N B w ≡ clean
    → (i j : ℕ) → i < N → j < N → Within es (λ x. erases_of x (ledger_of es start) + count (λ y. eqb x y) ds) i j

-- a run of recovery never erases more than one segment
abbrev pub OneErase : List Turn → Type 0
OneErase [] = Unit {0}
OneErase (e ∷ es) = (by_recovery e.request e.begun ≤ 1) × OneErase es

-- and no request more than N-1, as in demand 3
abbrev pub FewEach : ℕ → List Turn → Type 0
FewEach N [] = Unit {0}
FewEach N (e ∷ es) = (length e.begun ≤ N - 1) × FewEach N es

-- Every history of put, delete, read and recover, with any arguments, from the image that a format that answered 0 left: each request answered, or cut anywhere.
-- After a cut anything may come, a recovery that is cut again among it; and a history may end anywhere.
pub record FromFormat (N B : ℕ) (es : List Turn) (u : Image) : Type 0 where
  pub before : Image
  pub allowance : ℕ
  pub finished : (outcome_of N B before allowance format).code ≡ 0
  pub runs : Turns N B (outcome_of N B before allowance format).image es u
  pub unformatted : Unformatted es

abbrev pub WearWithCuts : Type 0
WearWithCuts = (N B : ℕ) (es : List Turn) (u : Image) → FromFormat N B es u → TidyingsPaid N B es × FewBegun es × WithinCuts N es × WithinRequest N B es u × OneErase es × FewEach N es

-- What is counted is what the chip tells: once recovered, the smallest number in use is F, and the blocks that are shown are those counted as stored.
abbrev pub OldestIs : ℕ → ℕ → Image → List Turn → Type 0
OldestIs N B u es = (view N B (recovered N B u)).first ≡ marks_of es

abbrev pub CountsTell : Type 0
CountsTell = (N B : ℕ) (es : List Turn) (u : Image) → FromFormat N B es u → OldestIs N B u es × ((b : ℕ) → among b (ledger_of es start).stored ≡ holds b (shown N B u))
