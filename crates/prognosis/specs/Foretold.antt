-- What recovery would answer: its answer and the count of its steps as the definitions of recovery give them.
use Rattle.std.specs.Prelude.{ℕ, ◌≤◌, true, cond, List, length, eqb, Result, Ok, Err}
use Rattle.model.specs.State.{Segment, conditions}
use Rattle.model.specs.Answers.{recover, work_on}
use Rattle.account_text.specs.Account.{first_failing}
use Rattle.prognosis.specs.declared.FailedCondition.{FailedCondition}

-- of the segments of an image of a right size, on which recovery answers 0 or 4
unfoldable pub prognosis_of : ℕ → ℕ → List Segment → Result ℕ FailedCondition
prognosis_of N B l = let w = work_on N B true l recover in
    cond (eqb w.code 0) (Ok (length w.steps)) (Err (record { 0 = first_failing 1 (conditions N B l) }))

-- its number is small
abbrev pub Small : Result ℕ FailedCondition → Type 0
Small (Ok n) = n ≤ 3
Small (Err c) = c.0 ≤ 8
