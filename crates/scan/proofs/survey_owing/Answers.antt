-- `scan::survey_owing` is the survey of an image whose top is owing. Assumes nothing.
use Prim.Native.Nat.{ℕ}
use mathlib.Core.Path.{ap, ◌∙◌}
use borrow.Author.Tests.{eq-eqb, ne_eqb}
use Rattle.judge.specs.Verdict.{orderly}
use Rattle.scan.specs.Surveys.{owing_in}
use Rattle.scan.specs.declared.Surveyed.TheVariants.{ErasePending}
use Rattle.scan.proofs.Laws.Surveys.{tested}
use Rattle.scan.proofs.survey_owing.Goals as goal

pub returns-then-exam-geometry : goal.returns-then-exam-geometry
unfolding owing_in
returns-then-exam-geometry c = rw (ne_eqb _ _ c.if-exam-geometry.true)

pub returns-then-orderly : goal.returns-then-orderly
unfolding owing_in
returns-then-orderly c =
    let a = c.args in
    let o = tested orderly a.exam.sum c.capacity.ensures.0 c.orderly.ensures in
    rw (eq-eqb _ _ c.if-exam-geometry.false, o ∙ c.if-orderly.true) (ap (λ (k : ℕ). ErasePending (record { 0 = k }) a.seen.blank) c.top_number-top.ensures)

pub returns : goal.returns
unfolding owing_in
returns c =
    let a = c.args in
    let o = tested orderly a.exam.sum c.capacity.ensures.0 c.orderly.ensures in
    rw (eq-eqb _ _ c.if-exam-geometry.false, o ∙ c.if-orderly.false)
