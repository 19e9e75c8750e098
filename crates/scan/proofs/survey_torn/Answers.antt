-- `scan::survey_torn` is the survey of an image whose segment after the top is torn. Assumes nothing.
use Prim.Native.Nat.{ℕ}
use mathlib.Core.Path.{ap, ◌∙◌}
use Rattle.judge.specs.Verdict.{orderly}
use Rattle.scan.specs.declared.Surveyed.TheVariants.{TornSegment}
use Rattle.scan.specs.Surveys.{torn_in}
use Rattle.scan.proofs.Laws.Surveys.{tested}
use Rattle.scan.proofs.survey_torn.Goals as goal

pub returns-then-orderly : goal.returns-then-orderly
unfolding torn_in
returns-then-orderly c =
    let a = c.args in
    let o = tested orderly a.exam.sum c.capacity.ensures.0 c.orderly.ensures in
    rw (o ∙ c.if-orderly.true) (ap (λ (k : ℕ). TornSegment (record { 0 = k })) c.top_number-top.ensures)

pub returns : goal.returns
unfolding torn_in
returns c =
    let a = c.args in
    let o = tested orderly a.exam.sum c.capacity.ensures.0 c.orderly.ensures in
    rw (o ∙ c.if-orderly.false)
