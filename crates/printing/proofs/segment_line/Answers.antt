-- `printing::segment_line`, by the four states. Assumes nothing.
use native.Mathlib.Omega.{arith}
use Rattle.text.specs.Text.{text}
use Rattle.text.specs.Buffer.{labelled}
use Rattle.text.proofs.Laws.{◌then◌, wrote_as}
use Rattle.printing.proofs.Laws.{line_blank, line_torn, line_used, line_owing}
use Rattle.printing.proofs.segment_line.Goals as goal

pub returns-in-Blank : goal.returns-in-Blank
unfolding labelled text
returns-in-Blank c =
    let told = c.in-Blank.is in
    let a = c.args in
    (wrote_as _ (line_blank a.index a.shown told) (c.add_labelled-behind.ensures.0 then c.add.ensures), omega (arith, c.add_labelled-behind.ensures.1, c.add.ensures.ends))

pub returns-in-Invalid : goal.returns-in-Invalid
unfolding labelled text
returns-in-Invalid c =
    let told = c.in-Invalid.is in
    let a = c.args in
    (wrote_as _ (line_torn a.index a.shown told) (c.add_labelled-behind.ensures.0 then c.add-in-Invalid.ensures), omega (arith, c.add_labelled-behind.ensures.1, c.add-in-Invalid.ensures.ends))

pub returns-in-InUse : goal.returns-in-InUse
unfolding labelled text
returns-in-InUse c =
    let told = c.in-InUse.is in
    let a = c.args in
    (wrote_as _ (line_used a.index a.shown told) (c.add_labelled-behind.ensures.0 then c.used_line.ensures.0), omega (arith, c.add_labelled-behind.ensures.1, c.used_line.ensures.1))

pub returns-in-Owing : goal.returns-in-Owing
unfolding labelled text
returns-in-Owing c =
    let told = c.in-Owing.is in
    let a = c.args in
    (wrote_as _ (line_owing a.index a.shown told) (c.add_labelled-behind.ensures.0 then c.used_line-in-Owing.ensures.0), omega (arith, c.add_labelled-behind.ensures.1, c.used_line-in-Owing.ensures.1))
