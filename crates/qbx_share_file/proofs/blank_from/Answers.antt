-- `qbx_share_file::blank_from`. The invariant: from `i` on the next blank is where it is from `at` on. Assumes nothing.
use mathlib.Core.Path.{sym, ◌∙◌}
use native.Mathlib.Omega.{arith}
use Rattle.qbx_share_file.specs.ShareFile.{is_blank}
use Rattle.qbx_share_file.proofs.Laws.Parts.{reach_here, reach_on, reach_none}
use Rattle.qbx_share_file.proofs.blank_from.Goals as goal

pub returns-then-is_blank : goal.returns-then-is_blank
returns-then-is_blank c =
    let r = reach_here is_blank c.args.line.now c.loop-i.i c.loop-i-test.true (sym c.is_blank.ensures ∙ c.if-is_blank.true) in
    (omega (arith, r, c.loop-i.invariant), omega arith)

pub loop-i-preserved : goal.loop-i-preserved
loop-i-preserved c =
    let r = reach_on is_blank c.args.line.now c.loop-i.i c.loop-i-test.true (sym c.is_blank.ensures ∙ c.if-is_blank.false) in
    omega (arith, r, c.loop-i.invariant)

pub returns : goal.returns
returns c =
    let r = reach_none is_blank c.args.line.now c.loop-i.i c.loop-i-test.false in
    (omega (arith, r, c.loop-i.invariant), omega arith)
