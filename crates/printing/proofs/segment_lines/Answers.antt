-- `printing::segment_lines`. The invariant: the lines of the first `i` segments are there. Assumes nothing.
use Prim.Native.Nat.{ℕ}
use mathlib.Core.Path.{◌≡◌, ap}
use native.Mathlib.Omega.{arith}
use lib.ListN.{take}
use Rattle.text.proofs.Laws.{◌then◌, wrote_none, wrote_as}
use Rattle.index.specs.Shows.{shown_lines}
use Rattle.printing.proofs.Laws.{segment_more}
use Rattle.printing.proofs.segment_lines.Goals as goal

pub loop-i-init : goal.loop-i-init
unfolding shown_lines
loop-i-init c = (wrote_none _ _, omega arith, omega arith)

pub loop-i-preserved : goal.loop-i-preserved
loop-i-preserved c =
    let l = c.loop-i in
    let good = c.well_formed in
    let more = segment_more c.args.table l.i _ (omega (arith, c.well_formed.1, c.requires.0)) in
    let e = c.segment_line-end.ensures in
    (wrote_as _ more (l.invariant.0 then e.0), omega arith, omega (arith, e.1, l.invariant.2))

pub returns : goal.returns
returns c =
    let l = c.loop-i in
    let same : l.i ≡ c.args.segments = omega (arith, l.invariant.1, c.loop-i-test.false) in
    (wrote_as _ (ap (λ (k : ℕ). shown_lines 0 (take k c.args.table)) same) l.invariant.0, omega (arith, l.invariant.2))
