-- `sums::examine` examines the segments in use as the definition does. Assumes nothing.
use native.Mathlib.Omega.{arith}
use Rattle.judge.specs.Tally.{bad_sum}
use Rattle.sums.proofs.Laws.{exam_looked, exam_skipped}
use Rattle.sums.proofs.examine.Goals as goal

pub returns-then-frame : goal.returns-then-frame
returns-then-frame c = (
  exam_looked c.args.geometry.segments c.args.geometry.slots c.args.image.now c.args.frame c.gather.result c.sum_rows-sum.result c.if-frame.true c.gather.ensures c.sum_rows-sum.ensures.0,
  record { whole = c.requires.1.whole; used = c.requires.1.used; written = c.sum_rows-sum.ensures.1 },
)

pub returns : goal.returns
unfolding bad_sum
returns c = (
  exam_skipped c.args.geometry.segments c.args.geometry.slots c.args.image.now c.args.frame c.if-frame.false,
  record { whole = c.requires.1.whole; used = c.requires.1.used; written = omega arith },
)
