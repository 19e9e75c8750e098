-- `sums::add_row` adds a row as the definition does. Assumes nothing.
use mathlib.Core.Path.{◌≡◌}
use native.Mathlib.Omega.{arith}
use Rattle.judge.specs.Tally.{add_row}
use Rattle.sums.proofs.add_row.Goals as goal

pub returns-then-sum : goal.returns-then-sum
unfolding add_row
returns-then-sum c =
    let w = c.written-written.ensures in
    let live : c.from.result ≡ c.args.row.live = omega arith in
    (rw (live, w.0, c.behind-ending.ensures, c.if-sum.true), omega arith, omega (arith, w.0, w.1))

pub returns : goal.returns
unfolding add_row
returns c =
    let w = c.written-written.ensures in
    let live : c.from.result ≡ c.args.row.live = omega arith in
    let dead : c.from-2.result ≡ c.args.row.dead = omega arith in
    let cut : c.from-3.result ≡ c.args.row.cut = omega arith in
    (rw (live, w.0, c.behind-ending.ensures, c.if-sum.false, dead, cut), omega arith, omega (arith, w.0, w.1))
