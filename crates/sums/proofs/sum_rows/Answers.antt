-- `sums::sum_rows` adds rows up as the definition does. Assumes nothing.
use Prim.Native.Nat.{◌<◌}
use mathlib.Core.Path.{sym, ◌∙◌}
use native.Mathlib.Omega.{arith}
use lib.ListN.{length}
use Rattle.judge.specs.Tally.{row_of, no_sum}
use Rattle.sums.proofs.Laws.{rows_start, rows_turn, rows_end, few_start, few_more}
use Rattle.sums.proofs.sum_rows.Goals as goal

pub add_row-sum-requires : goal.add_row-sum-requires
add_row-sum-requires c =
    let k = c.loop-i.invariant.2 in
    let p = c.requires in
    record { live = omega (arith, k.live); written = k.written; compactions = omega (arith, k.compactions) }

pub loop-i-init : goal.loop-i-init
unfolding no_sum
loop-i-init c = (rows_start c.args.ring c.args.used, omega arith, few_start)

pub loop-i-preserved : goal.loop-i-preserved
unfolding row_of
loop-i-preserved c =
    let l = c.loop-i in
    let t = c.loop-i-test.true in
    let h : l.i < length c.args.ring = omega (arith, c.well_formed.0, c.requires) in (
      rows_turn c.args.ring c.args.used l.i _ l.sum c.add_row-sum.result t h c.add_row-sum.ensures.0 ∙ l.invariant.0,
      omega arith,
      rw c.add_row-sum.ensures.0 (few_more l.sum _ l.i c.add_row-sum.ensures.1 c.add_row-sum.ensures.2 l.invariant.2),
    )

pub returns : goal.returns
returns c =
    let l = c.loop-i in
    (sym (rows_end c.args.ring c.args.used l.i l.sum c.loop-i-test.false) ∙ l.invariant.0, l.invariant.2.written)
