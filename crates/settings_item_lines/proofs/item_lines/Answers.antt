-- `settings_item_lines::item_lines`. The invariant: some lines are there, and the others are left. Assumes nothing.
use Prim.Native.Nat.{◌+◌, ◌*◌, ◌<◌, ◌≤◌}
use mathlib.Core.Path.{◌≡◌}
use native.Mathlib.Omega.{arith}
use lib.ListN.{length}
use Rattle.settings_item_lines.proofs.Laws.{left_all, left_next, left_none}
use Rattle.settings_item_lines.proofs.item_lines.Goals as goal

pub loop-i-init : goal.loop-i-init
loop-i-init c = (left_all _ _ _ _ _, omega arith)

pub item_line-end-requires : goal.item_line-end-requires
item_line-end-requires c = omega (arith, c.requires, c.loop-i.invariant.1, c.loop-i-test.true)

pub loop-i-preserved : goal.loop-i-preserved
loop-i-preserved c =
    let l = c.loop-i in
    let w = c.item_line-end.ensures in
    let h : 2 * l.i + 1 < length c.args.layout.now = omega (arith, c.loop-i-test.true) in
    let e : 2 * (l.i + 1) ≡ 2 * l.i + 2 = omega arith in
    (rw e (left_next _ _ _ _ _ (2 * l.i) l.invariant.0 h w.0), omega (arith, w.1, l.invariant.1))

pub shape_of-text : goal.shape_of-text
shape_of-text c = c.loop-i.invariant.0.wrote.kept

pub returns : goal.returns
returns c =
    let l = c.loop-i in
    let h : length c.args.layout.now ≤ 2 * l.i + 1 = omega (arith, c.loop-i-test.false) in
    (left_none _ _ _ _ _ (2 * l.i) l.invariant.0 h, omega (arith, l.invariant.1, c.loop-i.auto))
