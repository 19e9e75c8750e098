-- `block_lines::chain_lines`. The invariant (`Walk`): the lines of the pages from this one on are left. Assumes nothing.
use native.Mathlib.Omega.{arith}
use Rattle.index.specs.Tables.{list_of}
use Rattle.index.proofs.Sorted.{of_block_lem}
use Rattle.block_lines.proofs.Laws.{walk_start, walk_inside, walk_less, walk_step, walk_end}
use Rattle.block_lines.proofs.chain_lines.Goals as goal

pub loop-page-init : goal.loop-page-init
loop-page-init c =
    let a = c.args in
    let p = c.requires in
    rw c.from-page.ensures (walk_start p.2 p.3 (of_block_lem a.block (list_of a.geometry.segments a.geometry.slots a.image.now)) (omega (arith, p.4)))

pub bounds-tables-page : goal.bounds-tables-page
bounds-tables-page c = (walk_inside c.requires.0 c.loop-page.invariant c.loop-page-test.true).0

pub overflow_cast-place : goal.overflow_cast-place
overflow_cast-place c =
    let i = walk_inside c.requires.0 c.loop-page.invariant c.loop-page-test.true in
    omega arith

pub block_line-end-requires : goal.block_line-end-requires
block_line-end-requires c =
    let i = walk_inside c.requires.0 c.loop-page.invariant c.loop-page-test.true in
    omega (arith, c.requires.5)

pub offset_bounds-tables-page : goal.offset_bounds-tables-page
offset_bounds-tables-page c =
    let i = walk_inside c.requires.0 c.loop-page.invariant c.loop-page-test.true in
    omega arith

pub bounds-tables-page-in-loop-page : goal.bounds-tables-page-in-loop-page
bounds-tables-page-in-loop-page c =
    let i = walk_inside c.requires.0 c.loop-page.invariant c.loop-page-test.true in
    i.0

pub loop-page-smaller : goal.loop-page-smaller
loop-page-smaller c =
    rw c.from-page-in-loop-page.ensures (walk_less c.loop-page.invariant c.loop-page-test.true)

pub loop-page-preserved : goal.loop-page-preserved
loop-page-preserved c =
    rw c.from-page-in-loop-page.ensures (walk_step c.loop-page.invariant c.loop-page-test.true (rw c.from-length.ensures at c.block_line-end.ensures.0) c.block_line-end.ensures.1)

pub returns : goal.returns
returns c = walk_end c.loop-page.invariant c.loop-page-test.false
