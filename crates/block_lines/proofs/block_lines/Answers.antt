-- `block_lines::block_lines`. The invariant (`Blocks`): the lines of the smaller block numbers are there. Assumes nothing.
use native.Mathlib.Omega.{arith}
use lib.ListN.{get_or}
use Rattle.account_text.specs.Account.{block_lines}
use Rattle.index.specs.Tables.{list_of}
use Rattle.index.proofs.Sorted.{of_few, stand_of, stand_below}
use Rattle.block_lines.proofs.Laws.{chain_none, blocks_start, blocks_more, blocks_none, blocks_as, blocks_room, blocks_end}
use Rattle.block_lines.proofs.block_lines.Goals as goal
use Rattle.block_lines.proofs.block_lines.Goals.{then-first-ne0, else-first-ne0}

pub loop-block-init : goal.loop-block-init
loop-block-init c = blocks_start _ _ _ _

pub chain_lines-end-requires : goal.chain_lines-end-requires
chain_lines-end-requires c =
    let a = c.args in
    let l = c.loop-block in
    let i = c.requires.1 in
    let list = list_of a.geometry.segments a.geometry.slots a.image.now in
    let few = i.few in
    let own = of_few l.block list in
    let room = blocks_room l.invariant in
    let start = c.requires.2 in
    (c.requires.0, c.loop-block-test.true, i.listed l.block, stand_of a.geometry.segments a.geometry.slots l.block list i.stands, omega arith, omega arith)

pub loop-block-preserved : goal.loop-block-preserved
unfolding block_lines
loop-block-preserved c =
    let a = c.args in
    let l = c.loop-block in
    let i = c.requires.1 in
    let t = c.loop-block-test.true in
    elim c.if-first-ne0.branch [
      | then-first-ne0 w ↦ blocks_as w.text-is w.end-is (blocks_more l.invariant t w.chain_lines-end.ensures.0 w.chain_lines-end.ensures.1)
      | else-first-ne0 w ↦ blocks_as w.text-is w.end-is (blocks_none (chain_none a.geometry.slots a.tables.now.nexts a.tables.now.lengths (get_or a.tables.now.firsts l.block 0) _ (i.listed l.block) (omega (arith, w.if-first-ne0.false))) l.invariant t)
    ]

pub returns : goal.returns
unfolding block_lines
returns c =
    let a = c.args in
    let i = c.requires.1 in
    blocks_end (stand_below a.geometry.segments a.geometry.slots (list_of a.geometry.segments a.geometry.slots a.image.now) i.stands) i.few c.loop-block.invariant c.loop-block-test.false
