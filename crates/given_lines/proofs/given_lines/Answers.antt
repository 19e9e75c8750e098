-- `given_lines::given_lines`. The invariant (`Blocks`): the lines of the smaller block numbers are there. Assumes nothing.
use mathlib.Core.Path.{refl}
use native.Mathlib.Omega.{arith}
use Rattle.flash.proofs.Pages.{sized}
use Rattle.block_lines.proofs.Laws.{blocks_start}
use Rattle.given_lines.proofs.Laws.{lines_one, lines_passed, lines_room, lines_end}
use Rattle.given_lines.proofs.given_lines.Goals as goal

pub overflow_cast-pages : goal.overflow_cast-pages
overflow_cast-pages c = omega (arith, (sized c.args.geometry.segments c.args.geometry.slots c.args.image.now c.requires.0).slots)

pub overflow_add-pages : goal.overflow_add-pages
overflow_add-pages c = omega (arith, (sized c.args.geometry.segments c.args.geometry.slots c.args.image.now c.requires.0).slots)

pub loop-block-init : goal.loop-block-init
loop-block-init c = blocks_start _ _ _ _

pub loop-block-preserved-then-place-eq0 : goal.loop-block-preserved-then-place-eq0
loop-block-preserved-then-place-eq0 c =
    let l = c.loop-block in
    let a = c.args in
    lines_passed a.geometry.segments a.geometry.slots a.image.now c.requires.0 a.sheet.now c.requires.1 _ _ l.invariant c.loop-block-test.true c.if-place-eq0.true c.pass_empty-block.ensures

pub given_line-end-requires : goal.given_line-end-requires
given_line-end-requires c =
    let l = c.loop-block in
    let a = c.args in
    omega (arith, lines_room a.geometry.segments a.geometry.slots a.image.now c.requires.0 a.sheet.now c.requires.1 _ _ l.invariant, c.requires.2)

pub loop-block-preserved : goal.loop-block-preserved
loop-block-preserved c =
    let g = c.given_line-end in
    let l = c.loop-block in
    let a = c.args in
    lines_one a.geometry.segments a.geometry.slots a.image.now c.requires.0 a.sheet.now c.requires.1 _ _ l.invariant c.loop-block-test.true c.if-place-eq0.false c.from.ensures refl refl refl g.ensures.0 g.ensures.1

pub returns : goal.returns
returns c =
    let a = c.args in
    lines_end a.geometry.segments a.geometry.slots a.image.now c.requires.0 a.sheet.now c.requires.1 _ _ c.loop-block.invariant c.loop-block-test.false
