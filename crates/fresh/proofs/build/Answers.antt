-- `fresh::build` does the steps of the definition. The invariant: the steps so far, and then what the block numbers from `block` on tell, are the whole list.
-- Assumes nothing.
use mathlib.Core.Path.{refl}
use native.Mathlib.Omega.{arith}
use lib.ListN.{get_or}
use Rattle.model.specs.Mounted.{least_places}
use Rattle.flash.proofs.Laws.{ran_left, ran_length}
use Rattle.flash.proofs.Pages.{sized}
use Rattle.fresh.proofs.Laws.{page_lives, page_adds, format_paid, format_sized, building_start, building_going, building_none, building_turn, building_end, building_passed}
use Rattle.fresh.proofs.build.Goals as goal

pub overflow_sub-at : goal.overflow_sub-at
overflow_sub-at c =
    format_paid c.args.geometry.segments c.args.geometry.slots c.args.target.now _ c.args.budget c.format-formatted.result c.requires.0 c.format-formatted.ensures

pub overflow_add-at : goal.overflow_add-at
overflow_add-at c = omega (arith, (sized c.args.geometry.segments c.args.geometry.slots c.args.target.now c.requires.0).segments)

pub loop-block-init : goal.loop-block-init
loop-block-init c = building_start _ _ _ _ _ _ _ refl (omega arith)

pub overflow_cast-place : goal.overflow_cast-place
overflow_cast-place c = omega (arith, c.type_inv.places c.loop-block.block)

pub pass_empty-block-requires : goal.pass_empty-block-requires
pass_empty-block-requires c =
    (c.requires.1.long, omega (arith, c.loop-block-test.true))

pub loop-block-smaller-then-place-eq0 : goal.loop-block-smaller-then-place-eq0
loop-block-smaller-then-place-eq0 c = omega (arith, c.pass_empty-block.ensures.up, c.loop-block-test.true)

pub loop-block-preserved-then-place-eq0 : goal.loop-block-preserved-then-place-eq0
loop-block-preserved-then-place-eq0 c =
    building_passed _ _ _ _ _ _ _ _ _ _ _ (building_none _ _ _ _ _ _ _ _ _ _ c.loop-block.invariant c.loop-block-test.true c.if-place-eq0.true) c.pass_empty-block.ensures c.pass_empty-block.ensures.most

pub overflow_add-end : goal.overflow_add-end
overflow_add-end c =
    omega (arith, (c.requires.1.points c.loop-block.block c.loop-block.invariant.low c.loop-block-test.true c.if-place-eq0.false).0)

pub slice_bounds-add-end : goal.slice_bounds-add-end
slice_bounds-add-end c =
    omega (arith, (c.requires.1.points c.loop-block.block c.loop-block.invariant.low c.loop-block-test.true c.if-place-eq0.false).0)

pub add-at-requires : goal.add-at-requires
add-at-requires c =
    let z = format_sized c.args.geometry.segments c.args.geometry.slots c.args.target.now _ c.args.budget c.format-formatted.result c.requires.0 c.format-formatted.ensures in (
      building_going _ _ _ _ _ _ _ _ _ _ c.loop-block.invariant z.0 z.1 (omega (arith, z.0.segments)) c.loop-block-test.true,
      page_lives c.args.source.now (get_or c.args.places.now c.loop-block.block 0) (c.requires.1.points c.loop-block.block c.loop-block.invariant.low c.loop-block-test.true c.if-place-eq0.false).1,
    )

pub loop-block-preserved : goal.loop-block-preserved
loop-block-preserved c =
    let a = c.args in
    building_turn _ _ _ _ _ _ _ _ _ _ c.loop-block.invariant c.loop-block-test.true _ _ c.if-place-eq0.false
    (page_adds _ _ a.source.now (get_or a.places.now c.loop-block.block 0) _ _ _ _ c.add-at.ensures)

pub finished-requires : goal.finished-requires
finished-requires c = omega (arith, ran_left c.loop-block.invariant.ran)

pub shape_of-target : goal.shape_of-target
shape_of-target c = omega (arith, ran_length c.loop-block.invariant.ran)

pub returns : goal.returns
returns c =
    building_end c.args.geometry.segments c.args.geometry.slots c.args.target.now _ c.args.budget c.format-formatted.result c.requires.0 c.format-formatted.ensures least_places _ _ _ _ _ c.loop-block.invariant c.loop-block-test.false c.finished.ensures
