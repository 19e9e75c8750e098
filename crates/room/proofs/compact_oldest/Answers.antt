-- `room::compact_oldest` compacts as often as the plan says. The invariant: `i` compactions are done, as far as the budget went. Assumes nothing.
use native.Mathlib.Omega.{arith}
use mathlib.Core.Path.{refl}
use Rattle.flash.proofs.Laws.{ran_length}
use Rattle.room.proofs.Laws.{progress_start, progress_next, progress_end, targets_apart}
use Rattle.room.proofs.compact_oldest.Goals as goal

pub loop-i-init : goal.loop-i-init
loop-i-init c =
    progress_start c.args.geometry.segments c.args.geometry.slots c.args.plan c.args.total c.args.image.now c.requires.0 c.args.budget c.requires.1

pub after-old-requires : goal.after-old-requires
after-old-requires c =
    let h = c.requires.0 in
    omega (arith, h.sized.segments)

pub overflow_add-plan : goal.overflow_add-plan
overflow_add-plan c =
    let h = c.requires.0 in
    omega (arith, h.sized.segments)

pub after-number-requires : goal.after-number-requires
after-number-requires c =
    let h = c.requires.0 in
    omega (arith, h.sized.segments)

pub compact_segment-done-requires : goal.compact_segment-done-requires
compact_segment-done-requires c =
    let l = c.loop-i in (
      rw (ran_length l.invariant.ran) c.requires.0.sized,
      targets_apart c.args.geometry.segments c.args.geometry.slots c.args.plan c.args.total c.args.image.now c.requires.0 c.args.budget l.i _ _ c.after-old.ensures c.after-number.ensures,
    )

pub loop-i-preserved : goal.loop-i-preserved
loop-i-preserved c =
    let l = c.loop-i in
    progress_next c.args.geometry.segments c.args.geometry.slots c.args.plan c.args.total c.args.image.now c.requires.0 c.args.budget c.requires.1 l.i l.left l.slot _ l.invariant c.loop-i-test.true
    _ _ _ _ c.after-old.ensures c.after-number.ensures c.compact_segment-done.ensures

pub after-first-requires : goal.after-first-requires
after-first-requires c =
    let h = c.requires.0 in
    let b = c.loop-i.invariant.bound in
    omega (arith, h.sized.segments)

pub shape_of-image : goal.shape_of-image
shape_of-image c = ran_length c.loop-i.invariant.ran

pub returns : goal.returns
returns c =
    let l = c.loop-i in
    progress_end c.args.geometry.segments c.args.geometry.slots c.args.plan c.args.total c.args.image.now c.requires.0 c.args.budget c.requires.1 l.i l.left l.slot _ l.invariant c.loop-i-test.false refl refl (omega (arith, c.after-first.ensures, l.invariant.bound, c.loop-i-test.false)) refl
