-- `faults::test_heads`. The invariant: what is left of the segments, behind what was tested, gives the whole. Assumes nothing.
use native.Mathlib.Omega.{arith}
use Rattle.model.specs.State.{segments_of}
use Rattle.model.proofs.Laws.Segments.{segments_length}
use Rattle.judge.specs.Heads.{no_counts}
use Rattle.faults.proofs.Laws.Heads.{tests_start, tests_turn, tests_end}
use Rattle.faults.proofs.test_heads.Goals as goal

pub loop-i-init : goal.loop-i-init
unfolding no_counts
loop-i-init c =
    let a = c.args in
    let e = c.none_counted.ensures in
    (tests_start (segments_of a.segments a.slots a.image.now) _ e, omega arith, rw e (omega arith), rw e (omega arith))

pub see_segment-requires : goal.see_segment-requires
see_segment-requires c = (c.requires, c.loop-i-test.true)

pub test_head-tests-requires : goal.test_head-tests-requires
test_head-tests-requires c = let l = c.loop-i in (omega (arith, l.invariant.2, c.requires.segments), l.invariant.3)

pub loop-i-preserved : goal.loop-i-preserved
loop-i-preserved c =
    let l = c.loop-i in
    let a = c.args in
    let v = c.see_segment in
    let k = c.test_head-tests in
    let z = segments_length a.segments a.slots a.image.now in (
      tests_turn (segments_of a.segments a.slots a.image.now) l.i l.tests k.result _ v.result (omega arith) k.ensures.0 v.ensures l.invariant.0,
      omega arith,
      omega (arith, k.ensures.1, l.invariant.2),
      k.ensures.2,
    )

pub returns : goal.returns
returns c =
    let l = c.loop-i in
    let a = c.args in
    let z = segments_length a.segments a.slots a.image.now in (
      tests_end (segments_of a.segments a.slots a.image.now) l.i l.tests _ (omega (arith, l.invariant.1)) l.invariant.0,
      omega (arith, l.invariant.1, l.invariant.2, c.requires.segments),
      l.invariant.3,
    )
