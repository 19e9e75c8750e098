-- `faults::first_failing`: by the headers, or else by the slots. Assumes nothing.
use mathlib.Core.Path.{◌≡◌}
use native.Mathlib.Omega.{arith}
use Rattle.model.specs.State.{segments_of}
use Rattle.scan.proofs.Laws.Surveys.{right_size_lem}
use Rattle.faults.proofs.Laws.Conditions.{place_most, heads_fail, slots_fail}
use Rattle.faults.proofs.first_failing.Goals as goal

pub see_heads-told-requires : goal.see_heads-told-requires
see_heads-told-requires c = (right_size_lem _ _ _ c.requires).0

pub returns-then-told-gt0 : goal.returns-then-told-gt0
returns-then-told-gt0 c =
    let a = c.args in
    let t = c.see_heads-told in
    let e = heads_fail a.segments a.slots a.image.now (right_size_lem _ _ _ c.requires).0.some t.result t.ensures.0 c.if-told-gt0.true in
    (e, omega (arith, e, place_most a.segments a.slots (segments_of a.segments a.slots a.image.now)))

pub test_rows-tests-requires : goal.test_rows-tests-requires
test_rows-tests-requires c = let t = c.see_heads-told in ((right_size_lem _ _ _ c.requires).0, t.ensures.1, t.ensures.2)

pub capacity-requires : goal.capacity-requires
capacity-requires c = let r = right_size_lem _ _ _ c.requires in (r.1, r.0.segments, r.2, r.0.slots)

pub returns : goal.returns
returns c =
    let a = c.args in
    let t = c.see_heads-told in
    let z : t.result.place ≡ 0 = omega (arith, c.if-told-gt0.false) in
    let e = slots_fail a.segments a.slots a.image.now (right_size_lem _ _ _ c.requires).0.some t.result t.ensures.0 c.slot_place.result _ _ c.slot_place.ensures c.capacity.ensures.0 c.test_rows-tests.ensures z in
    (e, omega (arith, e, place_most a.segments a.slots (segments_of a.segments a.slots a.image.now)))
