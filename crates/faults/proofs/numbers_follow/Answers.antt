-- `faults::numbers_follow`. The invariant: the numbers that are left follow if all do. Assumes nothing.
use Prim.Native.Nat.{◌+◌, ◌%◌}
use mathlib.Core.Path.{sym, ◌∙◌}
use native.Mathlib.Omega.{arith}
use native.Mathlib.Nat.{mod-lt}
use lib.ListN.{get_or}
use Rattle.model.specs.State.{blank, segments_of}
use Rattle.judge.specs.Heads.{bare}
use Rattle.faults.proofs.Laws.Heads.{numbers_start, numbers_stop, numbers_turn, numbers_end, number_outline}
use Rattle.faults.proofs.numbers_follow.Goals as goal

pub loop-k-init : goal.loop-k-init
loop-k-init c = let a = c.args in (numbers_start a.segments a.used a.first (segments_of a.segments a.slots a.image.now), omega arith)

pub overflow_add-number : goal.overflow_add-number
overflow_add-number c = omega (arith, c.requires)

pub nonzero_rem-number : goal.nonzero_rem-number
nonzero_rem-number c = omega (arith, c.requires.0.some)

pub see_segment-s-requires : goal.see_segment-s-requires
see_segment-s-requires c = (c.requires.0, mod-lt _ c.requires.0.some)

pub overflow_add-number-in-loop-k : goal.overflow_add-number-in-loop-k
overflow_add-number-in-loop-k c = omega (arith, c.requires)

pub returns-then-number_after-number : goal.returns-then-number_after-number
returns-then-number_after-number c =
    let a = c.args in
    let j = c.loop-k in
    let l = segments_of a.segments a.slots a.image.now in
    let e = number_outline (get_or l ((a.first + j.k) % a.segments) blank) (bare c.see_segment-s.result) c.number_after.result c.number_after.ensures.0 c.see_segment-s.ensures in
    sym (numbers_stop a.segments a.used a.first l j.k _ c.loop-k-test.true e c.if-number_after-number.true) ∙ j.invariant.0

pub loop-k-preserved : goal.loop-k-preserved
loop-k-preserved c =
    let a = c.args in
    let j = c.loop-k in
    let l = segments_of a.segments a.slots a.image.now in
    let e = number_outline (get_or l ((a.first + j.k) % a.segments) blank) (bare c.see_segment-s.result) c.number_after.result c.number_after.ensures.0 c.see_segment-s.ensures in
    (sym (numbers_turn a.segments a.used a.first l j.k _ c.loop-k-test.true e c.if-number_after-number.false) ∙ j.invariant.0, omega arith)

pub returns : goal.returns
returns c =
    let a = c.args in
    let j = c.loop-k in
    sym (numbers_end a.segments a.used a.first (segments_of a.segments a.slots a.image.now) j.k c.loop-k-test.false) ∙ j.invariant.0
