-- `candidates::walk`. The invariant: what is left, met by the tables, gives the whole. Assumes nothing.
use Prim.Native.Nat.{◌-◌, ◌%◌}
use mathlib.Core.Path.{◌≡◌}
use native.Mathlib.Omega.{arith}
use native.Mathlib.Nat.{mod-lt}
use lib.ListN.{set, length-set}
use Rattle.model.specs.State.{blank, segments_of, top_index}
use Rattle.descent.specs.Turns.{turn_index, turn_less, page_inside}
use Rattle.salvage.specs.Salvage.{regarded}
use Rattle.candidates.proofs.Laws.{walk_start, walk_turn, walk_end}
use Rattle.candidates.proofs.walk.Goals as goal

pub regarded-left-requires : goal.regarded-left-requires
regarded-left-requires c = c.requires.0

pub largest-top-requires : goal.largest-top-requires
largest-top-requires c = (c.requires.0.segments, c.regarded-left.ensures.1)

pub loop-top-init : goal.loop-top-init
loop-top-init c =
    let r = c.regarded-left in
    let a = c.args in
    (regarded a.geometry.segments (segments_of a.geometry.segments a.geometry.slots a.image.now), walk_start a.geometry.segments a.geometry.slots a.image.now c.requires.0.some a.sheet.now r.result c.largest-top.result r.ensures.1 r.ensures.0 c.largest-top.ensures c.requires.1)

pub nonzero_rem-index : goal.nonzero_rem-index
nonzero_rem-index c = c.requires.0.some

pub overflow_add-geometry : goal.overflow_add-geometry
overflow_add-geometry c = omega (arith, c.requires.0.slots)

pub overflow_mul-index : goal.overflow_mul-index
overflow_mul-index c =
    let m = mod-lt (c.loop-top.top - 1) c.requires.0.some in
    let q = page_inside c.args.geometry.segments c.args.geometry.slots ((c.loop-top.top - 1) % c.args.geometry.segments) m c.requires.0.segments c.requires.0.slots in
    omega (arith, q.0)

pub meet_row-requires : goal.meet_row-requires
meet_row-requires c =
    let l = c.loop-top in
    let m = mod-lt (l.top - 1) c.requires.0.some in
    let q = page_inside c.args.geometry.segments c.args.geometry.slots ((l.top - 1) % c.args.geometry.segments) m c.requires.0.segments c.requires.0.slots in
    (omega (arith, q.2, c.requires.0.whole), q.1, l.invariant.1.within)

pub offset_bounds-left-index : goal.offset_bounds-left-index
offset_bounds-left-index c =
    omega (arith, c.requires.0.segments, mod-lt (c.loop-top.top - 1) c.requires.0.some)

pub bounds-left-index : goal.bounds-left-index
bounds-left-index c =
    omega (arith, c.requires.0.segments, mod-lt (c.loop-top.top - 1) c.requires.0.some)

pub largest-top-requires-in-loop-top : goal.largest-top-requires-in-loop-top
largest-top-requires-in-loop-top c = (c.requires.0.segments, simp length-set c.loop-top.invariant.1.descent.places)

pub loop-top-smaller : goal.loop-top-smaller
loop-top-smaller c =
    let l = c.loop-top in
    let a = c.args in
    turn_less a.geometry.segments a.geometry.slots a.image.now c.requires.0.some l.invariant.0 l.left l.top l.invariant.1.descent c.loop-top-test.true

pub loop-top-preserved : goal.loop-top-preserved
loop-top-preserved c =
    let l = c.loop-top in
    let a = c.args in
    let more = c.loop-top-test.true in
    let w = l.invariant.1 in
    let i = (l.top - 1) % a.geometry.segments in
    let q = page_inside a.geometry.segments a.geometry.slots i (mod-lt (l.top - 1) c.requires.0.some) c.requires.0.segments c.requires.0.slots in
    let e : i ≡ top_index a.geometry.segments l.invariant.0 = turn_index a.geometry.segments a.geometry.slots a.image.now c.requires.0.some l.invariant.0 l.left l.top w.descent more in (
      set l.invariant.0 (top_index a.geometry.segments l.invariant.0) blank,
      walk_turn a.geometry.segments a.geometry.slots a.image.now c.requires.0.some a.sheet.now l.invariant.0 l.left l.top l.sheet w more i e
          (omega (arith, q.2, c.requires.0.whole)) _ c.largest-top-in-loop-top.result c.meet_row.ensures c.largest-top-in-loop-top.ensures,
    )

pub returns : goal.returns
returns c =
    let l = c.loop-top in
    let a = c.args in
    walk_end a.geometry.segments a.geometry.slots a.image.now c.requires.0.some a.sheet.now l.invariant.0 l.left l.top l.sheet l.invariant.1 (omega (arith, c.loop-top-test.false))
