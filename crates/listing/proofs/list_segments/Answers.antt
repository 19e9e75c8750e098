-- `listing::list_segments`. The invariant: what was walked over is counted and in the tables, and the rest gives the whole. Assumes nothing.
use Prim.Native.Nat.{◌-◌, ◌%◌}
use mathlib.Core.Path.{◌≡◌}
use native.Mathlib.Omega.{arith}
use native.Mathlib.Nat.{mod-lt}
use lib.ListN.{set, length-set}
use Rattle.model.specs.State.{blank, top_index}
use Rattle.index.specs.Shows.{no_counts, shown_as}
use Rattle.descent.specs.Turns.{turn_index, turn_less, page_inside}
use Rattle.listing.proofs.Laws.Walk.{whole, walk_start, again, walk_end}
use Rattle.listing.proofs.list_segments.Goals as goal

pub numbers-left-requires : goal.numbers-left-requires
numbers-left-requires c = c.requires.0.segments

pub largest-top-requires : goal.largest-top-requires
largest-top-requires c = (c.requires.0.segments, c.numbers-left.ensures.1)

pub loop-top-init : goal.loop-top-init
loop-top-init c =
    let a = c.args in
    (whole a.geometry.segments a.geometry.slots a.image.now, walk_start a.geometry.segments a.geometry.slots a.image.now c.requires.0.some c.requires.0.segments a.tables.now a.table c.numbers-left.result c.largest-top.result (omega (arith, c.well_formed.1.1.1.0)) c.numbers-left.ensures.1 c.requires.1 c.numbers-left.ensures.0 c.largest-top.ensures)

pub nonzero_rem-index : goal.nonzero_rem-index
nonzero_rem-index c = c.requires.0.some

pub overflow_add-geometry : goal.overflow_add-geometry
overflow_add-geometry c = omega (arith, c.requires.0.slots)

pub overflow_mul-index : goal.overflow_mul-index
overflow_mul-index c =
    let m = mod-lt (c.loop-top.top - 1) c.requires.0.some in
    let q = page_inside c.args.geometry.segments c.args.geometry.slots ((c.loop-top.top - 1) % c.args.geometry.segments) m c.requires.0.segments c.requires.0.slots in
    omega (arith, q.0)

pub list_row-counts-requires : goal.list_row-counts-requires
list_row-counts-requires c =
    let m = mod-lt (c.loop-top.top - 1) c.requires.0.some in
    let q = page_inside c.args.geometry.segments c.args.geometry.slots ((c.loop-top.top - 1) % c.args.geometry.segments) m c.requires.0.segments c.requires.0.slots in
    (omega (arith, q.2, c.requires.0.whole), q.1, c.requires.0.slots)

pub offset_bounds-shown-index : goal.offset_bounds-shown-index
offset_bounds-shown-index c =
    let m = mod-lt (c.loop-top.top - 1) c.requires.0.some in
    omega (arith, c.requires.0.segments)

pub bounds-shown-index : goal.bounds-shown-index
bounds-shown-index c =
    let m = mod-lt (c.loop-top.top - 1) c.requires.0.some in
    omega (arith, c.requires.0.segments)

pub offset_bounds-shown-index-in-loop-top : goal.offset_bounds-shown-index-in-loop-top
offset_bounds-shown-index-in-loop-top c =
    let m = mod-lt (c.loop-top.top - 1) c.requires.0.some in
    omega (arith, c.requires.0.segments)

pub bounds-shown-index-in-loop-top : goal.bounds-shown-index-in-loop-top
bounds-shown-index-in-loop-top c =
    let m = mod-lt (c.loop-top.top - 1) c.requires.0.some in
    omega (arith, c.requires.0.segments)

pub offset_bounds-left-index : goal.offset_bounds-left-index
offset_bounds-left-index c =
    let m = mod-lt (c.loop-top.top - 1) c.requires.0.some in
    omega (arith, c.requires.0.segments)

pub bounds-left-index : goal.bounds-left-index
bounds-left-index c =
    let m = mod-lt (c.loop-top.top - 1) c.requires.0.some in
    omega (arith, c.requires.0.segments)

pub largest-top-requires-in-loop-top : goal.largest-top-requires-in-loop-top
largest-top-requires-in-loop-top c = (c.requires.0.segments, simp length-set c.loop-top.invariant.1.descent.places)

pub loop-top-smaller : goal.loop-top-smaller
loop-top-smaller c =
    let a = c.args in
    let l = c.loop-top in
    turn_less a.geometry.segments a.geometry.slots a.image.now c.requires.0.some l.invariant.0 l.left l.top l.invariant.1.descent c.loop-top-test.true

pub loop-top-preserved : goal.loop-top-preserved
unfolding shown_as no_counts
loop-top-preserved c =
    let a = c.args in
    let l = c.loop-top in
    let more = c.loop-top-test.true in
    let w = l.invariant.1 in
    let e : (l.top - 1) % a.geometry.segments ≡ top_index a.geometry.segments l.invariant.0 = turn_index a.geometry.segments a.geometry.slots a.image.now c.requires.0.some l.invariant.0 l.left l.top w.descent more in (
      set l.invariant.0 (top_index a.geometry.segments l.invariant.0) blank,
      again a.geometry.segments a.geometry.slots a.image.now c.requires.0.some c.requires.0.segments a.tables.now l.invariant.0 l.shown l.left l.top l.tables w more
          ((l.top - 1) % a.geometry.segments) e c.list_row-counts.result c.count.result _ c.largest-top-in-loop-top.result c.list_row-counts.ensures.0 c.count.ensures c.list_row-counts.ensures.1 c.largest-top-in-loop-top.ensures,
    )

pub returns : goal.returns
returns c =
    let a = c.args in
    let l = c.loop-top in
    walk_end a.geometry.segments a.geometry.slots a.image.now c.requires.0.some c.requires.0.segments a.tables.now l.invariant.0 l.shown l.left l.top l.tables l.invariant.1 (omega (arith, c.loop-top-test.false))
