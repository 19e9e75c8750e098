-- `listing::see_all`. The invariant: the first `i` are there. Assumes nothing.
use mathlib.Core.Path.{◌≡◌, refl, ap, ◌∙◌}
use mathlib.Core.List.{map}
use native.Mathlib.Omega.{arith}
use lib.ListN.{get_or, length-set}
use lib.Seq.{take_all}
use Rattle.model.specs.State.{blank, segments_of}
use Rattle.model.proofs.Laws.Segments.{segments_length}
use Rattle.index.specs.Shows.{uncounted}
use Rattle.descent.specs.Filled.{fill_more}
use Rattle.listing.proofs.Laws.Shows.{outline_uncounted}
use Rattle.listing.proofs.see_all.Goals as goal

pub loop-i-init : goal.loop-i-init
loop-i-init c = (refl, omega arith, refl)

pub see_segment-requires : goal.see_segment-requires
see_segment-requires c = (c.requires, c.loop-i-test.true)

pub offset_bounds-table-i : goal.offset_bounds-table-i
offset_bounds-table-i c = omega (arith, c.requires.segments)

pub bounds-table-i : goal.bounds-table-i
bounds-table-i c = omega (arith, c.requires.segments)

pub loop-i-smaller : goal.loop-i-smaller
loop-i-smaller c = omega arith

pub loop-i-preserved : goal.loop-i-preserved
loop-i-preserved c =
    let l = c.loop-i in
    let t = c.loop-i-test.true in
    let m = segments_of c.args.geometry.segments c.args.geometry.slots c.args.image.now in
    let z = segments_length c.args.geometry.segments c.args.geometry.slots c.args.image.now in
    let e : c.begin.result ≡ uncounted (get_or m l.i blank) = c.begin.ensures ∙ (ap uncounted c.see_segment.ensures ∙ outline_uncounted (get_or m l.i blank)) in
    (fill_more uncounted m blank l.table l.i c.begin.result (omega arith) (omega (arith, l.invariant.2, c.requires.segments)) e l.invariant.0, omega arith, simp length-set l.invariant.2)

pub returns : goal.returns
returns c =
    let l = c.loop-i in
    let m = segments_of c.args.geometry.segments c.args.geometry.slots c.args.image.now in
    let z = segments_length c.args.geometry.segments c.args.geometry.slots c.args.image.now in
    let e : l.i ≡ c.args.geometry.segments = omega (arith, c.loop-i-test.false) in
    (rw e at l.invariant.0) ∙ ap (map uncounted) (take_all c.args.geometry.segments m (omega arith))
