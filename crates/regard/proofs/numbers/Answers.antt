-- `regard::numbers`. The invariant: the first `i` are there. Assumes nothing.
use mathlib.Core.Path.{◌≡◌, refl, ap, ◌∙◌}
use mathlib.Core.List.{map}
use native.Mathlib.Omega.{arith}
use lib.ListN.{length-set}
use lib.Seq.{take_all}
use Rattle.model.specs.State.{blank, number_after, segments_of}
use Rattle.model.proofs.Laws.Segments.{segments_length}
use Rattle.descent.specs.Filled.{fill_more}
use Rattle.regard.proofs.numbers.Goals as goal

pub loop-i-init : goal.loop-i-init
loop-i-init c = (refl, omega arith, refl)

pub loop-i-preserved : goal.loop-i-preserved
loop-i-preserved c =
    let l = c.loop-i in
    let t = c.loop-i-test.true in
    let m = segments_of c.args.geometry.segments c.args.geometry.slots c.args.image.now in
    let z = segments_length c.args.geometry.segments c.args.geometry.slots c.args.image.now in
    (fill_more number_after m blank l.left l.i c.number_at.result (omega arith) (omega (arith, l.invariant.2, c.requires.segments)) c.number_at.ensures l.invariant.0, omega arith, simp length-set l.invariant.2)

pub returns : goal.returns
returns c =
    let l = c.loop-i in
    let m = segments_of c.args.geometry.segments c.args.geometry.slots c.args.image.now in
    let z = segments_length c.args.geometry.segments c.args.geometry.slots c.args.image.now in
    let e : l.i ≡ c.args.geometry.segments = omega (arith, c.loop-i-test.false) in
    ((rw e at l.invariant.0) ∙ ap (map number_after) (take_all c.args.geometry.segments m (omega arith)), l.invariant.2)
