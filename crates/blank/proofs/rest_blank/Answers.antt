-- `blank::rest_blank` is the test of the definition. The invariant: the bytes joined so far are 255 just if those before are blank. Assumes nothing.
use mathlib.Core.Path.{refl, ap, ◌∙◌}
use native.Mathlib.Omega.{arith}
use lib.Seq.{take_all}
use Rattle.model.specs.Header.{is_blank}
use Rattle.blank.proofs.Blank.{joined_turn, joined_less}
use Rattle.blank.proofs.rest_blank.Goals as goal

pub loop-byte-init : goal.loop-byte-init
unfolding is_blank
loop-byte-init c = (omega arith, omega arith, refl)

pub loop-byte-preserved : goal.loop-byte-preserved
loop-byte-preserved c =
    let k = c.loop-byte in
    let s = c.args.rest.now in
    (omega arith, joined_less k.joined _ k.invariant.1, joined_turn k.joined k.byte-index s k.invariant.1 c.loop-byte-test.true (omega (arith, c.items_fit k.byte-index)) k.invariant.2)

pub returns : goal.returns
returns c =
    let k = c.loop-byte in
    k.invariant.2 ∙ ap is_blank (take_all k.byte-index c.args.rest.now (omega arith))
