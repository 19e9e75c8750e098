-- `settings_hex::add_hex`. The invariant: the first `b-index` bytes are there, two digits each. Assumes nothing.
use Prim.Native.Nat.{ℕ, ◌+◌}
use mathlib.Core.Path.{◌≡◌, ap, ◌∙◌}
use mathlib.Core.List.{◌∷◌, ◌++◌, []}
use native.Mathlib.Omega.{arith}
use lib.ListN.{length, take}
use lib.Seq.{take-length}
use Rattle.text.proofs.Laws.{◌then◌, wrote_none, wrote_as}
use Rattle.settings_hex.specs.Hex.{hex}
use Rattle.settings_hex.proofs.Laws.{hex_next}
use Rattle.settings_hex.proofs.add_hex.Goals as goal

pub loop-b-init : goal.loop-b-init
unfolding hex
loop-b-init c = (wrote_none _ _, omega arith)

pub digit-requires : goal.digit-requires
digit-requires c = omega (arith, c.type_inv.bytes c.loop-b.b-index)

pub returns : goal.returns
returns c =
    let l = c.loop-b in
    let b = c.args.bytes.now in
    let n : l.b-index ≡ length b = omega (arith, c.loop-b-test.false) in
    (wrote_as _ (ap (λ (k : ℕ). hex (take k b)) n ∙ ap hex (take-length b)) l.invariant.0, omega (arith, l.invariant.1))

pub loop-b-preserved : goal.loop-b-preserved
loop-b-preserved c =
    let l = c.loop-b in
    let b = c.args.bytes.now in
    let w = c.add-end.ensures in
    let d = c.digit in
    let e = c.digit-in-loop-b in
    let more : hex (take l.b-index b) ++ (d.result ∷ e.result ∷ []) ≡ hex (take (l.b-index + 1) b) = rw (d.ensures, e.ensures) (hex_next b l.b-index (omega (arith, c.loop-b-test.true))) in
    (wrote_as _ more (l.invariant.0 then w), omega (arith, w.ends, l.invariant.1))
