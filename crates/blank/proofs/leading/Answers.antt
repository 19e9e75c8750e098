-- `blank::leading` counts the whole groups before the first that differs. The invariant: those looked at are blank. Assumes nothing.
use Prim.Native.Nat.{◌*◌, ◌/◌}
use mathlib.Core.Path.{◌≡◌, refl, sym, ◌∙◌}
use native.Mathlib.Omega.{arith}
use lib.ListN.{length}
use Rattle.blank.proofs.Blank.{leads, part_turn, part_differs, parts_whole, stops_among}
use Rattle.blank.proofs.leading.Goals as goal

pub returns-then-before-bytes : goal.returns-then-before-bytes
returns-then-before-bytes c =
    let s = c.args.bytes.now in
    stops_among 8 (4 * (length s / 32)) (length s / 8) s _ c.leading_fours-before.ensures c.if-before-bytes.true (omega arith)

pub loop-groups-init : goal.loop-groups-init
loop-groups-init c =
    let s = c.args.bytes.now in
    let f = leads 8 (4 * (length s / 32)) s _ c.leading_fours-before.ensures in
    (omega (arith, f.within), f.blank)

pub returns-then-not-group_blank : goal.returns-then-not-group_blank
returns-then-not-group_blank c =
    let e = sym c.group_blank.ensures ∙ c.if-not-group_blank.true in
    let s = c.args.bytes.now in
    part_differs 8 s c.loop-groups.groups c.loop-groups.invariant.1 (length s / 8) (omega arith) e

pub loop-groups-preserved : goal.loop-groups-preserved
loop-groups-preserved c =
    let s = c.args.bytes.now in
    let e = sym c.group_blank.ensures ∙ c.if-not-group_blank.false in
    (omega arith, part_turn 8 s c.loop-groups.groups c.loop-groups.invariant.1 e)

pub returns : goal.returns
returns c =
    let s = c.args.bytes.now in
    let e : length s / 8 ≡ c.loop-groups.groups = omega arith in
    rw e (parts_whole 8 s c.loop-groups.groups c.loop-groups.invariant.1 (c.loop-groups.groups) refl)
