-- `blank::blank_before` counts the groups before the first that differs, with a shorter last one. Assumes nothing.
use Prim.Native.Nat.{◌/◌}
use mathlib.Core.Path.{sym, ◌∙◌}
use native.Mathlib.Omega.{arith}
use lib.ListN.{length}
use Rattle.blank.proofs.Blank.{leads, before_whole, before_one, before_none, before_stops, before_all, before_rest}
use Rattle.blank.proofs.blank_before.Goals as goal

pub returns-then-bytes-eq0 : goal.returns-then-bytes-eq0
returns-then-bytes-eq0 c = before_whole c.args.bytes.now _ (omega arith) c.leading.ensures

pub returns-then-rest_blank : goal.returns-then-rest_blank
returns-then-rest_blank c = before_one c.args.bytes.now c.if-bytes-eq0.false c.if-bytes-lt8.true (sym c.rest_blank.ensures ∙ c.if-rest_blank.true)

pub returns-then-bytes-lt8 : goal.returns-then-bytes-lt8
returns-then-bytes-lt8 c = before_none c.args.bytes.now c.if-bytes-lt8.true (sym c.rest_blank.ensures ∙ c.if-rest_blank.false)

pub returns-then-groups-bytes : goal.returns-then-groups-bytes
returns-then-groups-bytes c = before_stops c.args.bytes.now _ c.leading-groups.ensures c.if-groups-bytes.true

pub overflow_add-result : goal.overflow_add-result
overflow_add-result c =
    let s = c.args.bytes.now in
    record { fits = omega (arith, (leads 8 (length s / 8) s _ c.leading-groups.ensures).within) }

pub returns-then-group_blank : goal.returns-then-group_blank
returns-then-group_blank c = before_all c.args.bytes.now _ c.leading-groups.ensures c.if-groups-bytes.false c.if-bytes-lt8.false c.if-bytes-eq0.false (sym c.group_blank.ensures ∙ c.if-group_blank.true)

pub returns : goal.returns
returns c = before_rest c.args.bytes.now _ c.leading-groups.ensures c.if-groups-bytes.false c.if-bytes-lt8.false (sym c.group_blank.ensures ∙ c.if-group_blank.false)
