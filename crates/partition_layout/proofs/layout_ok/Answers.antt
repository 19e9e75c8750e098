-- `partition_layout::layout_ok`. The invariant: whether the table is right is whether what is left is, beside the identifiers met and the bytes left. Assumes nothing.
use Prim.Native.Nat.{◌<◌}
use mathlib.Core.Path.{◌∙◌, ap}
use native.Mathlib.Omega.{arith}
use lib.ListN.{get_or}
use Rattle.partition_layout.proofs.Walk.{First, left_over, no_room, walk_start, no_identifier, twice, empty, too_long, walk_next, walk_end}
use Rattle.partition_layout.proofs.layout_ok.Goals as goal

-- what goes on stands before what is refused: an edit is refused for that
pub loop-pair-preserved : goal.loop-pair-preserved
loop-pair-preserved c =
    let w = c.in-Some.ensures.steps in
    let v = c.loop-pair.invariant in
    let p : First c.loop-pair.pair-iterator.rest.now c.in-Some.pair.now c.next.new.self.rest.now = record { parts = w.1.0; two = w.1.1 ∙ v.0 } in
    let i = c.from-identifier.ensures in
    let n = c.from-length.ensures in
    let byte : get_or c.in-Some.pair.now 0 0 < 256 = omega arith in
    (w.0 ∙ v.0, rw (i, n) (walk_next v.1 p (omega (arith, i, c.if-identifier-eq-NO_IDENTIFIER.false)) (rw i at c.if-met-identifier.false) (omega (arith, n, c.if-length-eq0.false)) (omega (arith, n, c.if-left-bytes.false)) byte))

pub returns-then-layout-ne0 : goal.returns-then-layout-ne0
returns-then-layout-ne0 c = left_over _ _ (omega (arith, c.if-layout-ne0.true))

pub returns-then-size-eq0 : goal.returns-then-size-eq0
returns-then-size-eq0 c = no_room _ _ c.if-size-eq0.true

pub loop-pair-init : goal.loop-pair-init
loop-pair-init c =
    let e = c.into_iter-pair-iterator.ensures.into_iter_gives in
    (ap (λ r. r.size) e ∙ c.chunks_exact-pair-items.ensures.size, walk_start _ _ (ap (λ r. r.rest.now) e ∙ c.chunks_exact-pair-items.ensures.rest) (omega (arith, c.if-layout-ne0.false)) c.if-size-eq0.false)

pub returns-then-identifier-eq-NO_IDENTIFIER : goal.returns-then-identifier-eq-NO_IDENTIFIER
returns-then-identifier-eq-NO_IDENTIFIER c =
    let w = c.in-Some.ensures.steps in
    let v = c.loop-pair.invariant in
    let p : First c.loop-pair.pair-iterator.rest.now c.in-Some.pair.now c.next.new.self.rest.now = record { parts = w.1.0; two = w.1.1 ∙ v.0 } in
    no_identifier v.1 p (omega (arith, c.from-identifier.ensures, c.if-identifier-eq-NO_IDENTIFIER.true))

pub returns-then-met-identifier : goal.returns-then-met-identifier
returns-then-met-identifier c =
    let w = c.in-Some.ensures.steps in
    let v = c.loop-pair.invariant in
    let p : First c.loop-pair.pair-iterator.rest.now c.in-Some.pair.now c.next.new.self.rest.now = record { parts = w.1.0; two = w.1.1 ∙ v.0 } in
    twice v.1 p (rw c.from-identifier.ensures at c.if-met-identifier.true)

pub returns-then-length-eq0 : goal.returns-then-length-eq0
returns-then-length-eq0 c =
    let w = c.in-Some.ensures.steps in
    let v = c.loop-pair.invariant in
    let p : First c.loop-pair.pair-iterator.rest.now c.in-Some.pair.now c.next.new.self.rest.now = record { parts = w.1.0; two = w.1.1 ∙ v.0 } in
    empty v.1 p (omega (arith, c.from-length.ensures, c.if-length-eq0.true))

pub returns-then-left-bytes : goal.returns-then-left-bytes
returns-then-left-bytes c =
    let w = c.in-Some.ensures.steps in
    let v = c.loop-pair.invariant in
    let p : First c.loop-pair.pair-iterator.rest.now c.in-Some.pair.now c.next.new.self.rest.now = record { parts = w.1.0; two = w.1.1 ∙ v.0 } in
    too_long v.1 p (omega (arith, c.from-length.ensures, c.if-left-bytes.true))

pub returns : goal.returns
returns c =
    let v = c.loop-pair.invariant in
    walk_end v.1 (omega (arith, c.in-None.ensures.steps.1.0, v.0))
