-- `partition_items::carry_items` carries one item of the table after the other. The invariant: whatever finishes the rest of them finishes the whole. Assumes nothing.
use mathlib.Core.Path.{◌∙◌, ap}
use native.Mathlib.Omega.{arith}
use Rattle.partition_layout.proofs.Walk.{First}
use Rattle.partition_items.proofs.Carrying.{carrying_start, carrying_one, carrying_next, carrying_end}
use Rattle.partition_items.proofs.carry_items.Goals as goal

pub loop-pair-init : goal.loop-pair-init
loop-pair-init c =
    let a = c.args in
    let e = c.into_iter-pair-iterator.ensures.into_iter_gives in (
      ap (λ r. r.size) e ∙ c.chunks_exact-pair-items.ensures.size,
      carrying_start a.size a.from a.to a.item a.budget a.layout.now a.contents.now a.image.now c.requires (ap (λ r. r.rest.now) e ∙ c.chunks_exact-pair-items.ensures.rest),
    )

pub carry_item-left-requires : goal.carry_item-left-requires
carry_item-left-requires c =
    let a = c.args in
    let v = c.loop-pair.invariant in
    let w = c.in-Some.ensures.steps in
    let p : First c.loop-pair.pair-iterator.rest.now c.in-Some.pair.now c.next.new.self.rest.now = record { parts = w.1.0; two = w.1.1 ∙ v.0 } in
    rw c.from-length.ensures (carrying_one a.size a.from a.to a.item a.budget a.layout.now a.contents.now a.image.now c.requires _ _ c.loop-pair.at _ v.1 p)

pub loop-pair-preserved : goal.loop-pair-preserved
loop-pair-preserved c =
    let a = c.args in
    let v = c.loop-pair.invariant in
    let w = c.in-Some.ensures.steps in
    let p : First c.loop-pair.pair-iterator.rest.now c.in-Some.pair.now c.next.new.self.rest.now = record { parts = w.1.0; two = w.1.1 ∙ v.0 } in
    let done = rw c.from-length.ensures at c.carry_item-left.ensures in
    (w.0 ∙ v.0, rw c.from-length.ensures (carrying_next a.size a.from a.to a.item a.budget a.layout.now a.contents.now a.image.now c.requires _ _ c.loop-pair.at _ v.1 p _ _ done))

pub returns : goal.returns
returns c =
    let a = c.args in
    let v = c.loop-pair.invariant in
    carrying_end a.size a.from a.to a.item a.budget a.layout.now a.contents.now a.image.now c.requires _ _ c.loop-pair.at _ v.1 (omega (arith, c.in-None.ensures.steps.1.0, v.0))
