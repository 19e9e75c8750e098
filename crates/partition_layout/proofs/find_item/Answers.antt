-- `partition_layout::find_item`. The invariant: the item looked for is among those left, and the bytes so far and those of the items left are all of them. Assumes nothing.
use mathlib.Core.Path.{◌∙◌, ap}
use native.Mathlib.Omega.{arith}
use Rattle.partition_layout.proofs.Walk.{First, search_start, search_end, search_within, search_found, search_next}
use Rattle.partition_layout.proofs.find_item.Goals as goal

pub loop-pair-init : goal.loop-pair-init
loop-pair-init c =
    let e = c.into_iter-pair-iterator.ensures.into_iter_gives in
    (ap (λ r. r.size) e ∙ c.chunks_exact-pair-items.ensures.size, search_start _ _ (ap (λ r. r.rest.now) e ∙ c.chunks_exact-pair-items.ensures.rest) c.requires.0)

pub returns-then-pair-item : goal.returns-then-pair-item
returns-then-pair-item c =
    let w = c.in-Some.ensures.steps in
    let p : First c.loop-pair.pair-iterator.rest.now c.in-Some.pair.now c.next.new.self.rest.now = record { parts = w.1.0; two = w.1.1 ∙ c.loop-pair.invariant.0 } in
    rw c.from-length.ensures (search_found c.loop-pair.invariant.1 p c.if-pair-item.true)

pub overflow_add-offset-in-loop-pair : goal.overflow_add-offset-in-loop-pair
overflow_add-offset-in-loop-pair c =
    let w = c.in-Some.ensures.steps in
    let p : First c.loop-pair.pair-iterator.rest.now c.in-Some.pair.now c.next.new.self.rest.now = record { parts = w.1.0; two = w.1.1 ∙ c.loop-pair.invariant.0 } in
    omega (arith, c.requires.1, c.from-length.ensures, search_within c.loop-pair.invariant.1 p)

pub loop-pair-preserved : goal.loop-pair-preserved
loop-pair-preserved c =
    let w = c.in-Some.ensures.steps in
    let p : First c.loop-pair.pair-iterator.rest.now c.in-Some.pair.now c.next.new.self.rest.now = record { parts = w.1.0; two = w.1.1 ∙ c.loop-pair.invariant.0 } in
    (w.0 ∙ c.loop-pair.invariant.0, rw c.from-length.ensures (search_next c.loop-pair.invariant.1 p c.if-pair-item.false))

pub returns : goal.returns
returns c =
    let w = c.in-None.ensures.steps in
    search_end c.loop-pair.invariant.1 (omega (arith, w.1.0, c.loop-pair.invariant.0))
