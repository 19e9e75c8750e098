-- `mounted_plan::decide_header` is the decision of the definition, on any image. Assumes nothing.
use mathlib.Core.Path.{sym, subst}
use native.Mathlib.Omega.{arith}
use lib.ListN.{length}
use Rattle.room.specs.declared.Plan.{Plan}
use Rattle.room.specs.Room.{Plannable}
use Rattle.put_answers.proofs.Laws.{ranged}
use Rattle.mounted_plan.proofs.Laws.Seen.{seen_fits, header_worn, header_fresh}
use Rattle.mounted_plan.proofs.decide_header.Goals as goal

pub is_worn-requires : goal.is_worn-requires
is_worn-requires c =
    let a = c.args in
    let s = a.image.now in
    let k = c.count_compactions-counted in
    let w : Plannable a.geometry.segments a.geometry.slots k.result (length s) = subst (λ (y : Plan). Plannable a.geometry.segments a.geometry.slots y (length s)) (sym k.ensures) (seen_fits a.geometry.segments a.geometry.slots a.plan s c.requires.1) in
    (ranged a.geometry.segments a.geometry.slots k.result s c.requires.0 w, omega (arith, w.number), c.tally_in-tally.ensures.1)

pub returns-then-is_worn : goal.returns-then-is_worn
returns-then-is_worn c =
    let a = c.args in
    header_worn a.geometry.segments a.geometry.slots a.plan a.image.now _ _ _ _ c.count_compactions-counted.ensures c.top_number-top.ensures c.tally_in-tally.ensures.0 c.is_worn.ensures c.if-is_worn.true

pub returns : goal.returns
returns c =
    let a = c.args in
    header_fresh a.geometry.segments a.geometry.slots a.plan a.image.now _ _ _ _ c.count_compactions-counted.ensures c.top_number-top.ensures c.tally_in-tally.ensures.0 c.is_worn.ensures c.if-is_worn.false
