-- `put_answers::is_worn` is the test of the definition, from a plan and the top's tally. Assumes nothing.
use Prim.Native.Nat.{◌+◌}
use native.Mathlib.Nat.{div-le_self}
use native.Mathlib.Omega.{arith}
use Rattle.put_answers.proofs.Laws.{worn_room, worn_bits, worn_number}
use Rattle.put_answers.proofs.is_worn.Goals as goal

pub returns-then-plan-geometry : goal.returns-then-plan-geometry
returns-then-plan-geometry c = let a = c.args in worn_room a.geometry.segments a.geometry.slots a.plan a.tally c.if-plan-geometry.true

pub returns-then-tally : goal.returns-then-tally
returns-then-tally c = let a = c.args in worn_bits a.geometry.segments a.geometry.slots a.plan a.tally c.if-plan-geometry.false c.if-tally.true

pub top_number-top-requires : goal.top_number-top-requires
top_number-top-requires c = (c.requires.0.some, c.requires.0.spare, c.requires.1)

pub returns : goal.returns
returns c =
    let a = c.args in
    worn_number a.geometry.segments a.geometry.slots a.plan a.tally _ _ c.if-plan-geometry.false c.if-tally.false c.top_number-top.ensures c.new_numbers.ensures.0

pub overflow_add-result : goal.overflow_add-result
overflow_add-result c =
    let a = c.args in
    let top = c.top_number-top in
    omega (arith, top.ensures, div-le_self (top.result.0 + c.new_numbers.result) a.geometry.segments)
