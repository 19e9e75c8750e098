-- `put_answers::new_numbers` is the count of the definition, from a plan. Assumes nothing.
use native.Mathlib.Omega.{arith}
use Rattle.put_answers.proofs.Laws.{few_numbers, all_numbers}
use Rattle.put_answers.proofs.new_numbers.Goals as goal

pub returns-then-plan-segments : goal.returns-then-plan-segments
returns-then-plan-segments c = let a = c.args in (few_numbers a.segments a.plan c.if-plan-segments.true, omega arith)

pub returns : goal.returns
returns c = let a = c.args in (all_numbers a.segments a.plan c.if-plan-segments.false, omega arith)
