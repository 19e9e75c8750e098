-- `store::read` is the request of the definition. Assumes nothing.
use mathlib.Core.Path.{subst}
use native.Mathlib.Omega.{arith}
use Rattle.model.specs.Answers.{code_of, located}
use Rattle.looking.specs.Look.{Looks}
use Rattle.store.proofs.Laws.Requests.{read_refused, read_there}
use Rattle.store.proofs.read.Goals as goal

pub returns-in-Ok : goal.returns-in-Ok
unfolding located code_of
returns-in-Ok c =
    let a = c.args in
    read_there a.segments a.slots a.image.now a.block.0 _ _
    (subst (Looks a.segments a.slots a.image.now a.block.0) c.in-Ok.is c.look-looked.ensures)

pub overflow_add-result : goal.overflow_add-result
overflow_add-result c =
    let a = c.args in
    let there = subst (Looks a.segments a.slots a.image.now a.block.0) c.in-Ok.is c.look-looked.ensures in
    omega (arith, there.inside)

pub returns-in-Err : goal.returns-in-Err
unfolding located
returns-in-Err c =
    let a = c.args in
    read_refused a.segments a.slots a.image.now a.block.0 c.in-Err.answer
    (subst (Looks a.segments a.slots a.image.now a.block.0) c.in-Err.is c.look-looked.ensures)
