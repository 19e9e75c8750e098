-- `mounted_read::read` keeps its contract. Assumes nothing.
use mathlib.Core.Path.{sym, ◌∙◌}
use native.Mathlib.Omega.{arith}
use lib.ListN.{get_or}
use Rattle.model.specs.Answers.{code_of, located}
use Rattle.places.proofs.Laws.Seen.{seen_believed}
use Rattle.mounted_read.proofs.Laws.Refusals.{none_refuses, slots_few, refusing_code}
use Rattle.mounted_read.proofs.Laws.Reads.{read_bound, read_absent_entry, read_stale_entry, read_entry}
use Rattle.mounted_read.proofs.read.Goals as goal

pub returns-in_default : goal.returns-in_default
unfolding located
returns-in_default c =
    let a = c.args in
    let n = c.nowhere.ensures in
    rw (n.0, n.1, n.2) (read_bound a.segments a.slots a.image.now a.places.now a.block.0 _ c.refusal-refused.ensures (λ z. refusing_code _ c.in_default.not-Done (c.refusal-refused.ensures ∙ z)))

pub look_up-requires : goal.look_up-requires
look_up-requires c =
    let a = c.args in
    slots_few a.segments a.slots a.image.now a.places.now a.block.0 _ (none_refuses a.segments a.slots a.image.now a.places.now a.block.0 _ _ c.refusal-refused.ensures c.in-Done.is)

pub overflow_add-result : goal.overflow_add-result
overflow_add-result c =
    let a = c.args in
    let i = seen_believed a.slots a.image.now (get_or a.places.now a.block.0 0) _ (sym c.look_up.ensures ∙ (rw c.in-Ok-Some.field-0-is at c.in-Ok-Some.is)) in
    omega (arith, i.place, i.inside)

pub returns-in-Ok-Some : goal.returns-in-Ok-Some
unfolding located code_of
returns-in-Ok-Some c =
    let a = c.args in
    read_entry a.segments a.slots a.image.now a.places.now a.block.0 (none_refuses a.segments a.slots a.image.now a.places.now a.block.0 _ _ c.refusal-refused.ensures c.in-Done.is) _
    (sym c.look_up.ensures ∙ (rw c.in-Ok-Some.field-0-is at c.in-Ok-Some.is))

pub returns-in-Ok-None : goal.returns-in-Ok-None
unfolding located
returns-in-Ok-None c =
    let a = c.args in
    let n = c.nowhere-in-Ok-None.ensures in
    rw (n.0, n.1, n.2) (read_absent_entry a.segments a.slots a.image.now a.places.now a.block.0 (none_refuses a.segments a.slots a.image.now a.places.now a.block.0 _ _ c.refusal-refused.ensures c.in-Done.is)
    (sym c.look_up.ensures ∙ (rw c.in-Ok-None.field-0-is at c.in-Ok-None.is)))

pub returns-in-Err : goal.returns-in-Err
unfolding located
returns-in-Err c =
    let a = c.args in
    let n = c.nowhere-in-Err.ensures in
    rw (n.0, n.1, n.2) (read_stale_entry a.segments a.slots a.image.now a.places.now a.block.0 (none_refuses a.segments a.slots a.image.now a.places.now a.block.0 _ _ c.refusal-refused.ensures c.in-Done.is)
    (sym c.look_up.ensures ∙ c.in-Err.is))
