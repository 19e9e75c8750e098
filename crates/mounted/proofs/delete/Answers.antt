-- `mounted::delete` keeps its contract. Assumes nothing.
use mathlib.Core.Path.{◌∙◌}
use native.Mathlib.Omega.{arith}
use Rattle.mounted_read.proofs.Laws.Refusals.{none_refuses, slots_few, refusing_code}
use Rattle.mounted.proofs.Laws.Writes.{delete_bound, entry_inside, delete_entry_writes}
use Rattle.mounted.proofs.delete.Goals as goal

pub returns-in_default : goal.returns-in_default
returns-in_default c =
    let a = c.args in
    delete_bound a.segments a.slots a.image.now a.places.now a.block.0 a.budget _ c.refusal-refused.ensures (λ z. refusing_code _ c.in_default.not-Done (c.refusal-refused.ensures ∙ z)) c.refused.ensures

pub look_up-entry-requires : goal.look_up-entry-requires
look_up-entry-requires c =
    let a = c.args in
    slots_few a.segments a.slots a.image.now a.places.now a.block.0 _ (none_refuses a.segments a.slots a.image.now a.places.now a.block.0 _ _ c.refusal-refused.ensures c.in-Done.is)

pub mark_entry-done-requires : goal.mark_entry-done-requires
mark_entry-done-requires c =
    let a = c.args in
    entry_inside a.segments a.slots a.image.now a.places.now a.block.0 a.budget (none_refuses a.segments a.slots a.image.now a.places.now a.block.0 _ _ c.refusal-refused.ensures c.in-Done.is) _ c.look_up-entry.ensures

pub note-requires : goal.note-requires
note-requires c =
    let a = c.args in
    ((slots_few a.segments a.slots a.image.now a.places.now a.block.0 _ (none_refuses a.segments a.slots a.image.now a.places.now a.block.0 _ _ c.refusal-refused.ensures c.in-Done.is)).1, omega arith)

pub returns : goal.returns
returns c =
    let a = c.args in
    delete_entry_writes a.segments a.slots a.image.now a.places.now a.block.0 a.budget (none_refuses a.segments a.slots a.image.now a.places.now a.block.0 _ _ c.refusal-refused.ensures c.in-Done.is) _ c.look_up-entry.ensures _ _ c.mark_entry-done.ensures c.note.ensures
