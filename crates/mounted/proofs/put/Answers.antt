-- `mounted::put` keeps its contract. Assumes nothing.
use mathlib.Core.Path.{sym, ◌∙◌}
use Rattle.mounted_read.proofs.Laws.Refusals.{slots_few, refusing_code}
use Rattle.mounted.proofs.Laws.Puts.{put_bound, put_unbound, put_stale, puts_told}
use Rattle.mounted.proofs.put.Goals as goal

pub returns-in_default : goal.returns-in_default
returns-in_default c =
    let a = c.args in
    put_bound a.segments a.slots a.image.now a.places.now a.block.0 a.contents.now a.budget _ c.length_ok-taken.ensures _ c.refusal-refused.ensures (λ z. refusing_code _ c.in_default.not-Done (c.refusal-refused.ensures ∙ z)) c.refused.ensures

pub look_up-requires : goal.look_up-requires
look_up-requires c =
    let a = c.args in
    slots_few a.segments a.slots a.image.now a.places.now a.block.0 _ (put_unbound a.segments a.slots a.image.now a.places.now a.block.0 a.contents.now a.budget _ c.length_ok-taken.ensures _ c.refusal-refused.ensures c.in-Done.is)

pub put_block-requires : goal.put_block-requires
put_block-requires c =
    let a = c.args in
    puts_told a.segments a.slots a.image.now a.places.now a.block.0 a.contents.now a.budget (put_unbound a.segments a.slots a.image.now a.places.now a.block.0 a.contents.now a.budget _ c.length_ok-taken.ensures _ c.refusal-refused.ensures c.in-Done.is) _ (sym c.look_up.ensures ∙ c.in-Ok.is)

pub returns-in_default-look_up : goal.returns-in_default-look_up
returns-in_default-look_up c =
    let a = c.args in
    put_stale a.segments a.slots a.image.now a.places.now a.block.0 a.contents.now a.budget (put_unbound a.segments a.slots a.image.now a.places.now a.block.0 a.contents.now a.budget _ c.length_ok-taken.ensures _ c.refusal-refused.ensures c.in-Done.is) (sym c.look_up.ensures ∙ c.in_default-look_up.is) c.refused-in_default-look_up.ensures
