-- The buffers that are taken hold the images, and their stack is allowed.
use mathlib.Core.Path.{refl, sym, ◌∙◌}
use mathlib.Core.Bool.{true, false}
use native.Mathlib.Omega.{arith}
use Rattle.qbx_rooms.specs.declared.Buffer.TheVariants.{Small, Middle, Large}
use Rattle.qbx_move_words.specs.Move.{larger_size}
use Rattle.qbx_rooms.proofs.Laws.{lacks, held_both, bytes_small, bytes_middle, bytes_large, enough_for_move}
use Rattle.qbx_move_buffers.proofs.obey.Goals as goal

pub lack_stack-requires : goal.lack_stack-requires
lack_stack-requires c = lacks _ _ _ (sym c.lacking_for_move.ensures ∙ c.in-Some.is)

pub obey-requires : goal.obey-requires
unfolding larger_size
obey-requires c =
    let a = c.args.command in
    let h = held_both a.source.segments a.source.slots a.target.segments a.target.slots _ _ Small c.larger_size-size.ensures c.smallest_for-buffer.ensures c.in-Small.is in
    (Small, bytes_small, h.0, h.1, enough_for_move _ Small _ _ c.lacking_for_move.ensures c.in_default.is c.in-Small.is)

pub obey-requires-in-Middle : goal.obey-requires-in-Middle
unfolding larger_size
obey-requires-in-Middle c =
    let a = c.args.command in
    let h = held_both a.source.segments a.source.slots a.target.segments a.target.slots _ _ Middle c.larger_size-size.ensures c.smallest_for-buffer.ensures c.in-Middle.is in
    (Middle, bytes_middle, h.0, h.1, enough_for_move _ Middle _ _ c.lacking_for_move.ensures c.in_default.is c.in-Middle.is)

pub obey-requires-in-Large : goal.obey-requires-in-Large
unfolding larger_size
obey-requires-in-Large c =
    let a = c.args.command in
    let h = held_both a.source.segments a.source.slots a.target.segments a.target.slots _ _ Large c.larger_size-size.ensures c.smallest_for-buffer.ensures c.in-Large.is in
    (Large, bytes_large, h.0, h.1, enough_for_move _ Large _ _ c.lacking_for_move.ensures c.in_default.is c.in-Large.is)
