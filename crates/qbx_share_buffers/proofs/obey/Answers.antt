-- The buffer that is taken holds the image, and its stack is allowed.
use mathlib.Core.Path.{refl, sym, ◌∙◌}
use mathlib.Core.Bool.{true, false}
use native.Mathlib.Omega.{arith}
use Rattle.qbx_rooms.specs.declared.Buffer.TheVariants.{Small, Middle, Large}
use Rattle.qbx_rooms.proofs.Laws.{lacks, held, any_size, bytes_small, bytes_middle, bytes_large, enough}
use Rattle.qbx_share_buffers.proofs.obey.Goals as goal

pub lack_stack-requires : goal.lack_stack-requires
lack_stack-requires c = lacks _ _ _ (sym c.lacking.ensures ∙ c.in-Some.is)

pub obey-requires : goal.obey-requires
obey-requires c =
    let a = c.args.command in
    (Small, bytes_small, held _ _ _ Small c.size_of-size.ensures.0 (any_size a.segments a.slots) c.smallest_for-buffer.ensures c.in-Small.is, enough false false _ Small _ _ c.lacking.ensures c.in_default.is refl c.in-Small.is)

pub obey-requires-in-Middle : goal.obey-requires-in-Middle
obey-requires-in-Middle c =
    let a = c.args.command in
    (Middle, bytes_middle, held _ _ _ Middle c.size_of-size.ensures.0 (any_size a.segments a.slots) c.smallest_for-buffer.ensures c.in-Middle.is, enough false false _ Middle _ _ c.lacking.ensures c.in_default.is refl c.in-Middle.is)

pub obey-requires-in-Large : goal.obey-requires-in-Large
obey-requires-in-Large c =
    let a = c.args.command in
    (Large, bytes_large, held _ _ _ Large c.size_of-size.ensures.0 (any_size a.segments a.slots) c.smallest_for-buffer.ensures c.in-Large.is, enough false false _ Large _ _ c.lacking.ensures c.in_default.is refl c.in-Large.is)
