-- The buffer that is taken holds the image, and its stack is allowed.
use mathlib.Core.Path.{refl, sym, ◌∙◌}
use mathlib.Core.Bool.{true, false}
use native.Mathlib.Omega.{arith}
use Rattle.qbx_rooms.specs.declared.Buffer.TheVariants.{Small, Middle, Large}
use Rattle.qbx_rooms.proofs.Laws.{lacks, held, any_size, bytes_small, bytes_middle, bytes_large, enough}
use Rattle.qbx_buffers.proofs.obey.Goals as goal

pub lack_stack-requires : goal.lack_stack-requires
lack_stack-requires c = lacks _ _ _ (sym c.lacking.ensures ∙ c.in-Some.is)

pub show-requires : goal.show-requires
show-requires c =
    let a = c.args.command in
    (Small, bytes_small, held _ _ _ Small c.size_of-size.ensures.0 (any_size a.segments a.slots) c.smallest_for-buffer.ensures c.in-Small.is, enough _ true _ Small _ _ c.lacking.ensures c.in_default.is c.if-prints.true c.in-Small.is, omega arith)

pub show-requires-in-Middle : goal.show-requires-in-Middle
show-requires-in-Middle c =
    let a = c.args.command in
    (Middle, bytes_middle, held _ _ _ Middle c.size_of-size.ensures.0 (any_size a.segments a.slots) c.smallest_for-buffer.ensures c.in-Middle.is, enough _ true _ Middle _ _ c.lacking.ensures c.in_default.is c.if-prints.true c.in-Middle.is, omega arith)

pub show-requires-in-Large : goal.show-requires-in-Large
show-requires-in-Large c =
    let a = c.args.command in
    (Large, bytes_large, held _ _ _ Large c.size_of-size.ensures.0 (any_size a.segments a.slots) c.smallest_for-buffer.ensures c.in-Large.is, enough _ true _ Large _ _ c.lacking.ensures c.in_default.is c.if-prints.true c.in-Large.is, omega arith)

pub obey-requires : goal.obey-requires
obey-requires c =
    let a = c.args.command in
    (Small, bytes_small, held _ _ _ Small c.size_of-size.ensures.0 (any_size a.segments a.slots) c.smallest_for-buffer.ensures c.in-Small-buffer.is, enough _ false _ Small _ _ c.lacking.ensures c.in_default.is c.if-prints.false c.in-Small-buffer.is, sym c.prints-prints.ensures ∙ c.if-prints.false)

pub obey-requires-in-Middle-buffer : goal.obey-requires-in-Middle-buffer
obey-requires-in-Middle-buffer c =
    let a = c.args.command in
    (Middle, bytes_middle, held _ _ _ Middle c.size_of-size.ensures.0 (any_size a.segments a.slots) c.smallest_for-buffer.ensures c.in-Middle-buffer.is, enough _ false _ Middle _ _ c.lacking.ensures c.in_default.is c.if-prints.false c.in-Middle-buffer.is, sym c.prints-prints.ensures ∙ c.if-prints.false)

pub obey-requires-in-Large-buffer : goal.obey-requires-in-Large-buffer
obey-requires-in-Large-buffer c =
    let a = c.args.command in
    (Large, bytes_large, held _ _ _ Large c.size_of-size.ensures.0 (any_size a.segments a.slots) c.smallest_for-buffer.ensures c.in-Large-buffer.is, enough _ false _ Large _ _ c.lacking.ensures c.in_default.is c.if-prints.false c.in-Large-buffer.is, sym c.prints-prints.ensures ∙ c.if-prints.false)
