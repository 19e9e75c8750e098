-- `mounted_write::write_found` looks the block up, and writes its slot or stops. Assumes nothing.
use mathlib.Core.Path.{refl, sym, ◌∙◌}
use native.Mathlib.Omega.{arith}
use Rattle.mounted_write.proofs.Laws.Parts.{found_placed, continued_written, continued_stale, continued_full}
use Rattle.mounted_write.proofs.write_found.Goals as goal

-- what was written stands before that it may be: an edit is refused for that
pub returns : goal.returns
returns c =
    let a = c.args in
    let done = c.write_noted.ensures in
    continued_written a.geometry.segments a.geometry.slots a.room a.block.0 a.contents.now a.budget a.image.now a.places.now _ c.look_up.ensures _ c.in-Ok.is done.0 done.1

pub returns-then-room-geometry : goal.returns-then-room-geometry
returns-then-room-geometry c =
    let a = c.args in
    let stopped = c.stop.ensures in
    continued_full a.geometry.segments a.geometry.slots a.room a.block.0 a.contents.now a.budget a.image.now a.places.now (omega (arith, c.if-room-geometry.true)) stopped.0 stopped.1

pub write_noted-requires : goal.write_noted-requires
write_noted-requires c =
    let a = c.args in
    (found_placed a.geometry.segments a.geometry.slots a.room a.block.0 a.contents.now a.budget a.image.now a.places.now c.requires.0 (omega (arith, c.if-room-geometry.false)) _ (sym c.look_up.ensures ∙ c.in-Ok.is), c.requires.1)

pub returns-in_default : goal.returns-in_default
returns-in_default c =
    let a = c.args in
    let stopped = c.stop-in_default.ensures in
    continued_stale a.geometry.segments a.geometry.slots a.room a.block.0 a.contents.now a.budget a.image.now a.places.now _ c.look_up.ensures c.in_default.is refl stopped.0 stopped.1
