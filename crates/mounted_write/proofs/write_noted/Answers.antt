-- `mounted_write::write_noted` takes the last steps of a put and notes the slot's place. Assumes nothing.
use Rattle.mounted_write.proofs.Laws.Parts.{noted_at, place_fits}
use Rattle.mounted_write.proofs.write_noted.Goals as goal

pub note-requires : goal.note-requires
note-requires c =
    let a = c.args in
    (c.requires.1, place_fits a.geometry.segments a.geometry.slots a.room a.old a.block.0 a.contents.now a.budget a.image.now c.requires.0 _ c.free_place-place.ensures)

pub returns : goal.returns
returns c =
    let a = c.args in
    (c.write_block-done.ensures, noted_at a.places.now _ a.block.0 _ _ _ c.note.ensures c.free_place-place.ensures)
