-- `looking::look_clean` finds what the definition says. Assumes nothing.
use Rattle.room.proofs.Laws.{find_fits}
use Rattle.looking.proofs.Laws.Look.{look_found}
use Rattle.looking.proofs.look_clean.Goals as goal

pub find-found-requires : goal.find-found-requires
find-found-requires c =
    find_fits c.args.geometry.segments c.args.geometry.slots c.args.plan c.args.image.now c.requires.0

pub returns : goal.returns
returns c =
    look_found c.args.geometry.segments c.args.geometry.slots c.args.image.now c.args.plan c.requires.0 c.args.block.0 _ c.find-found.ensures c.requires.1 c.ok_or.ensures.value
