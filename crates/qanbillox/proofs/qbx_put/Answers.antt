-- `qanbillox::qbx_put` gives the packed outcome of the definition. Assumes nothing.
use Rattle.model.specs.Answers.{put}
use Rattle.qanbillox.proofs.Laws.{few, gives}
use Rattle.qanbillox.proofs.qbx_put.Goals as goal

pub packed-requires : goal.packed-requires
packed-requires c =
    few c.args.n c.args.b c.args.image.now c.args.budget (put c.args.block c.args.contents.now) _ _ c.put.ensures

pub returns : goal.returns
returns c = gives _ _ _ _ c.put.ensures c.packed.ensures
