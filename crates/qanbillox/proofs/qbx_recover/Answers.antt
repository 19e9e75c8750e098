-- `qanbillox::qbx_recover` gives the packed outcome of the definition. Assumes nothing.
use Rattle.model.specs.Answers.{recover}
use Rattle.qanbillox.proofs.Laws.{few, gives}
use Rattle.qanbillox.proofs.qbx_recover.Goals as goal

pub packed-requires : goal.packed-requires
packed-requires c =
    few c.args.n c.args.b c.args.image.now c.args.budget (recover) _ _ c.recover.ensures

pub returns : goal.returns
returns c = gives _ _ _ _ c.recover.ensures c.packed.ensures
