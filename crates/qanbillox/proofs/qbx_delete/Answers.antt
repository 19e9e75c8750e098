-- `qanbillox::qbx_delete` gives the packed outcome of the definition. Assumes nothing.
use Rattle.model.specs.Answers.{delete}
use Rattle.qanbillox.proofs.Laws.{few, gives}
use Rattle.qanbillox.proofs.qbx_delete.Goals as goal

pub packed-requires : goal.packed-requires
packed-requires c =
    few c.args.n c.args.b c.args.image.now c.args.budget (delete c.args.block) _ _ c.delete.ensures

pub returns : goal.returns
returns c = gives _ _ _ _ c.delete.ensures c.packed.ensures
