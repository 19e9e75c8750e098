-- `qanbillox::qbx_format` gives the packed outcome of the definition. Assumes nothing.
use Rattle.model.specs.Answers.{format}
use Rattle.qanbillox.proofs.Laws.{few, gives}
use Rattle.qanbillox.proofs.qbx_format.Goals as goal

pub packed-requires : goal.packed-requires
packed-requires c =
    few c.args.n c.args.b c.args.image.now c.args.budget (format) _ _ c.format.ensures

pub returns : goal.returns
returns c = gives _ _ _ _ c.format.ensures c.packed.ensures
