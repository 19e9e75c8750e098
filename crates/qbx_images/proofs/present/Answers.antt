-- `qbx_images::present`: the count is within the buffer. Assumes nothing.
use Rattle.qbx_images.proofs.Laws.{made_within}
use Rattle.qbx_images.proofs.present.Goals as goal

pub returns-in_default : goal.returns-in_default
returns-in_default c =
    rw (c.absent.ensures.0, c.absent.ensures.1) (made_within _ c.args.size _ c.requires)
