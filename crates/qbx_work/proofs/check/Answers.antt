-- `qbx_work::check`: an image of the right size is reported on. Assumes nothing.
use Rattle.request.proofs.Laws.{right_size_lem}
use Rattle.qbx_work.proofs.check.Goals as goal

pub report_on-requires : goal.report_on-requires
report_on-requires c =
    let a = c.args in
    right_size_lem a.command.segments a.command.slots a.image.now _ c.right_size.ensures c.if-not-right_size.false
