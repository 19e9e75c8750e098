-- `mend::erase_pending` erases the old segment, unless it is blank, and then settles the top. Assumes nothing.
use mathlib.Core.Path.{sym}
use native.Mathlib.Omega.{arith}
use Rattle.flash.proofs.Laws.{ran_left, ◌then◌}
use Rattle.bridge.specs.Lengths.{settle_length}
use Rattle.request.proofs.Answered.{carried}
use Rattle.mend.proofs.erase_pending.Goals as goal

pub finished-requires : goal.finished-requires
finished-requires c = omega (arith, ran_left c.erase_old-erased.ensures, ran_left (c.settle-left.ensures c.args.geometry.slots))

pub returns : goal.returns
returns c =
    let a = c.args in
    let d = c.erase_old-erased.ensures in
    carried _ _ (◌then◌ d (c.settle-left.ensures a.geometry.slots)) d.rest (sym (settle_length a.geometry.segments a.geometry.slots a.top.0)) c.finished.ensures
