-- `mend::erase_torn` counts the erase of the segment after the top, and makes it. Assumes nothing.
use mathlib.Core.Path.{refl}
use native.Mathlib.Omega.{arith}
use Rattle.flash.proofs.Laws.{ran_left, ◌then◌}
use Rattle.request.proofs.Answered.{carried}
use Rattle.mend.specs.Erasing.{counting}
use Rattle.mend.proofs.erase_torn.Goals as goal

pub finished-requires : goal.finished-requires
finished-requires c =
    omega (arith, ran_left (c.count_erase-counted.ensures c.args.geometry.slots), ran_left c.erase_after-left.ensures)

pub returns : goal.returns
unfolding counting
returns c =
    let d = c.count_erase-counted.ensures c.args.geometry.slots in
    carried _ _ (◌then◌ d c.erase_after-left.ensures) d.rest refl c.finished.ensures
