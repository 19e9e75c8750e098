-- `mend::erase_old` counts the erase of the segment after the top and makes it, unless that is told to be blank. Assumes nothing.
use Rattle.flash.proofs.Laws.{ran_none, ◌then◌}
use Rattle.mend.specs.Erasing.{counting, erasing}
use Rattle.mend.proofs.erase_old.Goals as goal

pub returns-then-blank : goal.returns-then-blank
returns-then-blank c = rw c.if-blank.true (ran_none _ _ _)

pub returns : goal.returns
unfolding erasing counting
returns c =
    rw c.if-blank.false (◌then◌ (c.count_erase-counted.ensures c.args.geometry.slots) c.erase_after.ensures)
