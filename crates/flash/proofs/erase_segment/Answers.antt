-- `flash::erase_segment` erases the unit that a segment is. Assumes nothing.
use Rattle.flash.proofs.UnitLaws.{ran_unit}
use Rattle.flash.proofs.erase_segment.Goals as goal

pub returns : goal.returns
returns c = ran_unit _ _ c.erase_unit.ensures
