-- `mounted_write::enter_new` enters the segments that come after those of the plan. Assumes nothing.
use Rattle.mounted_write.proofs.enter_new.Goals as goal

pub returns : goal.returns
returns c = c.enter.ensures
