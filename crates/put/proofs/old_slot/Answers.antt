-- `put::old_slot` finds the old slot in the image as it is. Assumes nothing.
use Rattle.put.proofs.old_slot.Goals as goal

pub returns : goal.returns
returns c = c.requires.2 c.if-moved.false
