-- `skipping::none_of` says of eight entries that they are 0 if joined they are. Assumes nothing.
use Rattle.skipping.proofs.Laws.{none_joined}
use Rattle.skipping.proofs.none_of.Goals as goal

pub returns : goal.returns
returns c = none_joined c.args.group.now c.requires
