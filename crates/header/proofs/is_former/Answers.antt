-- `header::is_former` tells the version of the definition. Assumes nothing.
use Rattle.header.proofs.Laws.Tests.{former_read}
use Rattle.header.proofs.is_former.Goals as goal

pub returns : goal.returns
returns c = former_read _
