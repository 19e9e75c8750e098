-- `flash::program_part` programs the bytes of a part of the page made up. Assumes nothing.
use Rattle.flash.proofs.Pages.{programmed_part}
use Rattle.flash.proofs.program_part.Goals as goal

pub returns : goal.returns
returns c = programmed_part _ _ _ c.program_run.ensures
