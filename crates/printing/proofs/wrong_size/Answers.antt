-- `printing::wrong_size`. Assumes nothing.
use Rattle.text.specs.Text.{text}
use Rattle.account_text.specs.Account.{wrong_size}
use Rattle.printing.proofs.wrong_size.Goals as goal

pub returns : goal.returns
unfolding wrong_size text
returns c = c.print.ensures
