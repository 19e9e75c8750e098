-- `header::header_total` reads the total of the definition. Assumes nothing.
use native.Mathlib.Omega.{arith}
use Rattle.header.proofs.Laws.Tests.{total_read}
use borrow.Author.Rules.{rules}
use Rattle.header.proofs.header_total.Goals as goal

pub returns : goal.returns
returns c = (omega (arith, c.from_le_bytes.ensures, total_read c.args.page.now c.requires), search rules)
