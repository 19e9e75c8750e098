-- `header::header_number` reads the number of the definition. Assumes nothing.
use native.Mathlib.Omega.{arith}
use Rattle.header.proofs.Laws.Tests.{number_read}
use Rattle.header.proofs.header_number.Goals as goal

pub returns : goal.returns
returns c = omega (arith, c.from_le_bytes.ensures, number_read c.args.page.now c.requires)
