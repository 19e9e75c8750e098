-- `settings_hex::digit`: the tests of the definition. Assumes nothing.
use native.Mathlib.Omega.{arith}
use borrow.Author.Tests.{lt-ltb, le-ltb}
use Rattle.settings_hex.specs.Hex.{hex_digit}
use Rattle.settings_hex.proofs.digit.Goals as goal

pub returns-then-n-lt10 : goal.returns-then-n-lt10
unfolding hex_digit
returns-then-n-lt10 c = rw (lt-ltb c.args.n 10 (omega arith))

pub returns : goal.returns
unfolding hex_digit
returns c = rw (le-ltb c.args.n 10 (omega arith))
