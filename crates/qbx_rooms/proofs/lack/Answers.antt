-- `qbx_rooms::lack` is the definition's, by the test. Assumes nothing.
use native.Mathlib.Omega.{arith}
use borrow.Author.Tests.{lt-ltb, le-ltb}
use Rattle.qbx_rooms.specs.Rooms.{lack_of}
use Rattle.qbx_rooms.proofs.lack.Goals as goal

pub returns-then-allowed-needed : goal.returns-then-allowed-needed
unfolding lack_of
returns-then-allowed-needed c = rw (lt-ltb c.args.allowed c.args.needed (omega (arith, c.if-allowed-needed.true)))

pub returns : goal.returns
unfolding lack_of
returns c = rw (le-ltb c.args.allowed c.args.needed (omega (arith, c.if-allowed-needed.false)))
