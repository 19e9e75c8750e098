-- `partition_store::finished` answers by the budget that was left before the last part. Assumes nothing.
use borrow.Author.Tests.{lt-ltb, le-ltb}
use mathlib.Core.Path.{refl}
use Rattle.partitions.specs.Answers.{number_of}
use native.Mathlib.Omega.{arith}
use Rattle.partition_store.proofs.finished.Goals as goal

pub returns-then-before-last : goal.returns-then-before-last
unfolding number_of
returns-then-before-last c = let a = c.args in record { code = rw (lt-ltb a.before a.last (omega (arith, c.if-before-last.true))); count = refl }

pub returns : goal.returns
unfolding number_of
returns c = let a = c.args in record { code = rw (le-ltb a.before a.last (omega (arith, c.if-before-last.false))); count = refl }
