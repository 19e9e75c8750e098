-- `faults::head_place`. Assumes nothing.
use Prim.Native.Nat.{◌-◌}
use mathlib.Core.Bool.{and-false}
use native.Mathlib.Omega.{arith}
use lib.Dec.{leb}
use borrow.Author.Tests.{lt-leb}
use Rattle.account_text.specs.Account.{first_failing}
use Rattle.faults.specs.Tests.{head_place}
use Rattle.faults.proofs.head_place.Goals as goal

pub returns-then-counts-eq0 : goal.returns-then-counts-eq0
unfolding head_place first_failing
returns-then-counts-eq0 c = rw c.if-counts-eq0.true

pub returns-then-counts-segments : goal.returns-then-counts-segments
unfolding head_place first_failing
returns-then-counts-segments c =
    let u = c.args.tests.counts.used in
    rw (lt-leb u (c.args.segments - 1) (omega (arith, c.requires, c.if-counts-segments.true)), and-false (leb 1 u))
