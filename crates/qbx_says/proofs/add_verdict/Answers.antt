-- `qbx_says::add_verdict`: by the number, as the definition. Assumes nothing.
use native.Mathlib.Omega.{arith}
use borrow.Author.Tests.{eq-eqb, ne_eqb}
use Rattle.text.specs.Text.{text}
use Rattle.qbx_says.specs.Said.{verdict}
use Rattle.qbx_says.proofs.add_verdict.Goals as goal

pub returns-then-code-eq0 : goal.returns-then-code-eq0
unfolding text verdict
returns-then-code-eq0 c = rw (eq-eqb _ 0 c.if-code-eq0.true) (c.add.ensures, omega arith)

pub returns-then-code-eq9 : goal.returns-then-code-eq9
unfolding text verdict
returns-then-code-eq9 c = rw (ne_eqb _ 0 c.if-code-eq0.false, eq-eqb _ 9 c.if-code-eq9.true) (c.add-then-code-eq9.ensures, omega arith)

pub returns : goal.returns
unfolding text verdict
returns c = rw (ne_eqb _ 0 c.if-code-eq0.false, ne_eqb _ 9 c.if-code-eq9.false) (c.add-2.ensures, omega arith)
