-- `find::may_hold` compares the status and the two bytes of the number. Assumes nothing.
use borrow.Author.Tests.{eq-eqb, ne_eqb}
use Rattle.find.specs.Search.{may_hold}
use Rattle.find.proofs.Laws.{last_byte}
use Rattle.find.proofs.may_hold.Goals as goal

pub returns-then-page-ne-WRITTEN : goal.returns-then-page-ne-WRITTEN
unfolding may_hold
returns-then-page-ne-WRITTEN c = simp (ne_eqb _ _ c.if-page-ne-WRITTEN.true)

pub returns-then-page-block : goal.returns-then-page-block
unfolding may_hold
returns-then-page-block c = simp (eq-eqb _ _ c.if-page-ne-WRITTEN.false, ne_eqb _ _ c.if-page-block.true)

pub returns : goal.returns
returns c = last_byte _ _ c.if-page-ne-WRITTEN.false c.if-page-block.false
