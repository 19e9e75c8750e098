-- `marking::add_break`: nothing, or the margin. Assumes nothing.
use native.Mathlib.Omega.{arith}
use Rattle.text.proofs.Laws.{wrote_none}
use Rattle.text.specs.Text.{text}
use Rattle.account_text.specs.Map.{margin}
use Rattle.marking.proofs.Laws.{break_first, break_none, break_some}
use Rattle.marking.proofs.add_break.Goals as goal

pub returns-then-slot-eq0 : goal.returns-then-slot-eq0
returns-then-slot-eq0 c = (rw (break_first _ c.if-slot-eq0.true) (wrote_none _ _), omega arith)

pub returns-then-slot-ne0 : goal.returns-then-slot-ne0
returns-then-slot-ne0 c = (rw (break_none _ c.if-slot-ne0.true) (wrote_none _ _), omega arith)

pub returns : goal.returns
unfolding margin text
returns c =
    (rw (break_some _ c.if-slot-eq0.false c.if-slot-ne0.false) c.add.ensures, omega (arith, c.add.ensures.ends))
