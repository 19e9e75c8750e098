use native.Mathlib.Omega.{arith}
use borrow.Author.Tests.{eq-eqb}
use Rattle.text.specs.Text.{text}
use Rattle.qbx_lines.proofs.Laws.Lines.{more_both}
use Rattle.settings_says.specs.Said.{board_text}
use Rattle.settings_says.proofs.add_board.Goals as goal

pub returns-then-from-eq1 : goal.returns-then-from-eq1
unfolding text board_text
returns-then-from-eq1 c =
    (rw (← c.from.ensures.0, eq-eqb c.from.result 1 c.if-from-eq1.true) (more_both c.add_count-counted.ensures.0 c.add.ensures), omega arith)
