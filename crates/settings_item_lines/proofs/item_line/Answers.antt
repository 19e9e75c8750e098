-- `settings_item_lines::item_line`: the line by what the read gave. Assumes nothing.
use mathlib.Core.Path.{ap, ◌∙◌}
use native.Mathlib.Omega.{arith}
use lib.ListN.{length, length-take}
use Rattle.text.proofs.Laws.{wrote_as}
use Rattle.settings_item_lines.proofs.Laws.{line_written, line_unwritten}
use Rattle.settings_item_lines.proofs.item_line.Goals as goal

pub written_line-requires : goal.written_line-requires
written_line-requires c = (omega (arith, c.requires), omega (arith, simp length-take at (ap length c.piece-stored.ensures), c.read-spot.ensures.1))

pub returns-then-from-eq0 : goal.returns-then-from-eq0
returns-then-from-eq0 c = (wrote_as _ (line_written _ _ _ c.read-spot.result c.read-spot.ensures.0 _ (omega (arith, c.from.ensures.0, c.if-from-eq0.true)) c.piece-stored.ensures) c.written_line.ensures.0, c.written_line.ensures.1)

pub returns : goal.returns
returns c = (wrote_as _ (line_unwritten _ _ _ c.read-spot.result c.read-spot.ensures.0 (λ z. c.if-from-eq0.false (c.from.ensures.0 ∙ z))) c.unwritten_line.ensures.0, c.unwritten_line.ensures.1)
