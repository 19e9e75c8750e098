-- `qbx_lines::add_count`: two parts. Assumes nothing.
use native.Mathlib.Omega.{arith}
use Rattle.qbx_lines.proofs.Laws.Lines.{more_both}
use Rattle.qbx_lines.proofs.add_count.Goals as goal

pub returns : goal.returns
returns c = (more_both c.add.ensures c.add_number.ensures.0, omega (arith, c.add.ensures.counts, c.add_number.ensures.0.counts, c.add_number.ensures.1))
