-- `given_lines::given_line`: two pieces in a row. Assumes nothing.
use native.Mathlib.Omega.{arith}
use Rattle.text.specs.Text.{text}
use Rattle.text.proofs.Laws.{◌then◌}
use Rattle.given_lines.proofs.given_line.Goals as goal

pub returns-then-differs : goal.returns-then-differs
unfolding text
returns-then-differs c =
    rw c.if-differs.true (c.block_text-end.ensures.0 then c.add.ensures, omega (arith, c.block_text-end.ensures.1, c.add.ensures.ends))

pub returns : goal.returns
unfolding text
returns c =
    rw c.if-differs.false (c.block_text-end.ensures.0 then c.add-2.ensures, omega (arith, c.block_text-end.ensures.1, c.add-2.ensures.ends))
