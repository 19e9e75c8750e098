-- `text::print`. Assumes nothing.
use native.Mathlib.Omega.{arith}
use Rattle.text.specs.Buffer.{short_of, done_of}
use Rattle.text.proofs.Laws.{print_short, print_done}
use Rattle.text.proofs.print.Goals as goal

pub returns-then-bytes-text : goal.returns-then-bytes-text
unfolding short_of
returns-then-bytes-text c = (print_short _ _ _ (omega (arith, c.if-bytes-text.true)) c.short.ensures, rw c.short.ensures (omega arith))

pub returns : goal.returns
unfolding done_of
returns c = (print_done _ _ _ _ _ (omega (arith, c.if-bytes-text.false)) c.add.ensures c.done.ensures, rw c.done.ensures (omega (arith, c.add.ensures.ends)))
