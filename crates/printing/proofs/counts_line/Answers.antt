-- `printing::counts_line`: each count behind its label, and the end of the line. Assumes nothing.
use native.Mathlib.Omega.{arith}
use Rattle.text.specs.Text.{text}
use Rattle.text.specs.Buffer.{labelled}
use Rattle.text.proofs.Laws.{◌then◌, wrote_as}
use Rattle.printing.proofs.Laws.{counts_ended}
use Rattle.printing.proofs.counts_line.Goals as goal

pub returns : goal.returns
unfolding labelled text
returns c =
    let lives = rw c.from.ensures at c.add_labelled-lives.ensures.0 in
    let deads = rw c.from-2.ensures at c.add_labelled-deads.ensures.0 in
    let cuts = rw c.from-3.ensures at c.add_labelled-cuts.ensures.0 in
    let ended = rw c.from-4.ensures at c.add_ended.ensures.0 in (
      wrote_as _ (counts_ended c.args.counts) (lives then deads then cuts then ended),
      omega (arith, c.add_labelled-lives.ensures.1, c.add_labelled-deads.ensures.1, c.add_labelled-cuts.ensures.1, c.add_ended.ensures.1),
    )
