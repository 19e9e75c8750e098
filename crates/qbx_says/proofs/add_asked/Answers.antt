-- `qbx_says::add_asked`: the bytes of an image in range, or the ranges. Assumes nothing.
use mathlib.Core.Path.{◌≡◌, sym, ◌∙◌}
use mathlib.Core.Bool.{true, false}
use native.Mathlib.Omega.{arith}
use Rattle.model.specs.Chip.{in_range, image_length}
use Rattle.request.specs.Request.{size_of}
use Rattle.text.specs.Text.{text}
use Rattle.qbx_says.specs.Said.{asked_text}
use Rattle.qbx_lines.proofs.Laws.Lines.{more_both}
use Rattle.qbx_says.proofs.add_asked.Goals as goal

pub returns-then-in_range : goal.returns-then-in_range
unfolding text asked_text size_of
returns-then-in_range c =
    let a = c.args in
    let e : in_range a.segments a.slots ≡ true = sym c.in_range.ensures ∙ c.if-in_range.true in
    let n : c.size_of-bytes.result ≡ image_length a.segments a.slots = c.size_of-bytes.ensures.0 ∙ rw e in
    (rw (e, ← n) (more_both c.add_count-asked.ensures.0 c.add.ensures), omega arith)

pub returns : goal.returns
unfolding text asked_text
returns c =
    let a = c.args in
    let e : in_range a.segments a.slots ≡ false = sym c.in_range.ensures ∙ c.if-in_range.false in
    (rw e c.add-2.ensures, omega arith)
