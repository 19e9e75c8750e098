-- `scan::old_slot` shows the older slot that is found. Assumes nothing.
use mathlib.Core.Path.{sym, ap, ◌∙◌}
use Rattle.scan.specs.Find.{numbered_found}
use Rattle.scan.specs.Surveys.{old_in}
use Rattle.scan.proofs.old_slot.Goals as goal

pub returns-in-Some : goal.returns-in-Some
unfolding old_in
returns-in-Some c =
    ap old_in (sym c.in-Some.is ∙ (c.find-found.ensures
    ∙ numbered_found c.args.geometry.segments c.args.geometry.slots c.args.exam.sum.block.0 c.args.image.now c.requires.0.some c.args.exam.used c.args.exam.first c.requires.2))

pub returns-in-None : goal.returns-in-None
unfolding old_in
returns-in-None c =
    ap old_in (sym c.in-None.is ∙ (c.find-found.ensures
    ∙ numbered_found c.args.geometry.segments c.args.geometry.slots c.args.exam.sum.block.0 c.args.image.now c.requires.0.some c.args.exam.used c.args.exam.first c.requires.2))
