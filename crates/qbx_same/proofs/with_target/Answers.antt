-- `qbx_same::with_target`: by what was found. Assumes nothing.
use mathlib.Core.Path.{◌≡◌, sym, ◌∙◌}
use mathlib.Core.Bool.{true, false}
use Rattle.qbx_same.specs.Same.{is_same, target_clash}
use Rattle.qbx_same.proofs.with_target.Goals as goal

pub returns-in-Nothing : goal.returns-in-Nothing
unfolding target_clash
returns-in-Nothing c = rw c.in-Nothing.is

pub returns-in-Untold : goal.returns-in-Untold
unfolding target_clash
returns-in-Untold c = rw c.in-Untold.is

pub returns-in-File : goal.returns-in-File
unfolding target_clash
returns-in-File c =
    let e : is_same c.args.source c.in-File.file ≡ true = unfold is_same in (sym (rw c.in-File.is at c.eq.ensures) ∙ c.if-eq.true) in
    rw (c.in-File.is, e)

pub returns-in-File-2 : goal.returns-in-File-2
unfolding target_clash
returns-in-File-2 c =
    let e : is_same c.args.source c.in-File.file ≡ false = unfold is_same in (sym (rw c.in-File.is at c.eq.ensures) ∙ c.if-eq.false) in
    rw (c.in-File.is, e)
