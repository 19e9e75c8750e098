-- `qbx_same::with_beside`: by what was found. Assumes nothing.
use mathlib.Core.Path.{◌≡◌, sym, ◌∙◌}
use mathlib.Core.Bool.{true, false}
use borrow.Author.Tests.{eq-eqb, ne_eqb}
use Rattle.qbx_same.specs.Same.{is_same, is_plain, beside_clash}
use Rattle.qbx_same.proofs.with_beside.Goals as goal

pub returns-in-Nothing : goal.returns-in-Nothing
unfolding beside_clash is_plain
returns-in-Nothing c = rw c.in-Nothing.is

pub returns-in-Untold : goal.returns-in-Untold
unfolding beside_clash is_plain
returns-in-Untold c = rw c.in-Untold.is

pub returns-in-File : goal.returns-in-File
unfolding beside_clash
returns-in-File c =
    let e : is_same c.args.source c.in-File.file ≡ true = unfold is_same in (sym (rw c.in-File.is at c.eq.ensures) ∙ c.if-eq.true) in
    rw (c.in-File.is, e)

pub returns-in-File-2 : goal.returns-in-File-2
unfolding beside_clash
returns-in-File-2 c =
    let e : is_same c.args.source c.in-File-2.file ≡ false = unfold is_same in (sym (rw c.in-File-2.is at c.eq.ensures) ∙ c.if-eq.false) in
    let k : is_plain c.in-File-2.file ≡ true = unfold is_plain in (eq-eqb _ _ c.if-file-eq-S_IFREG.true) in
    rw (c.in-File-2.is, e, k)

pub returns-in-File-3 : goal.returns-in-File-3
unfolding beside_clash
returns-in-File-3 c =
    let e : is_same c.args.source c.in-File-2.file ≡ false = unfold is_same in (sym (rw c.in-File-2.is at c.eq.ensures) ∙ c.if-eq.false) in
    let k : is_plain c.in-File-2.file ≡ false = unfold is_plain in (ne_eqb _ _ c.if-file-eq-S_IFREG.false) in
    rw (c.in-File-2.is, e, k)
