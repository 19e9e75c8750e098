-- `slot::slot_fits` is the definition's test of a written slot. Assumes nothing.
use native.Mathlib.Omega.{arith}
use mathlib.Core.Path.{sym, ◌∙◌}
use borrow.Author.Tests.{not-true, not-false}
use Rattle.slot.proofs.Laws.Kinds.{Numbered, fits_long, fits_zero, fits_most, fits_gap, fits_tail}
use Rattle.slot.proofs.slot_fits.Goals as goal

pub returns-then-length-gt-MOST_CONTENTS : goal.returns-then-length-gt-MOST_CONTENTS
returns-then-length-gt-MOST_CONTENTS c = sym (fits_long _ (omega arith))

pub returns-then-block-eq0 : goal.returns-then-block-eq0
returns-then-block-eq0 c = sym (fits_zero _ (omega arith))

pub returns-then-block : goal.returns-then-block
returns-then-block c = sym (fits_most _ (omega arith))

pub returns-then-not-gap : goal.returns-then-not-gap
returns-then-not-gap c =
    let known = c.type_inv.page in
    let h : Numbered c.args.page.now =
    record { whole = omega arith; status = omega arith; short = omega arith; low = omega (arith, known 2); high = omega (arith, known 3); some = λ e. omega arith; most = λ e. omega arith } in
    sym (fits_gap _ h (sym c.blank_test-gap.ensures.0 ∙ not-true _ c.if-not-gap.true))

pub returns : goal.returns
returns c =
    let known = c.type_inv.page in
    let h : Numbered c.args.page.now =
    record { whole = omega arith; status = omega arith; short = omega arith; low = omega (arith, known 2); high = omega (arith, known 3); some = λ e. omega arith; most = λ e. omega arith } in
    let e = sym c.blank_test-gap.ensures.0 ∙ not-false _ c.if-not-gap.false in
    c.blank_test-rest.ensures.0 ∙ sym (fits_tail _ _ h e (omega arith))
