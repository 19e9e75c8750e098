-- `qbx_numbers::number`. The invariant: the bytes from `b-index` on, behind the value so far, give the answer. Assumes nothing.
use mathlib.Core.Path.{sym, ◌∙◌}
use native.Mathlib.Omega.{arith}
use Rattle.qbx_numbers.proofs.Laws.{digit_below, read_start, read_none, read_next, read_stop, read_large, read_end}
use Rattle.qbx_numbers.proofs.number.Goals as goal

pub returns-then-is_empty : goal.returns-then-is_empty
returns-then-is_empty c = sym (read_none _ (grind (arith, c.is_empty.ensures, c.if-is_empty.true)))

pub loop-b-init : goal.loop-b-init
loop-b-init c = (omega arith, sym (read_start _ (grind (arith, c.is_empty.ensures, c.if-is_empty.false))))

pub returns-in_err-d : goal.returns-in_err-d
returns-in_err-d c = c.from_residual.ensures ∙ sym (read_stop _ _ c.loop-b.value c.loop-b-test.true (sym c.in_err-d.was ∙ c.digit.ensures)) ∙ c.loop-b.invariant.1

pub returns-then-value-ge-TENTH : goal.returns-then-value-ge-TENTH
returns-then-value-ge-TENTH c = sym (read_large _ _ c.loop-b.value c.loop-b-test.true c.if-value-ge-TENTH.true) ∙ c.loop-b.invariant.1

pub overflow_add-value : goal.overflow_add-value
overflow_add-value c = omega (arith, digit_below _ _ (sym c.in_ok-d.was ∙ c.digit.ensures))

pub loop-b-preserved : goal.loop-b-preserved
loop-b-preserved c =
    let d = sym c.in_ok-d.was ∙ c.digit.ensures in
    (omega (arith, digit_below _ _ d), sym (read_next _ _ c.loop-b.value _ c.loop-b-test.true d) ∙ c.loop-b.invariant.1)

pub returns : goal.returns
returns c = sym (read_end _ _ c.loop-b.value c.loop-b-test.false c.loop-b.invariant.0) ∙ c.loop-b.invariant.1
