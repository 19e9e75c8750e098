-- `blank::blank_test` answers and counts as the definitions say. Assumes nothing.
use mathlib.Core.Path.{◌∙◌}
use native.Mathlib.Omega.{arith}
use Rattle.blank.proofs.Blank.{before_within, tested}
use Rattle.blank.proofs.blank_test.Goals as goal

pub overflow_add-before : goal.overflow_add-before
overflow_add-before c = record { fits = omega (arith, before_within c.args.bytes.now _ c.blank_before-before.ensures) }

pub returns : goal.returns
returns c =
    let d = tested c.args.bytes.now _ c.blank_before-before.ensures in
    (d.0, c.min.ensures ∙ d.1)
