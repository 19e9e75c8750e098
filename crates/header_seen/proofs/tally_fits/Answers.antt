-- `header_seen::tally_fits` is that part of the test of the definition that is about the tally. Assumes nothing.
use mathlib.Core.Path.{sym, ◌∙◌}
use native.Mathlib.Omega.{arith}
use Rattle.header_seen.proofs.Laws.{fits_former, total_over, fits_second}
use Rattle.header_seen.proofs.tally_fits.Goals as goal

pub returns-then-is_former : goal.returns-then-is_former
returns-then-is_former c =
    c.blank_test-rest.ensures.0 ∙ fits_former _ (sym c.is_former.ensures ∙ c.if-is_former.true) c.requires

pub returns-then-header_total-ge-ERASE_LIMIT : goal.returns-then-header_total-ge-ERASE_LIMIT
returns-then-header_total-ge-ERASE_LIMIT c =
    sym (total_over _ (sym c.is_former.ensures ∙ c.if-is_former.false) (omega (arith, c.header_total.ensures.0, c.if-header_total-ge-ERASE_LIMIT.true)))

pub returns : goal.returns
returns c =
    c.blank_test-between.ensures.0 ∙ fits_second _ (sym c.is_former.ensures ∙ c.if-is_former.false) (omega (arith, c.header_total.ensures.0, c.if-header_total-ge-ERASE_LIMIT.false))
