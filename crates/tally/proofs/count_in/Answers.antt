-- `tally::count_in` does the step of the definition. Assumes nothing.
use mathlib.Core.Path.{sym, ◌∙◌}
use Rattle.tally.proofs.Laws.{former_counts, none_left, bit_left, one_counted}
use Rattle.tally.proofs.count_in.Goals as goal

-- what is programmed stands before the rest: an edit is refused for that
pub returns : goal.returns
returns c =
    one_counted c.args.page.now c.requires (sym c.is_former-former.ensures ∙ c.if-former.false) _ c.zeros_before-k.ensures c.if-k-ge-BIT_BYTES.false _ c.highest_bit.ensures.0 c.program_byte.ensures

pub returns-then-former : goal.returns-then-former
returns-then-former c = former_counts _ _ (sym c.is_former-former.ensures ∙ c.if-former.true)

pub returns-then-k-ge-BIT_BYTES : goal.returns-then-k-ge-BIT_BYTES
returns-then-k-ge-BIT_BYTES c =
    none_left c.args.page.now c.requires (sym c.is_former-former.ensures ∙ c.if-former.false) _ _ c.zeros_before-k.ensures c.if-k-ge-BIT_BYTES.true

pub highest_bit-requires : goal.highest_bit-requires
highest_bit-requires c =
    bit_left c.args.page.now c.requires (sym c.is_former-former.ensures ∙ c.if-former.false) _ c.zeros_before-k.ensures c.if-k-ge-BIT_BYTES.false
