-- `tally::see_tally` shows what the definition shows. Assumes nothing.
use mathlib.Core.Path.{sym, ◌∙◌}
use native.Mathlib.Omega.{arith}
use Rattle.tally.proofs.Laws.{former_seen, second_seen}
use borrow.Author.Rules.{rules}
use Rattle.tally.proofs.see_tally.Goals as goal

pub returns-then-is_former : goal.returns-then-is_former
returns-then-is_former c = (former_seen _ (sym c.is_former.ensures ∙ c.if-is_former.true), omega arith)

pub returns : goal.returns
returns c = (
  second_seen c.args.page.now c.requires (sym c.is_former.ensures ∙ c.if-is_former.false) _ _ _
      c.header_total.ensures.0 c.cleared_bits-cleared.ensures.0 c.zeros_before.ensures,
  search rules,
)
