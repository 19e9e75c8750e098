-- `header_seen::see_header` shows what the definition shows. Assumes nothing.
use mathlib.Core.Path.{sym, ◌∙◌}
use Rattle.header_seen.proofs.Laws.{seen_used, seen_unused}
use Rattle.header_seen.proofs.see_header.Goals as goal

pub returns-then-header_in_use : goal.returns-then-header_in_use
returns-then-header_in_use c =
    sym (seen_used _ _ _ _ _ _ c.is_former.ensures c.header_number.ensures (sym c.header_in_use.ensures ∙ c.if-header_in_use.true))

pub returns : goal.returns
returns c = sym (seen_unused _ _ _ _ (sym c.header_in_use.ensures ∙ c.if-header_in_use.false))
