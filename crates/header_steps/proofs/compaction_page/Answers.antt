-- `header_steps::compaction_page` makes up the page of the definition. Assumes nothing.
use native.Mathlib.Omega.{arith}
use Rattle.flash.proofs.Pages.{index_small}
use Rattle.header_steps.proofs.compaction_page.Goals as goal

pub overflow_cast-index-2 : goal.overflow_cast-index-2
overflow_cast-index-2 c =
    let a = c.args in
    record { fits = omega (arith, index_small a.old.0 a.geometry.segments (omega arith) (omega arith)) }
