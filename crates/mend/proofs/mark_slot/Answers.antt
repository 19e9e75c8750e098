-- `mend::mark_slot` takes the one step that marks a slot. Assumes nothing.
use mathlib.Core.List.{[]}
use mathlib.Core.Path.{sym}
use native.Mathlib.Omega.{arith}
use Rattle.model.specs.Steps.{on_page, mark_dead}
use Rattle.bridge.specs.Lengths.{mark_length}
use Rattle.flash.proofs.Laws.{ran_left}
use Rattle.flash.proofs.Pages.{in_page}
use Rattle.request.proofs.Answered.{carried}
use Rattle.mend.proofs.mark_slot.Goals as goal

pub mark_dead-left-requires : goal.mark_dead-left-requires
mark_dead-left-requires c = c.requires.inside

pub finished-requires : goal.finished-requires
finished-requires c = ran_left (c.mark_dead-left.ensures 0)

pub returns : goal.returns
returns c = λ q B e. carried [] (on_page q mark_dead) (in_page _ q mark_dead e c.mark_dead-left.ensures B) (omega arith) (sym (mark_length q)) c.finished.ensures
