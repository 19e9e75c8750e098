-- `request::number_ok` is the test of the definition. Assumes nothing.
use Rattle.model.specs.Slot.{number_ok}
use Rattle.request.proofs.Laws.{none_fails, some_passes}
use borrow.Author.Rules.{rules}
use Rattle.request.proofs.number_ok.Goals as goal

pub returns-then-n-eq0 : goal.returns-then-n-eq0
unfolding number_ok
returns-then-n-eq0 c = search (rules, none_fails)

pub returns : goal.returns
unfolding number_ok
returns c = search (rules, some_passes)
