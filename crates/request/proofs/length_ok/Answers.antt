-- `request::length_ok` is the test of the definition. Assumes nothing.
use Rattle.model.specs.Slot.{most_contents}
use Rattle.model.specs.Answers.{length_ok}
use Rattle.request.proofs.Laws.{none_fails, some_passes}
use borrow.Author.Rules.{rules}
use Rattle.request.proofs.length_ok.Goals as goal

pub returns-then-bytes-eq0 : goal.returns-then-bytes-eq0
unfolding length_ok
returns-then-bytes-eq0 c = search (rules, none_fails)

pub returns : goal.returns
unfolding length_ok most_contents
returns c = search (rules, some_passes)
