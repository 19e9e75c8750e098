-- `header_steps::finish_header` does the last steps in a header, call by call. Assumes nothing.
use Rattle.header_steps.proofs.Laws.{header_finished_lem}
use borrow.Author.Rules.{rules}
use Rattle.header_steps.proofs.finish_header.Goals as goal

pub returns : goal.returns
returns c = search (rules, header_finished_lem)
