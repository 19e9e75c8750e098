-- `header_steps::begin_header` does the first steps in a header, call by call. Assumes nothing.
use Rattle.header_steps.proofs.Laws.{header_begun_lem}
use borrow.Author.Rules.{rules}
use Rattle.header_steps.proofs.begin_header.Goals as goal

pub returns : goal.returns
returns c = search (rules, header_begun_lem)
