-- `flash::program_byte` does one program step if the budget covers it. Assumes nothing.
use Rattle.flash.proofs.Laws.{ran_spent, programmed_one}
use borrow.Author.Rules.{rules}
use Rattle.flash.proofs.program_byte.Goals as goal

pub returns-then-budget-eq0 : goal.returns-then-budget-eq0
returns-then-budget-eq0 c = λ B. ran_spent _ B _ _ c.if-budget-eq0.true

pub returns : goal.returns
returns c = search (rules, programmed_one)
