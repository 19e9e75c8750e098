-- `request::finished` answers by the budget that was left before the last part. Assumes nothing.
use mathlib.Core.Path.{refl}
use borrow.Author.Tests.{lt-ltb, le-ltb}
use Rattle.model.specs.Answers.{code_of}
use Rattle.request.proofs.finished.Goals as goal

pub returns-then-before-last : goal.returns-then-before-last
unfolding code_of
returns-then-before-last c = record { code = rw (lt-ltb _ _ c.if-before-last.true); count = refl }

pub returns : goal.returns
unfolding code_of
returns c = record { code = rw (le-ltb _ _ c.if-before-last.false); count = refl }
