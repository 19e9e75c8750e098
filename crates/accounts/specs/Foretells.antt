-- The last line of an account, by what recovery would answer.
use Rattle.std.specs.Prelude.{ℕ, List, ◌++◌, Result, Ok, Err}
use Rattle.text.specs.Text.{text}
use Rattle.text.specs.Buffer.{labelled}
use Rattle.prognosis.specs.declared.FailedCondition.{FailedCondition}

unfoldable pub foretold : Result ℕ FailedCondition → List ℕ
foretold (Ok n) = labelled "recover " 0 ++ (labelled " steps " n ++ text "\n")
foretold (Err c) = labelled "fails " c.0 ++ text "\n"
