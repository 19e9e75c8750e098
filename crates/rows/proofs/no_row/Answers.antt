-- `rows::no_row` is the row of the definition. Assumes nothing.
use mathlib.Core.Path.{refl}
use Rattle.judge.specs.Rows.{no_row}
use Rattle.rows.proofs.no_row.Goals as goal

pub returns : goal.returns
unfolding no_row
returns c = refl
