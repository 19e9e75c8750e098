-- `scan::clean_survey` is the survey of the definition. Assumes nothing.
use mathlib.Core.Path.{refl}
use Rattle.scan.specs.Surveys.{clean_in}
use Rattle.scan.proofs.clean_survey.Goals as goal

pub returns : goal.returns
unfolding clean_in
returns c = refl
