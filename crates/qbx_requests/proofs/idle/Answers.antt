-- `qbx_requests::idle`: done, and no step. Assumes nothing.
use mathlib.Core.Path.{refl}
use Rattle.model.specs.Answers.{code_of}
use Rattle.qbx_requests.proofs.idle.Goals as goal

pub returns : goal.returns
unfolding code_of
returns c = (refl, refl)
