-- `qbx_same::judge`: one after the other. Assumes nothing.
use mathlib.Core.Path.{◌∙◌, ap}
use Rattle.qbx_same.specs.Same.{target_clash, clash_of}
use Rattle.qbx_same.proofs.judge.Goals as goal

pub returns : goal.returns
unfolding clash_of
returns c = c.with_target.ensures ∙ ap (target_clash c.args.source c.args.target) c.with_beside.ensures
