-- `qbx_move_request::perform`: the move, or the rebuild, that its words ask for. Assumes nothing.
use mathlib.Core.Path.{◌≡◌}
use mathlib.Core.Bool.{true, false}
use Rattle.qbx_move_request.specs.MoveRequest.{built_by}
use Rattle.qbx_move_request.proofs.perform.Goals as goal

pub returns-then-salvages : goal.returns-then-salvages
unfolding built_by
returns-then-salvages c =
    let e : c.args.command.salvages ≡ true = c.if-salvages.true in
    rw e c.rebuild.ensures

pub returns : goal.returns
unfolding built_by
returns c =
    let e : c.args.command.salvages ≡ false = c.if-salvages.false in
    rw e c.move_to.ensures
