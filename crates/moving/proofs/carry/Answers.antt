-- `moving::carry` gives the outcome of the definition. Assumes nothing.
use native.Mathlib.Omega.{arith}
use lib.ListN.{replicate}
use Rattle.model.proofs.Laws.Bytes.{bytes_known}
use Rattle.moving.proofs.Laws.Listed.{as_many, points}
use Rattle.moving.proofs.Laws.Moves.{carried_move}
use Rattle.moving.proofs.carry.Goals as goal

pub build-requires : goal.build-requires
build-requires c =
    let m = c.requires.movable in
    (m.target, points c.args.geometry.segments c.args.geometry.slots c.args.source.now m.source m.fine (replicate 65536 0) (as_many 65536 0) _ c.fill.ensures)

pub returns : goal.returns
returns c =
    carried_move c.args.geometry.segments c.args.geometry.slots c.args.source.now c.args.target_geometry.segments c.args.target_geometry.slots c.args.target.now c.args.budget c.requires.movable
    (bytes_known c.args.source.now (λ i. omega (arith, c.type_inv.source i)))
    (replicate 65536 0) _ (as_many 65536 0) c.fill.ensures c.build.result _ c.build.ensures
