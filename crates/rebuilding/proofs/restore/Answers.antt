-- `rebuilding::restore` gives the outcome of the definition. Assumes nothing.
use native.Mathlib.Omega.{arith}
use Rattle.model.proofs.Laws.Chip.{size_facts}
use Rattle.model.proofs.Laws.Bytes.{bytes_known}
use Rattle.rebuilding.proofs.Laws.{counted, points, rebuilt, too_many}
use Rattle.rebuilding.proofs.restore.Goals as goal

pub capacity-requires : goal.capacity-requires
capacity-requires c =
    let z = size_facts c.args.target_geometry.segments c.args.target_geometry.slots c.args.target.now c.requires.1 in
    (z.two, z.most, z.slots, omega (arith, z.most_b))

pub build-requires : goal.build-requires
build-requires c =
    let a = c.args in
    (c.requires.1, points a.geometry.segments a.geometry.slots a.source.now c.requires.0 _ c.gather.ensures)

pub returns-then-capacity-given_count : goal.returns-then-capacity-given_count
returns-then-capacity-given_count c =
    let a = c.args in
    let m = counted a.geometry.segments a.geometry.slots a.source.now c.requires.0 _ c.gather.ensures in
    too_many a.geometry.segments a.geometry.slots a.source.now a.target_geometry.segments a.target_geometry.slots a.target.now a.budget c.requires.0 c.requires.1 (omega (arith, c.if-capacity-given_count.true, c.capacity.ensures.0, c.given_count.ensures, m)) c.refused.ensures

pub returns : goal.returns
returns c =
    let a = c.args in
    let m = counted a.geometry.segments a.geometry.slots a.source.now c.requires.0 _ c.gather.ensures in
    rebuilt a.geometry.segments a.geometry.slots a.source.now c.requires.0 _ c.gather.ensures a.target_geometry.segments a.target_geometry.slots a.target.now a.budget
    (bytes_known a.source.now (λ i. omega (arith, c.type_inv.source i))) c.requires.1 (omega (arith, c.if-capacity-given_count.false, c.capacity.ensures.0, c.given_count.ensures, m)) c.build.result _ c.build.ensures
