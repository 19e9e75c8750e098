-- `partition_store::write_found` writes by the newest partition as the definition says. Assumes nothing.
use Rattle.partitions.specs.declared.Written.{Written}
use Rattle.partitions.specs.declared.Reply.TheVariants.{Statuses}
use mathlib.Core.Path.{ap, ◌∙◌}
use Rattle.partition_store.proofs.Answering.{refused_worked, work_nothing, work_newest, work_none}
use Prim.Native.Nat.{◌/◌}
use native.Mathlib.Omega.{arith}
use lib.ListN.{length}
use Rattle.std.specs.Prelude.{Ok}
use Rattle.partitions.specs.Answers.{number_of, wrote}
use native.Mathlib.Nat.{div-le_self}
use Rattle.partition_store.proofs.Asking.{stands, board_whole, said_below}
use Rattle.partition_store.proofs.write_found.Goals as goal

pub nonzero_div-size : goal.nonzero_div-size
nonzero_div-size c =
    let a = c.args in
    omega (arith, (stands a.partitions a.layout.now a.image.now a.item a.at _ c.requires).some)

pub find_newest-requires : goal.find_newest-requires
find_newest-requires c =
    let a = c.args in
    let z = stands a.partitions a.layout.now a.image.now a.item a.at _ c.requires in
    (omega (arith, z.inside), omega (arith, board_whole a.partitions (length a.image.now) z.even))

pub write_first-requires : goal.write_first-requires
write_first-requires c =
    let a = c.args in
    let z = stands a.partitions a.layout.now a.image.now a.item a.at _ c.requires in
    (z.inside, div-le_self (length a.image.now) a.partitions)

pub write_newest-requires : goal.write_newest-requires
write_newest-requires c =
    let a = c.args in
    (c.requires, said_below a.partitions _ a.image.now c.find_newest.ensures (c.in-Ok-Some.is ∙ ap Ok c.in-Ok-Some.field-0-is))

pub returns-in-Ok-None : goal.returns-in-Ok-None
returns-in-Ok-None c =
    let a = c.args in
    rw (work_nothing a.partitions a.layout.now a.image.now a.item a.at a.contents.now c.requires c.find_newest.ensures (c.in-Ok-None.is ∙ ap Ok c.in-Ok-None.field-0-is)) c.write_first.ensures

pub returns-in-Ok-Some : goal.returns-in-Ok-Some
returns-in-Ok-Some c =
    let a = c.args in
    rw (work_newest a.partitions a.layout.now a.image.now a.item a.at a.contents.now c.requires c.find_newest.ensures (c.in-Ok-Some.is ∙ ap Ok c.in-Ok-Some.field-0-is)) c.write_newest.ensures

pub returns-in-Err : goal.returns-in-Err
unfolding number_of
returns-in-Err c =
    let a = c.args in
    let s = a.image.now in
    rw (work_none a.partitions a.layout.now a.image.now a.item a.at a.contents.now c.requires c.find_newest.ensures c.in-Err.is) (ap (λ (w : Written). wrote w s) c.refused.ensures ∙ refused_worked (length s / a.partitions) Statuses s a.budget)
