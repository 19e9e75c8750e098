-- `partition_store::read` answers as the definition says. Assumes nothing.
use Rattle.partition_store.proofs.Asking.{stands}
use Rattle.partition_store.specs.Asking.{Asks}
use mathlib.Core.Path.{◌∙◌, subst}
use Rattle.std.specs.Prelude.{Result}
use Rattle.partitions.specs.declared.Reply.{Reply}
use Rattle.partition_layout.specs.declared.Place.{Place}
use Rattle.partition_store.proofs.Answering.{told_unread, read_refused, read_accepted}
use Rattle.partition_store.proofs.read.Goals as goal

pub read_found-requires : goal.read_found-requires
read_found-requires c =
    let a = c.args in
    let asks = subst (λ (r : Result Place Reply). Asks a.partitions a.layout.now a.image.now a.item r) c.in-Ok.is c.find.ensures in
    stands a.partitions a.layout.now a.image.now a.item _ _ asks

pub returns-in-Err : goal.returns-in-Err
returns-in-Err c =
    let a = c.args in
    let asks = subst (λ (r : Result Place Reply). Asks a.partitions a.layout.now a.image.now a.item r) c.in-Err.is c.find.ensures in
    told_unread _ _ c.unread.ensures (read_refused a.partitions a.layout.now a.image.now a.item _ asks)

pub returns-in-Ok : goal.returns-in-Ok
returns-in-Ok c =
    let a = c.args in
    let asks = subst (λ (r : Result Place Reply). Asks a.partitions a.layout.now a.image.now a.item r) c.in-Ok.is c.find.ensures in
    (c.read_found.ensures.0 ∙ read_accepted a.partitions a.layout.now a.image.now a.item _ _ asks, c.read_found.ensures.1)
