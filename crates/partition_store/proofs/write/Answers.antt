-- `partition_store::write` answers as the definition says. Assumes nothing.
use Rattle.partitions.specs.declared.Written.{Written}
use Rattle.partition_store.specs.Asking.{Asks}
use native.Mathlib.Omega.{arith}
use Rattle.partitions.specs.Answers.{wrote}
use mathlib.Core.Path.{ap, ◌∙◌, subst}
use Rattle.std.specs.Prelude.{Result}
use Rattle.partitions.specs.declared.Reply.{Reply}
use Rattle.partition_layout.specs.declared.Place.{Place}
use Rattle.partition_store.proofs.Answering.{write_refused, write_mismatched, write_accepted}
use Rattle.partition_store.proofs.Asking.{fitting}
use Rattle.partition_store.proofs.write.Goals as goal

pub returns-then-contents-place : goal.returns-then-contents-place
returns-then-contents-place c =
    let a = c.args in
    let asks = subst (λ (r : Result Place Reply). Asks a.partitions a.layout.now a.image.now a.item r) c.in-Ok.is c.find.ensures in
    ap (λ (w : Written). wrote w a.image.now) c.refused.ensures ∙ write_mismatched a.partitions a.layout.now a.image.now a.item a.contents.now a.budget _ _ asks (λ e. omega (arith, c.if-contents-place.true))

pub write_found-requires : goal.write_found-requires
write_found-requires c =
    let a = c.args in
    let asks = subst (λ (r : Result Place Reply). Asks a.partitions a.layout.now a.image.now a.item r) c.in-Ok.is c.find.ensures in
    fitting a.partitions a.layout.now a.image.now a.item _ _ asks _ (omega (arith, c.if-contents-place.false))

pub returns-in-Err : goal.returns-in-Err
returns-in-Err c =
    let a = c.args in
    let asks = subst (λ (r : Result Place Reply). Asks a.partitions a.layout.now a.image.now a.item r) c.in-Err.is c.find.ensures in
    ap (λ (w : Written). wrote w a.image.now) c.refused-in-Err.ensures ∙ write_refused a.partitions a.layout.now a.image.now a.item a.contents.now a.budget _ asks

pub returns-else-contents-place : goal.returns-else-contents-place
returns-else-contents-place c =
    let a = c.args in
    let asks = subst (λ (r : Result Place Reply). Asks a.partitions a.layout.now a.image.now a.item r) c.in-Ok.is c.find.ensures in
    c.write_found.ensures ∙ write_accepted a.partitions a.layout.now a.image.now a.item a.contents.now a.budget _ _ asks (omega (arith, c.if-contents-place.false))
