-- `partition_status::find_newest`. The invariant: what is known of the partitions looked at. Assumes nothing.
use Prim.Native.Nat.{◌*◌, ◌<◌, ◌≤◌}
use mathlib.Core.Path.{◌≡◌, sym, ap, ◌∙◌}
use mathlib.Core.Bool.{not}
use native.Mathlib.Omega.{arith}
use Rattle.partitions.specs.Partitions.{next_partition}
use Rattle.partition_status.specs.Said.{said}
use Rattle.partition_status.proofs.Laws.{inside, next_below, looked_none, found_no_partition, place_first, place_inner, looked_end, looked_inner, found_second, found_one, found_ring, found_nothing}
use Rattle.partition_status.proofs.find_newest.Goals as goal
use Rattle.partition_status.proofs.find_newest.Goals.{then-partition-highest, else-partition-highest, then-ends_run+else-is_some, else-is_none-via-then-is_none+else-status, else-is_none-via-else-is_none, else-ends_run}

pub returns-then-partitions-eq0 : goal.returns-then-partitions-eq0
unfolding said
returns-then-partitions-eq0 c = let a = c.args in found_no_partition a.partitions a.size a.image.now (omega (arith, c.if-partitions-eq0.true))

pub loop-partition-init : goal.loop-partition-init
loop-partition-init c = let a = c.args in looked_none a.partitions a.size a.image.now (omega (arith, c.if-partitions-eq0.false))

pub returns-then-status : goal.returns-then-status
unfolding said
returns-then-status c =
    let v = c.loop-partition in
    found_ring v.invariant (omega (arith, c.loop-partition-test.false)) (omega (arith, c.if-partitions-eq0.false)) (c.is_none.ensures ∙ ap not c.if-is_none.true) (λ n. omega (arith, c.if-status.true))

pub returns : goal.returns
returns c =
    let v = c.loop-partition in
    let all : c.args.partitions ≤ v.partition = omega (arith, c.loop-partition-test.false) in
    let some : 0 < c.args.partitions = omega (arith, c.if-partitions-eq0.false) in
    elim c.else-is_none.branch [
      | else-is_none-via-then-is_none+else-status w ↦ found_nothing v.invariant all some (c.is_none.ensures ∙ ap not w.if-is_none.true) (omega (arith, w.if-status.false))
      | else-is_none-via-else-is_none w ↦ found_one v.invariant all some (c.is_none.ensures ∙ ap not w.if-is_none.false)
    ]

pub returns-then-is_some : goal.returns-then-is_some
unfolding said
returns-then-is_some c =
    let v = c.loop-partition in
    let a = c.args in
    let more : v.partition < a.partitions = omega (arith, c.loop-partition-test.true) in
    let place : c.if-partition-highest.at ≡ next_partition a.partitions v.partition * a.size =
    elim c.if-partition-highest.branch [ then-partition-highest w ↦ place_first v.invariant more w.if-partition-highest.true w.at-is | else-partition-highest w ↦ place_inner v.invariant more w.if-partition-highest.false w.at-is ] in
    found_second v.invariant more place c.ends_run.ensures c.if-ends_run.true (sym c.is_some.ensures ∙ c.if-is_some.true)

pub loop-partition-preserved : goal.loop-partition-preserved
loop-partition-preserved c =
    let v = c.loop-partition in
    let a = c.args in
    let more : v.partition < a.partitions = omega (arith, c.loop-partition-test.true) in
    let place : c.if-partition-highest.at ≡ next_partition a.partitions v.partition * a.size =
    elim c.if-partition-highest.branch [ then-partition-highest w ↦ place_first v.invariant more w.if-partition-highest.true w.at-is | else-partition-highest w ↦ place_inner v.invariant more w.if-partition-highest.false w.at-is ] in
    let ran = c.ends_run.ensures in
    elim c.if-ends_run.branch [
      | then-ends_run+else-is_some w ↦ looked_end v.invariant more place ran w.if-ends_run.true (sym w.is_some.ensures ∙ w.if-is_some.false) w.newest-is
      | else-ends_run w ↦ looked_inner v.invariant more place ran w.if-ends_run.false w.newest-is
    ]

-- after `loop_again`, so that another next partition is refused for its status, and not for where that stands
pub bounds-image-at : goal.bounds-image-at
bounds-image-at c =
    let v = c.loop-partition in
    let a = c.args in
    let more : v.partition < a.partitions = omega (arith, c.loop-partition-test.true) in
    let place : c.if-partition-highest.at ≡ next_partition a.partitions v.partition * a.size =
    elim c.if-partition-highest.branch [ then-partition-highest w ↦ place_first v.invariant more w.if-partition-highest.true w.at-is | else-partition-highest w ↦ place_inner v.invariant more w.if-partition-highest.false w.at-is ] in
    let p = c.requires in
    omega (arith, place, inside a.partitions a.size (next_partition a.partitions v.partition) _ (next_below a.partitions v.partition more) p.0 p.1)
