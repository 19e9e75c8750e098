-- `segments::see_frame` is the frame of the definition. Assumes nothing.
use Prim.Native.Nat.{◌+◌, ◌%◌, ◌≤◌, ◌<◌}
use mathlib.Core.Path.{sym, ◌∙◌}
use mathlib.Core.Bool.{true, false}
use native.Mathlib.Omega.{arith}
use native.Mathlib.Nat.{mod-lt}
use lib.ListN.{length}
use Rattle.judge.specs.Heads.{heads, no_counts}
use Rattle.segments.proofs.Laws.Tables.{counted_start, table_turn, table_end, numbers_start, numbers_stop, numbers_turn, numbers_end}
use Rattle.segments.proofs.Laws.Frames.{frame_refused, frame_tested}
use Rattle.segments.proofs.see_frame.Goals as goal

pub count_one-counts-requires : goal.count_one-counts-requires
count_one-counts-requires c = let l = c.loop-i in (omega (arith, l.invariant.1, c.requires), l.invariant.2)

pub overflow_add-number : goal.overflow_add-number
overflow_add-number c = omega (arith, c.saturating_sub-first.ensures, c.loop-i.invariant.1, c.loop-i.invariant.2, c.loop-i.invariant.3, c.requires.1)

pub offset_bounds-table-index : goal.offset_bounds-table-index
offset_bounds-table-index c = omega (arith, c.requires.1, mod-lt (c.saturating_sub-first.result + c.loop-k.k) c.requires.0)

pub bounds-table-index : goal.bounds-table-index
bounds-table-index c = omega (arith, c.requires.1, mod-lt (c.saturating_sub-first.result + c.loop-k.k) c.requires.0)

pub overflow_add-number-in-loop-k : goal.overflow_add-number-in-loop-k
overflow_add-number-in-loop-k c = omega (arith, c.saturating_sub-first.ensures, c.loop-i.invariant.1, c.loop-i.invariant.2, c.loop-i.invariant.3, c.requires.1)

pub loop-i-init : goal.loop-i-init
unfolding no_counts
loop-i-init c = rw c.none_counted-counts.ensures (counted_start (heads c.args.segments c.args.table), omega arith, omega arith, omega arith)

pub loop-i-preserved : goal.loop-i-preserved
loop-i-preserved c =
    let l = c.loop-i in
    let k = c.count_one-counts in
    let z : c.args.segments ≤ length c.args.table = omega (arith, c.well_formed, c.requires.1) in
    (table_turn c.args.segments c.args.table z _ l.i l.counts k.result _ c.loop-i-test.true k.ensures.0 l.invariant.0, omega (arith, k.ensures.1, l.invariant.1), k.ensures.2, omega arith)

pub loop-k-init : goal.loop-k-init
loop-k-init c = (numbers_start c.args.segments c.args.table c.loop-i.counts.used c.saturating_sub-first.result, omega arith)

pub loop-k-preserved : goal.loop-k-preserved
loop-k-preserved c =
    let l = c.loop-i in
    let z : c.args.segments ≤ length c.args.table = omega (arith, c.well_formed, c.requires.1) in
    let a = c.saturating_sub-first in
    let j = c.loop-k in
    let m = mod-lt (c.saturating_sub-first.result + c.loop-k.k) c.requires.0 in
    let h : (a.result + j.k) % c.args.segments < length c.args.table = omega arith in
    (sym (numbers_turn c.args.segments c.args.table l.counts.used a.result j.k _ c.loop-k-test.true m h (sym c.number_after.ensures.0 ∙ c.if-number_after-number.false)) ∙ j.invariant.0, omega arith)

pub returns-then-not-may_be_fine : goal.returns-then-not-may_be_fine
returns-then-not-may_be_fine c =
    let l = c.loop-i in
    let z : c.args.segments ≤ length c.args.table = omega (arith, c.well_formed, c.requires.1) in
    let e = table_end c.args.segments c.args.table z l.i l.counts _ (omega (arith, l.invariant.3, c.loop-i-test.false)) l.invariant.0 in
    (frame_refused c.args.segments (heads c.args.segments c.args.table) l.counts e c.saturating_sub-first.result c.saturating_sub-first.ensures c.requires.0 (sym c.may_be_fine.ensures ∙ c.if-not-may_be_fine.true), record { whole = omega (arith, c.saturating_sub-first.ensures, l.invariant.1, l.invariant.2, l.invariant.3, c.requires.1); used = omega (arith, l.invariant.1, l.invariant.3, c.requires.1) })

-- what is found at the index stands before the ranges: an edit of the index is refused for that
pub returns-then-number_after-number : goal.returns-then-number_after-number
returns-then-number_after-number c =
    let l = c.loop-i in
    let z : c.args.segments ≤ length c.args.table = omega (arith, c.well_formed, c.requires.1) in
    let e = table_end c.args.segments c.args.table z l.i l.counts _ (omega (arith, l.invariant.3, c.loop-i-test.false)) l.invariant.0 in
    let a = c.saturating_sub-first in
    let j = c.loop-k in
    let m = mod-lt (c.saturating_sub-first.result + c.loop-k.k) c.requires.0 in
    let h : (a.result + j.k) % c.args.segments < length c.args.table = omega arith in
    let n = sym j.invariant.0 ∙ numbers_stop c.args.segments c.args.table l.counts.used a.result j.k _ c.loop-k-test.true m h (λ q. c.if-number_after-number.true (c.number_after.ensures.0 ∙ q)) in
    (frame_tested c.args.segments (heads c.args.segments c.args.table) l.counts e a.result a.ensures (sym c.may_be_fine.ensures ∙ c.if-not-may_be_fine.false) false (sym n), record { whole = omega (arith, c.saturating_sub-first.ensures, l.invariant.1, l.invariant.2, l.invariant.3, c.requires.1); used = omega (arith, l.invariant.1, l.invariant.3, c.requires.1) })

pub returns : goal.returns
returns c =
    let l = c.loop-i in
    let z : c.args.segments ≤ length c.args.table = omega (arith, c.well_formed, c.requires.1) in
    let e = table_end c.args.segments c.args.table z l.i l.counts _ (omega (arith, l.invariant.3, c.loop-i-test.false)) l.invariant.0 in
    let a = c.saturating_sub-first in
    let j = c.loop-k in
    let n = sym j.invariant.0 ∙ numbers_end c.args.segments c.args.table l.counts.used a.result j.k c.loop-k-test.false in
    (frame_tested c.args.segments (heads c.args.segments c.args.table) l.counts e a.result a.ensures (sym c.may_be_fine.ensures ∙ c.if-not-may_be_fine.false) true (sym n), record { whole = omega (arith, c.saturating_sub-first.ensures, l.invariant.1, l.invariant.2, l.invariant.3, c.requires.1); used = omega (arith, l.invariant.1, l.invariant.3, c.requires.1) })
