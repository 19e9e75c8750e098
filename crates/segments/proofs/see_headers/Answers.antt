-- `segments::see_headers` tells of the headers what the definition does. Assumes nothing.
use Prim.Native.Nat.{◌≤◌}
use mathlib.Core.Path.{◌≡◌, refl, sym, ap, ◌∙◌}
use mathlib.Core.List.{map}
use native.Mathlib.Omega.{arith}
use native.Mathlib.Nat.{mod-lt}
use lib.ListN.{length, length-set}
use Rattle.model.specs.State.{segments_of, next_number}
use Rattle.model.proofs.Laws.Segments.{segments_length}
use Rattle.judge.specs.Heads.{outline, heads, no_counts}
use Rattle.segments.proofs.Laws.Heads.{filled_turn, filled_end}
use Rattle.segments.proofs.Laws.Tables.{counted_start, seen_turn, seen_end}
use Rattle.segments.proofs.Laws.Frames.{counted_next, headers_found, told_next, told_frame}
use Rattle.segments.proofs.see_headers.Goals as goal

pub loop-i-init : goal.loop-i-init
unfolding heads no_counts
loop-i-init c = rw c.none_counted-counts.ensures (refl, counted_start (map outline (segments_of c.args.geometry.segments c.args.geometry.slots c.args.image.now)), omega arith, omega arith, omega arith, refl)

pub see_segment-s-requires : goal.see_segment-s-requires
see_segment-s-requires c = (c.requires.0, c.loop-i-test.true)

pub offset_bounds-table-i : goal.offset_bounds-table-i
offset_bounds-table-i c = omega (arith, c.requires.0.segments)

pub bounds-table-i : goal.bounds-table-i
bounds-table-i c = omega (arith, c.requires.0.segments)

pub count_one-counts-requires : goal.count_one-counts-requires
count_one-counts-requires c = let l = c.loop-i in (omega (arith, l.invariant.2, c.requires.0.segments), l.invariant.3)

pub loop-i-preserved : goal.loop-i-preserved
loop-i-preserved c =
    let l = c.loop-i in
    let v = c.see_segment-s in
    let k = c.count_one-counts in
    let m = (segments_of c.args.geometry.segments c.args.geometry.slots c.args.image.now) in
    let z = segments_length c.args.geometry.segments c.args.geometry.slots c.args.image.now in (
      filled_turn m l.table l.i v.result (omega (arith, l.invariant.5, c.requires.0.segments)) (omega arith) v.ensures l.invariant.0,
      seen_turn m l.i l.counts k.result _ v.result (omega arith) k.ensures.0 v.ensures l.invariant.1,
      omega (arith, k.ensures.1, l.invariant.2),
      k.ensures.2,
      omega arith,
      simp length-set l.invariant.5,
    )

pub nonzero_rem-top_index : goal.nonzero_rem-top_index
nonzero_rem-top_index c = omega (arith, c.requires.1)

pub nonzero_rem-after_index : goal.nonzero_rem-after_index
nonzero_rem-after_index c = omega (arith, c.requires.1)

pub offset_bounds-table-top_index : goal.offset_bounds-table-top_index
offset_bounds-table-top_index c = omega (arith, c.requires.0.segments, mod-lt c.saturating_sub.result c.requires.0.some)

pub bounds-table-top_index : goal.bounds-table-top_index
bounds-table-top_index c = omega (arith, c.requires.0.segments, mod-lt c.saturating_sub.result c.requires.0.some)

pub offset_bounds-table-after_index : goal.offset_bounds-table-after_index
offset_bounds-table-after_index c = omega (arith, c.requires.0.segments, mod-lt c.loop-i.counts.next c.requires.0.some)

pub bounds-table-after_index : goal.bounds-table-after_index
bounds-table-after_index c = omega (arith, c.requires.0.segments, mod-lt c.loop-i.counts.next c.requires.0.some)

pub offset_bounds-table-top_index-2 : goal.offset_bounds-table-top_index-2
offset_bounds-table-top_index-2 c = omega (arith, c.requires.0.segments, mod-lt c.saturating_sub.result c.requires.0.some)

pub bounds-table-top_index-2 : goal.bounds-table-top_index-2
bounds-table-top_index-2 c = omega (arith, c.requires.0.segments, mod-lt c.saturating_sub.result c.requires.0.some)

pub offset_bounds-table-after_index-2 : goal.offset_bounds-table-after_index-2
offset_bounds-table-after_index-2 c = omega (arith, c.requires.0.segments, mod-lt c.loop-i.counts.next c.requires.0.some)

pub bounds-table-after_index-2 : goal.bounds-table-after_index-2
bounds-table-after_index-2 c = omega (arith, c.requires.0.segments, mod-lt c.loop-i.counts.next c.requires.0.some)

pub see_frame-frame-requires : goal.see_frame-frame-requires
see_frame-frame-requires c = (c.requires.0.some, c.requires.0.segments)

pub returns : goal.returns
returns c =
    let l = c.loop-i in
    let m = (segments_of c.args.geometry.segments c.args.geometry.slots c.args.image.now) in
    let i : l.i ≡ c.args.geometry.segments = omega (arith, l.invariant.4, c.loop-i-test.false) in
    let z = segments_length c.args.geometry.segments c.args.geometry.slots c.args.image.now in
    let shown = filled_end c.args.geometry.segments c.args.geometry.slots l.i c.args.image.now l.table i l.invariant.0 in
    let e : l.counts.next ≡ next_number (heads c.args.geometry.segments l.table) = counted_next (map outline m) l.counts (seen_end m l.i l.counts _ (i ∙ sym z) l.invariant.1) ∙ ap next_number (sym shown) in
    let long : c.args.geometry.segments ≤ length l.table = omega (arith, c.requires.0.segments, l.invariant.5) in (
      c.tell.ensures ∙ headers_found c.args.geometry.segments l.table _ c.requires.1 long l.counts.next c.saturating_sub.result e c.saturating_sub.ensures m
          c.settled.result c.next_mended.result c.see_frame-frame.result shown c.settled.ensures c.next_mended.ensures c.see_frame-frame.ensures.0,
      omega (arith, l.invariant.3, told_next _ _ _ _ _ c.tell.ensures),
      rw (told_frame _ _ _ _ _ c.tell.ensures) c.see_frame-frame.ensures.1,
    )
