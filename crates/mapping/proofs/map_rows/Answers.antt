-- `mapping::map_rows`. The invariant: whatever adds the rows that are left finishes them all. Assumes nothing.
use Prim.Native.Nat.{◌≤◌}
use native.Mathlib.Omega.{arith}
use lib.ListN.{length}
use Rattle.model.specs.State.{segments_of}
use Rattle.account_text.specs.Account.{shown}
use Rattle.account_text.specs.Map.{map_rows, all_rows}
use Rattle.index.proofs.Walks.{held_shown}
use Rattle.marking.proofs.Laws.{finish_begin, finish_more, finish_end}
use Rattle.mapping.proofs.Laws.{rows_next, rows_end}
use Rattle.mapping.proofs.map_rows.Goals as goal

pub loop-i-init : goal.loop-i-init
loop-i-init c =
    let a = c.args in
    (finish_begin (map_rows a.next 0 (shown a.geometry.segments a.geometry.slots (segments_of a.geometry.segments a.geometry.slots a.image.now))) a.text.now a.at, omega arith, omega arith)

pub offset_bounds-table-i : goal.offset_bounds-table-i
offset_bounds-table-i c = omega (arith, c.requires.0.segments)

pub bounds-table-i : goal.bounds-table-i
bounds-table-i c = omega (arith, c.requires.0.segments)

pub map_row-end-requires : goal.map_row-end-requires
map_row-end-requires c =
    (c.requires.0, c.loop-i-test.true, omega (arith, c.loop-i.invariant.1, c.loop-i.invariant.2, c.requires.0.segments, c.requires.3))

pub shape_of-text : goal.shape_of-text
shape_of-text c = c.loop-i.invariant.0.kept

pub returns : goal.returns
unfolding all_rows
returns c =
    let a = c.args in
    let l = shown a.geometry.segments a.geometry.slots (segments_of a.geometry.segments a.geometry.slots a.image.now) in
    let n : length l ≤ c.loop-i.i = omega (arith, c.loop-i-test.false, (held_shown a.geometry.segments a.geometry.slots a.image.now c.requires.0.some).count) in
    (rw (← c.requires.2) (finish_end (rows_end a.next c.loop-i.i l n) c.loop-i.invariant.0), omega (arith, c.loop-i.invariant.1, c.loop-i.invariant.2))

pub loop-i-preserved : goal.loop-i-preserved
loop-i-preserved c =
    let a = c.args in
    let i = c.loop-i.i in
    let t = c.loop-i-test.true in (
      finish_more (rows_next a.geometry.segments a.geometry.slots a.next a.image.now a.table i _ c.requires.0.some t c.requires.1) c.loop-i.invariant.0 c.map_row-end.ensures.0,
      omega arith,
      omega (arith, c.loop-i.invariant.2, c.map_row-end.ensures.1),
    )
