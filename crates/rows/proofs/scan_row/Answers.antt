-- `rows::scan_row` is the definition's pass over a row. Invariant: what is left of the row, behind what was seen, gives the whole. Assumes nothing.
use Prim.Native.Nat.{ℕ, ◌+◌, ◌-◌, ◌*◌}
use mathlib.Core.List.{List}
use mathlib.Core.Path.{◌≡◌, sym, ap, ◌∙◌}
use native.Mathlib.Omega.{arith}
use native.Mathlib.Nat.{sub-zero}
use lib.ListN.{take, drop, length-take, length-drop}
use Rattle.model.specs.Slot.{slot_of, kind_of}
use Rattle.model.specs.declared.SlotKind.{SlotKind}
use Rattle.judge.specs.Rows.{Pass, pass, see, see_all, kinds_at}
use Rattle.rows.proofs.Laws.Rows.{none_small, see_small, row_next, row_end, page_part}
use Rattle.rows.proofs.scan_row.Goals as goal

pub loop-i-init : goal.loop-i-init
loop-i-init c =
    let a = c.args in
    let e : a.at + 0 * 256 ≡ a.at = omega arith in
    (rw (e, sub-zero, c.no_row-row.ensures), omega arith, rw c.no_row-row.ensures none_small)

pub overflow_mul-a : goal.overflow_mul-a
overflow_mul-a c = omega (arith, c.requires)

pub overflow_add-a : goal.overflow_add-a
overflow_add-a c = omega (arith, c.requires)

pub overflow_add-e : goal.overflow_add-e
overflow_add-e c = omega (arith, c.requires)

pub slice_bounds-slot_kind-end : goal.slice_bounds-slot_kind-end
slice_bounds-slot_kind-end c = omega (arith, c.requires)

pub slot_kind-requires : goal.slot_kind-requires
slot_kind-requires c = simp (length-take, length-drop) (omega (arith, c.requires))

pub count-row-requires : goal.count-row-requires
count-row-requires c =
    let k = c.loop-i.invariant.2 in
    let p = c.requires in
    record { live = omega arith; dead = omega arith; cut = omega arith }

pub loop-i-preserved : goal.loop-i-preserved
loop-i-preserved c =
    let a = c.args in
    let l = c.loop-i in
    let t = c.loop-i-test.true in
    let o = a.at + l.i * 256 in
    let k : c.slot_kind.result ≡ kind_of (slot_of (take 256 (drop o a.image.now))) = c.slot_kind.ensures ∙ ap (λ (x : List ℕ). kind_of (slot_of x)) (page_part a.image.now o) in
    let e = c.count-row.ensures ∙ ap (λ (q : SlotKind). see q (pass l.row l.seen)) k in (
      ap (see_all (kinds_at a.image.now (a.at + (l.i + 1) * 256) (a.slots - (l.i + 1)))) e ∙ (sym (row_next a.image.now a.at l.i a.slots (pass l.row l.seen) t) ∙ l.invariant.0),
      omega arith,
      rw (ap (λ (p : Pass). p.row) e) (see_small (kind_of (slot_of (take 256 (drop o a.image.now)))) (pass l.row l.seen) l.i l.invariant.2),
    )

pub returns : goal.returns
returns c =
    let a = c.args in
    let l = c.loop-i in
    let k = l.invariant.2 in (
      sym (row_end a.image.now (a.at + l.i * 256) l.i a.slots (pass l.row l.seen) c.loop-i-test.false) ∙ l.invariant.0,
      record { live = omega (arith, l.invariant.1); dead = omega (arith, l.invariant.1); cut = omega (arith, l.invariant.1) },
    )
