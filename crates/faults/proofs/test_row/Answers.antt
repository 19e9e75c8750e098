-- `faults::test_row`. The invariant: what is left of the row, behind what was tested, gives the whole. Assumes nothing.
use Prim.Native.Nat.{ℕ, ◌+◌, ◌-◌, ◌*◌}
use mathlib.Core.List.{List}
use mathlib.Core.Path.{◌≡◌, sym, ap, ◌∙◌}
use native.Mathlib.Omega.{arith}
use native.Mathlib.Nat.{sub-zero}
use lib.ListN.{take, drop, length-take, length-drop}
use Rattle.model.specs.Slot.{slot_of, kind_of}
use Rattle.model.specs.declared.SlotKind.{SlotKind}
use Rattle.judge.specs.Rows.{kinds_at}
use Rattle.rows.proofs.Laws.Rows.{page_part}
use Rattle.faults.specs.Tests.{Look, look, test_slot, test_slots}
use Rattle.faults.proofs.Laws.Slots.{slot_live, row_next, row_end}
use Rattle.faults.proofs.test_row.Goals as goal

pub loop-i-init : goal.loop-i-init
loop-i-init c =
    let a = c.args in
    let e : a.at + 0 * 256 ≡ a.at = omega arith in
    (rw (e, sub-zero), omega arith, omega arith)

pub overflow_mul-a : goal.overflow_mul-a
overflow_mul-a c = omega (arith, c.requires)

pub overflow_add-a : goal.overflow_add-a
overflow_add-a c = omega (arith, c.requires)

pub overflow_add-e : goal.overflow_add-e
overflow_add-e c = omega (arith, c.requires)

pub slice_bounds-slot_kind-end : goal.slice_bounds-slot_kind-end
slice_bounds-slot_kind-end c = omega (arith, c.requires)

pub slot_kind-requires : goal.slot_kind-requires
slot_kind-requires c = simp (length-take, length-drop) (omega (arith, c.requires))

pub test_slot-tests-requires : goal.test_slot-tests-requires
test_slot-tests-requires c = omega (arith, c.loop-i.invariant.2, c.requires)

pub loop-i-preserved : goal.loop-i-preserved
loop-i-preserved c =
    let a = c.args in
    let l = c.loop-i in
    let t = c.loop-i-test.true in
    let o = a.at + l.i * 256 in
    let k : c.slot_kind.result ≡ kind_of (slot_of (take 256 (drop o a.image.now))) = c.slot_kind.ensures ∙ ap (λ (x : List ℕ). kind_of (slot_of x)) (page_part a.image.now o) in
    let e = c.test_slot-tests.ensures ∙ ap (λ (q : SlotKind). test_slot q (look l.tests l.seen)) k in (
      ap (test_slots (kinds_at a.image.now (a.at + (l.i + 1) * 256) (a.slots - (l.i + 1)))) e ∙ (sym (row_next a.image.now a.at l.i a.slots (look l.tests l.seen) t) ∙ l.invariant.0),
      omega arith,
      omega (arith, ap (λ (p : Look). p.tests.live) e, slot_live (kind_of (slot_of (take 256 (drop o a.image.now)))) (look l.tests l.seen), l.invariant.2),
    )

pub returns : goal.returns
returns c =
    let a = c.args in
    let l = c.loop-i in
    (sym (row_end a.image.now (a.at + l.i * 256) l.i a.slots (look l.tests l.seen) c.loop-i-test.false) ∙ l.invariant.0, omega (arith, l.invariant.1, l.invariant.2))
