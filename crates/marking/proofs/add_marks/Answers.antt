-- `marking::add_marks`. The invariant: whatever adds the marks that are left finishes the row. Assumes nothing.
use Prim.Native.Nat.{ℕ, ◌+◌, ◌*◌}
use mathlib.Core.Path.{◌≡◌, ap, ◌∙◌}
use mathlib.Core.List.{List}
use native.Mathlib.Omega.{arith}
use native.Mathlib.Nat.{sub-zero}
use lib.ListN.{take, drop, length-take, length-drop}
use Rattle.model.specs.Slot.{slot_of, kind_of}
use Rattle.judge.specs.Rows.{slots_at}
use Rattle.rows.proofs.Laws.Rows.{page_part}
use Rattle.account_text.specs.Map.{mark, marks_from}
use Rattle.marking.specs.Marks.{mark_kind, mark_kind_lem}
use Rattle.marking.proofs.Laws.{finish_begin, finish_more, finish_end, marks_next, marks_end}
use Rattle.marking.proofs.add_marks.Goals as goal

pub loop-i-init : goal.loop-i-init
loop-i-init c =
    let a = c.args in
    let e : a.first + 0 * 256 ≡ a.first = omega arith in
    (rw (e, sub-zero) (finish_begin (marks_from 0 (slots_at a.image.now a.first a.slots)) a.text.now a.at), omega arith, omega arith)

pub overflow_mul-a : goal.overflow_mul-a
overflow_mul-a c = omega (arith, c.requires)

pub overflow_add-a : goal.overflow_add-a
overflow_add-a c = omega (arith, c.requires)

pub overflow_add-e : goal.overflow_add-e
overflow_add-e c = omega (arith, c.requires)

pub slice_bounds-slot_kind-end : goal.slice_bounds-slot_kind-end
slice_bounds-slot_kind-end c = omega (arith, c.requires)

pub slot_kind-requires : goal.slot_kind-requires
slot_kind-requires c = simp (length-take, length-drop) (omega (arith, c.requires))

pub add_mark-end-requires : goal.add_mark-end-requires
add_mark-end-requires c =
    omega (arith, c.loop-i.invariant.2, c.requires)

pub loop-i-preserved : goal.loop-i-preserved
loop-i-preserved c =
    let a = c.args in
    let l = c.loop-i in
    let t = c.loop-i-test.true in
    let o = a.first + l.i * 256 in
    let p : c.slot_kind.result ≡ kind_of (slot_of (take 256 (drop o a.image.now))) = c.slot_kind.ensures ∙ ap (λ (x : List ℕ). kind_of (slot_of x)) (page_part a.image.now o) in
    let e : c.mark_of-mark.result ≡ mark (slot_of (take 256 (drop o a.image.now))) = c.mark_of-mark.ensures ∙ (ap mark_kind p ∙ mark_kind_lem (slot_of (take 256 (drop o a.image.now)))) in (
      finish_more (marks_next a.image.now a.first l.i a.slots c.mark_of-mark.result t e) l.invariant.0 c.add_mark-end.ensures.0,
      omega arith,
      omega (arith, l.invariant.2, c.add_mark-end.ensures.1),
    )

pub shape_of-text : goal.shape_of-text
shape_of-text c = c.loop-i.invariant.0.kept

pub returns : goal.returns
returns c =
    let a = c.args in
    let l = c.loop-i in
    (finish_end (marks_end a.image.now (a.first + l.i * 256) l.i a.slots c.loop-i-test.false) l.invariant.0, omega (arith, l.invariant.1, l.invariant.2))
