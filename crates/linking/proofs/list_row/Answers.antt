-- `linking::list_row`. The invariant: the slots behind those that are left were looked at. Assumes nothing.
use Prim.Native.Nat.{ℕ, ◌+◌, ◌-◌, ◌*◌}
use mathlib.Core.Path.{◌≡◌, sym, ap, ◌∙◌, subst}
use mathlib.Core.List.{List}
use native.Mathlib.Omega.{arith}
use lib.ListN.{take, drop, length-take, length-drop}
use Rattle.model.specs.Slot.{slot_of, kind_of}
use Rattle.model.specs.declared.SlotKind.{SlotKind}
use Rattle.rows.proofs.Laws.Rows.{page_part}
use Rattle.index.specs.Shows.{no_counts}
use Rattle.linking.specs.Counts.{count_kind}
use Rattle.index.specs.Tables.{link_kind, Brief}
use Rattle.index.proofs.Lives.{brief}
use Rattle.index.proofs.Zero.{none_counted}
use Rattle.linking.proofs.Laws.{row_none, row_more, count_few}
use Rattle.linking.proofs.list_row.Goals as goal

pub loop-i-init : goal.loop-i-init
unfolding no_counts
loop-i-init c =
    let a = c.args in
    let o : c.default-counts.result ≡ no_counts = none_counted c.default-counts.result c.default-counts.ensures in
    let e : a.slots - a.slots ≡ 0 = omega arith in
    let n = row_none a.image.now ((a.header + a.slots + 1) * 256) a.tables.now (a.header + a.slots + 1) in
    (o ∙ rw e (sym n.0), rw e (sym n.1), omega arith, rw o (record { live = omega arith; dead = omega arith; cut = omega arith; empty = omega arith }))

pub overflow_add-page : goal.overflow_add-page
overflow_add-page c = omega (arith, c.requires)

pub overflow_mul-at : goal.overflow_mul-at
overflow_mul-at c = omega (arith, c.requires)

pub overflow_add-end : goal.overflow_add-end
overflow_add-end c = omega (arith, c.requires)

pub slice_bounds-slot_kind-end : goal.slice_bounds-slot_kind-end
slice_bounds-slot_kind-end c = omega (arith, c.requires)

pub slot_kind-kind-requires : goal.slot_kind-kind-requires
slot_kind-kind-requires c = simp (length-take, length-drop) (omega (arith, c.requires))

pub list_slot-counts-requires : goal.list_slot-counts-requires
list_slot-counts-requires c =
    let l = c.loop-i in
    let f = l.invariant.3 in
    let t = c.loop-i-test.true in
    let o = (c.args.header + (l.i - 1) + 1) * 256 in
    let v : c.slot_kind-kind.result ≡ kind_of (slot_of (take 256 (drop o c.args.image.now))) =
    c.slot_kind-kind.ensures ∙ ap (λ (x : List ℕ). kind_of (slot_of x)) (page_part c.args.image.now o) in
    (omega (arith, c.requires), record { live = omega (arith, f.live, c.requires); dead = omega (arith, f.dead, c.requires); cut = omega (arith, f.cut, c.requires); empty = omega (arith, f.empty, c.requires) }, subst Brief (sym v) (brief (take 256 (drop o c.args.image.now))))

pub loop-i-preserved : goal.loop-i-preserved
loop-i-preserved c =
    let a = c.args in
    let l = c.loop-i in
    let t = c.loop-i-test.true in
    let o = (a.header + l.i) * 256 in
    let v = c.slot_kind-kind in
    let p : a.header + (l.i - 1) + 1 ≡ a.header + l.i = omega (arith, t) in
    let k : v.result ≡ kind_of (slot_of (take 256 (drop o a.image.now))) =
    v.ensures ∙ (ap (λ (x : List ℕ). kind_of (slot_of x)) (page_part a.image.now ((a.header + (l.i - 1) + 1) * 256)) ∙ ap (λ (j : ℕ). kind_of (slot_of (take 256 (drop (j * 256) a.image.now)))) p) in
    let m = row_more a.image.now a.header l.i a.slots l.counts l.tables a.tables.now t l.invariant.2 l.invariant.0 l.invariant.1 in
    let q = count_few (kind_of (slot_of (take 256 (drop o a.image.now)))) l.counts (a.slots - l.i) l.invariant.3 in
    let w : a.slots - l.i + 1 ≡ a.slots - (l.i - 1) = omega (arith, l.invariant.2) in
    let z = c.list_slot-counts.ensures.0 ∙ ap (λ (x : SlotKind). count_kind x l.counts) k in (
      z ∙ m.0,
      c.list_slot-counts.ensures.1 ∙ (ap (λ (j : ℕ). link_kind j v.result l.tables) p ∙ (ap (λ (x : SlotKind). link_kind (a.header + l.i) x l.tables) k ∙ m.1)),
      omega (arith, l.invariant.2),
      rw (z, ← w) q,
    )

pub returns : goal.returns
returns c =
    let a = c.args in
    let l = c.loop-i in
    let e : l.i ≡ 0 = omega (arith, c.loop-i-test.false) in
    let f : a.header + 0 + 1 ≡ a.header + 1 = omega arith in
    let g : a.slots - 0 ≡ a.slots = omega arith in
    (rw (e, f, g) at l.invariant.0, rw (e, f, g) at l.invariant.1)
