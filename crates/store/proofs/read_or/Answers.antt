-- `store::read_or` hands back the part that the definition says, and the code of the same read. Assumes nothing.
use Prim.Native.Nat.{ℕ, ◌+◌, ◌-◌}
use mathlib.Core.Path.{◌≡◌, ap, ◌∙◌, subst}
use native.Mathlib.Omega.{arith}
use lib.ListN.{take, drop}
use Rattle.looking.specs.Look.{Looks}
use Rattle.store.proofs.Laws.Requests.{code_refused, code_there, piece_absent, piece_refused, piece_there}
use Rattle.store.proofs.read_or.Goals as goal

pub slice_bounds-result-end-in-Ok : goal.slice_bounds-result-end-in-Ok
slice_bounds-result-end-in-Ok c =
    let a = c.args in
    let there = subst (Looks a.segments a.slots a.image.now a.block.0) c.in-Ok.is c.look-looked.ensures in
    omega (arith, there.inside, there.short)

pub returns-in-Absent : goal.returns-in-Absent
returns-in-Absent c =
    let a = c.args in
    let kept = subst (Looks a.segments a.slots a.image.now a.block.0) c.in-Err.is c.look-looked.ensures in (
      piece_absent a.segments a.slots a.image.now a.block.0 c.in-Err.answer a.factory.now kept c.in-Absent.is,
      c.code_of.ensures ∙ code_refused a.segments a.slots a.image.now a.block.0 c.in-Err.answer kept,
    )

pub overflow_add-start : goal.overflow_add-start
overflow_add-start c =
    let a = c.args in
    let there = subst (Looks a.segments a.slots a.image.now a.block.0) c.in-Ok.is c.look-looked.ensures in
    omega (arith, there.inside)

pub overflow_add-end : goal.overflow_add-end
overflow_add-end c =
    let a = c.args in
    let there = subst (Looks a.segments a.slots a.image.now a.block.0) c.in-Ok.is c.look-looked.ensures in
    omega (arith, there.inside, there.short)

pub returns-in_default : goal.returns-in_default
returns-in_default c =
    let a = c.args in
    let kept = subst (Looks a.segments a.slots a.image.now a.block.0) c.in-Err.is c.look-looked.ensures in (
      piece_refused a.segments a.slots a.image.now a.block.0 c.in-Err.answer a.factory.now kept c.in_default.not-Absent,
      c.code_of.ensures ∙ code_refused a.segments a.slots a.image.now a.block.0 c.in-Err.answer kept,
    )

pub returns-in-Ok : goal.returns-in-Ok
returns-in-Ok c =
    let a = c.args in
    let there = subst (Looks a.segments a.slots a.image.now a.block.0) c.in-Ok.is c.look-looked.ensures in
    let o = c.in-Ok.slot.place.0 in
    let n = c.in-Ok.slot.length in
    let d : o + 8 + n - (o + 8) ≡ n = omega arith in (
      ap (λ (k : ℕ). take k (drop (o + 8) a.image.now)) d ∙ piece_there a.segments a.slots a.image.now a.block.0 o n a.factory.now there,
      code_there a.segments a.slots a.image.now a.block.0 o n there,
    )
