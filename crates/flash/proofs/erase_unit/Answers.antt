-- `flash::erase_unit` does one erase step if the budget covers it. Assumes nothing.
use Prim.Native.Nat.{◌+◌, ◌-◌, ◌*◌}
use mathlib.Core.Path.{◌≡◌}
use native.Mathlib.Omega.{arith}
use Rattle.model.specs.Chip.{erase}
use Rattle.flash.proofs.UnitLaws.{spent_in, one_in, unit_filled}
use Rattle.flash.proofs.erase_unit.Goals as goal

pub returns-then-budget-eq0 : goal.returns-then-budget-eq0
returns-then-budget-eq0 c = spent_in _ _ _ _ c.if-budget-eq0.true

pub returns : goal.returns
returns c =
    let a = c.args in
    let k : a.index * a.bytes + a.bytes - a.index * a.bytes ≡ a.bytes = omega arith in
    rw (c.fill.ensures.after (λ y h. h), k, unit_filled a.bytes a.index a.image.now c.requires) (one_in (erase a.index) a.bytes a.budget a.image.now c.if-budget-eq0.false)
