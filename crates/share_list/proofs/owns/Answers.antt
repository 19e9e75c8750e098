-- `share_list::owns` is the test of the definition. Assumes nothing.
use mathlib.Core.Path.{sym, ◌∙◌}
use native.Mathlib.Omega.{arith}
use Rattle.share_list.proofs.Laws.{stranger, tenant_first, tenant_inside, owns_below, owns_from}
use Rattle.share_list.proofs.owns.Goals as goal

pub returns-then-not-is_tenant : goal.returns-then-not-is_tenant
returns-then-not-is_tenant c =
    let a = c.args in
    stranger a.shares.now a.tenant a.block.0 (sym c.is_tenant.ensures ∙ c.if-not-is_tenant.true)

pub place_of-at-requires : goal.place_of-at-requires
place_of-at-requires c =
    let a = c.args in
    tenant_first a.shares.now a.tenant (sym c.is_tenant.ensures ∙ c.if-not-is_tenant.false)

pub bounds-shares-at : goal.bounds-shares-at
bounds-shares-at c =
    let a = c.args in
    omega (arith, tenant_inside a.shares.now a.tenant (sym c.is_tenant.ensures ∙ c.if-not-is_tenant.false) _ c.place_of-at.ensures)

pub returns-then-number-shares : goal.returns-then-number-shares
returns-then-number-shares c =
    let a = c.args in
    owns_below a.shares.now a.tenant (sym c.is_tenant.ensures ∙ c.if-not-is_tenant.false) _ c.place_of-at.ensures a.block.0 c.if-number-shares.true

pub bounds-shares-at-2 : goal.bounds-shares-at-2
bounds-shares-at-2 c =
    let a = c.args in
    omega (arith, tenant_inside a.shares.now a.tenant (sym c.is_tenant.ensures ∙ c.if-not-is_tenant.false) _ c.place_of-at.ensures)

pub returns : goal.returns
returns c =
    let a = c.args in
    owns_from a.shares.now a.tenant (sym c.is_tenant.ensures ∙ c.if-not-is_tenant.false) _ c.place_of-at.ensures a.block.0 c.if-number-shares.false
