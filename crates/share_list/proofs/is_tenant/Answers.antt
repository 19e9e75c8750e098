-- `share_list::is_tenant` is the test of the definition. Assumes nothing.
use native.Mathlib.Omega.{arith}
use Rattle.share_list.proofs.Laws.{tenant_none, tenant_some}
use Rattle.share_list.proofs.is_tenant.Goals as goal

-- that it is a tenant stands before that it is none: an edit is refused for that
pub returns : goal.returns
returns c = let a = c.args in tenant_some a.shares.now a.tenant (omega (arith, c.if-tenant-lt1.false))

pub returns-then-tenant-lt1 : goal.returns-then-tenant-lt1
returns-then-tenant-lt1 c = let a = c.args in tenant_none a.shares.now a.tenant (omega (arith, c.if-tenant-lt1.true))
