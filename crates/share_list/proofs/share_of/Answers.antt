-- `share_list::share_of`: a tenant's three numbers, which fit where the list's ranges are right. Assumes nothing.
use Prim.Native.Nat.{◌+◌}
use mathlib.Core.Path.{sym}
use native.Mathlib.Omega.{arith}
use Rattle.share_list.specs.Places.{share_in}
use Rattle.share_list.proofs.Laws.{tenant_first, tenant_inside, tenant_share, first_small, last_small}
use Rattle.share_list.proofs.share_of.Goals as goal

pub place_of-at-requires : goal.place_of-at-requires
place_of-at-requires c = tenant_first c.args.shares.now c.args.tenant c.requires.1

pub bounds-shares-at : goal.bounds-shares-at
bounds-shares-at c =
    omega (arith, tenant_inside c.args.shares.now c.args.tenant c.requires.1 _ c.place_of-at.ensures)

pub overflow_cast-first : goal.overflow_cast-first
overflow_cast-first c =
    omega (arith, first_small c.args.shares.now c.args.tenant c.requires.1 _ c.place_of-at.ensures c.requires.0)

pub bounds-shares-at-2 : goal.bounds-shares-at-2
bounds-shares-at-2 c =
    omega (arith, tenant_inside c.args.shares.now c.args.tenant c.requires.1 _ c.place_of-at.ensures)

pub overflow_cast-last : goal.overflow_cast-last
overflow_cast-last c =
    omega (arith, last_small c.args.shares.now c.args.tenant c.requires.1 _ c.place_of-at.ensures c.requires.0)

pub bounds-shares-at-3 : goal.bounds-shares-at-3
bounds-shares-at-3 c =
    omega (arith, tenant_inside c.args.shares.now c.args.tenant c.requires.1 _ c.place_of-at.ensures)

pub overflow_cast-quota : goal.overflow_cast-quota
overflow_cast-quota c = omega (arith, c.type_inv.shares (c.place_of-at.result + 2))

pub returns : goal.returns
unfolding share_in
returns c =
    sym (tenant_share c.args.shares.now c.args.tenant c.requires.1 _ c.place_of-at.ensures)
