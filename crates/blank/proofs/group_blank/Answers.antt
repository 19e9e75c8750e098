-- `blank::group_blank` is the test of the definition, on eight bytes joined. Assumes nothing.
use native.Mathlib.Omega.{arith}
use Rattle.blank.proofs.Blank.{group_joined}
use Rattle.blank.proofs.group_blank.Goals as goal

pub returns : goal.returns
returns c =
    group_joined c.args.group.now c.requires (λ i. omega (arith, c.shared_slice_known-8-1.given i))
