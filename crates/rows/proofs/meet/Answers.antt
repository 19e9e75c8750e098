-- `rows::meet` puts a number into the set and tells whether it was there. Assumes nothing.
use Prim.Native.Nat.{◌*◌, ◌%◌, ◌^◌}
use mathlib.Core.Path.{◌≡◌, ◌∙◌}
use native.Mathlib.Omega.{arith}
use native.Mathlib.Nat.{one-mul}
use lib.Pow.{shl_exact}
use Rattle.judge.specs.Bitmap.{in_bits, put_bit}
use Rattle.rows.proofs.meet.Goals as goal

pub returns : goal.returns
unfolding in_bits put_bit
returns c =
    let a = c.args in
    let k = a.block.0 % 64 in
    let e : 1 * 2 ^ k % 18446744073709551616 ≡ 2 ^ k = shl_exact {a = 1} 1 k 64 (omega arith) (omega arith) ∙ one-mul (2 ^ k) in
    let i : c.from-i.result ≡ a.block.0 = omega arith in
    (rw i, rw (i, e))
