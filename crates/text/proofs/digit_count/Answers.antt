-- `text::digit_count`. The invariant: what is counted, and the digits of what is left, are those of the number. Assumes nothing.
use Prim.Native.Nat.{ℕ, ◌+◌, ◌-◌, ◌/◌, suc}
use mathlib.Core.Path.{◌≡◌, ap, ◌∙◌}
use native.Mathlib.Omega.{arith}
use lib.ListN.{length}
use Rattle.text.specs.Decimal.{decimal_of, decimal}
use Rattle.text.proofs.Laws.{count_more, count_one_lem, count_few, count_some}
use Rattle.text.proofs.digit_count.Goals as goal

pub loop-rest-init : goal.loop-rest-init
loop-rest-init c = (omega arith, omega arith, count_few 9 19 c.args.n (omega arith))

pub overflow_add-count : goal.overflow_add-count
overflow_add-count c = let e = count_some (20 - c.loop-rest.count) c.loop-rest.rest in omega (arith, c.loop-rest.invariant.1, c.loop-rest.invariant.2)

pub loop-rest-preserved : goal.loop-rest-preserved
loop-rest-preserved c =
    let k = c.loop-rest in
    let s = count_some (20 - k.count) k.rest in
    let f : 20 - k.count ≡ suc (20 - (k.count + 1)) = omega (arith, k.invariant.1, k.invariant.2) in
    let m : length (decimal_of (20 - k.count) k.rest) ≡ suc (length (decimal_of (20 - (k.count + 1)) (k.rest / 10))) = ap (λ (z : ℕ). length (decimal_of z k.rest)) f ∙ count_more (20 - (k.count + 1)) k.rest (omega (arith, c.loop-rest-test.true)) in
    (omega arith, omega (arith, k.invariant.1), k.invariant.2)

pub returns : goal.returns
unfolding decimal
returns c =
    let k = c.loop-rest in
    let e = count_one_lem (20 - k.count) k.rest (omega (arith, c.loop-rest-test.false)) in
    (omega (arith, k.invariant.1), omega (arith, k.invariant.1, k.invariant.2))
