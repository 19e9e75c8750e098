-- `text::add_number`. The invariant: what is there, with the digits that are left written over it, is the whole. Assumes nothing.
use Prim.Native.Nat.{ℕ, ◌+◌, ◌-◌, ◌/◌, ◌%◌, suc}
use mathlib.Core.Path.{◌≡◌, refl, sym, ap, ◌∙◌}
use native.Mathlib.Omega.{arith}
use lib.ListN.{length, set, length-set}
use Rattle.text.specs.Decimal.{decimal_of, decimal}
use Rattle.text.specs.Buffer.{over}
use Rattle.text.proofs.Laws.{last_digits, over_none, digit_more, decimal_digits}
use Rattle.text.proofs.add_number.Goals as goal

pub overflow_add-end : goal.overflow_add-end
overflow_add-end c = omega (arith, c.digit_count.ensures.1, c.requires)

pub returns-then-end-text : goal.returns-then-end-text
returns-then-end-text c =
    let d = c.digit_count in
    (record { ends = ap (λ (k : ℕ). c.args.at + k) d.ensures.0; kept = refl; there = λ h. absurd (omega (arith, c.if-end-text.true)) }, omega (arith, d.ensures.1))

pub loop-i-init : goal.loop-i-init
unfolding decimal
loop-i-init c =
    let d = c.digit_count in
    let a = c.args in
    let e : a.at + d.result - a.at ≡ length (decimal_of 19 a.n) = omega (arith, d.ensures.0) in
    (omega arith, omega (arith, c.if-end-text.false), refl, rw e (ap (over a.text.now a.at) (sym (decimal_digits 19 a.n))))

pub loop-i-preserved : goal.loop-i-preserved
loop-i-preserved c =
    let k = c.loop-i in
    let a = c.args in
    let j = k.i - 1 - a.at in
    let e : k.i - a.at ≡ suc j = omega (arith, c.loop-i-test.true) in
    let f : k.i - 1 ≡ a.at + j = omega (arith, c.loop-i-test.true) in
    let m = digit_more k.text a.at j k.rest (omega (arith, k.invariant.1, k.invariant.2)) in (
      omega (arith, c.loop-i-test.true),
      omega (arith, k.invariant.1),
      length-set k.text (k.i - 1) (48 + k.rest % 10) ∙ k.invariant.2,
      ap (λ (z : ℕ). over (set k.text z (48 + k.rest % 10)) a.at (last_digits j (k.rest / 10))) f ∙ (m ∙ (ap (λ (z : ℕ). over k.text a.at (last_digits z k.rest)) (sym e) ∙ k.invariant.3)),
    )

pub returns : goal.returns
returns c =
    let k = c.loop-i in
    let d = c.digit_count in
    let a = c.args in
    let e : k.i - a.at ≡ 0 = omega (arith, c.loop-i-test.false) in
    let z : over k.text a.at (last_digits (k.i - a.at) k.rest) ≡ k.text = ap (λ (j : ℕ). over k.text a.at (last_digits j k.rest)) e ∙ over_none k.text a.at in (
      record { ends = ap (λ (j : ℕ). a.at + j) d.ensures.0; kept = k.invariant.2; there = λ h. sym z ∙ k.invariant.3 },
      omega (arith, d.ensures.1),
    )
