use Rattle.std.proofs.Common.{ℕ, ◌≡◌, ◌≤◌, ◌∙◌, List, length, take, arith, subst}
use Rattle.qbx_lines.specs.Lines.{Added}
use Rattle.qbx_lines.proofs.Laws.Digits.{digits_few, digits_decimal}
use Rattle.text.specs.Decimal.{decimal, decimal_of}
use Rattle.qbx_lines.proofs.add_number.Goals as goal

pub returns : goal.returns
unfolding decimal
returns c =
    let d = c.decimal-count in
    let few : d.result ≤ 20 = digits_few _ _ (omega arith) d.ensures.len in
    let e : take d.result d.new.out ≡ decimal_of 19 c.args.n = d.ensures.digits ∙ digits_decimal 19 _ _ few d.ensures.len in
    (subst (λ (t : List ℕ). Added c.args.line t c.add.result) e c.add.ensures, subst (λ (t : List ℕ). length t ≤ 20) e (omega (arith, d.ensures.in_bounds.1)))
