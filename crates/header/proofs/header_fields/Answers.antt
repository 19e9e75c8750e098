-- `header::header_fields` makes up the fields of the definition. Assumes nothing.
use Prim.Native.Nat.{◌/◌, ◌%◌}
use native.Mathlib.Omega.{arith}
use mathlib.Core.Path.{◌≡◌, refl, sym, ap, ◌∙◌}
use mathlib.Core.Bool.{cond}
use Rattle.header.proofs.Laws.Tests.{fields_made}
use Rattle.header.proofs.header_fields.Goals as goal
use Rattle.header.proofs.header_fields.Goals.{then-former, else-former}

pub returns : goal.returns
returns c =
    let a = c.args in
    let version : c.if-former.page ≡ cond a.former 1 2 =
    elim c.if-former.branch [ then-former w ↦ w.page-is ∙ ap (λ t. cond t 1 2) (sym w.if-former.true) | else-former w ↦ w.page-is ∙ ap (λ t. cond t 1 2) (sym w.if-former.false) ] in
    let n = a.number.0 in
    let third : n / 65536 % 256 ≡ n / 256 / 256 % 256 = omega arith in
    let last : n / 16777216 % 256 ≡ n / 256 / 256 / 256 % 256 = omega arith in
    rw (c.copy_from_slice.ensures.after, c.to_le_bytes.ensures) (fields_made a.geometry.segments a.geometry.slots a.former a.status n a.old _ (n % 256) (n / 256 % 256) (n / 65536 % 256) (n / 16777216 % 256) version refl refl third last)
