-- `header_steps::header_page` makes up the page of the definition. Assumes nothing.
use Prim.Native.Nat.{◌/◌, ◌%◌}
use mathlib.Core.Path.{◌≡◌, refl}
use native.Mathlib.Omega.{arith}
use Rattle.header_steps.proofs.Laws.{page_made}
use Rattle.header_steps.proofs.header_page.Goals as goal

pub returns : goal.returns
returns c =
    let a = c.args in
    let t = a.total in
    let third : t / 65536 % 256 ≡ t / 256 / 256 % 256 = omega arith in
    let last : t / 16777216 % 256 ≡ t / 256 / 256 / 256 % 256 = omega arith in
    rw (c.copy_from_slice.ensures.after, c.to_le_bytes.ensures) (page_made a.geometry.segments a.geometry.slots t a.status a.number.0 a.old (t % 256) (t / 256 % 256) (t / 65536 % 256) (t / 16777216 % 256) _ c.header_fields-page.ensures refl refl third last)
