-- `slot::slot_page` makes up the page of the definition: the number's two bytes and the contents are copied into it. Assumes nothing.
use Prim.Native.Nat.{◌+◌, ◌-◌, ◌/◌, ◌%◌}
use mathlib.Core.Path.{◌≡◌, refl}
use native.Mathlib.Omega.{arith}
use lib.ListN.{length}
use Rattle.slot.proofs.Laws.Writes.{slot_made}
use Rattle.slot.proofs.slot_page.Goals as goal

pub returns : goal.returns
returns c =
    let a = c.args in
    let b = a.block.0 in
    let s = a.contents.now in
    let e : b / 256 % 256 ≡ b / 256 = omega arith in
    let n : 8 + length s - 8 ≡ length s = omega arith in
    rw (c.copy_from_slice-2.ensures.after, c.copy_from_slice.ensures.after, c.to_le_bytes.ensures) (slot_made b (b % 256) (b / 256 % 256) (8 + length s - 8) s refl e n)
