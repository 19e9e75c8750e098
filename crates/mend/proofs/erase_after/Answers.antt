-- `mend::erase_after` erases the segment after the top. Assumes nothing.
use Prim.Native.Nat.{◌+◌, ◌%◌}
use native.Mathlib.Nat.{mod-lt}
use Rattle.flash.proofs.Pages.{segment_inside}
use Rattle.mend.proofs.erase_after.Goals as goal

pub erase_segment-requires : goal.erase_segment-requires
erase_segment-requires c =
    segment_inside c.args.geometry.segments c.args.geometry.slots ((c.args.top.0 + 1) % c.args.geometry.segments) _ c.requires (mod-lt (c.args.top.0 + 1) {m = c.args.geometry.segments} c.requires.some)
