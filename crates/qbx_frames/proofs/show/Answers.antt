-- `qbx_frames::show`: the buffers are no longer than memory can be. Assumes nothing.
use native.Mathlib.Omega.{arith}
use Rattle.qbx_rooms.proofs.Laws.{bounded}
use Rattle.qbx_frames.proofs.show.Goals as goal

pub whole_as_slice-show : goal.whole_as_slice-show
whole_as_slice-show g c = let p = c.requires in omega (arith, p.1, bounded p.0)

pub whole_as_slice-show-2 : goal.whole_as_slice-show-2
whole_as_slice-show-2 g c = let p = c.requires in omega (arith, p.1, bounded p.0)
