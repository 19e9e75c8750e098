-- `qbx_move_frames::obey`: the buffers are no longer than memory can be. Assumes nothing.
use native.Mathlib.Omega.{arith}
use Rattle.qbx_rooms.proofs.Laws.{bounded}
use Rattle.qbx_move_frames.proofs.obey.Goals as goal

pub whole_as_slice-obey : goal.whole_as_slice-obey
whole_as_slice-obey g c = let p = c.requires in omega (arith, p.1, bounded p.0)

pub whole_as_slice-obey-2 : goal.whole_as_slice-obey-2
whole_as_slice-obey-2 g c = let p = c.requires in omega (arith, p.1, bounded p.0)
