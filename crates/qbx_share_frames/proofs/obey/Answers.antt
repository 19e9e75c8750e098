-- `qbx_share_frames::obey`: the buffer is no longer than memory can be. Assumes nothing.
use native.Mathlib.Omega.{arith}
use Rattle.qbx_rooms.proofs.Laws.{bounded}
use Rattle.qbx_share_frames.proofs.obey.Goals as goal

pub whole_as_slice-obey : goal.whole_as_slice-obey
whole_as_slice-obey g c = let p = c.requires in omega (arith, p.1, bounded p.0)
