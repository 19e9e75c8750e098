-- `qbx_share_file::lines::keep`: as many numbers more as there is room for. Assumes nothing.
use native.Mathlib.Omega.{arith}
use Rattle.qbx_share_file.proofs.Laws.Kept.{kept_some}
use Rattle.qbx_share_file.proofs.lines.keep.Goals as goal

pub returns : goal.returns
returns g c = kept_some c.args.numbers.now c.args.list.now c.copy_from_slice.new.self c.args.count c.min-n.result _ c.requires c.min-n.ensures (omega arith) c.copy_from_slice.ensures.after
