-- `compact::compact_segment` does the steps of the definition. The old segment holds the same when it is copied as at entry, since the steps before that are in the
-- target's header. Assumes nothing.
use native.Mathlib.Omega.{arith}
use Rattle.flash.proofs.Pages.{segment_inside}
use Rattle.compact.proofs.Laws.{compaction_done}
use Rattle.compact.proofs.compact_segment.Goals as goal

pub erase_segment-erased-requires : goal.erase_segment-erased-requires
erase_segment-erased-requires c =
    omega (arith, segment_inside c.args.geometry.segments c.args.geometry.slots c.index_of.result _ c.requires.0 c.index_of.ensures.1)

pub returns : goal.returns
returns c =
    compaction_done c.args.geometry.segments c.args.geometry.slots c.args.total c.args.old.0 c.args.number.0 c.index_of.result c.args.budget c.requires.0 c.requires.1
    c.index_of.ensures.0 c.begin_compaction-begun.ensures c.copy_live-copy.ensures c.finish_copy-pending.ensures c.erase_segment-erased.ensures c.settle-left.ensures
