-- A segment by its state.
use Rattle.std.specs.Prelude.{ℕ, List}
use Rattle.model.specs.Header.{erase_pending, compacted, version1}
use Rattle.model.specs.Slot.{Slot}
use Rattle.model.specs.State.{Segment, blank, invalid, in_use}
use Rattle.judge.specs.declared.SegmentState.{SegmentState}
use Rattle.judge.specs.declared.SegmentState.TheVariants.{Blank, Invalid, InUse, Owing}

-- a segment in this state, with this number and these slots if it is in use; no row shows its version
unfoldable pub segment_by : SegmentState → ℕ → List Slot → Segment
segment_by Blank n ks = blank
segment_by Invalid n ks = invalid
segment_by InUse n ks = in_use version1 compacted n ks
segment_by Owing n ks = in_use version1 erase_pending n ks
