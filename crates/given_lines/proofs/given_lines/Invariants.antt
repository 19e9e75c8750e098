-- `given_lines::given_lines`. The invariant (`Blocks`): the lines of the smaller block numbers are there. Assumes nothing.
use Prim.Native.Nat.{◌-◌}
use Rattle.model.specs.State.{segments_of}
use Rattle.index.specs.Tables.{most_pages}
use Rattle.block_lines.proofs.Laws.{Blocks}
use Rattle.salvage.specs.Salvage.{candidates, given, given_line}
use Rattle.given_lines.proofs.given_lines.Given as goal

abbrev pub invariant-loop-block : goal.invariant-loop-block
invariant-loop-block l =
    Blocks (given_line (candidates l.fn.geometry.segments (segments_of l.fn.geometry.segments l.fn.geometry.slots l.image))) (given (candidates l.fn.geometry.segments (segments_of l.fn.geometry.segments l.fn.geometry.slots l.image))) l.initial.text l.at l.text l.block l.end

abbrev pub decreases-loop-block : goal.decreases-loop-block
decreases-loop-block l = most_pages - l.block
