-- `block_lines::block_lines`. The invariant (`Blocks`): the lines of the smaller block numbers are there. Assumes nothing.
use Rattle.account_text.specs.Account.{block_line}
use Rattle.index.specs.Tables.{list_of}
use Rattle.block_lines.proofs.Laws.{Blocks}
use Rattle.block_lines.proofs.block_lines.Given as goal

abbrev pub invariant-loop-block : goal.invariant-loop-block
invariant-loop-block l = Blocks block_line (list_of l.geometry.segments l.geometry.slots l.image) l.initial.text l.at l.text l.block l.end
