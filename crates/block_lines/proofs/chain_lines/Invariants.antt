-- `block_lines::chain_lines`. The invariant (`Walk`): the lines of the pages from this one on are left. Assumes nothing.
use Rattle.index.specs.Tables.{most_pages, of_block, list_of}
use Rattle.block_lines.proofs.Laws.{chain_length, Walk}
use Rattle.block_lines.proofs.chain_lines.Given as goal

abbrev pub invariant-loop-page : goal.invariant-loop-page
invariant-loop-page l = Walk l.fn.geometry.segments l.fn.geometry.slots l.image l.tables.nexts l.tables.lengths l.block (of_block l.block (list_of l.fn.geometry.segments l.fn.geometry.slots l.image)) l.initial.text l.at l.text l.page l.end

abbrev pub decreases-loop-page : goal.decreases-loop-page
decreases-loop-page l = chain_length most_pages l.tables.nexts l.page
