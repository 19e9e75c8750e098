-- What the code counts: the block numbers that a walk over slots sees, one after the other, and what they make of a count.
use Rattle.std.specs.Prelude.{ℕ, zero, suc, ◌+◌, ◌*◌, ◌%◌, Bool, cond, ◌||◌, ◌&&◌, List, [], ◌∷◌, ◌++◌, get_or, drop, leb, eqb}
use Rattle.model.specs.Chip.{Image, Page, most_segments, most_slots}
use Rattle.model.specs.Slot.{written, page_block}
use Rattle.model.proofs.Laws.Segments.{part_of}
use Rattle.counting.specs.declared.Sought.{Sought}
use Rattle.counting.specs.declared.Met.{Met}

-- no image has more slots
abbrev pub most_met : ℕ
most_met = most_segments * most_slots

-- ---- the walk

-- the block numbers of the live slots of one segment, of its slots' pages: they end with the first whose status is 255
unfoldable pub numbers_in : List Page → List ℕ
numbers_in [] = []
numbers_in (p ∷ ps) = let later = numbers_in ps in cond (eqb (get_or p 0 0) 255) [] (cond (eqb (get_or p 0 0) written) (page_block p ∷ later) later)

-- those of the segments with the u numbers from n on
unfoldable pub numbers_at : ℕ → ℕ → Image → ℕ → ℕ → List ℕ
numbers_at N B s zero n = []
numbers_at N B s (suc u) n = numbers_in (drop 1 (part_of N B (n % N) s)) ++ numbers_at N B s u (suc n)

-- ---- the count

abbrev pub in_range : Sought → ℕ → Bool
in_range q b = leb q.first.0 b && leb b q.last.0

-- one block number more
unfoldable pub meet : Sought → Met → ℕ → Met
meet q m b = record { blocks = cond (in_range q b) (m.blocks + 1) m.blocks; stored = m.stored || eqb q.block.0 b }

unfoldable pub meet_all : Sought → Met → List ℕ → Met
meet_all q m [] = m
meet_all q m (b ∷ bs) = meet_all q (meet q m b) bs
