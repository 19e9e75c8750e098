-- Request #113, "Salvage": the candidates in an image of a right size, whatever its damage; the report on them; and a fresh image built from those given.
use Rattle.std.specs.Prelude.{ℕ, Bool, cond, ◌||◌, ◌&&◌, not, length, get_or, ltb, eqb}
use mathlib.Core.List.{List, [], ◌∷◌, ◌++◌, flat_map, map}
use Rattle.model.specs.Lists.{same, all}
use Rattle.model.specs.Chip.{Image, right_size}
use Rattle.model.specs.Slot.{Entry}
use Rattle.model.specs.State.{Segment, blank, is_owing, segments_of, top_index, next_blanked, holds, capacity}
use Rattle.model.specs.Table.{Table}
use Rattle.model.specs.Answers.{Refusal, ◌when◌, Work, Outcome, worked}
use Rattle.text.specs.Text.{text}
use Rattle.text.specs.Buffer.{Print, print_in}
use Rattle.account_text.specs.Account.{LiveSlot, live_slots, by_block, block_text}
use Rattle.moves.specs.Moves.{fresh_work}

-- ---- candidates

-- where the top is owing, the segment after it is left aside
unfoldable pub regarded : ℕ → List Segment → List Segment
regarded N l = cond (is_owing (get_or l (top_index N l) blank)) (next_blanked N l) l

-- every slot of live form in a segment in use, by rising segment number, then slot
unfoldable pub candidates : ℕ → List Segment → List LiveSlot
candidates N l = live_slots N (regarded N l)

-- what a candidate holds
unfoldable pub held_in : LiveSlot → Entry
held_in e = record { block = e.block; contents = e.contents }

-- of each block number the last: the one in the highest segment number, and within a segment the last
unfoldable pub given : List LiveSlot → List LiveSlot
given [] = []
given (e ∷ r) = cond (holds e.block (map held_in r)) (given r) (e ∷ given r)

-- none of the candidates disagrees with this one: has its block number and other contents, in length or bytes
unfoldable pub agreed : List LiveSlot → LiveSlot → Bool
agreed r e = all (λ x. not (eqb x.block e.block) || same x.contents e.contents) r

-- ---- the report

-- as "block 7 len 2 seg 0 slot 1 same"
unfoldable pub given_line : List LiveSlot → LiveSlot → List ℕ
given_line r e = block_text e.block (length e.contents) e.segment e.slot ++ cond (agreed r e) (text " same\n") (text " differs\n")

unfoldable pub salvage_on : List LiveSlot → List ℕ
salvage_on r = text "salvage promises nothing\n" ++ flat_map (given_line r) (by_block (given r))

unfoldable pub salvage_text : ℕ → ℕ → Image → List ℕ
salvage_text N B s = salvage_on (candidates N (segments_of N B s))

-- 1 for another size, the buffer untouched
unfoldable pub salvage_outcome : ℕ → ℕ → Image → List ℕ → Print
salvage_outcome N B s buffer = cond (right_size N B s) (print_in (salvage_text N B s) buffer) (record { code = 1; length = 0; buffer = buffer })

-- ---- the second part: source s, of N segments with B slots, rebuilt in target t, of M segments with D slots

-- the table of the candidates given
unfoldable pub salvaged : ℕ → ℕ → Image → Table
salvaged N B s = map held_in (given (candidates N (segments_of N B s)))

-- those of a move (request #106) without its 4 and 5
unfoldable pub rebuild_refusals : ℕ → ℕ → Image → ℕ → ℕ → Image → List Refusal
rebuild_refusals N B s M D t =
    (1 when not (right_size N B s && right_size M D t))
    ∷ (7 when ltb (capacity M D) (length (salvaged N B s)))
    ∷ []

unfoldable pub rebuild_work : ℕ → ℕ → Image → ℕ → ℕ → Image → Work
rebuild_work N B s M D t = fresh_work (rebuild_refusals N B s M D t) M D (salvaged N B s) t

-- the answer, the count of steps done, and the target after them
unfoldable pub rebuild_outcome : ℕ → ℕ → Image → ℕ → ℕ → Image → ℕ → Outcome
rebuild_outcome N B s M D t allowance = let w = rebuild_work N B s M D t in worked D w t allowance
