-- Moves on small chips, computed: what the definitions give, and so which wrong ones they are not.
use Rattle.std.specs.Prelude.{ℕ, ◌≡◌, refl, true, List, [], ◌∷◌, ◌++◌, replicate}
use Rattle.model.specs.Lists.{same}
use Rattle.model.specs.Chip.{Image, Step, program, right_size, pages_of, image_length, with_segment, step, run}
use Rattle.model.specs.Header.{version1, new_version}
use Rattle.model.specs.State.{segments_of, State, clean, state, view}
use Rattle.model.specs.Steps.{on_page, slot_at, write_slot, mark_dead, open_segment, erase_first}
use Rattle.model.specs.Table.{Table, table_of}
use Rattle.model.specs.Answers.{Outcome}
use Rattle.model.proofs.Laws.Bench.{evaluate}
use Rattle.moves.specs.Moves.{insert, by_number, put_each, fresh_steps, fresh_work, move_refusals, move_work, move_outcome}

-- ---- sources

abbrev slot : ℕ → ℕ → ℕ → ℕ → ℕ → List ℕ → List Step
slot N B n j b c = on_page (slot_at N B n j) (write_slot b c)

-- blocks 9, 4, which is empty, and 300, in that order in two segments; a chip of 3 segments with 2 slots
unfoldable pub first : Image
first = run 2 (erase_first 3 ++ (open_segment 3 2 (new_version 7) 0 ++ (slot 3 2 0 0 9 (65 ∷ []) ++ (slot 3 2 0 1 4 [] ++ (open_segment 3 2 (new_version 7) 1 ++ slot 3 2 1 0 300 (66 ∷ 67 ∷ [])))))) (replicate 2304 0)

-- the same blocks in another order on a board of version 1 with 4 segments of 2 slots, numbers 3 to 5 so that the ring has wrapped, with a dead slot
unfoldable pub second : Image
second = run 2 (erase_first 4 ++ (open_segment 4 2 version1 3 ++ (slot 4 2 3 0 300 (66 ∷ 67 ∷ []) ++ (slot 4 2 3 1 9 (64 ∷ []) ++ (open_segment 4 2 version1 4 ++ (slot 4 2 4 0 4 [] ++ (slot 4 2 4 1 9 (65 ∷ []) ++ on_page (slot_at 4 2 3 1) mark_dead))))))) (replicate 3072 0)

-- what comes of a move to a chip that held zeros
abbrev moves : ℕ → ℕ → Image → ℕ → ℕ → ℕ → Outcome
moves N B s M D allowance = move_outcome N B s M D (replicate (image_length M D) 0) allowance

pub record Result : Type 0 where
  pub code : ℕ
  pub count : ℕ
  pub state : State
  pub table : Table

abbrev result_of : ℕ → ℕ → Outcome → Result
result_of M D o = record { code = o.code; count = o.count; state = state M D o.image; table = table_of M D o.image }

abbrev blocks : Table
blocks = record { block = 4; contents = [] } ∷ record { block = 9; contents = 65 ∷ [] } ∷ record { block = 300; contents = 66 ∷ 67 ∷ [] } ∷ []

-- every definition unfolds where this name does
unfoldable computes : ℕ
unfolding evaluate first second right_size pages_of with_segment step run segments_of state view table_of insert by_number put_each fresh_steps fresh_work move_refusals move_work move_outcome
computes = 0

-- three blocks fill C = 3, in one segment: 2 erases, 21 and 18 steps; empty records are carried
pub just_fits : result_of 2 4 (moves 3 2 first 2 4 1000) ≡ record { code = 0; count = 41; state = clean; table = blocks }
unfolding computes
just_fits = refl

-- with two slots to a segment the third block opens another, and an allowance of one step less is a cut
two_segments : result_of 3 2 (moves 3 2 first 3 2 63) ≡ record { code = 0; count = 63; state = clean; table = blocks }
unfolding computes
two_segments = refl

one_short : ((moves 3 2 first 3 2 62).code ≡ 9) × ((moves 3 2 first 3 2 62).count ≡ 62) × ((moves 3 2 first 3 2 0).count ≡ 0)
unfolding computes
one_short = (refl, refl, refl)

-- C = 2 takes no three blocks, and nothing is erased
too_small : moves 3 2 first 2 3 1000 ≡ record { code = 7; count = 0; image = replicate 2048 0 }
unfolding computes
too_small = refl

-- the board of version 1 holds the same table, and gives the same bytes
same_bytes : same (moves 4 2 second 3 2 1000).image (moves 3 2 first 3 2 1000).image ≡ true
unfolding computes
same_bytes = refl

-- 1 for either image, 4 and 5 for the source
wrong : List ℕ
wrong = (moves 4 2 first 3 2 1000).code ∷ (move_outcome 3 2 first 3 2 (replicate 2303 0) 1000).code ∷ (moves 3 2 (replicate 2304 0) 3 2 1000).code
    ∷ (moves 3 2 (step 2 (program 1280 0x7F) first) 3 2 1000).code ∷ []

refused : wrong ≡ 1 ∷ 1 ∷ 4 ∷ 5 ∷ []
unfolding computes wrong
refused = refl
