-- Request #106, "Moving to another chip": a fresh image built from a table, and the move of a clean image's table to one.
use Rattle.std.specs.Prelude.{ℕ, cond, ◌&&◌, not, [], ◌∷◌, ◌++◌, List, length, ltb, leb, eqb}
use Rattle.model.specs.Chip.{Image, Step, right_size, run}
use Rattle.model.specs.Slot.{Entry}
use Rattle.model.specs.State.{capacity, state, view}
use Rattle.model.specs.Steps.{put_steps, format_steps}
use Rattle.model.specs.Table.{Table, table_of}
use Rattle.model.specs.Answers.{Refusal, ◌when◌, first_of, is_damaged, is_unfinished, Work, Outcome, worked}

-- ---- a table by rising block number

unfoldable pub insert : Entry → Table → Table
insert e [] = e ∷ []
insert e (x ∷ t) = cond (leb e.block x.block) (e ∷ x ∷ t) (x ∷ insert e t)

unfoldable pub by_number : Table → Table
by_number [] = []
by_number (e ∷ t) = insert e (by_number t)

-- ---- a fresh image

-- each entry put, on the image as the ones before left it: the step list of document 01's put, which contents of length 0 have too
unfoldable pub put_each : ℕ → ℕ → Table → Image → List Step
put_each N B [] s = []
put_each N B (e ∷ t) s = let xs = put_steps N B e.block e.contents (view N B s) in xs ++ put_each N B t (run B xs s)

-- formatted, then each entry put
unfoldable pub fresh_steps : ℕ → ℕ → Table → Image → List Step
fresh_steps N B t s = format_steps N B ++ put_each N B t (run B (format_steps N B) s)

-- what a request does that builds a fresh image from a table, by rising number, if no row of refusals applies; codes but 0 take no step
unfoldable pub fresh_work : List Refusal → ℕ → ℕ → Table → Image → Work
fresh_work rows N B table s =
    let code = first_of rows in
    let steps = fresh_steps N B (by_number table) s in
    cond (eqb code 0) (record { code = 0; steps = steps }) (record { code = code; steps = [] })

-- ---- the move of source s, of N segments with B slots, to target t, of M segments with D slots

unfoldable pub move_refusals : ℕ → ℕ → Image → ℕ → ℕ → Image → List Refusal
move_refusals N B s M D t = let st = state N B s in
    (1 when not (right_size N B s && right_size M D t))
    ∷ (4 when is_damaged st)
    ∷ (5 when is_unfinished st)
    ∷ (7 when ltb (capacity M D) (length (table_of N B s)))
    ∷ []

unfoldable pub move_work : ℕ → ℕ → Image → ℕ → ℕ → Image → Work
move_work N B s M D t = fresh_work (move_refusals N B s M D t) M D (table_of N B s) t

-- the answer, the count of steps done, and the target after them
unfoldable pub move_outcome : ℕ → ℕ → Image → ℕ → ℕ → Image → ℕ → Outcome
move_outcome N B s M D t allowance = let w = move_work N B s M D t in worked D w t allowance
