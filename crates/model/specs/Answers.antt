-- Document 01, "What comes back": the answers in their order, the step list, and both under an allowance of steps.
use Rattle.std.specs.Prelude.{ℕ, ◌+◌, ◌*◌, Bool, true, false, cond, ◌&&◌, not, List, [], ◌∷◌, length, take, drop, ltb, leb, eqb}
use Rattle.model.specs.Chip.{Image, Step, right_size, run}
use Rattle.model.specs.Header.{is_former}
use Rattle.model.specs.Slot.{most_contents, number_ok}
use Rattle.model.specs.State.{Segment, segments_of, View, view_of, entries_in, holds, capacity, Place, place_of, State, clean, unfinished, damaged, state_of, state, view}
use Rattle.model.specs.Steps.{slot_at, put_steps, delete_steps, format_steps, recover_steps, is_worn}
use Rattle.model.specs.Table.{lookup, contents_found, live_between, table_of}
use Rattle.model.specs.declared.Answer.{Answer}
use Rattle.model.specs.declared.Performed.{Performed}
use Rattle.model.specs.declared.Located.{Located}
use Rattle.model.specs.declared.Counted.{Counted}
use Rattle.model.specs.declared.Answer.TheVariants.{Done, Size, Number, Length, Damaged, Unfinished, Absent, Full, Worn, Cut, ShortTable, FormerVersion, Foreign, Shares, ShortBuffer}

-- the paper's number of an answer
unfoldable pub code_of : Answer → ℕ
code_of Done = 0
code_of Size = 1
code_of Number = 2
code_of Length = 3
code_of Damaged = 4
code_of Unfinished = 5
code_of Absent = 6
code_of Full = 7
code_of Worn = 8
code_of Cut = 9
code_of ShortTable = 10
code_of FormerVersion = 11
code_of Foreign = 12
code_of Shares = 13
code_of ShortBuffer = 14

pub data Request : Type 0 where
  format : Request
  put : ℕ → List ℕ → Request
  delete : ℕ → Request
  read : ℕ → Request
  -- the second form of reading, with a factory record
  read_or : ℕ → List ℕ → Request
  recover : Request

-- ---- refusals

pub record Refusal : Type 0 where
  pub number : ℕ
  pub applies : Bool

infix 5 ◌when◌
abbrev pub ◌when◌ : ℕ → Bool → Refusal
n when t = record { number = n; applies = t }

-- the number of the first that applies, or 0
unfoldable pub first_of : List Refusal → ℕ
first_of [] = 0
first_of (x ∷ r) = cond x.applies x.number (first_of r)

unfoldable pub is_damaged : State → Bool
is_damaged clean = false
is_damaged (unfinished x) = false
is_damaged damaged = true

unfoldable pub is_unfinished : State → Bool
is_unfinished clean = false
is_unfinished (unfinished x) = true
is_unfinished damaged = false

-- request #105: the lengths of contents that a put takes. A slot of length 0 may still be stored, from before that request
unfoldable pub length_ok : ℕ → Bool
length_ok n = ltb 0 n && leb n most_contents

-- a block not live while C are live
unfoldable pub is_full : ℕ → ℕ → ℕ → View → Bool
is_full N B b v = not (holds b (entries_in v)) && leb (capacity N B) (length (entries_in v))

-- the rows of the table of answers for a delete or a read
unfoldable pub absent_refusals : ℕ → ℕ → Bool → List Segment → ℕ → List Refusal
absent_refusals N B sized l b = let st = state_of N B l in
    (1 when not sized)
    ∷ (2 when not (number_ok b))
    ∷ (4 when is_damaged st)
    ∷ (5 when is_unfinished st)
    ∷ (6 when not (holds b (entries_in (view_of N l))))
    ∷ []

-- each request's rows, on segments of an image that has a right size or not
unfoldable pub refusals : ℕ → ℕ → Bool → List Segment → Request → List Refusal
refusals N B sized l format = (1 when not sized) ∷ []
refusals N B sized l (put b c) = let st = state_of N B l in let v = view_of N l in
    (1 when not sized)
    ∷ (2 when not (number_ok b))
    ∷ (3 when not (length_ok (length c)))
    ∷ (4 when is_damaged st)
    ∷ (5 when is_unfinished st)
    ∷ (11 when is_former v.version)
    ∷ (7 when is_full N B b v)
    ∷ (8 when is_worn N v)
    ∷ []
refusals N B sized l (delete b) = absent_refusals N B sized l b
refusals N B sized l (read b) = absent_refusals N B sized l b
refusals N B sized l (read_or b f) = absent_refusals N B sized l b
refusals N B sized l recover = (1 when not sized) ∷ (4 when is_damaged (state_of N B l)) ∷ []

-- ---- the work of a request: its code but for 9, and its step list

unfoldable pub steps_for : ℕ → ℕ → List Segment → Request → List Step
steps_for N B l format = format_steps N B
steps_for N B l (put b c) = put_steps N B b c (view_of N l)
steps_for N B l (delete b) = delete_steps N B b (view_of N l)
steps_for N B l (read b) = []
steps_for N B l (read_or b f) = []
steps_for N B l recover = recover_steps N B l (state_of N B l)

pub record Work : Type 0 where
  pub code : ℕ
  pub steps : List Step

-- codes but 0 take no step
unfoldable pub work_on : ℕ → ℕ → Bool → List Segment → Request → Work
work_on N B sized l r =
    let code = first_of (refusals N B sized l r) in
    let steps = steps_for N B l r in
    cond (eqb code 0) (record { code = 0; steps = steps }) (record { code = code; steps = [] })

unfoldable pub work_of : ℕ → ℕ → Image → Request → Work
work_of N B s r = work_on N B (right_size N B s) (segments_of N B s) r

-- ---- under an allowance

-- 9: the allowance ended before the list did
unfoldable pub code_under : ℕ → Work → ℕ
code_under allowance w = cond (leb (length w.steps) allowance) w.code 9

-- what a request that writes gives: its answer, the count of steps done, and the image after them
pub record Outcome : Type 0 where
  pub code : ℕ
  pub count : ℕ
  pub image : Image

-- what the code's answer says, with the image that it left
unfoldable pub performed : Performed → Image → Outcome
performed p s = record { code = code_of p.answer; count = p.steps; image = s }

-- work on an image under an allowance
abbrev pub worked : ℕ → Work → Image → ℕ → Outcome
worked B w s allowance = let done = take allowance w.steps in
    record { code = code_under allowance w; count = length done; image = run B done s }

unfoldable pub outcome_of : ℕ → ℕ → Image → ℕ → Request → Outcome
outcome_of N B s allowance r = let w = work_of N B s r in worked B w s allowance

-- ---- reading

-- what a read gives: its answer, the offset of the contents in the image, and their length; both 0 if refused
pub record ReadOutcome : Type 0 where
  pub code : ℕ
  pub offset : ℕ
  pub length : ℕ

-- what the code's answer says
unfoldable pub located : Located → ReadOutcome
located p = record { code = code_of p.answer; offset = p.offset; length = p.length }

unfoldable pub contents_at : ℕ → ℕ → Place → ℕ
contents_at N B p = slot_at N B p.number p.slot * 256 + 8

unfoldable pub read_outcome : ℕ → ℕ → Image → ℕ → ReadOutcome
read_outcome N B s b =
    let code = (work_of N B s (read b)).code in
    let v = view N B s in
    cond (eqb code 0)
    (record { code = 0; offset = contents_at N B (place_of b v); length = length (contents_found (lookup b (entries_in v))) })
    (record { code = code; offset = 0; length = 0 })

-- the piece of the image that a read tells of
unfoldable pub piece_read : ℕ → ℕ → Image → ℕ → List ℕ
piece_read N B s b = let o = read_outcome N B s b in take o.length (drop o.offset s)

-- the second form: that piece; or for answer 6 the whole factory record; or for other refusals an empty piece
unfoldable pub piece_or : ℕ → ℕ → Image → ℕ → List ℕ → List ℕ
piece_or N B s b factory = cond (eqb (read_outcome N B s b).code 6) factory (piece_read N B s b)

-- ---- counting (request #110)

-- what a count gives: its answer, how many blocks of a range of numbers are live, and whether one block is; none if refused
pub record CountOutcome : Type 0 where
  pub code : ℕ
  pub blocks : ℕ
  pub stored : Bool

-- what the code's answer says
unfoldable pub counted : Counted → CountOutcome
counted p = record { code = code_of p.answer; blocks = p.blocks; stored = p.stored }

unfoldable pub count_refusals : ℕ → ℕ → Image → List Refusal
count_refusals N B s = let st = state N B s in (1 when not (right_size N B s)) ∷ (4 when is_damaged st) ∷ (5 when is_unfinished st) ∷ []

-- any two numbers make a range, and any number is asked for: what is no block's is not live
unfoldable pub count_outcome : ℕ → ℕ → Image → ℕ → ℕ → ℕ → CountOutcome
count_outcome N B s first last b =
    let code = first_of (count_refusals N B s) in
    let t = table_of N B s in
    cond (eqb code 0) (record { code = 0; blocks = live_between first last t; stored = holds b t }) (record { code = code; blocks = 0; stored = false })
