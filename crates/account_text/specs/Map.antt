-- Request #101, for who would rather look than read: a picture of an image. One row for each segment by index, with its state and number, and one character for each slot of those in use.
use Rattle.std.specs.Prelude.{ℕ, suc, ◌-◌, ◌%◌, Bool, false, cond, ◌&&◌, List, [], ◌∷◌, ◌++◌, length, replicate, ltb, eqb}
use Rattle.model.specs.Chip.{Image, right_size}
use Rattle.model.specs.Header.{erase_pending}
use Rattle.model.specs.Slot.{Slot, empty, torn, dead, cut, wrong, live}
use Rattle.model.specs.State.{Segment, blank, invalid, in_use, segments_of, next_number}
use Rattle.text.specs.Text.{text}
use Rattle.text.specs.Decimal.{decimal}
use Rattle.account_text.specs.Account.{shown, wrong_size}

-- ---- the slots

-- the character of a slot
unfoldable pub mark : Slot → ℕ
mark empty = 46
mark torn = 126
mark dead = 120
mark cut = 47
mark wrong = 33
mark (live b c) = 35

unfoldable pub legend : List ℕ
legend = text "# live  x dead  / cut  ~ torn  ! wrong  . empty  > active segment\n"

-- a wide segment is wrapped: so many slots to a row, and the next row begins below the first slot
abbrev pub most_marks : ℕ
most_marks = 64

unfoldable pub margin : List ℕ
margin = text "\n                    "

-- what stands before the mark of slot j, counted from 0
unfoldable pub row_break : ℕ → List ℕ
row_break j = cond (ltb 0 j && eqb (j % most_marks) 0) margin []

unfoldable pub marks_from : ℕ → List Slot → List ℕ
marks_from j [] = []
marks_from j (k ∷ ks) = row_break j ++ (mark k ∷ marks_from (suc j) ks)

-- ---- the rows

-- a number with spaces before it, so that it takes w characters
unfoldable pub padded : ℕ → ℕ → List ℕ
padded w n = replicate (w - length (decimal n)) 32 ++ decimal n

-- whether it is the active segment, and its index
unfoldable pub row_start : Bool → ℕ → List ℕ
row_start active i = cond active (text ">") (text " ") ++ padded 3 i

-- the state of a segment in use
unfoldable pub state_word : ℕ → List ℕ
state_word st = cond (eqb st erase_pending) (text " owing") (text " used ")

-- "> 12 used         7 ##x....": the index, the state, the number, the slots. The active segment is the top, whose number is the one before the next
unfoldable pub map_row : ℕ → ℕ → Segment → List ℕ
map_row next i blank = row_start false i ++ text " blank\n"
map_row next i invalid = row_start false i ++ text " torn\n"
map_row next i (in_use ver st n ks) = row_start (eqb (suc n) next) i ++ (state_word st ++ (padded 9 n ++ (text " " ++ (marks_from 0 ks ++ text "\n"))))

unfoldable pub map_rows : ℕ → ℕ → List Segment → List ℕ
map_rows next i [] = []
map_rows next i (x ∷ l) = map_row next i x ++ map_rows next (suc i) l

-- of every segment as it is shown
unfoldable pub all_rows : ℕ → ℕ → List Segment → List ℕ
all_rows N B l = map_rows (next_number (shown N B l)) 0 (shown N B l)

unfoldable pub map_on : ℕ → ℕ → List Segment → List ℕ
map_on N B l = all_rows N B l ++ legend

unfoldable pub map_text : ℕ → ℕ → Image → List ℕ
map_text N B s = cond (right_size N B s) (map_on N B (segments_of N B s)) wrong_size
