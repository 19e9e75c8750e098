-- Request #109, what comes back: its own refusals in their order, and a write under an allowance of steps.
use Rattle.std.specs.Prelude.{ℕ, Bool, true, false, cond, ◌&&◌, not, List, [], ◌∷◌, ◌++◌, length, take, drop, eqb}
use Rattle.model.specs.Chip.{Image}
use Rattle.model.specs.Answers.{Refusal, ◌when◌, first_of, Work, code_under, Outcome, ReadOutcome}
use Rattle.flash.specs.Units.{run_in}
use Rattle.partitions.specs.Layout.{Item, items_of, layout_ok, has_item, item_of}
use Rattle.partitions.specs.Partitions.{image_ok, partition_size, Newest, nothing, newest, no_run, newest_of}
use Rattle.partitions.specs.Items.{data_at, is_written}
use Rattle.partitions.specs.Writes.{entry_for, write_steps}
use Rattle.partitions.specs.declared.Reply.{Reply}
use Rattle.partitions.specs.declared.Written.{Written}
use Rattle.partitions.specs.declared.Spot.{Spot}
use Rattle.partitions.specs.declared.Reply.TheVariants.{Done, Partitions, Layout, Mismatch, Statuses, Unwritten, Cut}

-- the request's number of an answer
unfoldable pub number_of : Reply → ℕ
number_of Done = 0
number_of Partitions = 1
number_of Layout = 2
number_of Mismatch = 3
number_of Statuses = 4
number_of Unwritten = 5
number_of Cut = 9

-- ---- refusals

unfoldable pub is_no_run : Newest → Bool
is_no_run nothing = false
is_no_run (newest p) = false
is_no_run no_run = true

-- "1 P, or an image it doesn't divide; 2 layout; 3 identifier not in it, or data of another length; 4 statuses"
unfoldable pub refusals : ℕ → List ℕ → Image → Bool → List Refusal
refusals P layout s fits =
    (1 when not (image_ok P s))
    ∷ (2 when not (layout_ok (partition_size P s) layout))
    ∷ (3 when not fits)
    ∷ (4 when is_no_run (newest_of P s))
    ∷ []

-- ---- writing

-- the identifier is in the table, and the data has its length
unfoldable pub item_fits : List ℕ → ℕ → List ℕ → Bool
item_fits layout i d = has_item i (items_of layout) && eqb (length d) (item_of i (items_of layout)).size

-- its code but for 9, and its step list; refused, it takes no step
unfoldable pub write_work : ℕ → List ℕ → Image → ℕ → List ℕ → Work
write_work P layout s i d =
    let code = first_of (refusals P layout s (item_fits layout i d)) in
    let steps = write_steps P (partition_size P s) (items_of layout) s (newest_of P s) (entry_for layout i d) in
    cond (eqb code 0) (record { code = 0; steps = steps }) (record { code = code; steps = [] })

-- work on an image under an allowance, where a partition of S bytes is one erase unit: "9 .. as in 01"
unfoldable pub worked_in : ℕ → Work → Image → ℕ → Outcome
worked_in S w s allowance = let done = take allowance w.steps in
    record { code = code_under allowance w; count = length done; image = run_in S done s }

unfoldable pub write_outcome : ℕ → List ℕ → Image → ℕ → List ℕ → ℕ → Outcome
write_outcome P layout s i d allowance = worked_in (partition_size P s) (write_work P layout s i d) s allowance

-- what the code's answer says, with the image that it left
unfoldable pub wrote : Written → Image → Outcome
wrote w s = record { code = number_of w.answer; count = w.steps; image = s }

-- ---- reading

unfoldable pub is_stored : ℕ → Image → Newest → Item → Bool
is_stored S s nothing x = false
is_stored S s (newest p) x = is_written S s p x
is_stored S s no_run x = false

unfoldable pub offset_of : ℕ → Newest → Item → ℕ
offset_of S nothing x = 0
offset_of S (newest p) x = data_at S p x
offset_of S no_run x = 0

-- "5 read of an item not written"; "a read's answer [is] as in 01": the data's offset and length, both 0 if refused
unfoldable pub read_outcome : ℕ → List ℕ → Image → ℕ → ReadOutcome
read_outcome P layout s i =
    let S = partition_size P s in
    let xs = items_of layout in
    let x = item_of i xs in
    let n = newest_of P s in
    let code = first_of (refusals P layout s (has_item i xs) ++ ((5 when not (is_stored S s n x)) ∷ [])) in
    cond (eqb code 0) (record { code = 0; offset = offset_of S n x; length = x.size }) (record { code = code; offset = 0; length = 0 })

-- what the code's answer says
unfoldable pub told : Spot → ReadOutcome
told p = record { code = number_of p.answer; offset = p.offset; length = p.length }

-- the piece of the image that a read tells of
unfoldable pub piece_read : ℕ → List ℕ → Image → ℕ → List ℕ
piece_read P layout s i = let o = read_outcome P layout s i in take o.length (drop o.offset s)
