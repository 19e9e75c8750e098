-- The words of a move, read: N B move TARGET N B [--budget STEPS], or with the verb rebuild. A word that is missing is empty.
use Rattle.std.specs.Prelude.{ℕ, max, Bool, cond, ◌||◌, List, Result, Ok, Err}
use Rattle.model.specs.Lists.{same}
use Rattle.request.specs.Request.{size_of}
use Rattle.text.specs.Text.{text}
use Rattle.qbx_numbers.specs.Number.{number_of, as_number}
use Rattle.qbx_words.specs.Command.{is_missing}
use Rattle.qbx_words.specs.declared.Complaint.{Complaint}
use Rattle.qbx_words.specs.declared.Complaint.TheVariants.{Segments, Slots, NoTarget, TargetSegments, TargetSlots, NoOption, Budget}
use Rattle.qbx_move_words.specs.declared.AskedGeometry.{AskedGeometry}
use Rattle.qbx_move_words.specs.declared.Move.{Move}

unfoldable pub is_rebuild : List ℕ → Bool
is_rebuild w = same w (text "rebuild")

unfoldable pub names_target : List ℕ → Bool
names_target w = same w (text "move") || is_rebuild w

-- a move, or the word that is wrong
abbrev pub MoveReading : Type 0
MoveReading = Result Move Complaint

abbrev pub budgeted : Move → ℕ → Move
budgeted k n = record { salvages = k.salvages; source = k.source; target = k.target; budget = n }

unfoldable pub with_budget : Move → List ℕ → List ℕ → MoveReading
with_budget k option steps =
    cond (is_missing option) (Ok k)
    (cond (same option (text "--budget")) (as_number (number_of steps) Budget (λ n. Ok (budgeted k n)))
    (Err NoOption))

-- with as many steps as 64 bits can count
abbrev pub plain : Bool → AskedGeometry → AskedGeometry → Move
plain r g h = record { salvages = r; source = g; target = h; budget = 18446744073709551615 }

abbrev pub geometry : ℕ → ℕ → AskedGeometry
geometry N B = record { segments = N; slots = B }

-- the words after the target's name
unfoldable pub onto : Bool → AskedGeometry → List ℕ → List ℕ → List ℕ → List ℕ → MoveReading
onto r g n b option steps =
    as_number (number_of n) TargetSegments (λ N. as_number (number_of b) TargetSlots (λ B. with_budget (plain r g (geometry N B)) option steps))

-- the words after the image's name; the second N and B are the target's
unfoldable pub move_of : List ℕ → List ℕ → List ℕ → List ℕ → List ℕ → List ℕ → List ℕ → List ℕ → MoveReading
move_of n b verb target m c option steps =
    as_number (number_of n) Segments (λ N. as_number (number_of b) Slots (λ B.
    cond (is_missing target) (Err NoTarget) (onto (is_rebuild verb) (geometry N B) m c option steps)))

-- the bytes of the larger image
unfoldable pub larger_size : Move → ℕ
larger_size k = max (size_of k.source.segments k.source.slots) (size_of k.target.segments k.target.slots)
