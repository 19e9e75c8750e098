-- What the code gives, and what it knows of a board.
use Rattle.std.specs.Prelude.{ℕ, ◌/◌, ◌≤◌, ◌≡◌, true, List, length, Result, Ok, Err}
use Rattle.model.specs.Chip.{Image}
use Rattle.text.specs.Buffer.{Wrote}
use Rattle.partitions.specs.Layout.{layout_ok}
use Rattle.partitions.specs.Partitions.{image_ok}
use Rattle.partitions.specs.declared.Reply.{Reply}
use Rattle.partitions.specs.Answers.{number_of}
use Rattle.settings_item_lines.specs.ItemLines.{most_layout}
use Rattle.settings_list.specs.BoardList.{ListOutcome}

-- every list is shorter
abbrev pub most_list : ℕ
most_list = 180224

-- P and the table are right
pub record Right (P : ℕ) (layout : List ℕ) (s : Image) : Type 0 where
  pub image : image_ok P s ≡ true
  pub table : layout_ok (length s / P) layout ≡ true
  pub few : length layout ≤ most_layout

-- the code of its answer, and how long its text is: one that is refused has none
unfoldable pub code_in : Result ℕ Reply → ℕ
code_in (Ok n) = 0
code_in (Err a) = number_of a

unfoldable pub length_in : Result ℕ Reply → ℕ
length_in (Ok n) = n
length_in (Err a) = 0

-- the answer is the outcome's, and its text stands at the buffer's start
pub record Lists (o : ListOutcome) (r : Result ℕ Reply) (start buffer : List ℕ) : Type 0 where
  pub answers : code_in r ≡ o.code
  pub prints : Wrote o.text start 0 buffer (length_in r)
  pub within : length_in r ≤ most_list
