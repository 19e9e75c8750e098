-- The list of a board: its newest partition with the status, or that nothing is written, and then a line for each item of the table.
use Rattle.std.specs.Prelude.{ℕ, true, cond, List, [], ◌++◌, eqb}
use Rattle.model.specs.Chip.{Image}
use Rattle.model.specs.Answers.{first_of}
use Rattle.text.specs.Text.{text}
use Rattle.text.specs.Decimal.{decimal}
use Rattle.partitions.specs.Partitions.{partition_size, status_of, Newest, nothing, newest, no_run, newest_of}
use Rattle.partitions.specs.Answers.{refusals, read_outcome}
use Rattle.settings_item_lines.specs.ItemLines.{item_lines}

-- as "partition 3 status 17"
unfoldable pub partition_line : ℕ → ℕ → List ℕ
partition_line p status = (text "partition " ++ decimal p) ++ (text " status " ++ decimal status) ++ text "\n"

-- statuses that are no single run have no line: they refuse the list
unfoldable pub newest_line : ℕ → Image → Newest → List ℕ
newest_line S s nothing = text "nothing written\n"
newest_line S s (newest p) = partition_line p (status_of S s p)
newest_line S s no_run = []

-- what comes back: an answer as a request's, and the text
pub record ListOutcome : Type 0 where
  pub code : ℕ
  pub text : List ℕ

unfoldable pub list_text : ℕ → List ℕ → Image → Newest → List ℕ
list_text P layout s n = newest_line (partition_size P s) s n ++ item_lines (read_outcome P layout s) s layout

-- a list asks for no item: what else refuses a request refuses it
unfoldable pub list_outcome : ℕ → List ℕ → Image → ListOutcome
list_outcome P layout s =
    let code = first_of (refusals P layout s true) in
    record { code = code; text = cond (eqb code 0) (list_text P layout s (newest_of P s)) [] }

-- of a board whose P and table are right, by the newest partition alone
unfoldable pub list_on : ℕ → List ℕ → Image → Newest → ListOutcome
list_on P layout s nothing = record { code = 0; text = list_text P layout s nothing }
list_on P layout s (newest p) = record { code = 0; text = list_text P layout s (newest p) }
list_on P layout s no_run = record { code = 4; text = [] }
