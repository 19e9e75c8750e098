-- What the program settings says: an answer, with the steps of a write; and what is wrong with a command or a file.
use Rattle.std.specs.Prelude.{ℕ, cond, List, [], ◌++◌, eqb}
use Rattle.partitions.specs.declared.Reply.{Reply}
use Rattle.partitions.specs.declared.Reply.TheVariants.{Done, Partitions, Layout, Mismatch, Statuses, Unwritten, Cut}
use Rattle.partitions.specs.Answers.{number_of}
use Rattle.text.specs.Text.{text}
use Rattle.text.specs.Decimal.{decimal}
use Rattle.qbx_says.specs.Said.{verdict, steps_word}
use Rattle.settings_words.specs.declared.Complaint.{Complaint}
use Rattle.settings_words.specs.declared.Complaint.TheVariants.{Partitions as NoPartitions, NoLayout, NoVerb, Item, NoOption, Budget}

-- ---- answers

-- the word of a refusal
unfoldable pub reason : Reply → List ℕ
reason Done = []
reason Partitions = text " partitions"
reason Layout = text " layout"
reason Mismatch = text " mismatch"
reason Statuses = text " statuses"
reason Unwritten = text " unwritten"
reason Cut = []

-- an answer, as "refused: 4 statuses"
unfoldable pub reply_text : Reply → List ℕ
reply_text a = verdict (number_of a) ++ decimal (number_of a) ++ reason a

-- of a refusal by its number, on an image of so many bytes: what P is to be
unfoldable pub board_text : ℕ → ℕ → List ℕ
board_text k bytes = cond (eqb k 1) ((text ": P is a power of two from 2 to 128 that divides the image; " ++ decimal bytes) ++ text " bytes are there") []

-- as "done: 0", or "refused: 1 partitions: P is a power of two from 2 to 128 that divides the image; 10 bytes are there"
unfoldable pub answer_line : Reply → ℕ → List ℕ
answer_line a bytes = reply_text a ++ board_text (number_of a) bytes ++ text "\n"

-- as "done: 0, 5 steps", or "refused: 4 statuses, 0 steps"
unfoldable pub written_line : Reply → ℕ → ℕ → List ℕ
written_line a n bytes = reply_text a ++ (text ", " ++ decimal n) ++ steps_word n ++ board_text (number_of a) bytes ++ text "\n"

-- ---- complaints

unfoldable pub complaint_text : Complaint → List ℕ
complaint_text NoPartitions = text "settings: P is not a number\n"
complaint_text NoLayout = text "settings: LAYOUT is missing, or longer than a path may be\n"
complaint_text NoVerb = text "settings: the verb is none of read, write, list\n"
complaint_text Item = text "settings: ITEM is not a number up to 255\n"
complaint_text NoOption = text "settings: only --budget STEPS may follow, and only write ITEM\n"
complaint_text Budget = text "settings: STEPS is not a number\n"

unfoldable pub wrong_line : ℕ → List ℕ
wrong_line k = (text "settings: line " ++ decimal k) ++ text " of LAYOUT is not two numbers up to 255\n"
