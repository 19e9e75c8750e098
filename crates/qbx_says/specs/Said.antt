-- What the program says: an answer with its steps, what is wrong with a command.
use Rattle.std.specs.Prelude.{ℕ, cond, List, [], ◌++◌, eqb}
use Rattle.model.specs.declared.Answer.{Answer}
use Rattle.model.specs.declared.Answer.TheVariants.{Done, Size, Number, Length, Damaged, Unfinished, Absent, Full, Worn, Cut, ShortTable, FormerVersion, Foreign, Shares, ShortBuffer}
use Rattle.model.specs.Answers.{code_of}
use Rattle.model.specs.Chip.{in_range, image_length}
use Rattle.text.specs.Text.{text}
use Rattle.text.specs.Decimal.{decimal}
use Rattle.qbx_words.specs.declared.Complaint.{Complaint}
use Rattle.qbx_words.specs.declared.Complaint.TheVariants.{Segments, Slots, NoVerb, Block, NoTarget, TargetSegments, TargetSlots, NoShares, Tenant, NoOption, Budget}

-- ---- answers

-- by its number
unfoldable pub verdict : ℕ → List ℕ
verdict n = cond (eqb n 0) (text "done: ") (cond (eqb n 9) (text "cut: ") (text "refused: "))

-- the word of a refusal
unfoldable pub reason : Answer → List ℕ
reason Done = []
reason Size = text " size"
reason Number = text " number"
reason Length = text " length"
reason Damaged = text " damaged"
reason Unfinished = text " unfinished"
reason Absent = text " absent"
reason Full = text " full"
reason Worn = text " worn"
reason Cut = []
reason ShortTable = text " short table"
reason FormerVersion = text " former version"
reason Foreign = text " foreign"
reason Shares = text " shares"
reason ShortBuffer = text " short buffer"

-- an answer, as "refused: 7 full"
unfoldable pub answer_text : Answer → List ℕ
answer_text a = verdict (code_of a) ++ decimal (code_of a) ++ reason a

unfoldable pub steps_word : ℕ → List ℕ
steps_word n = cond (eqb n 1) (text " step") (text " steps")

-- an answer with the steps done, as "done: 0, 7 steps"
unfoldable pub performed_text : Answer → ℕ → List ℕ
performed_text a n = answer_text a ++ text ", " ++ decimal n ++ steps_word n

unfoldable pub performed_line : Answer → ℕ → List ℕ
performed_line a n = performed_text a n ++ text "\n"

-- what N and B ask for: so many bytes, or to be in their ranges
unfoldable pub asked_text : ℕ → ℕ → List ℕ
asked_text N B = cond (in_range N B) (text ": N and B ask for " ++ decimal (image_length N B) ++ text " bytes") (text ": N is 2 to 255 and B is 2 to 255")

-- a wrong size with both numbers, as "refused: 1 size, 0 steps: N and B ask for 1536 bytes; 1280 bytes are there"
unfoldable pub size_line : ℕ → ℕ → ℕ → List ℕ
size_line N B there = performed_text Size 0 ++ asked_text N B ++ (text "; " ++ decimal there) ++ text " bytes are there\n"

-- ---- complaints

unfoldable pub complaint_text : Complaint → List ℕ
complaint_text Segments = text "qbx: N is not a number\n"
complaint_text Slots = text "qbx: B is not a number\n"
complaint_text NoVerb = text "qbx: the verb is none of format, put, get, delete, recover, check, account, map, salvage, move, rebuild, share-put, share-get, share-delete\n"
complaint_text Block = text "qbx: BLOCK is not a number up to 65535\n"
complaint_text NoTarget = text "qbx: TARGET is missing, or longer than a path may be\n"
complaint_text TargetSegments = text "qbx: TARGET's N is not a number\n"
complaint_text TargetSlots = text "qbx: TARGET's B is not a number\n"
complaint_text NoShares = text "qbx: SHARES is missing, or longer than a path may be\n"
complaint_text Tenant = text "qbx: TENANT is not a number up to 4294967295\n"
complaint_text NoOption = text "qbx: only --budget STEPS may follow, and only a verb that writes\n"
complaint_text Budget = text "qbx: STEPS is not a number\n"

-- as "qbx: an image of 16711680 bytes needs a stack of 24576 KiB, and 8192 KiB are allowed: raise it with ulimit -s"
unfoldable pub stack_line : ℕ → ℕ → ℕ → List ℕ
stack_line bytes needed allowed = text "qbx: an image of " ++ decimal bytes ++ (text " bytes needs a stack of " ++ decimal needed) ++ (text " KiB, and " ++ decimal allowed) ++ text " KiB are allowed: raise it with ulimit -s\n"
