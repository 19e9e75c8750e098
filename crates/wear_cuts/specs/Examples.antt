-- The theorem of histories that are computed in Instances, and of two more: with a cut inside an erase, and with one after a put was done.
use Rattle.std.specs.Prelude.{ℕ, ◌<◌, ◌≡◌, refl, List, [], ◌∷◌, ◌++◌, replicate}
use Rattle.std.proofs.Common.{sym, subst, arith}
use Rattle.model.specs.Lists.{count}
use Rattle.model.specs.Chip.{Image, Bytes, segment_bytes, program, erase, run}
use Rattle.model.specs.Table.{blocks}
use Rattle.model.specs.Answers.{format, recover, work_of, outcome_of}
use Rattle.model.specs.Histories.{lost, shown}
use Rattle.model.specs.Sequences.{Call, play, erases_in, start}
use Rattle.model.specs.Begun.{is_mark, marks_in, CutBegun, Turn, Turns, cuts_in}
use Rattle.model.specs.Bench.{whole}
use Rattle.model.proofs.Laws.Begun.{turns_of, AllProper, played, whole_begun}
use Rattle.bridge.specs.Format.{format_bytes}
use Rattle.wear.proofs.Sequence.{format_answered}
use Rattle.tallied.specs.Law.{Unformatted}
use Rattle.tallied.proofs.Examples.{AllOnTable, unformatted, played_bytes, fallen, in_erase, turns_append, unformatted_append}
use Rattle.wear_counts.specs.Counts.{marks_of, ledger_of}
use Rattle.wear_counts.specs.Law.{TidyingsPaid, FewBegun, WithinCuts, WithinRequest, OneErase, FewEach}
use Rattle.wear_counts.specs.Instances.{formatted, seven, cut_off, worn, unpaid, turns_for, evaluate_turns, evaluate_counts}
use Rattle.wear_cuts.specs.Theorem.{wear_with_cuts}

formats : (outcome_of 2 2 (replicate 1536 0) 1000 format).code ≡ 0
unfolding evaluate_turns
formats = refl

-- what the theorem says of a history
abbrev pub Told : List Turn → Image → Type 0
Told es u = TidyingsPaid 2 2 es × FewBegun es × WithinCuts 2 es × WithinRequest 2 2 es u × OneErase es × FewEach 2 es

told_of : (es : List Turn) (u : Image) → Turns 2 2 formatted es u → Unformatted es → Told es u
told_of es u runs none = wear_with_cuts 2 2 es u (record { before = replicate 1536 0; allowance = 1000; finished = formats; runs = runs; unformatted = none })

told : (xs : List Call) → AllProper xs → AllOnTable xs → Told (turns_for xs) (play 2 2 formatted xs)
told xs p q = told_of (turns_for xs) (play 2 2 formatted xs) (played 2 2 xs formatted p) (unformatted 2 2 xs formatted q)

byte : (v : ℕ) → v < 256 → (v < 256) × Unit {0}
byte v h = (h, tt)

pub worn_told : Told (turns_for worn) (play 2 2 formatted worn)
worn_told = told worn (byte 1 (omega arith), (byte 2 (omega arith), (byte 3 (omega arith), (byte 4 (omega arith), (tt, tt))))) (tt, (tt, (tt, (tt, (tt, tt)))))

pub unpaid_told : Told (turns_for unpaid) (play 2 2 formatted unpaid)
unpaid_told = told unpaid (byte 1 (omega arith), (byte 2 (omega arith), (tt, (byte 3 (omega arith), (tt, (tt, tt)))))) (tt, (tt, (tt, (tt, (tt, (tt, tt))))))

-- ---- the first of them with its recovery lost inside the erase, and run again: three erases begun on segment 0, F = 1 and K = 2, so that both bounds are reached once more

abbrev pub before : Image
before = play 2 2 formatted cut_off

-- the bit is cleared, then the erase of segment 0 is begun, and has changed no bit yet
abbrev pub torn : Image
torn = fallen 2 (program 800 127 ∷ []) 0 before

abbrev lost_one : Turn
lost_one = record { request = recover; seen = lost; begun = 0 ∷ []; marks = 0; kept = blocks (shown 2 2 torn) }

abbrev pub lost_turns : List Turn
lost_turns = turns_for cut_off ++ (lost_one ∷ turns_of 2 2 torn (whole recover ∷ []))

recovery_steps : (work_of 2 2 before recover).steps ≡ program 800 127 ∷ erase 0 ∷ []
unfolding evaluate_turns
recovery_steps = refl

lost_does : CutBegun 2 (work_of 2 2 before recover).steps before torn (0 ∷ []) 0
unfolding erases_in marks_in is_mark count
lost_does = rw recovery_steps (in_erase 2 (program 800 127 ∷ []) 0 [] before bytes)
  where
    bytes : Bytes before
    bytes = let (z, image) = format_answered 2 2 (replicate 1536 0) 1000 formats in played_bytes 2 2 cut_off formatted (subst Bytes (sym image) (format_bytes 2 2 (replicate 1536 0) z))

cut_proper : AllProper cut_off
cut_proper = (byte 1 (omega arith), (byte 2 (omega arith), (byte 3 (omega arith), (byte 4 (omega arith), tt))))

pub lost_told : Told lost_turns (play 2 2 torn (whole recover ∷ []))
lost_told = told_of lost_turns (play 2 2 torn (whole recover ∷ []))
    (turns_append 2 2 (turns_for cut_off) (lost_one ∷ turns_of 2 2 torn (whole recover ∷ [])) formatted before (play 2 2 torn (whole recover ∷ [])) (played 2 2 cut_off formatted cut_proper)
    (tt, (torn, lost_does, refl, played 2 2 (whole recover ∷ []) torn (tt, tt))))
    (unformatted_append (turns_for cut_off) (lost_one ∷ turns_of 2 2 torn (whole recover ∷ [])) (unformatted 2 2 cut_off formatted (tt, (tt, (tt, (tt, tt))))) (tt, unformatted 2 2 (whole recover ∷ []) torn (tt, tt)))

pub lost_counts : ((ledger_of lost_turns start).erased ≡ 0 ∷ 0 ∷ 0 ∷ []) × (marks_of lost_turns ≡ 1) × (cuts_in lost_turns ≡ 2)
unfolding evaluate_turns evaluate_counts segment_bytes
lost_counts = (refl, refl, refl)

-- ---- a put that is lost after its last step: its block is stored, so that it counts as a rewrite when it is put again

abbrev pub after : Image
after = run 2 (work_of 2 2 formatted (seven 1)).steps formatted

abbrev pub stored_turns : List Turn
stored_turns =
    record { request = seven 1; seen = lost; begun = erases_in (work_of 2 2 formatted (seven 1)).steps; marks = marks_in 2 (work_of 2 2 formatted (seven 1)).steps; kept = blocks (shown 2 2 after) }
    ∷ turns_of 2 2 after (whole (seven 2) ∷ [])

pub stored_told : Told stored_turns (play 2 2 after (whole (seven 2) ∷ []))
stored_told = told_of stored_turns (play 2 2 after (whole (seven 2) ∷ []))
    (byte 1 (omega arith), (after, whole_begun 2 (work_of 2 2 formatted (seven 1)).steps formatted, refl, played 2 2 (whole (seven 2) ∷ []) after (byte 2 (omega arith), tt)))
    (tt, unformatted 2 2 (whole (seven 2) ∷ []) after (tt, tt))

pub stored_counts : (ledger_of stored_turns start ≡ record { stored = 7 ∷ []; largest = 1; replaced = 1; erased = [] }) × (cuts_in stored_turns ≡ 1)
unfolding evaluate_turns evaluate_counts
stored_counts = (refl, refl)
