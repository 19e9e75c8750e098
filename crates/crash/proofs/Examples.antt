-- Bench examples 7 and 8 as histories on the smallest store, computed, and demand 2 of each: a put cut by its allowance, a recovery, and a read.
-- And a board of version 1 that lost its power while the former rules tidied.
use Rattle.std.specs.Prelude.{ℕ, zero, suc, ◌≡◌, refl, true, false, List, [], ◌∷◌, ◌++◌, replicate}
use Rattle.std.proofs.Common.{◌∙◌, arith}
use Rattle.model.specs.Chip.{Image, Bytes, right_size, pages_of, Step, with_segment, step, run}
use Rattle.model.specs.Header.{version1}
use Rattle.model.specs.Slot.{Entry}
use Rattle.model.specs.State.{segments_of, unfinished, case_b, state, view}
use Rattle.model.specs.Steps.{on_page, slot_at, mark_dead, open_segment, copy_entries, copy_out, erase_first}
use Rattle.model.specs.Answers.{Request, format, put, read, recover, work_of, outcome_of, contents_at, read_outcome, piece_read}
use Rattle.model.specs.Histories.{bytes_read, reply_of, answered, Proper, wears, Event, History, recovered, shown}
use Rattle.model.specs.Sequences.{Call, play}
use Rattle.model.specs.Bench.{call, whole}
use Rattle.model.proofs.Laws.Bench.{evaluate}
use Rattle.model.proofs.Laws.Bytes.{run_bytes}
use Rattle.model.proofs.Laws.Chip.{run_size}
use Rattle.crash.specs.Machine.{Promise, interrupted, unknown, PlainRuns}
use Rattle.crash.specs.Demand2.{Keeps, board}
use Rattle.crash.specs.Sound.{Sound, former_shown}
use Rattle.crash.proofs.Theorem.{demand2, from_former_left}

-- ---- the history of some calls

unfoldable events : ℕ → ℕ → Image → List Call → List Event
events N B s [] = []
events N B s (x ∷ xs) =
    record { request = x.request; worn = wears N B s; seen = answered (reply_of N B s x.allowance x.request) }
    ∷ events N B (outcome_of N B s x.allowance x.request).image xs

abbrev AllProper : List Call → Type 0
AllProper [] = Unit {0}
AllProper (x ∷ xs) = Proper x.request × AllProper xs

played : (N B : ℕ) (xs : List Call) (s : Image) → AllProper xs → History N B s (events N B s xs) (play N B s xs)
unfolding events play
played N B [] s p = refl
played N B (x ∷ xs) s p = (p.0, refl, ((outcome_of N B s x.allowance x.request).image, (x.allowance, refl, refl), played N B xs (outcome_of N B s x.allowance x.request).image p.1))

-- ---- N = 2, B = 2: block 7 put with one byte, the last time cut; then a recovery and a read

abbrev zeros : Image
zeros = replicate 1536 0

abbrev seven : ℕ → Request
seven v = put 7 (v ∷ [])

abbrev puts : List ℕ → List Call
puts [] = []
puts (v ∷ vs) = whole (seven v) ∷ puts vs

abbrev calls : List ℕ → ℕ → ℕ → List Call
calls vs v k = whole format ∷ (puts vs ++ (call (seven v) k ∷ whole recover ∷ whole (read 7) ∷ []))

-- what is seen: all answer 0 but the cut put, which answers 9, and the read gives a byte
abbrev saw : Request → ℕ → List ℕ → Event
saw r code bytes = record { request = r; worn = false; seen = answered (record { code = code; bytes = bytes }) }

abbrev done : List ℕ → List Event
done [] = []
done (v ∷ vs) = saw (seven v) 0 [] ∷ done vs

abbrev pub told : List ℕ → ℕ → ℕ → List Event
told vs v shows = saw format 0 [] ∷ (done vs ++ (saw (seven v) 9 [] ∷ saw recover 0 [] ∷ saw (read 7) 0 (shows ∷ []) ∷ []))

abbrev left : List ℕ → ℕ → ℕ → Image
left vs v k = play 2 2 zeros (calls vs v k)

-- the store shows this, and so it is a history of the plain table
abbrev pub Instance : List ℕ → ℕ → ℕ → ℕ → Type 0
Instance vs v k c = History 2 2 zeros (told vs v c) (left vs v k) × ((x : Promise) × PlainRuns (board 2 2 false) unknown (told vs v c) x × Keeps 2 2 (left vs v k) x)

right_size_lem : right_size 2 2 zeros ≡ true
unfolding evaluate right_size
right_size_lem = refl

instance : (vs : List ℕ) (v k c : ℕ) → AllProper (calls vs v k) → events 2 2 zeros (calls vs v k) ≡ told vs v c → Instance vs v k c
instance vs v k c p e =
    let h : History 2 2 zeros (told vs v c) (left vs v k) = rw e at (played 2 2 (calls vs v k) zeros p) in
    (h, demand2 2 2 zeros (left vs v k) (told vs v c) right_size_lem h)

-- each call's contents are bytes
two_puts : (k : ℕ) → AllProper (calls (1 ∷ []) 2 k)
two_puts k = (tt, ((omega arith, tt), ((omega arith, tt), (tt, (tt, tt)))))

three_puts : (k : ℕ) → AllProper (calls (1 ∷ 2 ∷ []) 3 k)
three_puts k = (tt, ((omega arith, tt), ((omega arith, tt), ((omega arith, tt), (tt, (tt, tt))))))

-- all that a history computes with unfolds where this name does
unfoldable evaluate_history : ℕ
unfolding evaluate events outcome_of work_of right_size segments_of pages_of run step with_segment reply_of bytes_read piece_read read_outcome contents_at wears view
evaluate_history = 0

-- 7: the second put cut after 5 steps, the old contents; after 6, the new

pub second_cut_5 : Instance (1 ∷ []) 2 5 1
unfolding evaluate_history
second_cut_5 = instance (1 ∷ []) 2 5 1 (two_puts 5) refl

pub second_cut_6 : Instance (1 ∷ []) 2 6 2
unfolding evaluate_history
second_cut_6 = instance (1 ∷ []) 2 6 2 (two_puts 6) refl

-- 8: the third put cut after 27 steps, before the owing mark; after 28, at it; after 29, with the old segment erased. The second put's contents stand

pub third_cut_27 : Instance (1 ∷ 2 ∷ []) 3 27 2
unfolding evaluate_history
third_cut_27 = instance (1 ∷ 2 ∷ []) 3 27 2 (three_puts 27) refl

pub third_cut_28 : Instance (1 ∷ 2 ∷ []) 3 28 2
unfolding evaluate_history
third_cut_28 = instance (1 ∷ 2 ∷ []) 3 28 2 (three_puts 28) refl

pub third_cut_29 : Instance (1 ∷ 2 ∷ []) 3 29 2
unfolding evaluate_history
third_cut_29 = instance (1 ∷ 2 ∷ []) 3 29 2 (three_puts 29) refl

-- ---- a board of version 1: block 7 put twice, which fills the first segment, and the tidying for a third put cut at the owing mark

abbrev seven_with : ℕ → Entry
seven_with v = record { block = 7; contents = v ∷ [] }

abbrev former_steps : List Step
former_steps = erase_first 2
    ++ (open_segment 2 2 version1 0
    ++ (copy_entries 2 2 0 0 (seven_with 1 ∷ seven_with 2 ∷ [])
    ++ (on_page (slot_at 2 2 0 0) mark_dead
    ++ copy_out 2 2 version1 0 1 (seven_with 2 ∷ []))))

abbrev pub former_left : Image
former_left = run 2 former_steps zeros

zero_bytes : (n : ℕ) → Bytes (replicate n 0)
zero_bytes zero = tt
zero_bytes (suc n) = (omega arith, zero_bytes n)

-- it is unfinished by (b), as a cut leaves it, and a finished recovery will show version 1
pub former_left_state : state 2 2 former_left ≡ unfinished case_b
unfolding evaluate_history state
former_left_state = refl

pub former_left_sound : Sound 2 2 former_left
unfolding evaluate_history state
former_left_sound = (omega arith, (omega arith, (omega arith, (omega arith, (omega arith, (omega arith, (omega arith, (omega arith, (omega arith, tt)))))))))

pub former_left_shown : former_shown 2 2 former_left ≡ true
unfolding evaluate_history recovered
former_left_shown = refl

-- a read asks for a recovery; after it the second put's contents stand, and a put is refused
abbrev former_calls : List Call
former_calls = whole (read 7) ∷ whole recover ∷ whole (read 7) ∷ whole (seven 3) ∷ []

abbrev pub former_told : List Event
former_told = saw (read 7) 5 [] ∷ saw recover 0 [] ∷ saw (read 7) 0 (2 ∷ []) ∷ saw (seven 3) 11 [] ∷ []

former_told_lem : events 2 2 former_left former_calls ≡ former_told
unfolding evaluate_history
former_told_lem = refl

pub former_left_runs : History 2 2 former_left former_told (play 2 2 former_left former_calls)
    × ((x : Promise) × PlainRuns (board 2 2 true) (interrupted (shown 2 2 former_left)) former_told x × Keeps 2 2 (play 2 2 former_left former_calls) x)
former_left_runs =
    let h : History 2 2 former_left former_told (play 2 2 former_left former_calls) = rw former_told_lem at (played 2 2 former_calls former_left (tt, (tt, (tt, ((omega arith, tt), tt))))) in (
      h,
      from_former_left 2 2 former_left (play 2 2 former_left former_calls) former_told (run_size 2 2 former_steps zeros ∙ right_size_lem) (run_bytes 2 former_steps zeros (zero_bytes 1536)) former_left_sound former_left_shown h
          (tt, (tt, (tt, (tt, tt)))),
    )
