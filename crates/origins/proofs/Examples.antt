-- Two histories on the smallest store, computed. In the first a put is cut and a recovery marks its slot. In the second a recovery loses the power inside its erase, and a dead slot of the segment that it erases looks cut.
use Rattle.std.specs.Prelude.{ℕ, zero, suc, ◌≡◌, refl, true, List, [], ◌∷◌, ◌++◌, get_or, set, replicate, take, drop}
use Rattle.std.proofs.Common.{◌∙◌, subst, inl, inr, arith, mod-eq_of_lt}
use Rattle.std.specs.Int.Bits.{and_self}
use Rattle.std.proofs.lemmas.Nat.{and_mask}
use Rattle.model.specs.Chip.{Image, Bytes, right_size, pages_of, program, erase, clear, with_segment, segment_bytes, step, run, Between, Raised}
use Rattle.model.specs.Slot.{empty, torn, cut, is_cut}
use Rattle.model.specs.State.{blank, segments_of, next_number, slots_in, Place, view}
use Rattle.model.specs.Steps.{format_steps}
use Rattle.model.specs.Answers.{Request, put, recover, work_of, outcome_of}
use Rattle.model.specs.Histories.{lost, Event, History, wears}
use Rattle.model.specs.Sequences.{Call, play}
use Rattle.model.specs.Bench.{call, whole}
use Rattle.model.proofs.Laws.Bench.{evaluate}
use Rattle.model.proofs.Laws.Bytes.{bytes_take, bytes_drop, step_bytes, run_bytes}
use Rattle.bridge.specs.Format.{format_bytes}
use Rattle.origins.specs.Law.{in_force, read_at, slot_in, slot_on, last_place, CutIn}
use Rattle.origins.proofs.Theorem.{cut_tells}
use Rattle.origins.proofs.Uncut.{events_of, Plain, played}

-- N = 2, B = 2
abbrev zeros : Image
zeros = replicate 1536 0

abbrev formatted : Image
formatted = run 2 (format_steps 2 2) zeros

abbrev seven : ℕ → Request
seven v = put 7 (v ∷ [])

abbrev left : List Call → Image
left xs = play 2 2 formatted xs

right_size_lem : right_size 2 2 zeros ≡ true
unfolding evaluate right_size
right_size_lem = refl

-- all that these compute with unfolds where this name does
unfoldable evaluate_slots : ℕ
unfolding evaluate play outcome_of work_of right_size segments_of pages_of run step with_segment segment_bytes view is_cut in_force read_at slot_in slot_on last_place
evaluate_slots = 0

-- ---- block 7 put, put again and cut after three steps, and recovered

abbrev pub interrupted : List Call
interrupted = whole (seven 1) ∷ call (seven 2) 3 ∷ []

abbrev pub marked : List Call
marked = whole (seven 1) ∷ call (seven 2) 3 ∷ whole recover ∷ []

-- the second slot of the first segment
abbrev pub second : Place
second = record { number = 0; slot = 1 }

-- it is torn, and the last of the top; and then it is cut
pub torn_first : (slot_on 2 2 (left interrupted) second ≡ torn) × (last_place 2 2 (left interrupted) ≡ second)
unfolding evaluate_slots
torn_first = (refl, refl)

pub cut_then : slot_on 2 2 (left marked) second ≡ cut
unfolding evaluate_slots
cut_then = refl

pub marked_plain : Plain marked
marked_plain = ((omega arith, tt), ((omega arith, tt), (tt, tt)))

-- what the theorem says of it
pub told : CutIn 2 2 formatted (events_of 2 2 formatted marked) (left marked) (played 2 2 marked formatted marked_plain).0 second
told = let (runs, none) = played 2 2 marked formatted marked_plain in cut_tells 2 2 zeros (left marked) (events_of 2 2 formatted marked) right_size_lem runs none second cut_then

-- it stays cut when another segment is the top
abbrev further : Image
further = play 3 2 (run 2 (format_steps 3 2) (replicate 2304 0)) (whole (seven 1) ∷ call (seven 2) 3 ∷ whole recover ∷ whole (put 8 (1 ∷ [])) ∷ [])

pub cut_still : (slot_on 3 2 further second ≡ cut) × (next_number (segments_of 3 2 further) ≡ 2)
unfolding evaluate_slots
cut_still = (refl, refl)

-- ---- block 7 put three times, cut at the owing mark; and a recovery that counts, begins to erase the old segment, and is lost

abbrev owing : List Call
owing = whole (seven 1) ∷ whole (seven 2) ∷ call (seven 3) 28 ∷ []

-- the old segment's first slot, which is dead
abbrev pub first : Place
first = record { number = 0; slot = 0 }

-- the erase has raised one bit so far, which makes 1F 5F
abbrev raised_bytes : Image → List ℕ
raised_bytes s = set (segment_bytes 2 0 s) 256 0x5F

abbrev counted : Image
counted = step 2 (program 800 127) (left owing)

abbrev pub lost_image : Image
lost_image = with_segment 2 0 (raised_bytes counted) counted

-- read as it stands, that slot looks cut; but it is in a segment that is being erased, and no slot in use is cut
pub looks_cut : (get_or (slots_in (get_or (segments_of 2 2 lost_image) 0 blank)) 0 empty ≡ cut) × (slot_on 2 2 lost_image first ≡ empty)
unfolding evaluate_slots
looks_cut = (refl, refl)

-- ---- and a history leads there

raised_same : (s : List ℕ) → Bytes s → Raised s s
unfolding clear
raised_same [] y = refl
raised_same (a ∷ s) y = ((and_self a, and_mask a 8 ∙ mod-eq_of_lt y.0), raised_same s y.1)

raised_one : (s : List ℕ) (at x : ℕ) → Bytes s → Between (get_or s at 0) x 255 → Raised s (set s at x)
raised_one [] at x y b = refl
raised_one (a ∷ s) zero x y b = (b, raised_same s y.1)
raised_one (a ∷ s) (suc at) x y b = ((raised_same (a ∷ s) y).0, raised_one s at x y.1 b)

played_bytes : (N B : ℕ) (xs : List Call) (s : Image) → Bytes s → Bytes (play N B s xs)
unfolding play outcome_of
played_bytes N B [] s y = y
played_bytes N B (x ∷ xs) s y = played_bytes N B xs (outcome_of N B s x.allowance x.request).image (run_bytes B (take x.allowance (work_of N B s x.request).steps) s y)

history_append : (N B : ℕ) (es fs : List Event) (s m u : Image) → History N B s es m → History N B m fs u → History N B s (es ++ fs) u
history_append N B [] fs s m u h k = subst (λ (y : Image). History N B y fs u) h k
history_append N B (e ∷ es) fs s m u (p, w, (n, d, rest)) k = (p, w, (n, d, history_append N B es fs n m u rest k))

recovery_steps : (work_of 2 2 (left owing) recover).steps ≡ program 800 127 ∷ erase 0 ∷ drop 2 (work_of 2 2 (left owing) recover).steps
unfolding evaluate_slots
recovery_steps = refl

first_byte : get_or (segment_bytes 2 0 counted) 256 0 ≡ 0x1F
unfolding evaluate_slots
first_byte = refl

counted_bytes : Bytes (segment_bytes 2 0 counted)
unfolding segment_bytes
counted_bytes = bytes_take 768 (drop 0 counted) (bytes_drop 0 counted (step_bytes 2 (program 800 127) (left owing) (played_bytes 2 2 owing formatted (format_bytes 2 2 zeros right_size_lem))))

one_raised : Raised (segment_bytes 2 0 counted) (raised_bytes counted)
unfolding clear
one_raised = raised_one (segment_bytes 2 0 counted) 256 0x5F counted_bytes (rw first_byte (refl, refl))

owing_plain : Plain owing
owing_plain = ((omega arith, tt), ((omega arith, tt), ((omega arith, tt), tt)))

abbrev pub lost_events : List Event
lost_events = events_of 2 2 formatted owing ++ (record { request = recover; worn = wears 2 2 (left owing); seen = lost } ∷ [])

pub lost_runs : History 2 2 formatted lost_events lost_image
lost_runs = history_append 2 2 (events_of 2 2 formatted owing) (record { request = recover; worn = wears 2 2 (left owing); seen = lost } ∷ []) formatted (left owing) lost_image (played 2 2 owing formatted owing_plain).0
    (tt, refl, (lost_image, rw recovery_steps (inr (inr (inr (inl (raised_bytes counted, one_raised, refl))))), refl))
