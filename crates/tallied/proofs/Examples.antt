-- Three histories on the smallest store, computed, and the theorem of each: each bound is reached. In the last a recovery loses the power inside its erase.
use Rattle.std.specs.Prelude.{ℕ, ◌+◌, ◌*◌, ◌/◌, ◌≤◌, ◌<◌, ◌≡◌, refl, Bool, true, false, cond, List, [], ◌∷◌, ◌++◌, replicate, take, drop}
use Rattle.std.proofs.Common.{sym, ◌∙◌, subst, inl, inr, arith, mod-eq_of_lt}
use Rattle.std.specs.Int.Bits.{and_self}
use Rattle.std.proofs.lemmas.Nat.{and_mask}
use Rattle.model.specs.Lists.{same, count}
use Rattle.model.specs.Chip.{Image, Bytes, right_size, pages_of, Step, program, erase, clear, with_segment, segment_bytes, step, run, Raised}
use Rattle.model.specs.State.{segments_of, view}
use Rattle.model.specs.Steps.{format_steps}
use Rattle.model.specs.Table.{blocks}
use Rattle.model.specs.Answers.{Request, put, recover, work_of, outcome_of}
use Rattle.model.specs.Histories.{lost, bytes_read, reply_of, shown}
use Rattle.model.specs.Sequences.{Call, play, erases_in}
use Rattle.model.specs.Begun.{is_mark, marks_in, CutBegun, Turn, Turns, cut_seen, cuts_in, by_recovery, recovery_erases, begun_on}
use Rattle.model.specs.Bench.{call, whole}
use Rattle.model.proofs.Laws.Bench.{evaluate}
use Rattle.model.proofs.Laws.Begun.{turns_of, AllProper, played, append_begun}
use Rattle.model.proofs.Laws.Bytes.{bytes_take, bytes_drop, run_bytes}
use Rattle.bridge.specs.Format.{format_bytes}
use Rattle.crash.specs.Machine.{OnTable}
use Rattle.tallied.specs.Law.{tally_in, top_in, BitLeft, Unformatted}
use Rattle.tallied.proofs.Theorem.{tally_tells}

-- none of the calls is a format
abbrev pub AllOnTable : List Call → Type 0
AllOnTable [] = Unit {0}
AllOnTable (x ∷ xs) = OnTable x.request × AllOnTable xs

pub unformatted : (N B : ℕ) (xs : List Call) (s : Image) → AllOnTable xs → Unformatted (turns_of N B s xs)
unfolding turns_of
unformatted N B [] s p = tt
unformatted N B (x ∷ xs) s p = (p.0, unformatted N B xs (outcome_of N B s x.allowance x.request).image p.1)

-- N = 2, B = 2: block 7 put twice, which fills the first segment, and once more
abbrev zeros : Image
zeros = replicate 1536 0

abbrev formatted : Image
formatted = run 2 (format_steps 2 2) zeros

abbrev seven : ℕ → Request
seven v = put 7 (v ∷ [])

abbrev compacting : List Call
compacting = whole (seven 1) ∷ whole (seven 2) ∷ whole (seven 3) ∷ []

-- cut at the owing mark, and recovered
abbrev counted : List Call
counted = whole (seven 1) ∷ whole (seven 2) ∷ call (seven 3) 28 ∷ whole recover ∷ []

right_size_lem : right_size 2 2 zeros ≡ true
unfolding evaluate right_size
right_size_lem = refl

abbrev seen : List Call → List Turn
seen xs = turns_of 2 2 formatted xs

abbrev left : List Call → Image
left xs = play 2 2 formatted xs

-- what the theorem says of them
abbrev pub ToldOf : List Turn → Image → Type 0
ToldOf es u = (recovery_erases es ≤ tally_in 2 2 u) × (tally_in 2 2 u ≤ cuts_in es) × ((i : ℕ) → i < 2 → begun_on i es ≤ top_in 2 2 u / 2 + tally_in 2 2 u + 1)

abbrev pub Told : List Call → Type 0
Told xs = ToldOf (seen xs) (left xs)

told : (xs : List Call) → AllProper xs → AllOnTable xs → BitLeft 2 2 (left xs) → Told xs
told xs p q b = tally_tells 2 2 zeros (left xs) (seen xs) right_size_lem (played 2 2 xs formatted p) (unformatted 2 2 xs formatted q) b

-- all that these compute with unfolds where this name does
unfoldable evaluate_turns : ℕ
unfolding evaluate turns_of play outcome_of work_of right_size segments_of pages_of run step with_segment reply_of bytes_read view cut_seen cuts_in by_recovery recovery_erases begun_on
evaluate_turns = 0

one : (1 < 256) × Unit {0}
one = (omega arith, tt)

two : (2 < 256) × Unit {0}
two = (omega arith, tt)

three : (3 < 256) × Unit {0}
three = (omega arith, tt)

compacting_proper : AllProper compacting
compacting_proper = (one, (two, (three, tt)))

counted_proper : AllProper counted
counted_proper = (one, (two, (three, (tt, tt))))

pub compacting_told : Told compacting
unfolding evaluate_turns
compacting_told = told compacting compacting_proper (tt, (tt, (tt, tt))) refl

pub counted_told : Told counted
unfolding evaluate_turns
counted_told = told counted counted_proper (tt, (tt, (tt, (tt, tt)))) refl

-- without a cut: one erase of segment 0, the top has number 1, and the tally is 0
pub compacting_counts : (begun_on 0 (seen compacting) ≡ 1) × (top_in 2 2 (left compacting) ≡ 1) × (tally_in 2 2 (left compacting) ≡ 0)
unfolding evaluate_turns
compacting_counts = (refl, refl, refl)

-- with one: one cut, one erase begun by a recovery, and the tally is 1
pub counted_counts : (cuts_in (seen counted) ≡ 1) × (recovery_erases (seen counted) ≡ 1) × (tally_in 2 2 (left counted) ≡ 1)
unfolding evaluate_turns
counted_counts = (refl, refl, refl)

-- ---- a recovery that loses the power inside its erase

raised_same : (s : List ℕ) → Bytes s → Raised s s
unfolding clear
raised_same [] y = refl
raised_same (a ∷ s) y = ((and_self a, and_mask a 8 ∙ mod-eq_of_lt y.0), raised_same s y.1)

pub played_bytes : (N B : ℕ) (xs : List Call) (s : Image) → Bytes s → Bytes (play N B s xs)
unfolding play outcome_of
played_bytes N B [] s y = y
played_bytes N B (x ∷ xs) s y = played_bytes N B xs (outcome_of N B s x.allowance x.request).image (run_bytes B (take x.allowance (work_of N B s x.request).steps) s y)

-- an erase is no owing mark, however much of it was done
erase_unmarked : (B i : ℕ) (t : Bool) → cond t (marks_in B (erase i ∷ [])) 0 ≡ 0
unfolding marks_in is_mark count
erase_unmarked B i true = refl
erase_unmarked B i false = refl

-- some steps done, then an erase begun that has changed no bit yet
abbrev pub fallen : ℕ → List Step → ℕ → Image → Image
fallen B xs i s = with_segment B i (segment_bytes B i (run B xs s)) (run B xs s)

pub in_erase : (B : ℕ) (xs : List Step) (i : ℕ) (rest : List Step) (s : Image) → Bytes s → CutBegun B (xs ++ (erase i ∷ rest)) s (fallen B xs i s) (erases_in xs ++ (i ∷ [])) (marks_in B xs + 0)
unfolding erases_in segment_bytes
in_erase B xs i rest s y =
    let t = run B xs s in
    let bytes : Bytes (segment_bytes B i t) = bytes_take ((B + 1) * 256) (drop (i * (B + 1) * 256) t) (bytes_drop (i * (B + 1) * 256) t (run_bytes B xs s y)) in
    append_begun B xs (erase i ∷ rest) s (fallen B xs i s) (i ∷ []) 0
    (inr (inl ((segment_bytes B i t, raised_same (segment_bytes B i t) bytes, refl), refl, sym (erase_unmarked B i (same (fallen B xs i s) (step B (erase i) t))))))

pub turns_append : (N B : ℕ) (es fs : List Turn) (s m u : Image) → Turns N B s es m → Turns N B m fs u → Turns N B s (es ++ fs) u
turns_append N B [] fs s m u h k = subst (λ (y : Image). Turns N B y fs u) h k
turns_append N B (e ∷ es) fs s m u (p, (n, d, kept, rest)) k = (p, (n, d, kept, turns_append N B es fs n m u rest k))

pub unformatted_append : (es fs : List Turn) → Unformatted es → Unformatted fs → Unformatted (es ++ fs)
unformatted_append [] fs h k = k
unformatted_append (e ∷ es) fs h k = (h.0, unformatted_append es fs h.1 k)

-- cut at the owing mark; the recovery then counts, begins to erase segment 0, and is lost
abbrev owing : List Call
owing = whole (seven 1) ∷ whole (seven 2) ∷ call (seven 3) 28 ∷ []

abbrev pub lost_image : Image
lost_image = fallen 2 (program 800 127 ∷ []) 0 (left owing)

abbrev lost_one : List Turn
lost_one = record { request = recover; seen = lost; begun = 0 ∷ []; marks = 0; kept = blocks (shown 2 2 lost_image) } ∷ []

abbrev pub lost_turns : List Turn
lost_turns = seen owing ++ lost_one

owing_proper : AllProper owing
owing_proper = (one, (two, (three, tt)))

recovery_steps : (work_of 2 2 (left owing) recover).steps ≡ program 800 127 ∷ erase 0 ∷ drop 2 (work_of 2 2 (left owing) recover).steps
unfolding evaluate_turns
recovery_steps = refl

-- the bit is no mark
lost_does : CutBegun 2 (work_of 2 2 (left owing) recover).steps (left owing) lost_image (0 ∷ []) 0
unfolding erases_in marks_in is_mark count
lost_does = rw recovery_steps (in_erase 2 (program 800 127 ∷ []) 0 (drop 2 (work_of 2 2 (left owing) recover).steps) (left owing) (played_bytes 2 2 owing formatted (format_bytes 2 2 zeros right_size_lem)))

pub lost_turns_lem : Turns 2 2 formatted lost_turns lost_image
lost_turns_lem = turns_append 2 2 (seen owing) lost_one formatted (left owing) lost_image (played 2 2 owing formatted owing_proper)
    (tt, (lost_image, lost_does, refl, refl))

lost_left : BitLeft 2 2 lost_image
unfolding evaluate_turns segment_bytes
lost_left = refl

-- what the theorem says of it
pub lost_told : ToldOf lost_turns lost_image
lost_told = tally_tells 2 2 zeros lost_image lost_turns right_size_lem lost_turns_lem
    (unformatted_append (seen owing) lost_one (unformatted 2 2 owing formatted (tt, (tt, (tt, tt)))) (tt, tt)) lost_left

-- two cuts, one erase begun by a recovery, and the tally is 1
pub lost_counts : (cuts_in lost_turns ≡ 2) × (recovery_erases lost_turns ≡ 1) × (begun_on 0 lost_turns ≡ 1) × (tally_in 2 2 lost_image ≡ 1)
unfolding evaluate_turns segment_bytes
lost_counts = (refl, refl, refl, refl)
