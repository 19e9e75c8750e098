-- Three histories on the smallest store, N = 2 and B = 2, computed: each clause of the statement holds of one of them as it stands, and no longer with a number less; and it excludes what would follow by one more erase or tidying.
use Rattle.std.specs.Prelude.{ℕ, ◌+◌, ◌≡◌, refl, List, [], ◌∷◌, ◌++◌, replicate}
use Rattle.std.proofs.Common.{arith}
use Rattle.model.specs.Lists.{count}
use Rattle.model.specs.Chip.{Image, right_size, pages_of, with_segment, step, run}
use Rattle.model.specs.State.{segments_of, state, view}
use Rattle.model.specs.Table.{blocks, table_of}
use Rattle.model.specs.Answers.{Request, format, put, delete, recover, work_of, outcome_of}
use Rattle.model.specs.Histories.{answered, bytes_read, reply_of, recovered, shown}
use Rattle.model.specs.Sequences.{Call, play, among, removed, inserted, stored_after, replaces, start, noted, erase_count, erases_of}
use Rattle.model.specs.Begun.{is_mark, marks_in, Turn, cut_seen, cuts_in, by_recovery}
use Rattle.model.specs.Bench.{call, whole}
use Rattle.model.proofs.Laws.Bench.{evaluate}
use Rattle.model.proofs.Laws.Begun.{turns_of}
use Rattle.wear_counts.specs.Counts.{marks_of, noted_cut, noted_as, ledger_of}
use Rattle.wear_counts.specs.Law.{TidyingsPaid, FewBegun, Within, OneErase, FewEach, OldestIs}

-- a chip full of zero bytes, formatted
abbrev pub formatted : Image
formatted = (outcome_of 2 2 (replicate 1536 0) 1000 format).image

abbrev pub seven : ℕ → Request
seven v = put 7 (v ∷ [])

-- two puts fill the segment, the third compacts; the fourth is cut in the header of its target, which the recovery erases
abbrev pub cut_off : List Call
cut_off = whole (seven 1) ∷ whole (seven 2) ∷ whole (seven 3) ∷ call (seven 4) 5 ∷ []

abbrev pub worn : List Call
worn = cut_off ++ (whole recover ∷ [])

-- a put is cut in its slot, the next one right after the owing mark, and its recovery after the erase: the slot that the compaction leaves behind became dead by a cut
abbrev pub unpaid : List Call
unpaid = whole (seven 1) ∷ call (seven 2) 3 ∷ whole recover ∷ call (seven 3) 28 ∷ call recover 2 ∷ whole recover ∷ []

-- no cut: five puts and a delete
abbrev pub plain : List Call
plain = whole (seven 1) ∷ whole (seven 2) ∷ whole (seven 3) ∷ whole (seven 4) ∷ whole (seven 5) ∷ whole (delete 7) ∷ []

-- what is counted of them
abbrev pub turns_for : List Call → List Turn
turns_for xs = turns_of 2 2 formatted xs

-- all that the store computes with unfolds where this name does, and all that is counted where the next does
unfoldable pub evaluate_turns : ℕ
unfolding evaluate turns_of play outcome_of work_of right_size segments_of pages_of run step with_segment reply_of bytes_read view blocks table_of recovered shown is_mark marks_in state
evaluate_turns = 0

unfoldable pub evaluate_counts : ℕ
unfolding count among removed inserted stored_after replaces start noted erase_count erases_of cut_seen cuts_in by_recovery marks_of noted_cut noted_as ledger_of
evaluate_counts = 0

-- a request with this answer; block 7 is stored from the first put on
abbrev saw : Request → ℕ → List ℕ → ℕ → Turn
saw r n es f = record { request = r; seen = answered (record { code = n; bytes = [] }); begun = es; marks = f; kept = 7 ∷ [] }

-- ---- E = F + K, and segment 0 has 1 + K more than segment 1

worn_turns : turns_for worn ≡ saw (seven 1) 0 [] 0 ∷ saw (seven 2) 0 [] 0 ∷ saw (seven 3) 0 (0 ∷ []) 1 ∷ saw (seven 4) 9 [] 0 ∷ saw recover 0 (0 ∷ []) 0 ∷ []
unfolding evaluate_turns
worn_turns = refl

-- F = 1, K = 1 and two erases begun, both on segment 0
pub worn_counts : (ledger_of (turns_for worn) start ≡ record { stored = 7 ∷ []; largest = 1; replaced = 2; erased = 0 ∷ 0 ∷ [] }) × (marks_of (turns_for worn) ≡ 1) × (cuts_in (turns_for worn) ≡ 1)
unfolding evaluate_counts
worn_counts = rw worn_turns (refl, refl, refl)

pub worn_few : FewBegun (turns_for worn)
unfolding evaluate_counts
worn_few = rw worn_turns (omega arith)

pub worn_within : Within (turns_for worn) (λ x. erases_of x (ledger_of (turns_for worn) start)) 0 1
unfolding evaluate_counts
worn_within = rw worn_turns (omega arith)

pub worn_reached : (erase_count (ledger_of (turns_for worn) start) ≡ marks_of (turns_for worn) + cuts_in (turns_for worn))
    × (erases_of 0 (ledger_of (turns_for worn) start) ≡ erases_of 1 (ledger_of (turns_for worn) start) + (1 + cuts_in (turns_for worn)))
unfolding evaluate_counts
worn_reached = rw worn_turns (refl, refl)

-- one more erase, without a cut, is excluded
pub worn_most : (FewBegun (turns_for worn ++ (saw recover 0 (0 ∷ []) 0 ∷ [])) → ⊥)
    × (Within (turns_for worn) (λ x. erases_of x (ledger_of (turns_for worn ++ (saw recover 0 (0 ∷ []) 0 ∷ [])) start)) 0 1 → ⊥)
unfolding evaluate_counts
worn_most = rw worn_turns ((λ h. omega (arith, h)), (λ h. omega (arith, h)))

-- the third put alone begins N-1 erases
pub worn_each : FewEach 2 (turns_for worn)
worn_each = rw worn_turns (omega arith, (omega arith, (omega arith, (omega arith, (omega arith, tt)))))

-- ---- a bound that R alone does not pay

unpaid_turns : turns_for unpaid ≡ saw (seven 1) 0 [] 0 ∷ saw (seven 2) 9 [] 0 ∷ saw recover 0 [] 0 ∷ saw (seven 3) 9 [] 1 ∷ saw recover 9 (0 ∷ []) 0 ∷ saw recover 0 [] 0 ∷ []
unfolding evaluate_turns
unpaid_turns = refl

-- F = 1, K = 3, L = 1 and R = 0: 1 is at most 0 + 3, and not at most 0
pub unpaid_counts : (ledger_of (turns_for unpaid) start ≡ record { stored = 7 ∷ []; largest = 1; replaced = 0; erased = 0 ∷ [] }) × (marks_of (turns_for unpaid) ≡ 1) × (cuts_in (turns_for unpaid) ≡ 3)
unfolding evaluate_counts
unpaid_counts = rw unpaid_turns (refl, refl, refl)

pub unpaid_paid : TidyingsPaid 2 2 (turns_for unpaid)
unfolding evaluate_counts
unpaid_paid = rw unpaid_turns (omega arith)

-- three tidyings more, without a rewrite or a cut, are excluded
pub unpaid_most : TidyingsPaid 2 2 (turns_for unpaid ++ (saw recover 0 [] 3 ∷ [])) → ⊥
unfolding evaluate_counts
unpaid_most = rw unpaid_turns (λ h. omega (arith, h))

-- the recovery that was cut has erased one segment; two in one run are excluded
pub unpaid_one : OneErase (turns_for unpaid)
unfolding evaluate_counts
unpaid_one = rw unpaid_turns (omega arith, (omega arith, (omega arith, (omega arith, (omega arith, (omega arith, tt))))))

pub not_two : OneErase (saw recover 9 (0 ∷ 1 ∷ []) 0 ∷ []) → ⊥
unfolding evaluate_counts
not_two h = omega (arith, h.0)

-- the chip tells as much: the smallest number in use is 1
pub unpaid_oldest : OldestIs 2 2 (play 2 2 formatted unpaid) (turns_for unpaid)
unfolding evaluate_turns evaluate_counts
unpaid_oldest = refl

-- ---- a bound that wants L

plain_turns : turns_for plain ≡ saw (seven 1) 0 [] 0 ∷ saw (seven 2) 0 [] 0 ∷ saw (seven 3) 0 (0 ∷ []) 1 ∷ saw (seven 4) 0 (1 ∷ []) 1 ∷ saw (seven 5) 0 (0 ∷ []) 1
    ∷ record { request = delete 7; seen = answered (record { code = 0; bytes = [] }); begun = []; marks = 0; kept = [] } ∷ []
unfolding evaluate_turns
plain_turns = refl

-- F = 3, L = 1 and R = 5: 3 is at most 5. With (N-1)B in place of (N-1)B - L it would be 6, and so it would with the blocks stored at the end for L
pub plain_counts : (ledger_of (turns_for plain) start ≡ record { stored = []; largest = 1; replaced = 5; erased = 0 ∷ 1 ∷ 0 ∷ [] }) × (marks_of (turns_for plain) ≡ 3)
unfolding evaluate_counts
plain_counts = rw plain_turns (refl, refl)

pub plain_paid : TidyingsPaid 2 2 (turns_for plain)
unfolding evaluate_counts
plain_paid = rw plain_turns (omega arith)
