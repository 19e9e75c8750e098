-- A sequence on the smallest store, computed: demand 3's premises hold of it, and each must-fail edit of the statement is false of it.
use Rattle.std.specs.Prelude.{ℕ, ◌-◌, ◌*◌, ◌/◌, ◌≤◌, ◌<◌, ◌≡◌, refl, ◌≢◌, List, [], ◌∷◌, ◌++◌, length, replicate, take}
use Rattle.std.proofs.Common.{arith}
use Rattle.model.specs.Chip.{Image, Step, right_size, pages_of, with_segment, step, run}
use Rattle.model.specs.Header.{new_version}
use Rattle.model.specs.State.{segments_of, view}
use Rattle.model.specs.Steps.{on_page, slot_at, write_slot, open_segment, format_steps}
use Rattle.model.specs.Table.{blocks, table_of}
use Rattle.model.specs.Answers.{format, put, delete, work_of, outcome_of}
use Rattle.model.specs.Sequences.{Call, Observed, observe, observed, Uncut, start, ledger, erase_count, erases_of}
use Rattle.model.proofs.Laws.Bench.{evaluate}
use Rattle.wear.specs.Demand3.{stocked, ErasesPaid}

abbrev pub made : Image
made = (outcome_of 2 2 (replicate 1536 0) 1000 format).image

-- block 7 put five times, with one byte, and deleted
abbrev pub calls : List ℕ → List Call
calls [] = record { request = delete 7; allowance = 1000 } ∷ []
calls (v ∷ vs) = record { request = put 7 (v ∷ []); allowance = 1000 } ∷ calls vs

unfoldable pub seen : List Observed
seen = observed 2 2 made (calls (1 ∷ 2 ∷ 3 ∷ 4 ∷ 5 ∷ []))

pub format_answers : (outcome_of 2 2 (replicate 1536 0) 1000 format).code ≡ 0
unfolding evaluate outcome_of work_of right_size segments_of pages_of
format_answers = refl

-- a put of this byte that answered 0
abbrev done : ℕ → List ℕ → Observed
done v es = record { request = put 7 (v ∷ []); code = 0; erases = es }

computed : seen ≡ done 1 [] ∷ done 2 [] ∷ done 3 (0 ∷ []) ∷ done 4 (1 ∷ []) ∷ done 5 (0 ∷ []) ∷ record { request = delete 7; code = 0; erases = [] } ∷ []
unfolding evaluate seen observed observe outcome_of work_of right_size segments_of pages_of run step with_segment
computed = refl

pub uncut : Uncut seen
uncut = rw computed (byte 1 (omega arith), other, (byte 2 (omega arith), other, (byte 3 (omega arith), other, (byte 4 (omega arith), other, (byte 5 (omega arith), other, (tt, other, tt))))))
  where
    byte : (v : ℕ) → v < 256 → (v < 256) × Unit {0}
    byte v h = (h, tt)

    other : ◌≢◌ {A = ℕ} 0 9
    other p = omega arith

pub counted : ledger seen start ≡ record { stored = []; largest = 1; replaced = 5; erased = 0 ∷ 1 ∷ 0 ∷ [] }
unfolding evaluate
counted = rw computed

-- E = 3 and R = 5: with (N-1)B in place of (N-1)B - L the bound fails, and so it does with the blocks stored at the end for L
pub bound_needs_largest : erase_count (ledger seen start) / (2 - 1) * ((2 - 1) * 2) ≤ (ledger seen start).replaced → ⊥
unfolding evaluate
bound_needs_largest h = let f = rw counted at h in omega arith

pub bound_needs_most : erase_count (ledger seen start) / (2 - 1) * ((2 - 1) * 2 - length (ledger seen start).stored) ≤ (ledger seen start).replaced → ⊥
unfolding evaluate
bound_needs_most h = let f = rw counted at h in omega arith

-- after three puts segment 0 has an erase and segment 1 has none
pub balance_needs_one : erases_of 0 (ledger (take 3 seen) start) ≤ erases_of 1 (ledger (take 3 seen) start) → ⊥
unfolding evaluate erases_of
balance_needs_one h = let f = rw computed at h in omega arith

-- the third put alone erases N-1 segments
pub request_needs_all : (erase_count (ledger (take 2 seen) start) ≡ 0) × (erase_count (ledger (take 3 seen) start) ≡ 2 - 1)
unfolding evaluate
request_needs_all = rw computed (refl, refl)

-- ---- a sequence that starts with a table stored

abbrev slot : ℕ → ℕ → ℕ → List Step
slot n j b = on_page (slot_at 3 2 n j) (write_slot b (65 ∷ []))

-- three blocks on a chip of 3 segments with 2 slots: 4, 9, and 300 in the second segment
unfoldable pub stock : Image
stock = run 2 (format_steps 3 2 ++ (slot 0 0 4 ++ (slot 0 1 9 ++ (open_segment 3 2 (new_version 0) 1 ++ slot 1 0 300)))) (replicate 2304 0)

-- 9 rewritten twice, then 300
abbrev rewrites : List Call
rewrites = record { request = put 9 (1 ∷ []); allowance = 1000 } ∷ record { request = put 9 (2 ∷ []); allowance = 1000 } ∷ record { request = put 300 (3 ∷ []); allowance = 1000 } ∷ []

-- E = 2, R = 3 and L = 3, which counts the blocks that were there
pub stocked_count : ledger (observed 3 2 stock rewrites) (stocked (table_of 3 2 stock)) ≡ record { stored = 300 ∷ 9 ∷ 4 ∷ []; largest = 3; replaced = 3; erased = 0 ∷ 1 ∷ [] }
unfolding evaluate stock stocked blocks table_of view observed observe outcome_of work_of right_size segments_of pages_of run step with_segment
stocked_count = refl

-- counted as from an empty store the bound fails: E = 2, R = 1 and L = 2
pub bound_needs_stock : ErasesPaid 3 2 (ledger (observed 3 2 stock rewrites) start) → ⊥
unfolding evaluate stock observed observe outcome_of work_of right_size segments_of pages_of run step with_segment
bound_needs_stock h = omega arith
