-- Bench examples 5 and 9 as instances of demand 3: their sequences computed, their E, R and L, and the theorem applied to them.
use Rattle.std.specs.Prelude.{ℕ, ◌<◌, ◌≡◌, refl, ◌≢◌, List, [], ◌∷◌, replicate}
use Rattle.std.proofs.Common.{arith}
use Rattle.model.specs.Chip.{Image, image_length, right_size, pages_of, with_segment, step, run}
use Rattle.model.specs.State.{segments_of}
use Rattle.model.specs.Answers.{format, put, work_of, outcome_of}
use Rattle.model.specs.Sequences.{Call, Observed, observe, observed, Uncut, start, ledger}
use Rattle.model.proofs.Laws.Bench.{evaluate}
use Rattle.wear.specs.Demand3.{Bounded}
use Rattle.wear.proofs.Sequence.{demand3}

-- a chip full of zero bytes, formatted
abbrev fresh : ℕ → ℕ → Image
fresh N B = (outcome_of N B (replicate (image_length N B) 0) 1000 format).image

-- each of these blocks put with one byte
abbrev puts : List ℕ → List Call
puts [] = []
puts (b ∷ bs) = record { request = put b (1 ∷ []); allowance = 1000 } ∷ puts bs

-- a put of this block that answered 0, with its erases
abbrev done : ℕ → List ℕ → Observed
done b es = record { request = put b (1 ∷ []); code = 0; erases = es }

one : (b : ℕ) → (1 < 256) × Unit {0}
one b = (omega arith, tt)

other : ◌≢◌ {A = ℕ} 0 9
other p = omega arith

-- ---- example 5: block 7 put three times

formats_5 : (outcome_of 2 2 (replicate (image_length 2 2) 0) 1000 format).code ≡ 0
unfolding evaluate outcome_of work_of right_size segments_of pages_of
formats_5 = refl

seen_5 : observed 2 2 (fresh 2 2) (puts (7 ∷ 7 ∷ 7 ∷ [])) ≡ done 7 [] ∷ done 7 [] ∷ done 7 (0 ∷ []) ∷ []
unfolding evaluate observed observe outcome_of work_of right_size segments_of pages_of run step with_segment
seen_5 = refl

uncut_5 : Uncut (observed 2 2 (fresh 2 2) (puts (7 ∷ 7 ∷ 7 ∷ [])))
uncut_5 = rw seen_5 (one 7, other, (one 7, other, (one 7, other, tt)))

-- E = 1, R = 2, L = 1
pub example_5 : ledger (observed 2 2 (fresh 2 2) (puts (7 ∷ 7 ∷ 7 ∷ []))) start ≡ record { stored = 7 ∷ []; largest = 1; replaced = 2; erased = 0 ∷ [] }
unfolding evaluate
example_5 = rw seen_5

pub bounded_5 : Bounded 2 2 start (observed 2 2 (fresh 2 2) (puts (7 ∷ 7 ∷ 7 ∷ [])))
bounded_5 = demand3 2 2 (replicate (image_length 2 2) 0) 1000 (puts (7 ∷ 7 ∷ 7 ∷ [])) formats_5 uncut_5

-- ---- example 9: blocks 1, 2, 3, then 3 twice more, of which the last tidies twice

formats_9 : (outcome_of 3 2 (replicate (image_length 3 2) 0) 1000 format).code ≡ 0
unfolding evaluate outcome_of work_of right_size segments_of pages_of
formats_9 = refl

seen_9 : observed 3 2 (fresh 3 2) (puts (1 ∷ 2 ∷ 3 ∷ 3 ∷ 3 ∷ [])) ≡ done 1 [] ∷ done 2 [] ∷ done 3 [] ∷ done 3 [] ∷ done 3 (0 ∷ 1 ∷ []) ∷ []
unfolding evaluate observed observe outcome_of work_of right_size segments_of pages_of run step with_segment
seen_9 = refl

uncut_9 : Uncut (observed 3 2 (fresh 3 2) (puts (1 ∷ 2 ∷ 3 ∷ 3 ∷ 3 ∷ [])))
uncut_9 = rw seen_9 (one 1, other, (one 2, other, (one 3, other, (one 3, other, (one 3, other, tt)))))

-- E = 2, R = 2, L = 3
pub example_9 : ledger (observed 3 2 (fresh 3 2) (puts (1 ∷ 2 ∷ 3 ∷ 3 ∷ 3 ∷ []))) start ≡ record { stored = 3 ∷ 2 ∷ 1 ∷ []; largest = 3; replaced = 2; erased = 0 ∷ 1 ∷ [] }
unfolding evaluate
example_9 = rw seen_9

pub bounded_9 : Bounded 3 2 start (observed 3 2 (fresh 3 2) (puts (1 ∷ 2 ∷ 3 ∷ 3 ∷ 3 ∷ [])))
bounded_9 = demand3 3 2 (replicate (image_length 3 2) 0) 1000 (puts (1 ∷ 2 ∷ 3 ∷ 3 ∷ 3 ∷ [])) formats_9 uncut_9
