-- What is counted of turns written down by hand: after a cut what is kept is stored, and R counts only what was acknowledged.
use Rattle.std.specs.Prelude.{ℕ, ◌≡◌, refl, List, [], ◌∷◌, ◌++◌}
use Rattle.std.proofs.Common.{arith}
use Rattle.model.specs.Answers.{Request, put, delete, recover}
use Rattle.model.specs.Histories.{Seen, answered, lost}
use Rattle.model.specs.Sequences.{among, removed, inserted, stored_after, replaces, start, noted}
use Rattle.model.specs.Begun.{Turn, cut_seen, cuts_in}
use Rattle.wear_counts.specs.Counts.{marks_of, noted_cut, noted_as, ledger_of}
use Rattle.wear_counts.specs.Law.{TidyingsPaid}

abbrev turn : Request → Seen → List ℕ → ℕ → List ℕ → Turn
turn r o es f kept = record { request = r; seen = o; begun = es; marks = f; kept = kept }

abbrev answer : ℕ → Seen
answer n = answered (record { code = n; bytes = [] })

-- a put is lost after its last step, with a tidying in it, and its block rewritten; a delete is lost after it was done, and so is a recovery; a put is refused, one done, and one lost after it was done.
-- R is 1, the rewrite, and L is 3, of what a recovery would show
torn : List Turn
torn = turn (put 1 (9 ∷ [])) (answer 0) [] 0 (1 ∷ []) ∷ turn (put 2 (9 ∷ [])) lost (0 ∷ []) 1 (2 ∷ 1 ∷ []) ∷ turn (put 2 (9 ∷ [])) (answer 0) [] 0 (2 ∷ 1 ∷ [])
    ∷ turn (delete 2) lost [] 0 (1 ∷ []) ∷ turn recover lost [] 0 (1 ∷ []) ∷ turn (put 1 []) (answer 3) [] 0 (1 ∷ []) ∷ turn (put 3 (9 ∷ [])) (answer 0) [] 0 (3 ∷ 1 ∷ [])
    ∷ turn (put 4 (9 ∷ [])) lost (1 ∷ []) 1 (4 ∷ 3 ∷ 1 ∷ []) ∷ []

torn_counted : ledger_of torn start ≡ record { stored = 4 ∷ 3 ∷ 1 ∷ []; largest = 3; replaced = 1; erased = 0 ∷ 1 ∷ [] }
unfolding torn among removed inserted stored_after replaces start noted noted_cut noted_as ledger_of
torn_counted = refl

-- F = 2 and K = 4
torn_cuts : marks_of torn ∷ cuts_in torn ∷ [] ≡ 2 ∷ 4 ∷ []
unfolding torn marks_of cut_seen cuts_in
torn_cuts = refl

-- a delete that is lost after it was done: fewer are stored, and L stays
torn_after : ledger_of (torn ++ (turn (delete 4) lost [] 0 (3 ∷ 1 ∷ []) ∷ [])) start ≡ record { stored = 3 ∷ 1 ∷ []; largest = 3; replaced = 1; erased = 0 ∷ 1 ∷ [] }
unfolding torn among removed inserted stored_after replaces start noted noted_cut noted_as ledger_of
torn_after = refl

-- ---- the bound with three segments of two slots

-- three cuts, block 1 kept by each, and so many tidyings: L = 1 and R = 0
abbrev tidied : ℕ → List Turn
tidied f = turn recover lost [] f (1 ∷ []) ∷ turn recover lost [] 0 (1 ∷ []) ∷ turn recover lost [] 0 (1 ∷ []) ∷ []

-- three tidyings go into N-1 once, which makes 3, at most K; four go twice, which makes 6
bound_whole : TidyingsPaid 3 2 (tidied 3)
unfolding start cut_seen cuts_in marks_of noted_cut noted_as ledger_of
bound_whole = omega arith

bound_most : TidyingsPaid 3 2 (tidied 4) → ⊥
unfolding start cut_seen cuts_in marks_of noted_cut noted_as ledger_of
bound_most h = omega (arith, h)
