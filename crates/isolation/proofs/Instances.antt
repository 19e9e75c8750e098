-- Two tenants on small chips, computed: what each is told, where a run is cut because the chip is worn, and what it means that two lists of replies are the same as far as both go.
use Rattle.std.specs.Prelude.{ℕ, ◌≡◌, refl, List, [], ◌∷◌, ◌++◌, replicate, get_or}
use Rattle.std.proofs.Common.{ap, arith}
use Rattle.model.specs.Chip.{Image, Step, right_size, pages_of, with_segment, step, run}
use Rattle.model.specs.Header.{new_version}
use Rattle.model.specs.State.{segments_of, state, view}
use Rattle.model.specs.Steps.{on_page, slot_at, write_slot, open_segment, erase_first}
use Rattle.model.specs.Table.{live_between, table_of}
use Rattle.model.specs.Answers.{work_of, outcome_of}
use Rattle.model.specs.Histories.{Reply}
use Rattle.model.proofs.Laws.Bench.{evaluate}
use Rattle.shares.specs.Shares.{shares_of, range_ok, overlap, disjoint, quota_sum, shares_within, shares_ok, is_tenant, share_of, owns}
use Rattle.shares.specs.Layer.{Asked, puts, deletes, reads, block_asked, store_request, bounds, before_full, quota_used, rows, share_code, share_work, contents_asked, share_outcome}
use Rattle.isolation.specs.Law.{Call, served, reply_to, Told, told, before_worn, requests_of, replies_to, SameAsFar, formatted}

-- every definition unfolds where this name does
unfoldable computes : ℕ
unfolding evaluate right_size pages_of with_segment step run segments_of state view live_between table_of work_of outcome_of shares_of range_ok overlap disjoint quota_sum shares_within shares_ok is_tenant share_of owns block_asked store_request bounds before_full quota_used rows share_code share_work contents_asked share_outcome served reply_to told
computes = 0

-- ---- a chip of 3 segments with 2 slots: tenant 1 has the numbers 1 to 5 and two blocks, tenant 2 has 6 to 9 and one block

abbrev two : List ℕ
two = 1 ∷ 5 ∷ 2 ∷ 6 ∷ 9 ∷ 1 ∷ []

abbrev by : ℕ → Asked → Call
by a r = record { tenant = a; asked = r }

abbrev says : ℕ → List ℕ → Reply
says n c = record { code = n; bytes = c }

abbrev to : ℕ → Reply → Told
to a o = record { tenant = a; reply = o }

-- what tenants are told, on a chip full of zero bytes that was formatted
abbrev fresh : List Call → List Told
fresh xs = told 3 2 two (formatted 3 2 (replicate 2304 0) 1000) xs

-- what tenant 1 asks for among requests of tenant 2, and alone
abbrev mixed : List Call
mixed =
    by 1 (puts 3 (65 ∷ [])) ∷ by 2 (puts 6 (66 ∷ [])) ∷ by 1 (puts 6 (1 ∷ [])) ∷ by 2 (puts 7 (1 ∷ []))
    ∷ by 1 (reads 3 1) ∷ by 2 (reads 6 1) ∷ by 2 (deletes 6) ∷ by 1 (reads 4 1) ∷ []

abbrev alone : List Call
alone = by 1 (puts 3 (65 ∷ [])) ∷ by 1 (puts 6 (1 ∷ [])) ∷ by 1 (reads 3 1) ∷ by 1 (reads 4 1) ∷ []

-- contents come back to whoever reads; a foreign number is 12, a used quota 7, and a number without a block 6
mixed_told : fresh mixed ≡
    to 1 (says 0 []) ∷ to 2 (says 0 []) ∷ to 1 (says 12 []) ∷ to 2 (says 7 [])
    ∷ to 1 (says 0 (65 ∷ [])) ∷ to 2 (says 0 (66 ∷ [])) ∷ to 2 (says 0 []) ∷ to 1 (says 6 []) ∷ []
unfolding computes
mixed_told = refl

alone_told : fresh alone ≡ to 1 (says 0 []) ∷ to 1 (says 12 []) ∷ to 1 (says 0 (65 ∷ [])) ∷ to 1 (says 6 []) ∷ []
unfolding computes
alone_told = refl

-- tenant 1 asks for the same in both, and gets the same
same_asked : (requests_of 1 mixed ≡ puts 3 (65 ∷ []) ∷ puts 6 (1 ∷ []) ∷ reads 3 1 ∷ reads 4 1 ∷ []) × (requests_of 1 alone ≡ puts 3 (65 ∷ []) ∷ puts 6 (1 ∷ []) ∷ reads 3 1 ∷ reads 4 1 ∷ [])
unfolding requests_of
same_asked = (refl, refl)

same_got : (replies_to 1 (fresh mixed) ≡ says 0 [] ∷ says 12 [] ∷ says 0 (65 ∷ []) ∷ says 6 [] ∷ []) × (replies_to 1 (fresh alone) ≡ says 0 [] ∷ says 12 [] ∷ says 0 (65 ∷ []) ∷ says 6 [] ∷ [])
unfolding replies_to
same_got = rw (mixed_told, alone_told) (refl, refl)

-- tenant 2 asks for four things in the one, and gets four replies; in the other nothing
other : (requests_of 2 mixed ≡ puts 6 (66 ∷ []) ∷ puts 7 (1 ∷ []) ∷ reads 6 1 ∷ deletes 6 ∷ []) × (replies_to 2 (fresh mixed) ≡ says 0 [] ∷ says 7 [] ∷ says 0 (66 ∷ []) ∷ says 0 [] ∷ [])
    × (requests_of 2 alone ≡ []) × (replies_to 2 (fresh alone) ≡ [])
unfolding requests_of replies_to
other = rw (mixed_told, alone_told) (refl, refl, refl, refl)

-- nobody is answered 8, and so nothing is cut off
none_cut : before_worn (fresh mixed) ≡ fresh mixed
unfolding before_worn
none_cut = rw mixed_told refl

-- ---- a worn chip

abbrev slot : ℕ → ℕ → ℕ → List ℕ → List Step
slot n j b c = on_page (slot_at 3 2 n j) (write_slot b c)

-- blocks 3 and 6, and a put that needs a new segment is worn: it would give number 3, and the tally is 99,999
unfoldable spent : Image
spent = run 2 (erase_first 3 ++ (open_segment 3 2 (new_version 99999) 2 ++ (slot 2 0 3 (65 ∷ []) ++ slot 2 1 6 (66 ∷ [])))) (replicate 2304 0)

abbrev late : List Told
late = told 3 2 two spent (by 1 (reads 3 1) ∷ by 2 (puts 7 (1 ∷ [])) ∷ by 2 (puts 6 (1 ∷ [])) ∷ by 1 (deletes 3) ∷ [])

-- tenant 2 is answered 8, and tenant 1 is answered after that
late_told : late ≡ to 1 (says 0 (65 ∷ [])) ∷ to 2 (says 7 []) ∷ to 2 (says 8 []) ∷ to 1 (says 0 []) ∷ []
unfolding computes spent
late_told = refl

-- what counts ends before the 8
worn_cut : before_worn late ≡ to 1 (says 0 (65 ∷ [])) ∷ to 2 (says 7 []) ∷ []
unfolding before_worn
worn_cut = rw late_told refl

worn_got : (replies_to 1 (before_worn late) ≡ says 0 (65 ∷ []) ∷ []) × (replies_to 2 (before_worn late) ≡ says 7 [] ∷ [])
unfolding replies_to
worn_got = rw worn_cut (refl, refl)

-- ---- the same as far as both go: a code or contents that differ are seen, in the first reply and in the next; what only one list has is not

code_seen_lem : (p q : List Reply) → SameAsFar (says 0 [] ∷ p) (says 7 [] ∷ q) → ⊥
code_seen_lem p q h = omega (arith, ap (λ (o : Reply). o.code) h.0)

bytes_seen : (p q : List Reply) → SameAsFar (says 0 [] ∷ says 0 (65 ∷ []) ∷ p) (says 0 [] ∷ says 0 (66 ∷ []) ∷ q) → ⊥
bytes_seen p q h = omega (arith, ap (λ (o : Reply). get_or o.bytes 0 0) h.1.0)

as_far : SameAsFar (says 0 [] ∷ []) (says 0 [] ∷ says 7 [] ∷ []) × SameAsFar (says 0 [] ∷ says 7 [] ∷ []) (says 0 [] ∷ [])
as_far = ((refl, tt), (refl, tt))
