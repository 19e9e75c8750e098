-- Lists of shares, and tenants on small chips, computed: what the definitions give, and so which wrong ones they are not.
use Rattle.std.specs.Prelude.{ℕ, zero, suc, ◌≡◌, refl, true, false, List, [], ◌∷◌, ◌++◌, map, replicate}
use Rattle.model.specs.Chip.{Image, Step, right_size, pages_of, with_segment, step, run}
use Rattle.model.specs.Header.{Version, version1, new_version}
use Rattle.model.specs.State.{segments_of, state, view}
use Rattle.model.specs.Steps.{on_page, slot_at, programs, write_slot, open_segment, erase_first}
use Rattle.model.specs.Table.{live_between, table_of}
use Rattle.model.specs.Answers.{work_of}
use Rattle.model.proofs.Laws.Bench.{evaluate}
use Rattle.shares.specs.Shares.{shares_of, range_ok, overlap, disjoint, quota_sum, shares_within, shares_ok, is_tenant, share_of, owns}
use Rattle.shares.specs.Layer.{Asked, puts, deletes, reads, block_asked, store_request, bounds, before_full, quota_used, rows, share_code, share_work, contents_asked, share_outcome, gave_in}

-- every definition unfolds where this name does
unfoldable computes : ℕ
unfolding evaluate right_size pages_of with_segment step run segments_of state view live_between table_of work_of shares_of range_ok overlap disjoint quota_sum shares_within shares_ok is_tenant share_of owns block_asked store_request bounds before_full quota_used rows share_code share_work contents_asked share_outcome
computes = 0

-- ---- lists, on a chip of 3 segments with 2 slots, where C is 3

-- so many tenants, with one number each and a quota of 0
unfoldable crowd : ℕ → List ℕ
crowd zero = []
crowd (suc k) = suc k ∷ suc k ∷ 0 ∷ crowd k

right : List (List ℕ)
right =
    []
    ∷ (1 ∷ 5 ∷ 2 ∷ 6 ∷ 9 ∷ 1 ∷ [])
    ∷ (6 ∷ 9 ∷ 1 ∷ 1 ∷ 5 ∷ 2 ∷ [])
    ∷ (1 ∷ 65534 ∷ 3 ∷ [])
    ∷ (65534 ∷ 65534 ∷ 3 ∷ [])
    ∷ crowd 40
    ∷ []

wrong : List (List ℕ)
wrong =
    -- no multiple of three, and too many
    (1 ∷ [])
    ∷ (1 ∷ 5 ∷ [])
    ∷ (1 ∷ 5 ∷ 2 ∷ 6 ∷ [])
    ∷ crowd 41
    -- ranges that are empty, or have a number that is no block's
    ∷ (0 ∷ 5 ∷ 1 ∷ [])
    ∷ (1 ∷ 65535 ∷ 1 ∷ [])
    ∷ (5 ∷ 4 ∷ 1 ∷ [])
    -- a number in two of them: the last and the first, in either order; one inside the other, in either order; not next to each other in the list
    ∷ (1 ∷ 6 ∷ 2 ∷ 6 ∷ 9 ∷ 1 ∷ [])
    ∷ (6 ∷ 9 ∷ 1 ∷ 1 ∷ 6 ∷ 2 ∷ [])
    ∷ (1 ∷ 9 ∷ 1 ∷ 3 ∷ 4 ∷ 1 ∷ [])
    ∷ (3 ∷ 4 ∷ 1 ∷ 1 ∷ 9 ∷ 1 ∷ [])
    ∷ (1 ∷ 5 ∷ 1 ∷ 20 ∷ 29 ∷ 1 ∷ 5 ∷ 6 ∷ 1 ∷ [])
    -- quotas over C, summed wide
    ∷ (1 ∷ 5 ∷ 4 ∷ [])
    ∷ (1 ∷ 5 ∷ 2 ∷ 6 ∷ 9 ∷ 2 ∷ [])
    ∷ (1 ∷ 5 ∷ 4294967295 ∷ 6 ∷ 9 ∷ 1 ∷ [])
    ∷ []

right_taken : map (shares_ok 3 2) right ≡ replicate 6 true
unfolding computes crowd right
right_taken = refl

wrong_refused : map (shares_ok 3 2) wrong ≡ replicate 15 false
unfolding computes crowd wrong
wrong_refused = refl

-- ---- two tenants on that chip

abbrev two : List ℕ
two = 1 ∷ 5 ∷ 2 ∷ 6 ∷ 9 ∷ 1 ∷ []

-- a tenant who may store nothing
abbrev none : List ℕ
none = 1 ∷ 5 ∷ 0 ∷ []

abbrev slot : ℕ → ℕ → ℕ → List ℕ → List Step
slot n j b c = on_page (slot_at 3 2 n j) (write_slot b c)

-- blocks 3 and 5 of the first, block 6 of the second
unfoldable both : Version → Image
both ver = run 2 (erase_first 3 ++ (open_segment 3 2 ver 0 ++ (slot 0 0 3 (65 ∷ []) ++ (slot 0 1 6 (66 ∷ 67 ∷ []) ++ (open_segment 3 2 ver 1 ++ slot 1 0 5 (68 ∷ [])))))) (replicate 2304 0)

-- block 3 alone
unfoldable one : Image
one = run 2 (erase_first 3 ++ (open_segment 3 2 (new_version 0) 0 ++ slot 0 0 3 (65 ∷ []))) (replicate 2304 0)

-- blocks 3 and 6, and a put that needs a new segment is worn: it would give number 3, and the tally is 99,999
unfoldable spent : Image
spent = run 2 (erase_first 3 ++ (open_segment 3 2 (new_version 99999) 2 ++ (slot 2 0 3 (65 ∷ []) ++ slot 2 1 6 (66 ∷ [])))) (replicate 2304 0)

-- a tenant's request on an image by a list, and its answer
pub record Ask : Type 0 where
  pub tenant : ℕ
  pub asked : Asked

abbrev ask : ℕ → Asked → Ask
ask a r = record { tenant = a; asked = r }

abbrev codes : List ℕ → Image → List Ask → List ℕ
codes ns s xs = map (λ x. share_code 3 2 ns s x.tenant x.asked) xs

-- 12 for foreign numbers and unknown tenants, after 2 and before 3; 7 for a new block while the own quota is used; 14 for a short buffer
shared : codes two (both (new_version 0)) (
    ask 1 (puts 6 (1 ∷ [])) ∷ ask 2 (puts 3 (1 ∷ [])) ∷ ask 1 (reads 6 2) ∷ ask 2 (deletes 3) ∷ ask 1 (puts 10 (1 ∷ []))
    ∷ ask 0 (reads 3 1) ∷ ask 3 (reads 3 1) ∷ ask 1 (puts 0 []) ∷ ask 0 (puts 65535 []) ∷ ask 2 (puts 3 []) ∷ ask 1 (puts 3 [])
    ∷ ask 1 (puts 4 (1 ∷ [])) ∷ ask 1 (puts 3 (1 ∷ [])) ∷ ask 1 (puts 5 (1 ∷ [])) ∷ ask 2 (puts 7 (1 ∷ [])) ∷ ask 2 (deletes 6)
    ∷ ask 1 (reads 3 1) ∷ ask 2 (reads 6 1) ∷ ask 2 (reads 7 0) ∷ ask 1 (deletes 4) ∷ [])
    ≡ 12 ∷ 12 ∷ 12 ∷ 12 ∷ 12 ∷ 12 ∷ 12 ∷ 2 ∷ 2 ∷ 12 ∷ 3 ∷ 7 ∷ 0 ∷ 0 ∷ 7 ∷ 0 ∷ 0 ∷ 14 ∷ 6 ∷ 6 ∷ []
unfolding computes both
shared = refl

-- one below the quota there is room
room : codes two one (ask 1 (puts 4 (1 ∷ [])) ∷ ask 2 (puts 9 (1 ∷ [])) ∷ ask 2 (puts 10 (1 ∷ [])) ∷ []) ≡ 0 ∷ 0 ∷ 12 ∷ []
unfolding computes one
room = refl

-- 1 before 13, and 13 before 2
order : codes (1 ∷ 5 ∷ []) (both (new_version 0)) (ask 1 (puts 0 []) ∷ []) ++ codes (1 ∷ 5 ∷ []) [] (ask 1 (puts 0 []) ∷ []) ≡ 13 ∷ 1 ∷ []
unfolding computes both
order = refl

-- on images that were not written through this layer the store's 7 stands too: 3 are stored, which is C, and tenant 2 has none of its two
elsewhere : codes (1 ∷ 6 ∷ 1 ∷ 7 ∷ 9 ∷ 2 ∷ []) (both (new_version 0)) (ask 2 (puts 7 (1 ∷ [])) ∷ ask 1 (puts 3 (1 ∷ [])) ∷ []) ≡ 7 ∷ 0 ∷ []
unfolding computes both
elsewhere = refl

-- 3, 4, 5 and 11 before 7 of the quota, and that before 8
states : codes two (both version1) (ask 1 (puts 4 (1 ∷ [])) ∷ ask 1 (puts 3 (1 ∷ [])) ∷ ask 1 (reads 3 1) ∷ [])
    ++ (codes two spent (ask 2 (puts 7 (1 ∷ [])) ∷ ask 1 (puts 4 (1 ∷ [])) ∷ ask 1 (puts 3 (1 ∷ [])) ∷ [])
    ++ (codes two (replicate 2304 0) (ask 1 (puts 4 (1 ∷ [])) ∷ ask 1 (deletes 4) ∷ [])
    ++ (codes two (run 2 (on_page 2 (programs 0 (0x7F ∷ []))) one) (ask 1 (puts 4 (1 ∷ [])) ∷ ask 1 (reads 3 0) ∷ [])
    ++ (codes none (replicate 2304 0) (ask 1 (puts 4 (1 ∷ [])) ∷ []) ++ (codes none (run 2 (on_page 2 (programs 0 (0x7F ∷ []))) one) (ask 1 (puts 4 (1 ∷ [])) ∷ []) ++ codes none one (ask 1 (puts 4 []) ∷ ask 1 (puts 4 (1 ∷ [])) ∷ ask 1 (puts 3 (1 ∷ [])) ∷ []))))))
    ≡ 11 ∷ 11 ∷ 0 ∷ 7 ∷ 8 ∷ 8 ∷ 4 ∷ 4 ∷ 5 ∷ 5 ∷ 4 ∷ 5 ∷ 3 ∷ 7 ∷ 0 ∷ []
unfolding computes both spent one
states = refl

-- contents come back where the answer is 0, and the image is the store's
contents : ((share_outcome 3 2 two (both (new_version 0)) 2 (reads 6 3)).given ≡ 66 ∷ 67 ∷ []) × ((share_outcome 3 2 two (both (new_version 0)) 2 (reads 6 1)).given ≡ [])
unfolding computes both
contents = (refl, refl)

written : table_of 3 2 (share_outcome 3 2 two one 1 (puts 4 (1 ∷ []))).image ≡ record { block = 3; contents = 65 ∷ [] } ∷ record { block = 4; contents = 1 ∷ [] } ∷ []
unfolding computes one
written = refl

-- a buffer of three bytes has the two of the contents at its front; one of one byte stays as it was
lent : gave_in (share_outcome 3 2 two (both (new_version 0)) 2 (reads 6 3)) (1 ∷ 2 ∷ 3 ∷ []) ∷ gave_in (share_outcome 3 2 two (both (new_version 0)) 2 (reads 6 1)) (1 ∷ []) ∷ []
    ≡ record { code = 0; length = 2; buffer = 66 ∷ 67 ∷ 3 ∷ [] } ∷ record { code = 14; length = 0; buffer = 1 ∷ [] } ∷ []
unfolding computes both gave_in
lent = refl
