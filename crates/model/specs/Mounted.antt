-- Request #102, "Mount once": the table of places that a caller lends, what a mount makes of it, and what binds a mounted call.
use Rattle.std.specs.Prelude.{ℕ, zero, suc, ◌+◌, ◌*◌, ◌≤◌, ◌≡◌, ◌≢◌, Bool, true, cond, ◌||◌, not, List, [], ◌∷◌, ◌++◌, length, get_or, drop, set, ltb, eqb}
use Rattle.model.specs.Chip.{Image, right_size}
use Rattle.model.specs.Slot.{most_contents, number_ok}
use Rattle.model.specs.State.{View, entries_in, holds, place_of, state, view}
use Rattle.model.specs.Steps.{slot_at}
use Rattle.model.specs.declared.Answer.{Answer}
use Rattle.model.specs.Answers.{code_of, Request, put, delete, Refusal, ◌when◌, first_of, length_ok, is_damaged, is_unfinished, Outcome, outcome_of, ReadOutcome, read_outcome}
use Rattle.model.specs.Sequences.{among}

-- ---- the table

-- 32-bit places, by block number
abbrev pub Places : Type 0
Places = List ℕ

-- one for each possible block number, and entry 0
abbrev pub least_places : ℕ
least_places = 65536

-- entry k: the offset of block k's live slot, or 0
unfoldable pub place_entry : ℕ → ℕ → View → ℕ → ℕ
place_entry N B v k = let p = place_of k v in cond (holds k (entries_in v)) (slot_at N B p.number p.slot * 256) 0

-- c entries, from entry k on
unfoldable pub places_from : ℕ → ℕ → View → ℕ → ℕ → Places
places_from N B v k zero = []
places_from N B v k (suc c) = place_entry N B v k ∷ places_from N B v (suc k) c

-- filled: entry 0 is 1, those past 65,535 stay
unfoldable pub filled_places : ℕ → ℕ → View → Places → Places
filled_places N B v t = 1 ∷ (places_from N B v 1 65535 ++ drop least_places t)

-- marked unusable: entry 0 is 0, and the rest means nothing
unfoldable pub unusable : Places → Places
unusable t = set t 0 0

-- ---- mounting

pub record MountOutcome : Type 0 where
  pub code : ℕ
  pub places : Places

-- what the code's answer says, with the table that it left
unfoldable pub mounted_as : Answer → Places → MountOutcome
mounted_as a t = record { code = code_of a; places = t }

-- what is asked first, of a mount and of every mounted call: the image's size, and then the table's
abbrev lent : ℕ → ℕ → Image → Places → List Refusal → List Refusal
lent N B s t rest = (1 when not (right_size N B s)) ∷ (10 when ltb (length t) least_places) ∷ rest

unfoldable pub mount_refusals : ℕ → ℕ → Image → Places → List Refusal
mount_refusals N B s t = let st = state N B s in lent N B s t ((4 when is_damaged st) ∷ (5 when is_unfinished st) ∷ [])

-- 1 and 10 don't touch the table, 4 and 5 mark it unusable
unfoldable pub mount_outcome : ℕ → ℕ → Image → Places → MountOutcome
mount_outcome N B s t = let code = first_of (mount_refusals N B s t) in
    record { code = code; places = cond (eqb code 0) (filled_places N B (view N B s) t) (cond (eqb code 4 || eqb code 5) (unusable t) t) }

-- image and table are in step: a mount would answer 0 and leave the table as it is
abbrev pub InStep : ℕ → ℕ → Image → Places → Type 0
InStep N B s t = mount_outcome N B s t ≡ record { code = 0; places = t }

-- ---- mounted calls

-- the refusals that bind every mounted call, with their exact conditions; 5 here is for a table that is not usable
unfoldable pub mounted_refusals : ℕ → ℕ → Image → Places → ℕ → Bool → List Refusal
mounted_refusals N B s t b taken = lent N B s t ((2 when not (number_ok b)) ∷ (3 when not taken) ∷ (5 when not (eqb (get_or t 0 0) 1)) ∷ [])

unfoldable pub mounted_refusal : ℕ → ℕ → Image → Places → ℕ → Bool → ℕ
mounted_refusal N B s t b taken = first_of (mounted_refusals N B s t b taken)

-- A mounted put or delete of block b, on image s with table t, gives outcome o and leaves table u.
-- Out of step only the first six hold: they leave open which of the codes an accepted call gives, its count of steps up to the allowance, image and table where it answers 0 or 9.
pub record Writes (N B b : ℕ) (taken : Bool) (codes : List ℕ) (r : Request) (allowance : ℕ) (o : Outcome) (s : Image) (t u : Places) : Type 0 where
  pub bound : mounted_refusal N B s t b taken ≢ 0 → o.code ≡ mounted_refusal N B s t b taken
  pub listed : mounted_refusal N B s t b taken ≡ 0 → among o.code codes ≡ true
  -- a refusal takes no step and touches neither image nor table
  pub refused : o.code ≢ 0 → o.code ≢ 9 → (o.count ≡ 0) × (o.image ≡ s) × (u ≡ t)
  pub cut : o.code ≡ 9 → get_or u 0 0 ≡ 0
  pub past : drop least_places u ≡ drop least_places t
  pub few : o.count ≤ allowance
  -- in step: the unmounted request, and in step again unless it answers 9
  pub same : InStep N B s t → o ≡ outcome_of N B s allowance r
  pub kept : InStep N B s t → o.code ≡ 0 → InStep N B o.image u

abbrev pub MountedPut : ℕ → ℕ → ℕ → List ℕ → ℕ → Outcome → Image → Places → Places → Type 0
MountedPut N B b c allowance o s t u = Writes N B b (length_ok (length c)) (0 ∷ 4 ∷ 5 ∷ 7 ∷ 8 ∷ 9 ∷ 11 ∷ []) (put b c) allowance o s t u

abbrev pub MountedDelete : ℕ → ℕ → ℕ → ℕ → Outcome → Image → Places → Places → Type 0
MountedDelete N B b allowance o s t u = Writes N B b true (0 ∷ 4 ∷ 5 ∷ 6 ∷ 9 ∷ []) (delete b) allowance o s t u

-- A mounted read of block b gives o. Out of step only the first four hold: they leave open which of the codes comes, and where in the image up to 248 bytes of contents are.
pub record MountedRead (N B b : ℕ) (o : ReadOutcome) (s : Image) (t : Places) : Type 0 where
  pub bound : mounted_refusal N B s t b true ≢ 0 → o.code ≡ mounted_refusal N B s t b true
  pub listed : mounted_refusal N B s t b true ≡ 0 → among o.code (0 ∷ 4 ∷ 5 ∷ 6 ∷ []) ≡ true
  pub refused : o.code ≢ 0 → (o.offset ≡ 0) × (o.length ≡ 0)
  pub inside : (o.offset + o.length ≤ length s) × (o.length ≤ most_contents)
  pub same : InStep N B s t → o ≡ read_outcome N B s b
