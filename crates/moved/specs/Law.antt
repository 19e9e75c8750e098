-- Request #106: what a move gives, whatever source and target are; and demands 2 and 3, counted from the finished target.
-- The source s has N segments with B slots, the target t has M with D.
use Rattle.std.specs.Prelude.{ℕ, zero, suc, ◌+◌, ◌-◌, ◌*◌, ◌/◌, ◌≡◌, ◌⊎◌, ◌≢◌, false, List, length}
use Rattle.model.specs.Chip.{Image, Bytes, Cut}
use Rattle.model.specs.Header.{new_version}
use Rattle.model.specs.State.{state, clean, view}
use Rattle.model.specs.Table.{Agree, table_of}
use Rattle.model.specs.Histories.{Event, History}
use Rattle.model.specs.Sequences.{Call, observed, Uncut}
use Rattle.crash.specs.Machine.{Promise, settled, PlainRuns}
use Rattle.crash.specs.Demand2.{Keeps, board}
use Rattle.model.specs.Answers.{Work, worked}
use Rattle.model.specs.Mounted.{Places}
use Rattle.wear.specs.Demand3.{stocked, Bounded}
use Rattle.sessions.specs.Law.{Turn, Session, events_in, Observes, Unbroken}
use Rattle.moves.specs.Moves.{by_number, move_work, move_outcome}
use Rattle.moves.proofs.Counted.{slot_steps}

-- the target as a move leaves it
abbrev pub target_after : ℕ → ℕ → Image → ℕ → ℕ → Image → ℕ → Image
target_after N B s M D t allowance = (move_outcome N B s M D t allowance).image

-- a move that answered 0, of a source of bytes
abbrev pub Finished : ℕ → ℕ → Image → ℕ → ℕ → Image → ℕ → Type 0
Finished N B s M D t allowance = Bytes s × ((move_outcome N B s M D t allowance).code ≡ 0)

-- "No refusal changes a byte": it takes no step. The source is written by none: it is no part of what a move leaves
abbrev pub RefusedUnchanged : Type 0
RefusedUnchanged = (N B : ℕ) (s : Image) (M D : ℕ) (t : Image) (allowance : ℕ) → let o = move_outcome N B s M D t allowance in
    o.code ≢ 0 → o.code ≢ 9 → (o.count ≡ 0) × (o.image ≡ t)

-- "a fresh version 2 image of the wanted geometry with the same table of blocks": clean, of version 2 with a tally of 0, and with the contents of the source for all block numbers at once
abbrev pub SameTable : Type 0
SameTable = (N B : ℕ) (s : Image) (M D : ℕ) (t : Image) (allowance : ℕ) → Finished N B s M D t allowance → let u = target_after N B s M D t allowance in
    (state M D u ≡ clean) × ((view M D u).version ≡ new_version 0) × Agree (table_of M D u) (table_of N B s)

-- "Two clean sources with equal tables give equal targets of one geometry where both answer 0", byte for byte, whatever the targets held before
abbrev pub EqualTargets : Type 0
EqualTargets = (N B : ℕ) (s : Image) (P Q : ℕ) (r : Image) (M D : ℕ) (t u : Image) (a b : ℕ) → Finished N B s M D t a → Finished P Q r M D u b → Agree (table_of N B s) (table_of P Q r)
    → target_after N B s M D t a ≡ target_after P Q r M D u b

-- The steps: M erases, 21 for the opening of the first segment and of each further one, which is opened when a block needs it, and 5 and its length for each block.
abbrev pub StepCount : Type 0
StepCount = (N B : ℕ) (s : Image) (M D : ℕ) (t : Image) (allowance : ℕ) → Finished N B s M D t allowance
    → let blocks = table_of N B s in (move_outcome N B s M D t allowance).count ≡ M + 21 * (1 + (length blocks - 1) / D) + slot_steps blocks

-- ---- "after a 9 it is begun again"

-- what so many builds leave, one after the other from t on, of a request that does this work on an image: each with the power lost between steps or inside one, or under some allowance
abbrev pub Tried : (Image → Work) → ℕ → ℕ → Image → Image → Type 0
Tried work D zero t u = u ≡ t
Tried work D (suc k) t u = (m : Image) × (Cut D (work t).steps t m ⊎ ((allowance : ℕ) × (m ≡ (worked D (work t) t allowance).image))) × Tried work D k m u

-- Of a target as a cut move leaves it nothing is promised. Begun again there, the move answers and steps as if none had been cut, and if it finishes, it leaves the same bytes.
abbrev pub BegunAgain : Type 0
BegunAgain = (N B : ℕ) (s : Image) (M D k : ℕ) (t u : Image) (allowance : ℕ) → Bytes s → Tried (move_work N B s M D) D k t u → let o = move_outcome N B s M D t allowance in let again = move_outcome N B s M D u allowance in
    (again.code ≡ o.code) × (again.count ≡ o.count) × (o.code ≡ 0 → again.image ≡ o.image)

-- ---- "Demands 2 and 3 count from the finished target as from a format, with the blocks carried over stored at its start"

-- Every history from a finished target is one of the plain table, which starts with the blocks carried over, and its last image keeps the last promise.
abbrev pub MovedDemand2 : Type 0
MovedDemand2 = (N B : ℕ) (s : Image) (M D : ℕ) (t u : Image) (allowance : ℕ) (es : List Event) → Finished N B s M D t allowance → History M D (target_after N B s M D t allowance) es u
    → (x : Promise) × PlainRuns (board M D false) (settled (by_number (table_of N B s))) es x × Keeps M D u x

-- Every sequence from a finished target without a cut or a format is bounded as demand 3 says, with the blocks carried over stored at its start.
abbrev pub MovedDemand3 : Type 0
MovedDemand3 = (N B : ℕ) (s : Image) (M D : ℕ) (t : Image) (allowance : ℕ) (xs : List Call) → Finished N B s M D t allowance → Uncut (observed M D (target_after N B s M D t allowance) xs)
    → Bounded M D (stocked (table_of N B s)) (observed M D (target_after N B s M D t allowance) xs)

-- The same of sessions with mounts and mounted calls (request #102) on the finished target.
abbrev pub MovedSessions2 : Type 0
MovedSessions2 = (N B : ℕ) (s : Image) (M D : ℕ) (t u : Image) (allowance : ℕ) (p : Places) (es : List Turn) → Finished N B s M D t allowance → Session M D false (target_after N B s M D t allowance) p es u
    → (x : Promise) × PlainRuns (board M D false) (settled (by_number (table_of N B s))) (events_in es) x × Keeps M D u x

abbrev pub MovedSessions3 : Type 0
MovedSessions3 = (N B : ℕ) (s : Image) (M D : ℕ) (t u : Image) (allowance : ℕ) (p : Places) (es : List Turn) → Finished N B s M D t allowance → Session M D false (target_after N B s M D t allowance) p es u → Unbroken (events_in es)
    → (xs : List Call) × Observes (events_in es) (observed M D (target_after N B s M D t allowance) xs) × Bounded M D (stocked (table_of N B s)) (observed M D (target_after N B s M D t allowance) xs)
