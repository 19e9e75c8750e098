-- Request #102, "answers, images and step counts equal those of the unmounted calls", over runs of mounted calls of any length; and demands 2 and 3 of sessions with mounts, mounted calls, unmounted requests and cuts.
use Rattle.std.specs.Prelude.{ℕ, ◌+◌, ◌≤◌, ◌≡◌, ◌⊎◌, ◌≢◌, Bool, true, false, not, List, [], ◌∷◌, length, get_or, take, drop, eqb}
use Rattle.model.specs.Chip.{Image, Cut, right_size}
use Rattle.model.specs.Slot.{number_ok}
use Rattle.model.specs.Answers.{Request, format, put, delete, read, read_or, recover, work_of, outcome_of, ReadOutcome, read_outcome}
use Rattle.model.specs.Histories.{bytes_read, Seen, answered, lost, Proper, Does, wears, Event}
use Rattle.model.specs.Sequences.{Call, Observed, observed, InSequence, start}
use Rattle.model.specs.Mounted.{Places, least_places, mount_outcome, InStep, MountedPut, MountedDelete, MountedRead}
use Rattle.crash.specs.Machine.{Promise, unknown, PlainRuns}
use Rattle.crash.specs.Demand2.{Keeps, board}
use Rattle.wear.specs.Demand3.{Bounded}

-- ---- the table

-- entry k, and what a read of block k gives: the contents begin 8 bytes after the slot's place, and the entry of a block that is not stored is 0
abbrev pub EntryReads : ℕ → ReadOutcome → Type 0
EntryReads e o = ((o.code ≡ 0) × (o.offset ≡ e + 8)) ⊎ ((o.code ≡ 6) × (e ≡ 0))

-- A mount that answers 0 fills the table with what reads tell. Entry 65,535, which is no block's, is 0; those past it stay.
abbrev pub MountFills : Type 0
MountFills = (N B : ℕ) (s : Image) (t : Places) → (mount_outcome N B s t).code ≡ 0
    → let u = (mount_outcome N B s t).places in
    (get_or u 0 0 ≡ 1) × ((k : ℕ) → number_ok k ≡ true → EntryReads (get_or u k 0) (read_outcome N B s k)) × (get_or u 65535 0 ≡ 0) × (drop least_places u ≡ drop least_places t)

-- ---- runs

-- what a call gives: its answer, the count of steps, the contents read, and the image that it leaves
pub record Given : Type 0 where
  pub code : ℕ
  pub count : ℕ
  pub bytes : List ℕ
  pub image : Image

-- the unmounted call
unfoldable pub given_by : ℕ → ℕ → Image → Call → Given
given_by N B s x = let o = outcome_of N B s x.allowance x.request in record { code = o.code; count = o.count; bytes = bytes_read N B s x.request; image = o.image }

-- one after the other, each on the image that the one before left
unfoldable pub given_all : ℕ → ℕ → Image → List Call → List Given
given_all N B s [] = []
given_all N B s (x ∷ xs) = given_by N B s x ∷ given_all N B (given_by N B s x).image xs

-- A mounted call on image s with table t gives g and leaves table u: whatever its contract allows. Only put, delete and read have a mounted form.
abbrev pub Calls : ℕ → ℕ → Request → ℕ → Given → Image → Places → Places → Type 0
Calls N B format allowance g s t u = ⊥
Calls N B (put b c) allowance g s t u = MountedPut N B b c allowance (record { code = g.code; count = g.count; image = g.image }) s t u × (g.bytes ≡ [])
Calls N B (delete b) allowance g s t u = MountedDelete N B b allowance (record { code = g.code; count = g.count; image = g.image }) s t u × (g.bytes ≡ [])
Calls N B (read b) allowance g s t u =
    (o : ReadOutcome) × MountedRead N B b o s t × (g ≡ record { code = o.code; count = 0; bytes = take o.length (drop o.offset s); image = s }) × (u ≡ t)
Calls N B (read_or b f) allowance g s t u = ⊥
Calls N B recover allowance g s t u = ⊥

-- each call on image and table as the one before left them, up to the first that answers 9; the table after the last is u
abbrev pub Runs : ℕ → ℕ → Image → Places → List Call → List Given → Places → Type 0
Runs N B s t [] [] u = u ≡ t
Runs N B s t [] (g ∷ gs) u = ⊥
Runs N B s t (x ∷ xs) [] u = ⊥
Runs N B s t (x ∷ xs) (g ∷ gs) u = (m : Places) × Calls N B x.request x.allowance g s t m × ((g.code ≢ 9) ⊎ (xs ≡ [])) × Runs N B g.image m xs gs u

-- the image after the last
unfoldable pub last_image : Image → List Given → Image
last_image s [] = s
last_image s (g ∷ gs) = last_image g.image gs

abbrev pub NoneCut : List Given → Type 0
NoneCut [] = Unit {0}
NoneCut (g ∷ gs) = (g.code ≢ 9) × NoneCut gs

-- From a mount that answered 0, any list of mounted calls with any arguments and allowances, up to the first that answers 9, gives the answers, step counts, contents and images of the same unmounted calls, one by one;
-- and as long as none has answered 9, image and table are in step.
abbrev pub MountedRuns : Type 0
MountedRuns = (N B : ℕ) (s : Image) (t u : Places) (xs : List Call) (gs : List Given) → (mount_outcome N B s t).code ≡ 0 → Runs N B s (mount_outcome N B s t).places xs gs u
    → (gs ≡ given_all N B s xs) × (NoneCut gs → InStep N B (last_image s gs) u)

-- After a 9, and after a loss of power, comes a recovery. Once one has answered 0, a mount answers 0, whatever a table that is long enough held before.
abbrev pub RecoveredMounts : Type 0
RecoveredMounts = (N B : ℕ) (s : Image) (t : Places) (allowance : ℕ) → (outcome_of N B s allowance recover).code ≡ 0 → least_places ≤ length t
    → (mount_outcome N B (outcome_of N B s allowance recover).image t).code ≡ 0

-- ---- sessions

-- an unmounted request; a mount, with its answer; a mounted call
pub data Turn : Type 0 where
  plain : Event → Turn
  mount : ℕ → Turn
  call : Event → Turn

-- what a mounted call shows and leaves. A loss of power leaves what it leaves of the unmounted request's steps, since under each allowance the steps done are those; of the table nothing is left
abbrev pub CallDoes : ℕ → ℕ → Request → Seen → Image → Places → Image → Places → Type 0
CallDoes N B r (answered o) s t m u = (allowance : ℕ) × ((g : Given) × Calls N B r allowance g s t u × (o ≡ record { code = g.code; bytes = g.bytes }) × (m ≡ g.image))
CallDoes N B r lost s t m u = Cut B (work_of N B s r).steps s m

unfoldable pub stays : Seen → Bool
stays (answered o) = not (eqb o.code 9)
stays lost = false

-- A session: the table is usable and, with the image, as the mount or the last mounted call left it; or it is not (`ready`). A mounted call wants it so. A mount may be lent any table, and the session goes on with that one, or, where it was another, with the one before.
abbrev pub Session : ℕ → ℕ → Bool → Image → Places → List Turn → Image → Type 0
Session N B ready s t [] u = u ≡ s
Session N B ready s t (plain e ∷ es) u =
    Proper e.request × (e.worn ≡ wears N B s) × ((m : Image) × Does N B e.request e.seen s m × (((m ≡ s) × Session N B ready s t es u) ⊎ Session N B false m t es u))
Session N B ready s t (mount code ∷ es) u =
    (lent : Places) × (code ≡ (mount_outcome N B s lent).code) × (Session N B (eqb code 0) s (mount_outcome N B s lent).places es u ⊎ Session N B ready s t es u)
Session N B true s t (call e ∷ es) u =
    Proper e.request × (e.worn ≡ wears N B s) × ((m : Image) × (w : Places) × CallDoes N B e.request e.seen s t m w × Session N B (stays e.seen) m w es u)
Session N B false s t (call e ∷ es) u = ⊥

-- its requests, mounted or not
unfoldable pub events_in : List Turn → List Event
events_in [] = []
events_in (plain e ∷ es) = e ∷ events_in es
events_in (mount code ∷ es) = events_in es
events_in (call e ∷ es) = e ∷ events_in es

-- Demand 2 of sessions: the requests are a history of the plain table, and the last image keeps the last promise. After a 9 or a loss of power a session goes on with a recovery and a mount.
abbrev pub MountedDemand2 : Type 0
MountedDemand2 = (N B : ℕ) (s u : Image) (t : Places) (es : List Turn) → right_size N B s ≡ true → Session N B false s t es u
    → (x : Promise) × PlainRuns (board N B false) unknown (events_in es) x × Keeps N B u x

-- the requests of a session are these calls: the same requests with the same answers
abbrev pub Observes : List Event → List Observed → Type 0
Observes [] [] = Unit {0}
Observes [] (o ∷ os) = ⊥
Observes (e ∷ es) [] = ⊥
Observes (e ∷ es) (o ∷ os) = (e.request ≡ o.request) × ((reply : _) × (e.seen ≡ answered reply) × (reply.code ≡ o.code)) × Observes es os

abbrev pub Unbroken : List Event → Type 0
Unbroken [] = Unit {0}
Unbroken (e ∷ es) = InSequence e.request × ((reply : _) × (e.seen ≡ answered reply) × (reply.code ≢ 9)) × Unbroken es

-- Demand 3 of sessions: without a cut or another format, from a format that answered 0, what is observed of the requests is bounded as demand 3 says.
abbrev pub MountedDemand3 : Type 0
MountedDemand3 = (N B : ℕ) (s u : Image) (allowance : ℕ) (t : Places) (es : List Turn) → (outcome_of N B s allowance format).code ≡ 0
    → Session N B false (outcome_of N B s allowance format).image t es u → Unbroken (events_in es)
    → (xs : List Call) × Observes (events_in es) (observed N B (outcome_of N B s allowance format).image xs) × Bounded N B start (observed N B (outcome_of N B s allowance format).image xs)
