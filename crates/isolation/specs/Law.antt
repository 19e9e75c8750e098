-- Request #110, what tenants can rely on: isolation, a share that is guaranteed, foreign blocks out of reach, and power cuts. One N and B, one list of shares ns.
use Rattle.std.specs.Prelude.{ℕ, ◌<◌, ◌≡◌, ◌⊎◌, ◌≢◌, true, false, cond, List, [], ◌∷◌, eqb}
use Rattle.model.specs.Chip.{Image, Bytes, Cut, right_size}
use Rattle.model.specs.Slot.{number_ok}
use Rattle.model.specs.State.{holds}
use Rattle.model.specs.Table.{lookup, live_between, table_of}
use Rattle.model.specs.Answers.{Request, format, put, delete, read, read_or, recover, first_of, work_of, outcome_of}
use Rattle.model.specs.Sequences.{among}
use Rattle.model.specs.Histories.{Reply, Seen, answered, lost, Proper, Does, wears, Event, History, shown}
use Rattle.crash.specs.Machine.{Promise, unknown, PlainRuns}
use Rattle.crash.specs.Demand2.{Keeps, board}
use Rattle.shares.specs.Shares.{shares_of, shares_ok, share_of, owns}
use Rattle.shares.specs.Layer.{Asked, puts, reads, block_asked, store_request, bounds, before_full, quota_used, share_code, share_work, Shared, share_outcome}

-- a tenant's request
pub record Call : Type 0 where
  pub tenant : ℕ
  pub asked : Asked

-- what it does: the answer, the contents, and the image afterwards
unfoldable pub served : ℕ → ℕ → List ℕ → Image → Call → Shared
served N B ns s x = share_outcome N B ns s x.tenant x.asked

-- what the tenant gets of that
unfoldable pub reply_to : ℕ → ℕ → List ℕ → Image → Call → Reply
reply_to N B ns s x = record { code = (served N B ns s x).code; bytes = (served N B ns s x).given }

-- contents are bytes
abbrev pub ProperAsked : Asked → Type 0
ProperAsked r = Proper (store_request r)

-- ---- two runs

-- what each tenant gets, of requests one after the other, each on the image that the one before left
pub record Told : Type 0 where
  pub tenant : ℕ
  pub reply : Reply

unfoldable pub told : ℕ → ℕ → List ℕ → Image → List Call → List Told
told N B ns s [] = []
told N B ns s (x ∷ xs) = record { tenant = x.tenant; reply = reply_to N B ns s x } ∷ told N B ns (served N B ns s x).image xs

-- as long as nobody has been answered 8
unfoldable pub before_worn : List Told → List Told
before_worn [] = []
before_worn (y ∷ ys) = cond (eqb y.reply.code 8) [] (y ∷ before_worn ys)

abbrev pub NoneWorn : List Told → Type 0
NoneWorn [] = Unit {0}
NoneWorn (y ∷ ys) = (y.reply.code ≢ 8) × NoneWorn ys

-- one tenant's requests in order, and what it gets
unfoldable pub requests_of : ℕ → List Call → List Asked
requests_of a [] = []
requests_of a (x ∷ xs) = cond (eqb a x.tenant) (x.asked ∷ requests_of a xs) (requests_of a xs)

unfoldable pub replies_to : ℕ → List Told → List Reply
replies_to a [] = []
replies_to a (y ∷ ys) = cond (eqb a y.tenant) (y.reply ∷ replies_to a ys) (replies_to a ys)

abbrev pub AllProper : List Call → Type 0
AllProper [] = Unit {0}
AllProper (x ∷ xs) = ProperAsked x.asked × AllProper xs

-- the same, request by request, as far as both go
abbrev pub SameAsFar : List Reply → List Reply → Type 0
SameAsFar [] q = Unit {0}
SameAsFar (x ∷ p) [] = Unit {0}
SameAsFar (x ∷ p) (y ∷ q) = (x ≡ y) × SameAsFar p q

-- what a format leaves, under an allowance of steps
abbrev pub formatted : ℕ → ℕ → Image → ℕ → Image
formatted N B s allowance = (outcome_of N B s allowance format).image

abbrev pub FinishedFormat : ℕ → ℕ → Image → ℕ → Type 0
FinishedFormat N B s allowance = (outcome_of N B s allowance format).code ≡ 0

-- Two runs from a finished format, with the same requests in order by tenant a and any requests by others, interleaved in any way: a gets the same contents and the same answers, request by request,
-- as long as neither run has answered 8 to anybody.
abbrev pub Isolation : Type 0
Isolation = (N B : ℕ) (ns : List ℕ) (a : ℕ) (s r : Image) (k m : ℕ) (xs ys : List Call)
    → FinishedFormat N B s k → FinishedFormat N B r m → AllProper xs → AllProper ys → requests_of a xs ≡ requests_of a ys
    → SameAsFar (replies_to a (before_worn (told N B ns (formatted N B s k) xs))) (replies_to a (before_worn (told N B ns (formatted N B r m) ys)))

-- So where neither has, all that it gets is the same: nothing that another tenant does shows in it.
abbrev pub NothingShows : Type 0
NothingShows = (N B : ℕ) (ns : List ℕ) (a : ℕ) (s r : Image) (k m : ℕ) (xs ys : List Call)
    → FinishedFormat N B s k → FinishedFormat N B r m → AllProper xs → AllProper ys → requests_of a xs ≡ requests_of a ys
    → NoneWorn (told N B ns (formatted N B s k) xs) → NoneWorn (told N B ns (formatted N B r m) ys)
    → replies_to a (told N B ns (formatted N B s k) xs) ≡ replies_to a (told N B ns (formatted N B r m) ys)

-- ---- histories with cuts: requests of tenants, and requests to the store itself, each answered or cut by a loss of power anywhere

pub data Turn : Type 0 where
  tenant : Call → Seen → Turn
  store : Event → Turn

abbrev pub Serves : ℕ → ℕ → List ℕ → Call → Seen → Image → Image → Type 0
Serves N B ns x (answered o) s m = (o ≡ reply_to N B ns s x) × (m ≡ (served N B ns s x).image)
Serves N B ns x lost s m = Cut B (share_work N B ns s x.tenant x.asked).steps s m

-- each works on the image as the one before or a cut left it
abbrev pub Through : ℕ → ℕ → List ℕ → Image → List Turn → Image → Type 0
Through N B ns s [] u = u ≡ s
Through N B ns s (tenant x o ∷ ts) u = ProperAsked x.asked × ((m : Image) × Serves N B ns x o s m × Through N B ns m ts u)
Through N B ns s (store e ∷ ts) u = Proper e.request × (e.worn ≡ wears N B s) × ((m : Image) × Does N B e.request e.seen s m × Through N B ns m ts u)

-- the store itself is only recovered and read: the image is written only through this layer
abbrev pub Unwritten : Request → Type 0
Unwritten format = ⊥
Unwritten (put b c) = ⊥
Unwritten (delete b) = ⊥
Unwritten (read b) = Unit {0}
Unwritten (read_or b f) = Unit {0}
Unwritten recover = Unit {0}

abbrev pub OnlyLayer : List Turn → Type 0
OnlyLayer [] = Unit {0}
OnlyLayer (tenant x o ∷ ts) = OnlyLayer ts
OnlyLayer (store e ∷ ts) = Unwritten e.request × OnlyLayer ts

-- an image written only through this layer, with one list, since a format
abbrev pub OfLayer : ℕ → ℕ → List ℕ → List Turn → Image → Type 0
OfLayer N B ns ts u = (s : Image) × (k : ℕ) × FinishedFormat N B s k × Through N B ns (formatted N B s k) ts u × OnlyLayer ts

-- ---- "Full (7) answers a put of a block not live exactly when this tenant's own quota is used"

-- what is asked before 7 refuses nothing
abbrev pub Reaches7 : ℕ → ℕ → List ℕ → Image → ℕ → ℕ → List ℕ → Type 0
Reaches7 N B ns s a b c = (first_of (bounds N B ns s a b) ≡ 0) × (before_full (work_of N B s (put b c)).code ≡ false)

-- the block is not live, and this tenant's own quota is used
abbrev pub OwnQuotaUsed : ℕ → ℕ → List ℕ → Image → ℕ → ℕ → Type 0
OwnQuotaUsed N B ns s a b = (holds b (table_of N B s) ≡ false) × (quota_used (share_of (shares_of ns) a) (table_of N B s) ≡ true)

-- A guaranteed share, through every power cut and recovery.
abbrev pub GuaranteedShare : Type 0
GuaranteedShare = (N B : ℕ) (ns : List ℕ) (ts : List Turn) (u : Image) (a b : ℕ) (c : List ℕ) → OfLayer N B ns ts u
    → (share_code N B ns u a (puts b c) ≡ 7 → Reaches7 N B ns u a b c × OwnQuotaUsed N B ns u a b)
    × (Reaches7 N B ns u a b c → OwnQuotaUsed N B ns u a b → share_code N B ns u a (puts b c) ≡ 7)

-- So a tenant below its quota is never refused a block with 7, whatever the others store.
abbrev pub BelowQuota : Type 0
BelowQuota = (N B : ℕ) (ns : List ℕ) (ts : List Turn) (u : Image) (a b : ℕ) (c : List ℕ) → OfLayer N B ns ts u
    → let x = share_of (shares_of ns) a in live_between x.first x.last (table_of N B u) < x.quota → share_code N B ns u a (puts b c) ≢ 7

-- On any other image the store's 7 stands too, and nothing else answers 7.
abbrev pub FullElsewhere : Type 0
FullElsewhere = (N B : ℕ) (ns : List ℕ) (u : Image) (a b : ℕ) (c : List ℕ)
    → (share_code N B ns u a (puts b c) ≡ 7 → Reaches7 N B ns u a b c × (OwnQuotaUsed N B ns u a b ⊎ ((work_of N B u (put b c)).code ≡ 7)))
    × (Reaches7 N B ns u a b c → OwnQuotaUsed N B ns u a b ⊎ ((work_of N B u (put b c)).code ≡ 7) → share_code N B ns u a (puts b c) ≡ 7)

-- ---- foreign blocks

-- A foreign block can be neither read, written nor deleted: the answer is 12, no contents come back and no byte changes, whatever the image holds.
abbrev pub ForeignRefused : Type 0
ForeignRefused = (N B : ℕ) (ns : List ℕ) (s : Image) (x : Call) → right_size N B s ≡ true → shares_ok N B ns ≡ true → number_ok (block_asked x.asked) ≡ true
    → owns (shares_of ns) x.tenant (block_asked x.asked) ≡ false → served N B ns s x ≡ record { code = 12; given = []; image = s }

-- Whatever a tenant asks for on any image of bytes, clean or not, answered or cut anywhere: what a finished recovery shows of a block that is not its own stays as it was.
abbrev pub OthersKept : Type 0
OthersKept = (N B : ℕ) (ns : List ℕ) (s m : Image) (x : Call) (o : Seen) (b : ℕ) → Bytes s → ProperAsked x.asked → Serves N B ns x o s m
    → owns (shares_of ns) x.tenant b ≡ false → lookup b (shown N B m) ≡ lookup b (shown N B s)

-- the layer did not refuse it: answered 0, or cut
abbrev pub Begun : Seen → Type 0
Begun (answered o) = o.code ≡ 0
Begun lost = Unit {0}

-- tenant a put these contents under this number, and was not refused
abbrev pub PutBy : ℕ → ℕ → List ℕ → List Turn → Type 0
PutBy a b c [] = ⊥
PutBy a b c (tenant x o ∷ ts) = ((x.tenant ≡ a) × (x.asked ≡ puts b c) × Begun o) ⊎ PutBy a b c ts
PutBy a b c (store e ∷ ts) = PutBy a b c ts

-- The accident of tenant 31: what a tenant reads it has put itself, under that number, through every power cut and recovery.
abbrev pub OwnContents : Type 0
OwnContents = (N B : ℕ) (ns : List ℕ) (ts : List Turn) (u : Image) (a b size : ℕ) (c : List ℕ) → OfLayer N B ns ts u
    → reply_to N B ns u (record { tenant = a; asked = reads b size }) ≡ record { code = 0; bytes = c } → PutBy a b c ts

-- ---- with a cut: demand 2

-- no answer came back, or one by which the layer itself refuses: its own quota (or a store that others filled), a foreign block, a wrong list, a short buffer
abbrev pub ByLayer : Seen → Type 0
ByLayer (answered o) = among o.code (7 ∷ 12 ∷ 13 ∷ 14 ∷ []) ≡ true
ByLayer lost = Unit {0}

-- The events at the store: each tenant's request as the store met it, its refusals too. Those answered 7, 12, 13 or 14 may be left out, and so may lost ones, where the history is one of the store without them
abbrev pub Passed : List Turn → List Event → Type 0
Passed [] es = es ≡ []
Passed (store e ∷ ts) es = (r : List Event) × (es ≡ e ∷ r) × Passed ts r
Passed (tenant x o ∷ ts) es =
    (ByLayer o × Passed ts es) ⊎ ((e : Event) × (r : List Event) × (es ≡ e ∷ r) × (e.request ≡ store_request x.asked) × (e.seen ≡ o) × Passed ts r)

-- Every history through this layer is one of the store, and so of the plain table: after a recovery each tenant's blocks are as demand 2 says.
abbrev pub LayerDemand2 : Type 0
LayerDemand2 = (N B : ℕ) (ns : List ℕ) (s u : Image) (ts : List Turn) → right_size N B s ≡ true → Through N B ns s ts u
    → (es : List Event) × Passed ts es × History N B s es u × ((x : Promise) × PlainRuns (board N B false) unknown es x × Keeps N B u x)
