-- The histories of demand 2: any requests, each answered under some allowance, or cut by a loss of power anywhere.
use Rattle.std.specs.Prelude.{ℕ, ◌≡◌, Bool, List, [], ◌∷◌}
use Rattle.model.specs.Chip.{Image, Bytes, Cut, run}
use Rattle.model.specs.State.{view}
use Rattle.model.specs.Steps.{is_worn}
use Rattle.model.specs.Table.{Table, table_of}
use Rattle.model.specs.Answers.{Request, format, put, delete, read, read_or, recover, work_of, outcome_of, piece_read, piece_or}

-- ---- what a request shows: its code, and the bytes that come back

pub record Reply : Type 0 where
  pub code : ℕ
  pub bytes : List ℕ

unfoldable pub bytes_read : ℕ → ℕ → Image → Request → List ℕ
bytes_read N B s format = []
bytes_read N B s (put b c) = []
bytes_read N B s (delete b) = []
bytes_read N B s (read b) = piece_read N B s b
bytes_read N B s (read_or b f) = piece_or N B s b f
bytes_read N B s recover = []

unfoldable pub reply_of : ℕ → ℕ → Image → ℕ → Request → Reply
reply_of N B s allowance r = record { code = (outcome_of N B s allowance r).code; bytes = bytes_read N B s r }

-- an answer came back; or none did, since the power was lost
pub data Seen : Type 0 where
  answered : Reply → Seen
  lost : Seen

-- ---- one request

-- contents are bytes
abbrev pub Proper : Request → Type 0
Proper format = Unit {0}
Proper (put b c) = Bytes c
Proper (delete b) = Unit {0}
Proper (read b) = Unit {0}
Proper (read_or b f) = Unit {0}
Proper recover = Unit {0}

-- a request on image s shows this and leaves image u: under some allowance, or with a cut between its steps or inside one
abbrev pub Does : ℕ → ℕ → Request → Seen → Image → Image → Type 0
Does N B r (answered o) s u = (allowance : ℕ) × (o ≡ reply_of N B s allowance r) × (u ≡ (outcome_of N B s allowance r).image)
Does N B r lost s u = Cut B (work_of N B s r).steps s u

-- a put on this image would wear the chip
unfoldable pub wears : ℕ → ℕ → Image → Bool
wears N B s = is_worn N (view N B s)

-- ---- histories

-- what a history tells of one request. Of the chip it tells whether a put would have worn it, which no table can know
pub record Event : Type 0 where
  pub request : Request
  pub worn : Bool
  pub seen : Seen

-- a history: each request works on the image as the one before or a cut left it
abbrev pub History : ℕ → ℕ → Image → List Event → Image → Type 0
History N B s [] u = u ≡ s
History N B s (e ∷ es) u =
    Proper e.request × (e.worn ≡ wears N B s) × ((m : Image) × Does N B e.request e.seen s m × History N B m es u)

-- ---- what an image shows

-- the image that a finished recovery leaves, and the table that it shows
unfoldable pub recovered : ℕ → ℕ → Image → Image
recovered N B s = run B (work_of N B s recover).steps s

unfoldable pub shown : ℕ → ℕ → Image → Table
shown N B s = table_of N B (recovered N B s)
