-- Demand 2, as one statement over histories of any length.
use Rattle.std.specs.Prelude.{ℕ, ◌≡◌, ◌≢◌, Bool, true, false, List}
use Rattle.model.specs.Chip.{Image, Bytes, right_size}
use Rattle.model.specs.Header.{is_former}
use Rattle.model.specs.State.{clean, damaged, capacity, state, view}
use Rattle.model.specs.Table.{Agree, table_of}
use Rattle.model.specs.Histories.{Event, History, recovered, shown}
use Rattle.crash.specs.Machine.{Board, Promise, settled, interrupted, unknown, NoFormat, PlainRuns}
use Rattle.crash.specs.Sound.{Sound, former_shown}

-- the image keeps the promise: it is clean and holds the table; or it is not damaged, and a finished recovery leaves it clean with the table
abbrev pub Keeps : ℕ → ℕ → Image → Promise → Type 0
Keeps N B s (settled t) = (state N B s ≡ clean) × Agree (table_of N B s) t
Keeps N B s (interrupted t) = (state N B s ≢ damaged) × (state N B (recovered N B s) ≡ clean) × Agree (shown N B s) t
Keeps N B s unknown = Unit {0}

-- the table of a store: as many places as the capacity, and whether its image has version 1
abbrev pub board : ℕ → ℕ → Bool → Board
board N B former = record { places = capacity N B; former = former }

-- Every history of the store, from any image of a right size, is a history of the plain table, and its last image keeps the last promise.
-- The promise is unknown until a format finishes, so a history from a finished format on is one whose first event is that format.
abbrev pub Demand2 : Type 0
Demand2 = (N B : ℕ) (s u : Image) (es : List Event) → right_size N B s ≡ true → History N B s es u
    → (x : Promise) × PlainRuns (board N B false) unknown es x × Keeps N B u x

-- The same from any clean image of version 2, with the table that it holds: so also from one with empty records, which no put makes any more (request #105).
abbrev pub FromClean : Type 0
FromClean = (N B : ℕ) (s u : Image) (es : List Event) → right_size N B s ≡ true → Bytes s → state N B s ≡ clean → is_former (view N B s).version ≡ false → History N B s es u
    → (x : Promise) × PlainRuns (board N B false) (settled (table_of N B s)) es x × Keeps N B u x

-- Request #104: the same from a clean image of version 1, as boards in the field have it, until it is formatted: every put answers 11, and reading, deleting and recovering are as ever.
abbrev pub FromFormer : Type 0
FromFormer = (N B : ℕ) (s u : Image) (es : List Event) → right_size N B s ≡ true → Bytes s → state N B s ≡ clean → is_former (view N B s).version ≡ true → History N B s es u → NoFormat es
    → (x : Promise) × PlainRuns (board N B true) (settled (table_of N B s)) es x × Keeps N B u x

-- The same of version 1 from any image as a power cut leaves it, clean or unfinished: as boards in the field that lost their power under the former rules stand.
-- What the first finished recovery will show is the table. In (a) `Sound` asks that bit 6 of the torn segment's status is set,
-- in (b) that the old segment's header still has at least the bytes of its number and of the inverse.
abbrev pub FromFormerLeft : Type 0
FromFormerLeft = (N B : ℕ) (s u : Image) (es : List Event) → right_size N B s ≡ true → Bytes s → Sound N B s → former_shown N B s ≡ true → History N B s es u → NoFormat es
    → (x : Promise) × PlainRuns (board N B true) (interrupted (shown N B s)) es x × Keeps N B u x
