-- The invariant that is closed under power cuts, and what is left to prove of each request. Everything else follows (Skeleton, Starts).
use Rattle.std.specs.Prelude.{ℕ, suc, ◌+◌, ◌-◌, ◌*◌, ◌/◌, ◌%◌, ◌≤◌, ◌≡◌, ◌⊎◌, Bool, true, false, List, [], ◌∷◌, ◌++◌, get_or}
use Rattle.model.specs.Chip.{Image, Bytes, right_size, run, Cut}
use Rattle.model.specs.Header.{number_bytes, inverted, is_former}
use Rattle.model.specs.State.{Segment, segments_of, next_number, case_a, case_b, case_c, case_d, State, clean, unfinished, damaged, state, view}
use Rattle.model.specs.Steps.{header_at, format_steps}
use Rattle.model.specs.Table.{Table, lookup, without, store, Agree, contents_found, table_of}
use Rattle.model.specs.Answers.{Request, put, delete, read, recover, work_of, piece_read}
use Rattle.model.specs.Histories.{recovered, shown}

-- ---- clean or unfinished, and such that a cut erase can make nothing of the torn segment

-- the bytes from an offset on are at least these. An erase that is cut only raises bits, and a number and its inverse can't both rise
abbrev pub AtLeast : ℕ → List ℕ → Image → Type 0
AtLeast at [] s = Unit {0}
AtLeast at (x ∷ xs) s = (x ≤ get_or s at 0) × AtLeast (suc at) xs s

-- byte k of the header of the segment with number n
abbrev pub header_byte : ℕ → ℕ → ℕ → ℕ → ℕ
header_byte N B n k = header_at N B n * 256 + k

abbrev pub SoundAs : ℕ → ℕ → Image → List Segment → State → Type 0
SoundAs N B s l clean = Unit {0}
-- (a) bit 6 of the torn segment's status is set: every status in use has it clear, so a cut erase never leaves it in use
SoundAs N B s l (unfinished case_a) = get_or s (header_byte N B (next_number l) 5) 0 / 64 % 2 ≡ 1
-- (b) the old segment has every bit of its number and of the inverse: if it ever looks in use, then with the number that it had
SoundAs N B s l (unfinished case_b) =
    (N ≤ next_number l) × AtLeast (header_byte N B (next_number l) 8) (number_bytes (next_number l - N) ++ inverted (number_bytes (next_number l - N))) s
SoundAs N B s l (unfinished case_c) = Unit {0}
SoundAs N B s l (unfinished case_d) = Unit {0}
SoundAs N B s l damaged = ⊥

abbrev pub Sound : ℕ → ℕ → Image → Type 0
Sound N B s = SoundAs N B s (segments_of N B s) (state N B s)

-- ---- what is left to prove

abbrev pub Clean : ℕ → ℕ → Image → Type 0
Clean N B s = state N B s ≡ clean

-- the image after all steps of a request
abbrev pub finished : ℕ → ℕ → Image → Request → Image
finished N B s r = run B (work_of N B s r).steps s

-- an accepted request: its code is 0
abbrev pub Accepted : ℕ → ℕ → Image → Request → Type 0
Accepted N B s r = (work_of N B s r).code ≡ 0

-- what a cut of a request's steps can leave
abbrev pub CutOf : ℕ → ℕ → Image → Request → Image → Type 0
CutOf N B s r u = Cut B (work_of N B s r).steps s u

-- whether an image has version 1, and whether the one that a finished recovery leaves has
abbrev pub former_in : ℕ → ℕ → Image → Bool
former_in N B s = is_former (view N B s).version

abbrev pub former_shown : ℕ → ℕ → Image → Bool
former_shown N B s = is_former (view N B (recovered N B s)).version

-- a finished request: clean, with this table, and version 1 or not
abbrev pub DoneWith : ℕ → ℕ → Image → Table → Bool → Type 0
DoneWith N B u t f = Clean N B u × Agree (table_of N B u) t × (former_in N B u ≡ f)

-- an interrupted one: a finished recovery will show the old table or the new one
abbrev pub LeftWith : ℕ → ℕ → Image → Table → Table → Bool → Type 0
LeftWith N B u old new f = Sound N B u × (Agree (shown N B u) old ⊎ Agree (shown N B u) new) × (former_shown N B u ≡ f)

-- A put wants an image of bytes: tidying copies stored contents, and what is no byte can't be programmed.
pub record RequestLaws (N B : ℕ) : Type 0 where
  pub format_done : (s : Image) → right_size N B s ≡ true → Clean N B (run B (format_steps N B) s) × (table_of N B (run B (format_steps N B) s) ≡ []) × (former_in N B (run B (format_steps N B) s) ≡ false)
  pub put_done : (s : Image) (b : ℕ) (c : List ℕ) → right_size N B s ≡ true → Bytes s → Clean N B s → Bytes c → Accepted N B s (put b c)
      → DoneWith N B (finished N B s (put b c)) (store b c (table_of N B s)) (former_in N B s)
  pub put_cut : (s u : Image) (b : ℕ) (c : List ℕ) → right_size N B s ≡ true → Bytes s → Clean N B s → Bytes c → Accepted N B s (put b c)
      → CutOf N B s (put b c) u → LeftWith N B u (table_of N B s) (store b c (table_of N B s)) (former_in N B s)
  pub delete_done : (s : Image) (b : ℕ) → right_size N B s ≡ true → Clean N B s → Accepted N B s (delete b)
      → DoneWith N B (finished N B s (delete b)) (without b (table_of N B s)) (former_in N B s)
  pub delete_cut : (s u : Image) (b : ℕ) → right_size N B s ≡ true → Clean N B s → Accepted N B s (delete b)
      → CutOf N B s (delete b) u → LeftWith N B u (table_of N B s) (without b (table_of N B s)) (former_in N B s)
  pub read_done : (s : Image) (b : ℕ) → right_size N B s ≡ true → Clean N B s → Accepted N B s (read b)
      → piece_read N B s b ≡ contents_found (lookup b (table_of N B s))
  pub recover_done : (s : Image) → right_size N B s ≡ true → Sound N B s → Clean N B (recovered N B s)
  pub recover_cut : (s u : Image) → right_size N B s ≡ true → Sound N B s → CutOf N B s recover u → Sound N B u × Agree (shown N B u) (shown N B s) × (former_shown N B u ≡ former_shown N B s)
