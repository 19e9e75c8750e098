-- Request #109, what its reader and writer can be relied on for, over writes one after the other. Cuts fall between steps only: a write that is cut is one whose allowance ends before its list, and the next works on what it left.
use Rattle.std.specs.Prelude.{ℕ, suc, ◌+◌, ◌-◌, ◌/◌, ◌%◌, ◌≤◌, ◌<◌, ◌≡◌, ◌≢◌, true, cond, ◌&&◌, List, [], ◌∷◌, ◌++◌, length, take, eqb}
use Rattle.model.specs.Chip.{Image, Step, program, erase, Bytes}
use Rattle.model.specs.Table.{Found, absent, present}
use Rattle.model.specs.Answers.{Outcome}
use Rattle.model.specs.Histories.{Reply}
use Rattle.partitions.specs.Layout.{items_of, layout_ok, has_item}
use Rattle.partitions.specs.Partitions.{image_ok, partition_size, no_status, status_of, Newest, nothing, newest, no_run, newest_of}
use Rattle.partitions.specs.Answers.{write_work, write_outcome, read_outcome, piece_read}

-- ---- writes one after the other

-- a write: its layout table, the item's identifier, the data, and the allowance of steps
pub record Call : Type 0 where
  pub layout : List ℕ
  pub item : ℕ
  pub contents : List ℕ
  pub allowance : ℕ

unfoldable pub outcome_of : ℕ → Image → Call → Outcome
outcome_of P s x = write_outcome P x.layout s x.item x.contents x.allowance

-- the image as they leave it
unfoldable pub play : ℕ → Image → List Call → Image
play P s [] = s
play P s (x ∷ xs) = play P (outcome_of P s x).image xs

-- the answers
unfoldable pub answers : ℕ → Image → List Call → List ℕ
answers P s [] = []
answers P s (x ∷ xs) = (outcome_of P s x).code ∷ answers P (outcome_of P s x).image xs

-- every step that was done, in order
unfoldable pub steps_done : ℕ → Image → List Call → List Step
steps_done P s [] = []
steps_done P s (x ∷ xs) = take x.allowance (write_work P x.layout s x.item x.contents).steps ++ steps_done P (outcome_of P s x).image xs

-- ---- statuses

-- the partitions whose status a list of steps sets, in order: a status is the first byte of its partition
unfoldable pub statuses_set : ℕ → List Step → List ℕ
statuses_set S [] = []
statuses_set S (program at v ∷ xs) = cond (eqb (at % S) 0) (at / S ∷ statuses_set S xs) (statuses_set S xs)
statuses_set S (erase p ∷ xs) = statuses_set S xs

-- the last of them
unfoldable pub last_of : List ℕ → Newest
last_of [] = nothing
last_of (p ∷ []) = newest p
last_of (p ∷ q ∷ r) = last_of (q ∷ r)

-- "from all statuses 255 on with one P and only this writer": an image that P divides, without a status
pub record Unwritten (P : ℕ) (s : Image) : Type 0 where
  pub right : image_ok P s ≡ true
  pub none : (p : ℕ) → p < P → status_of (partition_size P s) s p ≡ no_status

-- "The newest is the run's last: prove for every P and every point of the cycle .. that its status was set last." Writes by any layout tables, cut anywhere.
abbrev pub SetLast : Type 0
SetLast = (P : ℕ) (s : Image) (xs : List Call) → Unwritten P s → newest_of P (play P s xs) ≡ last_of (statuses_set (partition_size P s) (steps_done P s xs))

-- And the point of the cycle: after k statuses were set, the last in partition (k-1) modulo P, where the status is (k-1) modulo 255.
pub record AtPoint (P : ℕ) (s : Image) (k : ℕ) : Type 0 where
  pub at : newest_of P s ≡ newest ((k - 1) % P)
  pub status : status_of (partition_size P s) s ((k - 1) % P) ≡ (k - 1) % 255

abbrev pub Cycle : Type 0
Cycle = (P : ℕ) (s : Image) (xs : List Call) → Unwritten P s
    → let k = length (statuses_set (partition_size P s) (steps_done P s xs)) in 0 < k → AtPoint P (play P s xs) k

-- ---- "a single run in partition order, the first following the last"

-- n partitions from a on, going round, have statuses v, v + 1 and so on, modulo 255; all others have none
pub record Run (P S : ℕ) (s : Image) (a v n : ℕ) : Type 0 where
  pub most : n ≤ P
  pub has : (j : ℕ) → j < n → status_of S s ((a + j) % P) ≡ (v + j) % 255
  pub none : (j : ℕ) → n ≤ j → j < P → status_of S s ((a + j) % P) ≡ no_status

-- its last is p
pub record EndsAt (P S : ℕ) (s : Image) (p : ℕ) : Type 0 where
  pub start : ℕ
  pub status : ℕ
  pub before : ℕ
  pub single : Run P S s start status (suc before)
  pub last : (start + before) % P ≡ p

-- The newest partition is p exactly if the statuses are a single run whose last is p, and there is nothing written exactly if no partition has a status. So 4 answers statuses that are no single run, and no others.
pub record Reads (P : ℕ) (s : Image) : Type 0 where
  pub ends : (p : ℕ) → newest_of P s ≡ newest p → EndsAt P (partition_size P s) s p
  pub found : (p : ℕ) → EndsAt P (partition_size P s) s p → newest_of P s ≡ newest p
  pub none : newest_of P s ≡ nothing → Unwritten P s
  pub blank : Unwritten P s → newest_of P s ≡ nothing

abbrev pub SingleRun : Type 0
SingleRun = (P : ℕ) (s : Image) → image_ok P s ≡ true → Bytes s → Reads P s

-- ---- the plain map from item to data

-- what a read gives: its answer, and the data
unfoldable pub reply_to : ℕ → List ℕ → Image → ℕ → Reply
reply_to P layout s i = record { code = (read_outcome P layout s i).code; bytes = piece_read P layout s i }

-- an image of bytes whose reads are answered, but for identifiers that are not in the table and items that are not written
pub record Accepted (P : ℕ) (layout : List ℕ) (s : Image) : Type 0 where
  pub right : image_ok P s ≡ true
  pub layout_right : layout_ok (partition_size P s) layout ≡ true
  pub single : newest_of P s ≢ no_run
  pub bytes : Bytes layout
  pub image : Bytes s

abbrev pub Map : Type 0
Map = ℕ → Found

-- what reads of an image find
unfoldable pub map_of : ℕ → List ℕ → Image → Map
map_of P layout s i = let o = read_outcome P layout s i in cond (eqb o.code 0) (present (piece_read P layout s i)) absent

-- what a read of a plain map is told
unfoldable pub found : Found → Reply
found absent = record { code = 5; bytes = [] }
found (present d) = record { code = 0; bytes = d }

unfoldable pub reply_of : List ℕ → Map → ℕ → Reply
reply_of layout m i = cond (has_item i (items_of layout)) (found (m i)) (record { code = 3; bytes = [] })

-- a write that answered 0 has stored its data, and any other, cut or refused, has changed nothing
unfoldable pub stored : ℕ → List ℕ → ℕ → Map → Map
stored i d code m j = cond (eqb code 0 && eqb j i) (present d) (m j)

unfoldable pub stored_all : List Call → List ℕ → Map → Map
stored_all [] ks m = m
stored_all (x ∷ xs) [] m = m
stored_all (x ∷ xs) (k ∷ ks) m = stored_all xs ks (stored x.item x.contents k m)

-- writes by one layout table, of bytes
abbrev pub ByTable : List ℕ → List Call → Type 0
ByTable layout [] = Unit {0}
ByTable layout (x ∷ xs) = (x.layout ≡ layout) × Bytes x.contents × ByTable layout xs

-- "Its cuts fall between steps only: afterwards each item reads as before the cut write, or the written one as new." Over histories of any length, from any accepted image, whoever wrote it: reads answer by the plain map that the image held,
-- with the data of the finished writes stored in it, and of no others.
abbrev pub PlainMap : Type 0
PlainMap = (P : ℕ) (layout : List ℕ) (s : Image) (xs : List Call) → Accepted P layout s → ByTable layout xs
    → (i : ℕ) → reply_to P layout (play P s xs) i ≡ reply_of layout (stored_all xs (answers P s xs) (map_of P layout s)) i

-- So after a cut every item reads as before the cut write, the written one too; and after a finished write the written one reads as new, and every other as before.
abbrev pub CutChangesNothing : Type 0
CutChangesNothing = (P : ℕ) (s : Image) (x : Call) → Accepted P x.layout s → Bytes x.contents → (outcome_of P s x).code ≡ 9
    → (i : ℕ) → reply_to P x.layout (outcome_of P s x).image i ≡ reply_to P x.layout s i

abbrev pub FinishedIsNew : Type 0
FinishedIsNew = (P : ℕ) (s : Image) (x : Call) → Accepted P x.layout s → Bytes x.contents → (outcome_of P s x).code ≡ 0
    → (reply_to P x.layout (outcome_of P s x).image x.item ≡ record { code = 0; bytes = x.contents })
    × ((i : ℕ) → i ≢ x.item → reply_to P x.layout (outcome_of P s x).image i ≡ reply_to P x.layout s i)

-- The run of statuses stays single under every history of this writer, by any tables,
abbrev pub StaysSingle : Type 0
StaysSingle = (P : ℕ) (layout : List ℕ) (s : Image) (xs : List Call) → Accepted P layout s → Accepted P layout (play P s xs)

-- so that no write on an image that it has left answers 4. (That no read does stands in `PlainMap`.)
abbrev pub NeverNoRun : Type 0
NeverNoRun = (P : ℕ) (layout : List ℕ) (s : Image) (xs : List Call) → Accepted P layout s → (x : Call) → (outcome_of P (play P s xs) x).code ≢ 4
