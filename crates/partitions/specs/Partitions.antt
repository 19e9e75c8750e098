-- Request #109, the partitions of an image: their size, the status bytes, and the newest. "Here one partition is one erase unit": flash steps are those of `flash`, Units, at S.
use Rattle.std.specs.Prelude.{ℕ, zero, suc, ◌+◌, ◌*◌, ◌/◌, ◌%◌, Bool, cond, ◌&&◌, not, List, [], ◌∷◌, ◌++◌, length, get_or, eqb}
use Rattle.model.specs.Lists.{all}
use Rattle.model.specs.Chip.{Image}
use Rattle.model.specs.Sequences.{among}

-- ---- size: P partitions of S bytes

-- "P a power of two from 2 to 128"
unfoldable pub partitions_ok : ℕ → Bool
partitions_ok P = among P (2 ∷ 4 ∷ 8 ∷ 16 ∷ 32 ∷ 64 ∷ 128 ∷ [])

-- and the image is one that P divides; otherwise the answer is 1
unfoldable pub image_ok : ℕ → Image → Bool
image_ok P s = partitions_ok P && eqb (length s % P) 0

unfoldable pub partition_size : ℕ → Image → ℕ
partition_size P s = length s / P

-- ---- statuses

-- the status of a partition that has none yet
abbrev pub no_status : ℕ
no_status = 255

-- "Status runs 0 to 254 and back to 0"
unfoldable pub next_status : ℕ → ℕ
next_status v = (v + 1) % 255

unfoldable pub status_of : ℕ → Image → ℕ → ℕ
status_of S s p = get_or s (p * S) 0

-- "in partition order, the first following the last"
unfoldable pub next_partition : ℕ → ℕ → ℕ
next_partition P p = (p + 1) % P

-- where a run of statuses ends: a partition that has one, and the next partition's does not follow it
unfoldable pub ends_run : ℕ → ℕ → Image → ℕ → Bool
ends_run P S s p = not (eqb (status_of S s p) no_status) && not (eqb (status_of S s (next_partition P p)) (next_status (status_of S s p)))

-- partitions 0 to k-1, in order
unfoldable pub indices : ℕ → List ℕ
indices zero = []
indices (suc k) = indices k ++ (k ∷ [])

-- ---- the newest partition

-- "All statuses 255 means nothing written yet"; "the newest is the run's last"; "statuses that are no single run .. are refused"
pub data Newest : Type 0 where
  nothing : Newest
  newest : ℕ → Newest
  no_run : Newest

-- those of which a test holds
unfoldable pub kept : (ℕ → Bool) → List ℕ → List ℕ
kept f [] = []
kept f (p ∷ ps) = cond (f p) (p ∷ kept f ps) (kept f ps)

unfoldable pub only_one : List ℕ → Newest
only_one [] = no_run
only_one (p ∷ []) = newest p
only_one (p ∷ q ∷ r) = no_run

unfoldable pub newest_in : ℕ → ℕ → Image → Newest
newest_in P S s = let ps = indices P in
    cond (all (λ p. eqb (status_of S s p) no_status) ps) nothing (only_one (kept (ends_run P S s) ps))

unfoldable pub newest_of : ℕ → Image → Newest
newest_of P s = newest_in P (partition_size P s) s
