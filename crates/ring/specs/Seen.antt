-- What is seen of the ring of segments in use: by each part of the search on any image, and by the whole.
use Rattle.std.specs.Prelude.{ℕ, ◌+◌, ◌-◌, ◌*◌, ◌%◌, ◌≤◌, ◌<◌, ◌≡◌, ◌≢◌, ◌⊎◌, true, length, get_or, take, drop, Option, None, Some}
use Rattle.model.specs.Chip.{Image, erase_limit, right_size}
use Rattle.model.specs.Header.{header_number}
use Rattle.model.specs.State.{clean, state, view}
use Rattle.ring.specs.declared.Ring.{Ring}

-- ---- headers, whatever other bytes the image has

-- the status of the header at index i
unfoldable pub status_at : ℕ → Image → ℕ → ℕ
status_at B s i = get_or s (i * (B + 1) * 256 + 5) 0

-- the number in the header at index i
unfoldable pub number_at : ℕ → Image → ℕ → ℕ
number_at B s i = header_number (take 256 (drop (i * (B + 1) * 256) s))

-- ---- the parts of the search

-- index i follows from number n at index 0, if its number is n + i: r does or is 0, and the next does not, or there is none
pub record LastFollowing (N B : ℕ) (s : Image) (n r : ℕ) : Type 0 where
  pub within : r < N
  pub follows : 0 < r → number_at B s r ≡ n + r
  pub ends : r + 1 < N → number_at B s (r + 1) ≢ n + (r + 1)

-- r counts as in use or is 0, and none after it does
pub record LastUsed (N B : ℕ) (s : Image) (r : ℕ) : Type 0 where
  pub within : r < N
  pub used : 0 < r → status_at B s r ≢ 255
  pub free : (i : ℕ) → r < i → i < N → status_at B s i ≡ 255

-- those from r up to the one below e count as in use, and the one below r does not, or there is none
pub record RunFrom (B : ℕ) (s : Image) (e r : ℕ) : Type 0 where
  pub within : r ≤ e
  pub used : (i : ℕ) → r ≤ i → i < e → status_at B s i ≢ 255
  pub free : 0 < r → status_at B s (r - 1) ≡ 255

abbrev pub TopSeen : ℕ → ℕ → Image → ℕ → Type 0
TopSeen N B s r = ((status_at B s 0 ≢ 255) × LastFollowing N B s (number_at B s 0) r) ⊎ ((status_at B s 0 ≡ 255) × LastUsed N B s r)

-- one less than all, if the second after the top counts as in use; or the run below the end, and those up to the top; or the run up to the top
abbrev pub UsedSeen : ℕ → ℕ → Image → ℕ → ℕ → Type 0
UsedSeen N B s top r =
    ((status_at B s ((top + 2) % N) ≢ 255) × (r ≡ N - 1))
    ⊎ (((status_at B s 0 ≢ 255) × ((e : ℕ) × RunFrom B s N e × (r ≡ top + 1 + (N - e))))
    ⊎ ((status_at B s 0 ≡ 255) × ((e : ℕ) × RunFrom B s top e × (r ≡ top + 1 - e))))

-- ---- the whole

-- numbers below the limit, and a segment left over
abbrev pub Bounded : ℕ → Option Ring → Type 0
Bounded N (Some x) = (1 ≤ x.used) × (x.used + 1 ≤ N) × (x.first.0 + x.used ≤ erase_limit * N)
Bounded N None = Unit {0}

-- whatever the image is, what is seen is in bounds; on a clean one it is the view's
pub record SeenRing (N B : ℕ) (s : Image) (r : Option Ring) : Type 0 where
  pub bounded : Bounded N r
  pub exact : right_size N B s ≡ true → state N B s ≡ clean → r ≡ Some (record { first = record { 0 = (view N B s).first }; used = length (view N B s).slots })
