-- What the status bytes of slots say of an image, whatever its other bytes are.
use Rattle.std.specs.Prelude.{ℕ, zero, suc, ◌+◌, ◌-◌, ◌*◌, ◌≤◌, ◌<◌, ◌≡◌, ◌≢◌, Bool, cond, ◌||◌, not, List, [], ◌∷◌, get_or, eqb}
use Rattle.model.specs.Lists.{all}
use Rattle.model.specs.Chip.{Image}
use Rattle.model.specs.Slot.{written}
use Rattle.model.specs.Steps.{slot_at}

-- c bytes of the image, so many apart, from an offset on
unfoldable pub spaced : Image → ℕ → ℕ → ℕ → List ℕ
spaced s apart zero at = []
spaced s apart (suc c) at = get_or s at 0 ∷ spaced s apart c (at + apart)

-- the status of slot j of the segment with number n; those of all its slots; and those of the u numbers from n on
unfoldable pub slot_status : ℕ → ℕ → Image → ℕ → ℕ → ℕ
slot_status N B s n j = get_or s (slot_at N B n j * 256) 0

unfoldable pub status_row : ℕ → ℕ → Image → ℕ → List ℕ
status_row N B s n = spaced s 256 B (slot_at N B n 0 * 256)

unfoldable pub status_rows : ℕ → ℕ → Image → ℕ → ℕ → List (List ℕ)
status_rows N B s zero n = []
status_rows N B s (suc u) n = status_row N B s n ∷ status_rows N B s u (suc n)

-- the status of a dead slot: replaced or deleted, or cut
unfoldable pub is_marked : ℕ → Bool
is_marked x = eqb x 0x1F || eqb x 0x5F

unfoldable pub none_marked : List ℕ → Bool
none_marked xs = all (λ x. not (is_marked x)) xs

-- the place, from 1, of the first row with such a status; the count of rows, if there is none
unfoldable pub first_marked : List (List ℕ) → ℕ
first_marked [] = 0
first_marked (xs ∷ r) = cond (none_marked xs) (suc (first_marked r)) 1

-- not the status of a live slot
unfoldable pub not_live : ℕ → Bool
not_live x = not (eqb x written)

-- slot r of the segment with number n is free, or r is the count of slots; and the slot before r is not free
pub record FreeFrom (N B n : ℕ) (s : Image) (r : ℕ) : Type 0 where
  pub within : r ≤ B
  pub free : r < B → slot_status N B s n r ≡ 255
  pub taken : 0 < r → slot_status N B s n (r - 1) ≢ 255
