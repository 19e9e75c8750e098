-- What the contract of this crate says beside the definitions of `moves`: the entries that a table of places tells.
use Rattle.std.specs.Prelude.{ℕ, zero, suc, ◌+◌, ◌≤◌, ◌<◌, ◌≢◌, cond, [], ◌++◌, length, get_or, take, drop, eqb}
use Rattle.model.specs.Chip.{Image, Page}
use Rattle.model.specs.Slot.{slot_of, entry_of}
use Rattle.model.specs.Table.{Table}
use Rattle.model.specs.Mounted.{Places, least_places}
use Rattle.adding.specs.Adding.{LivePage}

-- 256 bytes of an image, from an offset on
abbrev pub page_at : Image → ℕ → Page
page_at s at = take 256 (drop at s)

-- what the slots hold whose places the entries of c block numbers tell, from number k on; an entry of 0 tells none
unfoldable pub listed : Image → Places → ℕ → ℕ → Table
listed s t k zero = []
listed s t k (suc c) = (cond (eqb (get_or t k 0) 0) [] (entry_of (slot_of (page_at s (get_or t k 0))))) ++ listed s t (suc k) c

-- the entries of block numbers 1 to 65,535 are 0, or the place of a live slot in the image
pub record Pointing (s : Image) (t : Places) : Type 0 where
  pub long : least_places ≤ length t
  pub points : (k : ℕ) → 0 < k → k < least_places → get_or t k 0 ≢ 0 → (get_or t k 0 + 256 ≤ length s) × LivePage (page_at s (get_or t k 0))
