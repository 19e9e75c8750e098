-- What the contracts of this crate say: an item on its way from one partition to another, and when all items can go there.
use Rattle.std.specs.Prelude.{ℕ, ◌+◌, ◌*◌, ◌≤◌, ◌≡◌, ◌⊎◌, true, cond, List, [], length, get_or, take, drop, eqb}
use Rattle.model.specs.Chip.{Image, Step}
use Rattle.partitions.specs.Layout.{items_of, layout_ok, item_of}
use Rattle.partitions.specs.Writes.{item_steps}

-- an item of the table on its way from one offset to another, where an item is written with new data
unfoldable pub carry_steps : Image → ℕ → ℕ → ℕ → ℕ → ℕ → List ℕ → List Step
carry_steps s from to identifier size item contents =
    cond (eqb identifier item) (item_steps to identifier contents)
    (cond (eqb (get_or s from 0) identifier) (item_steps to identifier (take size (drop (from + 1) s))) [])

-- two pieces of so many bytes have none in common
abbrev pub Disjoint : ℕ → ℕ → ℕ → Type 0
Disjoint from to size = (from + size ≤ to) ⊎ (to + size ≤ from)

-- it lies in the image at both, which are not one place, and the new data are its own
pub record CarryOne (from to identifier size item : ℕ) (contents : List ℕ) (bytes : ℕ) : Type 0 where
  pub reads : from + 1 + size ≤ bytes
  pub writes : to + 1 + size ≤ bytes
  pub apart : Disjoint from to (1 + size)
  pub own : identifier ≡ item → length contents ≡ size

-- two partitions of the image, a right table, and data of the length that it has for the item
pub record Carry (size from to : ℕ) (layout : List ℕ) (item : ℕ) (contents : List ℕ) (bytes : ℕ) : Type 0 where
  pub right : layout_ok size layout ≡ true
  pub whole : length contents ≡ (item_of item (items_of layout)).size
  pub apart : from ≡ to → ⊥
  pub reads : from * size + size ≤ bytes
  pub writes : to * size + size ≤ bytes
