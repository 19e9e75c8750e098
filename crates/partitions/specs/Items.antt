-- Request #109, the items of a partition: where their bytes are, and which are written.
use Rattle.std.specs.Prelude.{ℕ, ◌+◌, ◌*◌, Bool, List, get_or, take, drop, eqb}
use Rattle.model.specs.Chip.{Image}
use Rattle.model.specs.Header.{is_blank}
use Rattle.partitions.specs.Layout.{Item}

-- the offsets of an item's identifier byte and of its data, in partition p of S bytes
unfoldable pub identifier_at : ℕ → ℕ → Item → ℕ
identifier_at S p x = p * S + x.at

unfoldable pub data_at : ℕ → ℕ → Item → ℕ
data_at S p x = identifier_at S p x + 1

unfoldable pub data_in : ℕ → Image → ℕ → Item → List ℕ
data_in S s p x = take x.size (drop (data_at S p x) s)

-- "an item is written exactly if that byte is its identifier"
unfoldable pub is_written : ℕ → Image → ℕ → Item → Bool
is_written S s p x = eqb (get_or s (identifier_at S p x) 0) x.identifier

-- "its identifier and data bytes are all 255"
unfoldable pub is_erased : ℕ → Image → ℕ → Item → Bool
is_erased S s p x = is_blank (take (1 + x.size) (drop (identifier_at S p x) s))
