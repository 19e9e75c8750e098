-- What a search of a layout table says.
use Rattle.std.specs.Prelude.{ℕ, ◌≡◌, true, false, List, Option, Some, None}
use Rattle.partitions.specs.Layout.{items_of, has_item, item_of}
use Rattle.partition_layout.specs.declared.Place.{Place}

-- the item with identifier i: where its identifier byte stands in a partition, and the length of its data
abbrev pub Placed : List ℕ → ℕ → Option Place → Type 0
Placed layout i (Some p) = (has_item i (items_of layout) ≡ true) × (item_of i (items_of layout) ≡ record { identifier = i; size = p.length; at = p.offset })
Placed layout i None = has_item i (items_of layout) ≡ false
