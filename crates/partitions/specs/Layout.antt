-- Request #109, the layout table: which items a partition has, and where.
use Rattle.std.specs.Prelude.{ℕ, ◌+◌, ◌%◌, Bool, true, false, cond, ◌||◌, ◌&&◌, not, List, [], ◌∷◌, length, leb, eqb}
use Rattle.model.specs.Lists.{all}

-- "fixed items, each an identifier byte and data of fixed length": the identifier, the length, and where in a partition the identifier byte stands, with the data right behind it
pub record Item : Type 0 where
  pub identifier : ℕ
  pub size : ℕ
  pub at : ℕ

-- "The layout table is lent as byte pairs, identifier and length": its items one after the other, from an offset on
unfoldable pub items_from : ℕ → List ℕ → List Item
items_from at [] = []
items_from at (i ∷ []) = []
items_from at (i ∷ n ∷ r) = record { identifier = i; size = n; at = at } ∷ items_from (at + 1 + n) r

-- "each with a status byte and then fixed items"
unfoldable pub items_of : List ℕ → List Item
items_of layout = items_from 1 layout

-- ---- a table that is right; one that is not answers 2

unfoldable pub distinct : List Item → Bool
distinct [] = true
distinct (x ∷ xs) = all (λ y. not (eqb x.identifier y.identifier)) xs && distinct xs

-- the bytes of the status and the items
unfoldable pub bytes_used : List Item → ℕ
bytes_used [] = 1
bytes_used (x ∷ xs) = 1 + x.size + bytes_used xs

-- "refused exactly if a byte is left over, an identifier is 255 or comes twice, a length is 0, or status and items don't fit a partition", which has S bytes
unfoldable pub layout_ok : ℕ → List ℕ → Bool
layout_ok S layout = let xs = items_of layout in
    eqb (length layout % 2) 0
    && (all (λ x. not (eqb x.identifier 255)) xs
    && (distinct xs
    && (all (λ x. not (eqb x.size 0)) xs
    && leb (bytes_used xs) S)))

-- ---- the item with an identifier

unfoldable pub has_item : ℕ → List Item → Bool
has_item i [] = false
has_item i (x ∷ xs) = eqb i x.identifier || has_item i xs

-- an identifier that is not in the table has no item: it is refused before this one counts
unfoldable pub item_of : ℕ → List Item → Item
item_of i [] = record { identifier = i; size = 0; at = 0 }
item_of i (x ∷ xs) = cond (eqb i x.identifier) x (item_of i xs)
