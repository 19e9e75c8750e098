-- Request #109, the step lists of a write. The order of steps is fixed, and one byte is one step even if it changes nothing.
use Rattle.std.specs.Prelude.{ℕ, ◌+◌, ◌*◌, cond, List, [], ◌∷◌, ◌++◌, eqb}
use Rattle.model.specs.Chip.{Image, Step, program, erase}
use Rattle.model.specs.Steps.{programs}
use Rattle.partitions.specs.Layout.{Item, items_of, item_of}
use Rattle.partitions.specs.Partitions.{status_of, next_status, next_partition, Newest, nothing, newest, no_run}
use Rattle.partitions.specs.Items.{identifier_at, data_in, is_written, is_erased}

-- an item with its data
pub record Entry : Type 0 where
  pub item : Item
  pub contents : List ℕ

-- what is written: the item of a layout table with an identifier, and its new data
abbrev pub entry_for : List ℕ → ℕ → List ℕ → Entry
entry_for layout i d = record { item = item_of i (items_of layout); contents = d }

-- "Each item's identifier byte is programmed after its data here, against 001": at this offset, with the data right behind it
abbrev pub item_steps : ℕ → ℕ → List ℕ → List Step
item_steps at i d = programs (at + 1) d ++ (program at i ∷ [])

unfoldable pub write_item : ℕ → ℕ → Entry → List Step
write_item S p e = item_steps (identifier_at S p e.item) e.item.identifier e.contents

unfoldable pub write_items : ℕ → ℕ → List Entry → List Step
write_items S p [] = []
write_items S p (e ∷ es) = write_item S p e ++ write_items S p es

-- "erase the next partition, program there the written items and the new one in table order and only then the status"
unfoldable pub fill : ℕ → ℕ → List Entry → ℕ → List Step
fill S p es status = erase p ∷ (write_items S p es ++ (program (p * S) status ∷ []))

-- the written items of partition p and the new one in its item's place, in table order: its old data is left behind
unfoldable pub carried : ℕ → Image → ℕ → Entry → List Item → List Entry
carried S s p e [] = []
carried S s p e (y ∷ ys) =
    let rest = carried S s p e ys in
    cond (eqb y.identifier e.item.identifier) (e ∷ rest)
    (cond (is_written S s p y) (record { item = y; contents = data_in S s p y } ∷ rest) rest)

-- "the first write erases partition 0, fills it and sets status 0"; otherwise "write in place if its identifier and data bytes are all 255, otherwise erase the next partition .."
unfoldable pub write_steps : ℕ → ℕ → List Item → Image → Newest → Entry → List Step
write_steps P S xs s nothing e = fill S 0 (e ∷ []) 0
write_steps P S xs s (newest p) e =
    cond (is_erased S s p e.item) (write_item S p e) (fill S (next_partition P p) (carried S s p e xs) (next_status (status_of S s p)))
write_steps P S xs s no_run e = []
