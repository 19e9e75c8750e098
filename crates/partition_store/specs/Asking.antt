-- What a request is found to ask for: what refuses it before the statuses are looked at, or the place of its item.
use Rattle.std.specs.Prelude.{ℕ, ◌+◌, ◌/◌, ◌%◌, ◌≤◌, ◌≡◌, Bool, true, false, List, ◌++◌, Result, Ok, Err}
use Rattle.model.specs.Chip.{Image}
use Rattle.model.specs.Answers.{Refusal, first_of}
use Rattle.partitions.specs.Layout.{items_of, layout_ok, has_item, item_of}
use Rattle.partitions.specs.Partitions.{image_ok, partition_size}
use Rattle.partitions.specs.Answers.{number_of, refusals}
use Rattle.partitions.specs.declared.Reply.{Reply}
use Rattle.partition_layout.specs.declared.Place.{Place}

-- P and the table are right, and the item with identifier i stands at an offset of a partition, with so many bytes of data
pub record Known (P : ℕ) (layout : List ℕ) (s : Image) (i at size : ℕ) : Type 0 where
  pub image : image_ok P s ≡ true
  pub table : layout_ok (partition_size P s) layout ≡ true
  pub has : has_item i (items_of layout) ≡ true
  pub item : item_of i (items_of layout) ≡ record { identifier = i; size = size; at = at }
  pub short : size ≤ 255

-- refused for P, for the table or for the identifier, whatever else there is to refuse it for; or not for these
abbrev pub Asks : ℕ → List ℕ → Image → ℕ → Result Place Reply → Type 0
Asks P layout s i (Err a) = (number_of a ≡ 0 → ⊥) × ((fits : Bool) (more : List Refusal) → (has_item i (items_of layout) ≡ false → fits ≡ false) → first_of (refusals P layout s fits ++ more) ≡ number_of a)
Asks P layout s i (Ok p) = Known P layout s i p.offset p.length

-- the item's bytes lie in each of P partitions of an image with so many bytes
pub record Stands (P at size bytes : ℕ) : Type 0 where
  pub some : 2 ≤ P
  pub even : bytes % P ≡ 0
  pub inside : at + 1 + size ≤ bytes / P
  pub short : size ≤ 255
