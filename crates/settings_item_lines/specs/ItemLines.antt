-- A line for each item of a layout table: its identifier and length, and what a read of it gives.
use Rattle.std.specs.Prelude.{ℕ, cond, List, [], ◌∷◌, ◌++◌, take, drop, eqb}
use Rattle.model.specs.Chip.{Image}
use Rattle.model.specs.Answers.{ReadOutcome}
use Rattle.text.specs.Text.{text}
use Rattle.text.specs.Decimal.{decimal}
use Rattle.settings_hex.specs.Hex.{hex}

-- as "item 7 len 2"
unfoldable pub item_head : ℕ → ℕ → List ℕ
item_head i n = (text "item " ++ decimal i) ++ (text " len " ++ decimal n)

-- as "item 7 len 2 offset 21 data 0a0b"
unfoldable pub written_line : ℕ → ℕ → ℕ → List ℕ → List ℕ
written_line i n offset bytes = item_head i n ++ (text " offset " ++ decimal offset) ++ text " data " ++ (hex bytes ++ text "\n")

-- as "item 9 len 4 unwritten"
unfoldable pub unwritten_line : ℕ → ℕ → List ℕ
unwritten_line i n = item_head i n ++ text " unwritten\n"

-- the line of an item of an image, by what a read gives: a read that is done tells where the data are
unfoldable pub item_line : Image → ℕ → ℕ → ReadOutcome → List ℕ
item_line s i n o = cond (eqb o.code 0) (written_line i n o.offset (take o.length (drop o.offset s))) (unwritten_line i n)

-- one for each pair of a table, in its order, by what reads give
unfoldable pub item_lines : (ℕ → ReadOutcome) → Image → List ℕ → List ℕ
item_lines reads s [] = []
item_lines reads s (i ∷ []) = []
item_lines reads s (i ∷ n ∷ r) = item_line s i n (reads i) ++ item_lines reads s r

-- a right table has up to 255 pairs; one of so many bytes is one pair longer
abbrev pub most_layout : ℕ
most_layout = 512
