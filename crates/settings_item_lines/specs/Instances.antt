-- The lines of a small board, computed.
use Rattle.std.specs.Prelude.{◌≡◌, refl, [], ◌∷◌, ◌++◌}
use Rattle.model.specs.Chip.{Image}
use Rattle.text.specs.Text.{text}
use Rattle.text.specs.Decimal.{decimal_of, decimal}
use Rattle.partitions.specs.Answers.{read_outcome}
use Rattle.partitions.proofs.Instances.{computes, two}
use Rattle.settings_hex.specs.Hex.{hex_digit, hex}
use Rattle.settings_item_lines.specs.ItemLines.{item_head, written_line, unwritten_line, item_line, item_lines}

-- two partitions of six bytes, of which the second is the newest; item 1 is written there and item 7 is not
unfoldable pub board : Image
board = (3 ∷ 1 ∷ 0 ∷ 0 ∷ 7 ∷ 0 ∷ []) ++ (4 ∷ 1 ∷ 10 ∷ 171 ∷ 255 ∷ 0 ∷ [])

pub shown : item_lines (read_outcome 2 two board) board two ≡ text "item 1 len 2 offset 8 data 0aab\nitem 7 len 1 unwritten\n"
unfolding computes board text decimal decimal_of hex hex_digit item_head written_line unwritten_line item_line item_lines
shown = refl
