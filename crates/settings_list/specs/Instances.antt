-- Lists of small boards, computed.
use Rattle.std.specs.Prelude.{◌≡◌, refl, [], ◌∷◌, ◌++◌, map}
use Rattle.model.specs.Chip.{Image}
use Rattle.text.specs.Text.{text}
use Rattle.text.specs.Decimal.{decimal_of, decimal}
use Rattle.partitions.proofs.Instances.{computes, two}
use Rattle.settings_hex.specs.Hex.{hex_digit, hex}
use Rattle.settings_item_lines.specs.ItemLines.{item_head, written_line, unwritten_line, item_line, item_lines}
use Rattle.settings_item_lines.specs.Instances.{board}
use Rattle.settings_list.specs.BoardList.{partition_line, newest_line, list_text, list_outcome}

-- two partitions of six bytes with nothing written, and with the second one newest
abbrev blank : Image
blank = 255 ∷ 255 ∷ 255 ∷ 255 ∷ 255 ∷ 255 ∷ 255 ∷ 255 ∷ 255 ∷ 255 ∷ 255 ∷ 255 ∷ []

pub shown : (list_outcome 2 two blank ≡ record { code = 0; text = text "nothing written\nitem 1 len 2 unwritten\nitem 7 len 1 unwritten\n" })
    × (list_outcome 2 two board ≡ record { code = 0; text = text "partition 1 status 4\nitem 1 len 2 offset 8 data 0aab\nitem 7 len 1 unwritten\n" })
    × (list_outcome 2 [] board ≡ record { code = 0; text = text "partition 1 status 4\n" })
unfolding computes board text decimal decimal_of hex hex_digit item_head written_line unwritten_line item_line item_lines partition_line newest_line list_text list_outcome
shown = (refl, refl, refl)

-- refused, it has no text: P, a table that is too long, and statuses that are no run; an item that is not there is asked of no list
pub refused : map (λ P. list_outcome P two board) (1 ∷ 3 ∷ 4 ∷ []) ++ (list_outcome 2 (3 ∷ 3 ∷ 3 ∷ []) (4 ∷ board) ∷ list_outcome 2 (9 ∷ 5 ∷ []) board ∷ list_outcome 2 (1 ∷ []) board ∷ list_outcome 2 [] (3 ∷ 5 ∷ []) ∷ [])
    ≡ map (λ k. record { code = k; text = [] }) (1 ∷ 1 ∷ 2 ∷ 1 ∷ 2 ∷ 2 ∷ 4 ∷ [])
unfolding computes board list_outcome
refused = refl
