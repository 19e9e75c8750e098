-- What the contracts of this crate say beside the definitions of the model.
use Rattle.std.specs.Prelude.{ℕ, suc, ◌*◌, cond, List, [], ◌∷◌, take, drop, eqb}
use Rattle.model.specs.Chip.{Image, Page}
use Rattle.model.specs.Header.{Version, is_former, tally_of, no_bit_left}
use Rattle.model.specs.Steps.{header_at}
use Rattle.tally.specs.declared.Tally.{Tally}

-- the header page of the segment with number n
unfoldable pub header_in : ℕ → ℕ → ℕ → Image → Page
header_in N B n s = take 256 (drop (header_at N B n * 256) s)

unfoldable pub tally_seen : Version → Tally
tally_seen e = record { former = is_former e; count = tally_of e; no_bit_left = no_bit_left e }

-- how many bytes come before the first that is not 0
unfoldable pub zeros_before : List ℕ → ℕ
zeros_before [] = 0
zeros_before (x ∷ xs) = cond (eqb x 0) (suc (zeros_before xs)) 0
