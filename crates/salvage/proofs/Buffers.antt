-- The report in a lent buffer, computed: 1 for another size comes first, then 14, and neither touches the buffer.
use Rattle.std.specs.Prelude.{ℕ, ◌≡◌, refl, List, [], ◌++◌, replicate}
use Rattle.model.specs.Chip.{Image, right_size, pages_of}
use Rattle.model.specs.State.{segments_of}
use Rattle.model.proofs.Laws.Bench.{evaluate}
use Rattle.text.specs.Text.{text}
use Rattle.text.specs.Buffer.{Print, print_in}
use Rattle.account_text.specs.Account.{live_in, live_slots, by_block}
use Rattle.salvage.specs.Salvage.{regarded, candidates, given, salvage_on, salvage_text, salvage_outcome}

-- so that a wrong definition is refused by what it computes before it is by a law

-- three segments of two slots, without a candidate
abbrev none : Image
none = replicate 2304 0

abbrev untouched : ℕ → List ℕ → Print
untouched code buffer = record { code = code; length = 0; buffer = buffer }

-- every definition unfolds where this name does
unfoldable computes : ℕ
unfolding evaluate text print_in right_size pages_of segments_of live_in live_slots by_block regarded candidates given salvage_on salvage_text salvage_outcome
computes = 0

-- 25 bytes; what is behind them stays
first_line : salvage_outcome 3 2 none (replicate 27 7) ≡ record { code = 0; length = 25; buffer = text "salvage promises nothing\n" ++ replicate 2 7 }
unfolding computes
first_line = refl

too_short : salvage_outcome 3 2 none (replicate 24 7) ≡ untouched 14 (replicate 24 7)
unfolding computes
too_short = refl

wrong_size : (salvage_outcome 4 2 none (replicate 27 7) ≡ untouched 1 (replicate 27 7)) × (salvage_outcome 4 2 none [] ≡ untouched 1 [])
unfolding computes
wrong_size = (refl, refl)
