-- Request #112: what is counted of a history with cuts, by its answers, its step lists and what a finished recovery shows. K, the cuts, is `cuts_in`, which a cut inside a recovery counts in too.
use Rattle.std.specs.Prelude.{ℕ, ◌+◌, max, cond, List, [], ◌∷◌, ◌++◌, length, eqb}
use Rattle.model.specs.Histories.{Seen, answered, lost}
use Rattle.model.specs.Sequences.{Ledger, noted}
use Rattle.model.specs.Begun.{Turn}

-- F, the tidyings that reached the owing mark
unfoldable pub marks_of : List Turn → ℕ
marks_of [] = 0
marks_of (e ∷ es) = e.marks + marks_of es

-- after a cut the stored blocks are those that a finished recovery shows, for L as well; R counts only what was acknowledged
unfoldable pub noted_cut : Turn → Ledger → Ledger
noted_cut e t = record { stored = e.kept; largest = max t.largest (length e.kept); replaced = t.replaced; erased = t.erased ++ e.begun }

unfoldable pub noted_as : Turn → Seen → Ledger → Ledger
noted_as e (answered o) t = cond (eqb o.code 9) (noted_cut e t) (noted (record { request = e.request; code = o.code; erases = e.begun }) t)
noted_as e lost t = noted_cut e t

-- stored blocks, L, R and the erases begun
unfoldable pub ledger_of : List Turn → Ledger → Ledger
ledger_of [] t = t
ledger_of (e ∷ es) t = ledger_of es (noted_as e e.seen t)
