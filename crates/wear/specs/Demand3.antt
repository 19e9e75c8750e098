-- Demand 3, as one statement over sequences of any length.
use Rattle.std.specs.Prelude.{ℕ, suc, ◌-◌, ◌*◌, ◌/◌, ◌≤◌, ◌<◌, ◌≡◌, List, [], ◌∷◌, length, take}
use Rattle.model.specs.Chip.{Image}
use Rattle.model.specs.Table.{Table, blocks}
use Rattle.model.specs.Answers.{format, outcome_of}
use Rattle.model.specs.Sequences.{Call, Observed, observed, Uncut, Ledger, start, ledger, erase_count, erases_of}

-- the count of a sequence that starts with a table stored: L counts its blocks. With none it is that of a sequence from a format
unfoldable pub stocked : Table → Ledger
stocked t = record { stored = blocks t; largest = length t; replaced = 0; erased = [] }

-- the whole part of E/(N-1), times ((N-1)B - L), is at most R
abbrev pub ErasesPaid : ℕ → ℕ → Ledger → Type 0
ErasesPaid N B t = erase_count t / (N - 1) * ((N - 1) * B - t.largest) ≤ t.replaced

-- no request erases more than N-1 segments
abbrev pub FewErases : ℕ → List Observed → Type 0
FewErases N [] = Unit {0}
FewErases N (o ∷ os) = (length o.erases ≤ N - 1) × FewErases N os

-- the erases of any two segments differ by at most one
abbrev pub Balanced : ℕ → Ledger → Type 0
Balanced N t = (i j : ℕ) → i < N → j < N → erases_of i t ≤ suc (erases_of j t)

-- what demand 3 says of a sequence, by what was observed of its requests and the count that it starts with; the last part after each of them
abbrev pub Bounded : ℕ → ℕ → Ledger → List Observed → Type 0
Bounded N B t os = ErasesPaid N B (ledger os t) × FewErases N os × ((k : ℕ) → Balanced N (ledger (take k os) t))

-- Every sequence of put, delete, read and recover, with any arguments, none of which answers 9, from the image that a format that answered 0 left.
abbrev pub Demand3 : Type 0
Demand3 = (N B : ℕ) (s : Image) (allowance : ℕ) (xs : List Call)
    → (outcome_of N B s allowance format).code ≡ 0
    → Uncut (observed N B (outcome_of N B s allowance format).image xs)
    → Bounded N B start (observed N B (outcome_of N B s allowance format).image xs)
