-- Request #104, "recovery wears the chip too", as one statement over histories of any length, with cuts anywhere.
use Rattle.std.specs.Prelude.{ℕ, ◌+◌, ◌-◌, ◌/◌, ◌≤◌, ◌<◌, ◌≡◌, true, false, List, [], ◌∷◌}
use Rattle.model.specs.Chip.{Image, right_size, run}
use Rattle.model.specs.Header.{tally_of, no_bit_left}
use Rattle.model.specs.State.{segments_of, next_number, top_version}
use Rattle.model.specs.Steps.{format_steps}
use Rattle.model.specs.Begun.{Turn, Turns, cuts_in, recovery_erases, begun_on}
use Rattle.crash.specs.Machine.{OnTable}

-- the tally of an image, and its top's number
abbrev pub tally_in : ℕ → ℕ → Image → ℕ
tally_in N B s = tally_of (top_version N (segments_of N B s))

abbrev pub top_in : ℕ → ℕ → Image → ℕ
top_in N B s = next_number (segments_of N B s) - 1

-- the top has a bit left
abbrev pub BitLeft : ℕ → ℕ → Image → Type 0
BitLeft N B s = no_bit_left (top_version N (segments_of N B s)) ≡ false

-- without another format
abbrev pub Unformatted : List Turn → Type 0
Unformatted [] = Unit {0}
Unformatted (e ∷ es) = OnTable e.request × Unformatted es

-- From a finished format on, while the top has a bit left: the tally is at least the number of erases that recoveries have begun,
-- and at most the number of cuts; and the erases begun on any one segment are at most the top's number div N, plus the tally, plus 1.
abbrev pub TallyTells : Type 0
TallyTells = (N B : ℕ) (s u : Image) (es : List Turn) → right_size N B s ≡ true → Turns N B (run B (format_steps N B) s) es u → Unformatted es → BitLeft N B u
    → (recovery_erases es ≤ tally_in N B u) × (tally_in N B u ≤ cuts_in es) × ((i : ℕ) → i < N → begun_on i es ≤ top_in N B u / N + tally_in N B u + 1)
