-- What comes back of a request that P, its table and its item do not refuse.
use Rattle.std.specs.Prelude.{ℕ, ◌-◌, ◌≡◌, cond, not, List, [], ◌∷◌, length, ltb, eqb}
use Rattle.model.specs.Chip.{Image, Step}
use Rattle.model.specs.Answers.{◌when◌, first_of, Work, ReadOutcome}
use Rattle.partitions.specs.declared.Written.{Written}
use Rattle.partitions.specs.Layout.{Item}
use Rattle.partitions.specs.Partitions.{Newest}
use Rattle.partitions.specs.Writes.{Entry, write_steps}
use Rattle.partitions.specs.Answers.{number_of, is_no_run, worked_in, wrote, is_stored, offset_of}

-- ---- writing

-- the last part of the list has `last` steps, and `before` is what was left of the budget before it
pub record Finished (budget left before last : ℕ) (w : Written) : Type 0 where
  pub code : number_of w.answer ≡ cond (ltb before last) 9 0
  pub count : w.steps ≡ budget - left

-- a list of steps, and no refusal
abbrev pub accepted : List Step → Work
accepted steps = record { code = 0; steps = steps }

-- a list of steps was carried out as far as the budget went, and this is what comes back
abbrev pub Performs : List Step → ℕ → ℕ → Written → Image → Image → Type 0
Performs steps S budget w from to = wrote w to ≡ worked_in S (accepted steps) from budget

-- the work of a write by the newest partition alone
unfoldable pub write_on : ℕ → ℕ → List Item → Image → Newest → Entry → Work
write_on P S xs s n e = cond (is_no_run n) (record { code = 4; steps = [] }) (accepted (write_steps P S xs s n e))

-- an item at an offset of a partition, with its data
abbrev pub entry_at : ℕ → ℕ → List ℕ → Entry
entry_at at item contents = record { item = record { identifier = item; size = length contents; at = at }; contents = contents }

-- ---- reading

-- what a read gives by the newest partition alone
unfoldable pub read_on : ℕ → Image → Newest → Item → ReadOutcome
read_on S s n x =
    let code = first_of ((4 when is_no_run n) ∷ (5 when not (is_stored S s n x)) ∷ []) in
    cond (eqb code 0) (record { code = 0; offset = offset_of S n x; length = x.size }) (record { code = code; offset = 0; length = 0 })
