-- A count's outcome, by what refuses it, and from what the walk met.
use Prim.Native.Nat.{ℕ}
use mathlib.Core.Path.{◌≡◌}
use mathlib.Core.Bool.{Bool, true, false}
use mathlib.Core.List.{[]}
use Rattle.model.specs.Chip.{Image, right_size}
use Rattle.model.specs.State.{holds, clean, state}
use Rattle.model.specs.Table.{live_between, table_of}
use Rattle.model.specs.Answers.{code_of, first_of, is_damaged, is_unfinished, counted, count_refusals, count_outcome}
use Rattle.model.specs.declared.Answer.{Answer}
use Rattle.model.specs.declared.Answer.TheVariants.{Done, Size}
use Rattle.model.specs.declared.Counted.{Counted}
use Rattle.bridge.specs.Refusals.{answer_in, unclean, unclean_code}

module _ (N B : ℕ) (s : Image) (first last b : ℕ) where
  -- an answer, and nothing counted
  abbrev refused : Answer → Counted
  refused a = record { answer = a; blocks = 0; stored = false }

  pub count_size : {r : Counted} → right_size N B s ≡ false → r ≡ refused Size → counted r ≡ count_outcome N B s first last b
  unfolding counted code_of count_outcome count_refusals first_of
  count_size h e = rw (e, h)

  module _ (z : right_size N B s ≡ true) where
    pub count_unclean : {r : Counted} (a : Answer) → (state N B s ≡ clean → ⊥) → a ≡ answer_in (state N B s) → r ≡ refused a → counted r ≡ count_outcome N B s first last b
    unfolding counted count_outcome count_refusals first_of
    count_unclean a n h e = rw (e, h, z, unclean (state N B s) n [], unclean_code (state N B s) n)

    pub count_clean : (blocks : ℕ) (stored : Bool) → state N B s ≡ clean → (blocks ≡ live_between first last (table_of N B s)) × (stored ≡ holds b (table_of N B s))
        → counted (record { answer = Done; blocks = blocks; stored = stored }) ≡ count_outcome N B s first last b
    unfolding counted code_of count_outcome count_refusals first_of is_damaged is_unfinished
    count_clean blocks stored h e = rw (z, h, e.0, e.1)
