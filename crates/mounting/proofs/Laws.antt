-- A mount, by what refuses it, as the code answers.
use Prim.Native.Nat.{ℕ, ◌≤◌}
use mathlib.Core.Path.{◌≡◌, refl, sym, ap, ◌∙◌}
use lib.ListN.{length, set}
use Rattle.model.specs.Chip.{Image, right_size}
use mathlib.Core.Bool.{true}
use Rattle.model.specs.State.{State, clean, unfinished, damaged, state}
use Rattle.model.specs.Answers.{code_of}
use Rattle.model.specs.declared.Answer.{Answer}
use Rattle.model.specs.Mounted.{Places, least_places, unusable, mounted_as, mount_outcome}
use Rattle.model.proofs.Laws.Mounted.{mount_damaged, mount_unfinished}
use Rattle.bridge.specs.Refusals.{answer_in}

-- 4 or 5
pub mount_unclean : (N B : ℕ) (s : Image) (t : Places) → right_size N B s ≡ true → least_places ≤ length t → (a : Answer) → (state N B s ≡ clean → ⊥) → a ≡ answer_in (state N B s) → mounted_as a (set t 0 0) ≡ mount_outcome N B s t
unfolding mounted_as code_of answer_in unusable
mount_unclean N B s t z l a n e = ap (λ (y : Answer). mounted_as y (set t 0 0)) e ∙ go (state N B s) refl
  where
    go : (x : State) → state N B s ≡ x → mounted_as (answer_in x) (set t 0 0) ≡ mount_outcome N B s t
    go clean h = absurd (n h)
    go (unfinished x) h = sym (mount_unfinished N B s t z l x h)
    go damaged h = sym (mount_damaged N B s t z l h)
