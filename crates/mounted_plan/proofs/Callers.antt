-- What a caller knows of a decision, by its two forms.
use Prim.Native.Nat.{ℕ}
use mathlib.Core.Path.{◌≡◌, subst}
use mathlib.Core.Bool.{Bool, true, not}
use mathlib.Core.List.{[], ◌∷◌}
use lib.ListN.{length}
use Rattle.model.specs.Chip.{Image}
use Rattle.model.specs.State.{entries_in, holds, clean, state, view}
use Rattle.model.specs.Answers.{code_of}
use Rattle.model.specs.Sequences.{among}
use Rattle.model.specs.declared.Answer.{Answer}
use Rattle.room.specs.Room.{Plannable}
use Rattle.std.specs.Prelude.{Result, Ok, Err}
use Rattle.mounted_plan.specs.declared.PutPlan.{PutPlan}
use Rattle.mounted_plan.specs.Decided.{Any, Agreed, Exact, Decides}

module _ (N B : ℕ) (absent : Bool) (s : Image) (d : Result PutPlan Answer) (w : Decides N B absent s d) where
  module _ (a : Answer) (e : d ≡ Err a) where
    pub refused_listed : among (code_of a) (4 ∷ 7 ∷ 8 ∷ 11 ∷ []) ≡ true
    refused_listed = subst (Any N B (length s)) e w.any

    pub refused_exact : state N B s ≡ clean → (b : ℕ) → absent ≡ not (holds b (entries_in (view N B s))) → Exact N B s b (Err a)
    refused_exact c b h = subst (Exact N B s b) e (w.exact c b h)

  module _ (x : PutPlan) (e : d ≡ Ok x) where
    pub accepted_fits : Plannable N B x.plan (length s)
    accepted_fits = subst (Any N B (length s)) e w.any

    pub accepted_agreed : state N B s ≡ clean → (b : ℕ) → absent ≡ not (holds b (entries_in (view N B s))) → Agreed N B b x.plan x.total s
    accepted_agreed c b h = subst (Exact N B s b) e (w.exact c b h)
