-- A put and a delete that the store is asked for, with all steps or none.
use Prim.Native.Nat.{ℕ, ◌≤◌}
use mathlib.Core.Path.{◌≡◌, refl, ap, ◌∙◌}
use mathlib.Core.Logic.{⊎_elim}
use mathlib.Core.Bool.{Bool, true, false, cond}
use mathlib.Core.List.{[]}
use native.Mathlib.Omega.{arith}
use lib.Dec.{eqb}
use Rattle.model.specs.Chip.{Image, run, largest_image}
use Rattle.model.specs.Table.{table_of}
use Rattle.model.specs.Answers.{code_of, Request, delete, first_of, work_of, performed, Outcome, outcome_of}
use Rattle.model.specs.declared.Performed.{Performed}
use Rattle.bridge.specs.Accepted.{refused_none}
use Rattle.bridge.specs.Allowance.{Ends, ends_or_stops}
use Rattle.bridge.specs.Lengths.{few_steps}
use Rattle.shares.specs.Shares.{Share}
use Rattle.shares.specs.Layer.{Asked, deletes, store_request, rows, contents_asked, Shared, wrote}
use Rattle.sharing.specs.Within.{code_within, outcome_within}

module _ (N B : ℕ) (s : Image) where
  -- with a budget above the largest image's bytes, every list is performed to its end
  all_steps : (budget : ℕ) (q : Request) → largest_image ≤ budget → Ends N B s budget q
  all_steps budget q h = ⊎_elim (λ e. e) (λ e. absurd (omega (arith, e.short, few_steps N B s q))) (ends_or_stops N B s budget q)

  module _ (x : Share) (r : Asked) where
    -- the store's answer is handed on, and its steps are all done
    pub passed_on : code_within N B x s r ≡ (work_of N B s (store_request r)).code → contents_asked (table_of N B s) r ≡ []
        → (budget : ℕ) (p : Performed) (u : Image) → largest_image ≤ budget → performed p u ≡ outcome_of N B s budget (store_request r) → wrote p.answer u ≡ outcome_within N B x s r
    unfolding outcome_within wrote performed
    passed_on c g budget p u h e =
        let d = all_steps budget (store_request r) h in
        let k : code_of p.answer ≡ (work_of N B s (store_request r)).code = ap (λ (o : Outcome). o.code) e ∙ d.code in
        let i : u ≡ run B (work_of N B s (store_request r)).steps s = ap (λ (o : Outcome). o.image) e ∙ d.image in
        rw (c, g, k, i) (go (eqb (work_of N B s (store_request r)).code 0) refl)
      where
        go : (t : Bool) → eqb (work_of N B s (store_request r)).code 0 ≡ t
            → ◌≡◌ {A = Shared} (record { code = (work_of N B s (store_request r)).code; given = []; image = run B (work_of N B s (store_request r)).steps s }) (record { code = (work_of N B s (store_request r)).code; given = cond t [] []; image = run B (cond t (work_of N B s (store_request r)).steps []) s })
        go true f = refl
        go false f = rw (refused_none N B s (store_request r) f)

  pub deleted : (x : Share) (b budget : ℕ) (p : Performed) (u : Image) → largest_image ≤ budget → performed p u ≡ outcome_of N B s budget (delete b) → wrote p.answer u ≡ outcome_within N B x s (deletes b)
  unfolding code_within rows first_of store_request contents_asked
  deleted x b budget p u h e = passed_on x (deletes b) refl refl budget p u h e
