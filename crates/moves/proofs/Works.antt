-- A request that builds a fresh image from a table, by its work: refused by a row without a step, or the whole list.
use Rattle.std.specs.Prelude.{ℕ, ◌≤◌, ◌≡◌, ◌≢◌, ◌⊎◌, Bool, cond}
use Rattle.std.proofs.Math.Path.{refl, ap}
use Rattle.std.proofs.Common.{sym, ◌∙◌, arith, length-take, take_all}
use Rattle.std.proofs.Math.Logic.{inl, inr, ⊎_elim}
use Rattle.std.proofs.Math.Bool.{true, false}
use mathlib.Core.List.{List, []}
use Rattle.std.proofs.Math.ListN.{length, take}
use Rattle.std.proofs.Math.Seq.{take-nil}
use Rattle.std.proofs.Math.Dec.{leb, eqb}
use borrow.Author.Tests.{leb-true, eqb-true, eqb-false}
use Rattle.model.specs.Chip.{Image, Step, largest_image, right_size, run}
use Rattle.model.specs.Table.{Table}
use Rattle.model.specs.Answers.{Refusal, first_of, Work, Outcome, code_under, worked}
use Rattle.moves.specs.Moves.{by_number, fresh_steps, fresh_work}
use Rattle.moves.proofs.Fresh.{Fits, fresh_list, fresh_few}

-- what a request gives that builds on image t of M segments with D slots
abbrev pub building : List Refusal → ℕ → ℕ → Table → Image → ℕ → Outcome
building rows M D table t allowance = worked D (fresh_work rows M D table t) t allowance

module _ (rows : List Refusal) (M D : ℕ) (table : Table) (t : Image) where
  abbrev work : Work
  work = fresh_work rows M D table t

  -- refused without a step, or the list of a fresh image
  pub record Accepted : Type 0 where
    pub free : first_of rows ≡ 0
    pub code : (fresh_work rows M D table t).code ≡ 0
    pub steps : (fresh_work rows M D table t).steps ≡ fresh_steps M D (by_number table) t

  pub record Rejected : Type 0 where
    pub code : (fresh_work rows M D table t).code ≢ 0
    pub steps : (fresh_work rows M D table t).steps ≡ []

  pub decided : Accepted ⊎ Rejected
  unfolding fresh_work
  decided = go (eqb (first_of rows) 0) refl
    where
      go : (u : Bool) → eqb (first_of rows) 0 ≡ u → Accepted ⊎ Rejected
      go true e = inl (record { free = eqb-true (first_of rows) 0 e; code = rw e; steps = rw e })
      go false e = inr (record { code = λ q. eqb-false (first_of rows) 0 e (sym (rw e) ∙ q); steps = rw e })

  -- one that answers 0 did the whole list
  pub record Done (allowance : ℕ) : Type 0 where
    pub free : first_of rows ≡ 0
    pub image : (building rows M D table t allowance).image ≡ run D (fresh_steps M D (by_number table) t) t
    pub count : (building rows M D table t allowance).count ≡ length (fresh_steps M D (by_number table) t)

  -- under an allowance that covers the list, or not
  ended : (allowance : ℕ) → (u : Bool) → leb (length work.steps) allowance ≡ u → (building rows M D table t allowance).code ≡ cond u work.code 9
  unfolding code_under
  ended allowance u e = rw e

  pub done : (allowance : ℕ) → (building rows M D table t allowance).code ≡ 0 → Done allowance
  done allowance e = go (leb (length work.steps) allowance) refl
    where
      go : (u : Bool) → leb (length work.steps) allowance ≡ u → Done allowance
      go false f = absurd (omega (arith, e, ended allowance false f))
      go true f =
          ⊎_elim
          (λ a. let all = take_all allowance work.steps (leb-true (length work.steps) allowance f) ∙ a.steps in record {
            free = a.free;
            image = ap (λ xs. run D xs t) all;
            count = ap (λ (xs : List Step). length xs) all;
          })
          (λ r. absurd (r.code (sym (ended allowance true f) ∙ e)))
          decided

  -- one that answers neither 0 nor 9 did none
  pub undone : (allowance : ℕ) → (building rows M D table t allowance).code ≢ 0 → (building rows M D table t allowance).code ≢ 9
      → ((building rows M D table t allowance).count ≡ 0) × ((building rows M D table t allowance).image ≡ t)
  unfolding run
  undone allowance n m = go (leb (length work.steps) allowance) refl
    where
      go : (u : Bool) → leb (length work.steps) allowance ≡ u → (length (take allowance work.steps) ≡ 0) × (run D (take allowance work.steps) t ≡ t)
      go false f = absurd (m (ended allowance false f))
      go true f =
          ⊎_elim (λ a. absurd (n (ended allowance true f ∙ a.code)))
          (λ r. let none : take allowance work.steps ≡ [] = ap (λ (xs : List Step). take allowance xs) r.steps ∙ take-nil allowance in (ap (λ (xs : List Step). length xs) none, ap (λ xs. run D xs t) none))
          decided

-- ---- where the rows see to it that the target has a right size and the table fits

-- what is asked of one that is not refused
abbrev pub Sees : List Refusal → ℕ → ℕ → Table → Image → Type 0
Sees rows M D table t = first_of rows ≡ 0 → (right_size M D t ≡ true) × Fits M D (by_number table)

pub few_steps : (rows : List Refusal) (M D : ℕ) (table : Table) (t : Image) (allowance : ℕ) → Sees rows M D table t → (building rows M D table t allowance).count ≤ largest_image
few_steps rows M D table t allowance sees =
    let w = fresh_work rows M D table t in
    ⊎_elim
    (λ a. let f = sees a.free in omega (arith, length-take allowance w.steps, ap (λ (xs : List Step). length xs) a.steps, fresh_few M D (by_number table) t f.0 f.1))
    (λ r. omega (arith, length-take allowance w.steps, ap (λ (xs : List Step). length xs) r.steps))
    (decided rows M D table t)

-- the list is the same whatever the target held
pub same_work : (rows : List Refusal) (M D : ℕ) (table : Table) (t u : Image) → Sees rows M D table t → right_size M D u ≡ right_size M D t → fresh_work rows M D table u ≡ fresh_work rows M D table t
unfolding fresh_work
same_work rows M D table t u sees z = go (eqb (first_of rows) 0) refl
  where
    go : (x : Bool) → eqb (first_of rows) 0 ≡ x
        → cond {A = Work} x (record { code = 0; steps = fresh_steps M D (by_number table) u }) (record { code = first_of rows; steps = [] })
        ≡ cond x (record { code = 0; steps = fresh_steps M D (by_number table) t }) (record { code = first_of rows; steps = [] })
    go false e = refl
    go true e = let f = sees (eqb-true (first_of rows) 0 e) in
        ap (λ (xs : List Step). record { code = 0; steps = xs }) (fresh_list M D (by_number table) u (z ∙ f.0) f.1 ∙ sym (fresh_list M D (by_number table) t f.0 f.1))
