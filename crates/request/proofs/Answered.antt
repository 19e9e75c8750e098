-- A request's outcome as one equation: it was refused; it takes no step; or its list was performed as far as the budget went.
use Prim.Native.Nat.{ℕ, zero, suc, ◌+◌, ◌-◌, ◌<◌}
use mathlib.Core.Path.{◌≡◌, refl, ◌∙◌}
use mathlib.Core.Bool.{Bool, true, false, cond}
use mathlib.Core.List.{List, [], ◌++◌}
use native.Mathlib.Omega.{arith}
use lib.ListN.{length, take, length-append, length-take}
use lib.Dec.{leb, ltb, eqb}
use borrow.Author.Tests.{le-leb, lt-ltb, le-ltb, leb-true, leb-false}
use Rattle.model.specs.Chip.{Image, Step, run}
use Rattle.model.specs.State.{segments_of}
use Rattle.model.specs.Answers.{code_of, Request, steps_for, work_on, work_of, code_under, performed, Outcome, worked, outcome_of}
use Rattle.model.specs.declared.Answer.{Answer}
use Rattle.model.specs.declared.Performed.{Performed}
use Rattle.bridge.specs.Accepted.{refusal}
use Rattle.flash.specs.Ran.{Ran}
use Rattle.request.specs.Request.{Refused, Finished, Carried}

-- ---- no step

nothing : (B c k : ℕ) (s : Image) → ◌≡◌ {A = Outcome} (record { code = c; count = 0; image = s }) (record { code = cond (leb 0 k) c 9; count = length (take {A = Step} k []); image = run B (take k []) s })
unfolding run
nothing B c zero s = refl
nothing B c (suc k) s = rw (le-leb 0 (suc k) (omega arith))

-- ---- steps under a budget

-- the list was cut short just if what was left before its last part does not cover that part
pub cut_short : (a f budget : ℕ) → 0 < f → ◌≡◌ {A = ℕ} (cond (ltb (budget - a) f) 9 0) (cond (leb (a + f) budget) 0 9)
cut_short a f budget h = go (leb (a + f) budget) refl
  where
    go : (t : Bool) → leb (a + f) budget ≡ t → ◌≡◌ {A = ℕ} (cond (ltb (budget - a) f) 9 0) (cond t 0 9)
    go true e = let k = leb-true (a + f) budget e in rw (le-ltb (budget - a) f (omega arith))
    go false e = let k = leb-false (a + f) budget e in rw (lt-ltb (budget - a) f (omega arith))

-- two calls, and what was left between them
pub carried : (xs ys : List Step) {B budget left m f : ℕ} {p : Performed} {s t : Image} → Ran (xs ++ ys) B budget left s t → m ≡ budget - length xs → f ≡ length ys → Finished budget left m f p
    → Carried xs ys B budget p s t
carried xs ys {left = left} d em ef r = record { left = left; ran = d; finished = record { code = rw (em, ef) at r.code; count = r.count } }

-- the same of any work
module _ (B : ℕ) (s : Image) (budget : ℕ) where
  pub refused_worked : (a : Answer) (p : Performed) → Refused a p → performed p s ≡ worked B (record { code = code_of a; steps = [] }) s budget
  unfolding performed code_under
  refused_worked a p r = rw (r.code, r.none) (nothing B (code_of a) budget s)

  pub carried_worked : (xs ys : List Step) {p : Performed} {t : Image} → 0 < length ys → Carried xs ys B budget p s t → performed p t ≡ worked B (record { code = 0; steps = xs ++ ys }) s budget
  unfolding performed code_under
  carried_worked xs ys {p} {t} some c =
      let l = length-append xs ys in
      let code : code_of p.answer ≡ cond (leb (length (xs ++ ys)) budget) 0 9 = c.finished.code ∙ rw l (cut_short (length xs) (length ys) budget some) in
      let count : p.steps ≡ length (take budget (xs ++ ys)) = omega (arith, c.finished.count, c.ran.rest, length-take budget (xs ++ ys)) in
      rw (code, count, c.ran.image)

-- a request's
module _ (N B : ℕ) (s : Image) (budget : ℕ) where
  pub refused_outcome : (q : Request) (a : Answer) (p : Performed) → refusal N B s q ≡ code_of a → eqb (code_of a) 0 ≡ false → Refused a p → performed p s ≡ outcome_of N B s budget q
  unfolding outcome_of work_of work_on
  refused_outcome q a p e n r = rw (e, n) (refused_worked B s budget a p r)

  -- an accepted request without steps
  pub idle_outcome : (q : Request) (a : Answer) (p : Performed) → refusal N B s q ≡ 0 → steps_for N B (segments_of N B s) q ≡ [] → code_of a ≡ 0 → Refused a p → performed p s ≡ outcome_of N B s budget q
  unfolding performed outcome_of work_of work_on code_under
  idle_outcome q a p e n z r = rw (e, n, r.code, r.none, z) (nothing B 0 budget s)

  pub carried_outcome : (q : Request) (xs ys : List Step) {p : Performed} {t : Image} → refusal N B s q ≡ 0 → steps_for N B (segments_of N B s) q ≡ xs ++ ys → 0 < length ys → Carried xs ys B budget p s t
      → performed p t ≡ outcome_of N B s budget q
  unfolding outcome_of work_of work_on
  carried_outcome q xs ys {p} {t} e n some c = rw (e, n) (carried_worked B s budget xs ys some c)
