-- A request under an allowance of steps: it ends, or it is stopped with 9.
use Rattle.std.specs.Prelude.{ℕ, ◌<◌, ◌≡◌, refl, ◌⊎◌, ◌≢◌, Bool, true, false, List, length, take, leb}
use Rattle.std.proofs.Common.{ap, inl, inr, ⊎_elim, take_all, leb-true, leb-false}
use Rattle.model.specs.Chip.{Image, Step, run, Cut}
use Rattle.model.specs.Answers.{Request, work_of, code_under, outcome_of}
use Rattle.model.proofs.Laws.Chip.{prefix_cut}

-- its whole list done
pub record Ends (N B : ℕ) (s : Image) (allowance : ℕ) (r : Request) : Type 0 where
  pub whole : take allowance (work_of N B s r).steps ≡ (work_of N B s r).steps
  pub code : (outcome_of N B s allowance r).code ≡ (work_of N B s r).code
  pub image : (outcome_of N B s allowance r).image ≡ run B (work_of N B s r).steps s

pub record Stops (N B : ℕ) (s : Image) (allowance : ℕ) (r : Request) : Type 0 where
  pub short : allowance < length (work_of N B s r).steps
  pub code : (outcome_of N B s allowance r).code ≡ 9
  pub image : Cut B (work_of N B s r).steps s (outcome_of N B s allowance r).image

pub ends_or_stops : (N B : ℕ) (s : Image) (allowance : ℕ) (r : Request) → Ends N B s allowance r ⊎ Stops N B s allowance r
unfolding outcome_of code_under
ends_or_stops N B s allowance r = go (leb (length xs) allowance) refl
  where
    xs : List Step
    xs = (work_of N B s r).steps

    go : (t : Bool) → leb (length xs) allowance ≡ t → Ends N B s allowance r ⊎ Stops N B s allowance r
    go true e = let w = take_all allowance xs (leb-true (length xs) allowance e) in inl (record { whole = w; code = rw e; image = ap (λ y. run B y s) w })
    go false e = inr (record { short = leb-false (length xs) allowance e; code = rw e; image = prefix_cut B allowance xs s })

-- one that does not answer 9 ends
pub ends : (N B : ℕ) (s : Image) (allowance : ℕ) (r : Request) → (outcome_of N B s allowance r).code ≢ 9 → Ends N B s allowance r
ends N B s allowance r h = ⊎_elim (λ e. e) (λ e. absurd (h e.code)) (ends_or_stops N B s allowance r)
