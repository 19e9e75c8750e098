-- One call after another under a budget, where the steps of the second are known only if the first ran whole: a cut first part leaves no budget, and then the second does nothing.
use Rattle.std.specs.Prelude.{ℕ, ◌≤◌, ◌≡◌, List, ◌++◌, length}
use Rattle.std.proofs.Common.{sym, subst, arith}
use Rattle.std.proofs.Math.Decide.{dec_le}
use Rattle.model.specs.Chip.{Image, Step, run}
use Rattle.flash.specs.Ran.{Ran}
use Rattle.flash.proofs.Laws.{◌then◌, ran_spent}

-- with no budget nothing is done
pub spent_idle : {ys : List Step} {B n k : ℕ} {t u : Image} → Ran ys B n k t u → n ≡ 0 → (u ≡ t) × (k ≡ 0)
unfolding run
spent_idle {ys} {B} {n} {k} {t} {u} d z = (rw z at d.image, omega (arith, d.rest))

-- the second call does its list if the first ran whole, and nothing if no budget is left
pub then_if_whole : {xs ys : List Step} {B n m k : ℕ} {s t u : Image} → Ran xs B n m s t → (length xs ≤ n → Ran ys B m k t u) → (m ≡ 0 → (u ≡ t) × (k ≡ 0))
    → Ran (xs ++ ys) B n k s u
then_if_whole {xs} {ys} {B} {n} {m} {k} {s} {t} {u} d whole idle = elim (dec_le (length xs) n) [ yes h ↦ ◌then◌ d (whole h) | no h ↦ cut h ]
  where
    cut : (length xs ≤ n → ⊥) → Ran (xs ++ ys) B n k s u
    cut h =
        let z : m ≡ 0 = omega (arith, d.rest) in
        let e : (u ≡ t) × (k ≡ 0) = idle z in
        subst (λ (v : Image). Ran (xs ++ ys) B n k s v) (sym e.0) (rw e.1 (◌then◌ d (ran_spent ys B m t z)))

-- the same where the second call does some list of its own, which is the wanted one if the first ran whole
pub then_list_if_whole : {xs ys zs : List Step} {B n m k : ℕ} {s t u : Image} → Ran xs B n m s t → Ran zs B m k t u → (length xs ≤ n → zs ≡ ys) → Ran (xs ++ ys) B n k s u
then_list_if_whole {xs} {ys} {zs} {B} {n} {m} {k} {s} {t} {u} d e same =
    then_if_whole d (λ h. subst (λ (l : List Step). Ran l B m k t u) (same h) e) (spent_idle e)
