-- The laws of steps under a budget where a unit of S bytes is erased: as those of segments (Laws), and bytes programmed are so on either chip.
use mathlib.Core.Path.{◌≡◌, refl, sym, ap, ◌∙◌}
use Prim.Native.Nat.{ℕ, zero, suc, ◌+◌, ◌-◌, ◌*◌, ◌≤◌}
use native.Mathlib.Nat.{sub-zero}
use native.Mathlib.Omega.{arith}
use mathlib.Core.Bool.{Bool, true, false, cond}
use mathlib.Core.List.{List, [], ◌∷◌, ◌++◌}
use lib.ListN.{length, get_or, take, drop, set, replicate, length-append, length-set, length-take, length-drop, length-replicate}
use lib.Dec.{leb}
use lib.Seq.{length-take-le, drop-drop}
use borrow.Author.Tests.{le-leb, leb-true}
use Rattle.model.specs.Chip.{Image, Step, program, erase, clear, erased, with_segment, step, run}
use Rattle.model.proofs.Laws.Chip.{take_append}
use Rattle.flash.specs.Ran.{Ran, Programmed, Within}
use Rattle.flash.specs.Units.{with_unit, step_in, run_in, RanIn}

step_in_length : (S : ℕ) (x : Step) (s : Image) → length (step_in S x s) ≡ length s
unfolding step_in with_unit erased
step_in_length S (program at v) s = length-set s at (clear (get_or s at 0) v)
step_in_length S (erase i) s = go (leb (i * S + S) (length s)) refl
  where
    go : (t : Bool) → leb (i * S + S) (length s) ≡ t → length (cond t (take (i * S) s ++ (replicate S 255 ++ drop (i * S + S) s)) s) ≡ length s
    go true e = let b = leb-true (i * S + S) (length s) e in simp (length-append, length-take, length-drop, length-replicate) (omega arith)
    go false e = refl

pub run_in_length : (S : ℕ) (xs : List Step) (s : Image) → length (run_in S xs s) ≡ length s
unfolding run_in
run_in_length S [] s = refl
run_in_length S (x ∷ xs) s = run_in_length S xs (step_in S x s) ∙ step_in_length S x s

pub run_in_append : (S : ℕ) (xs ys : List Step) (s : Image) → run_in S (xs ++ ys) s ≡ run_in S ys (run_in S xs s)
unfolding run_in
run_in_append S [] ys s = refl
run_in_append S (x ∷ xs) ys s = run_in_append S xs ys (step_in S x s)

-- nothing done
pub none_in : (S n : ℕ) (s : Image) → RanIn [] S n n s s
unfolding run_in
none_in S zero s = record { image = refl; rest = refl }
none_in S (suc n) s = record { image = refl; rest = sym (sub-zero (suc n)) }

-- one step that the budget covers
pub one_in : (x : Step) (S n : ℕ) (s : Image) → (n ≡ 0 → ⊥) → RanIn (x ∷ []) S n (n - 1) s (step_in S x s)
unfolding run_in
one_in x S zero s h = absurd (h refl)
one_in x S (suc zero) s h = record { image = refl; rest = refl }
one_in x S (suc (suc n)) s h = record { image = refl; rest = refl }

-- a budget that is spent: nothing more is done
pub spent_in : (xs : List Step) (S n : ℕ) (s : Image) → n ≡ 0 → RanIn xs S n 0 s s
unfolding run_in
spent_in xs S n s h = record { image = rw h; rest = omega arith }

-- one call after another does the one list after the other
pub ◌then◌ : {xs ys : List Step} {S n n₁ n₂ : ℕ} {s s₁ s₂ : Image} → RanIn xs S n n₁ s s₁ → RanIn ys S n₁ n₂ s₁ s₂ → RanIn (xs ++ ys) S n n₂ s s₂
◌then◌ {xs} {ys} {S} {n} {n₁} {n₂} {s} {s₁} {s₂} d e =
    let a : run_in S (take n (xs ++ ys)) s ≡ run_in S (take (n - length xs) ys) (run_in S (take n xs) s) = rw (take_append n xs ys) (run_in_append S (take n xs) (take (n - length xs) ys) s) in
    record { image = cc (a, d.image, d.rest, e.image); rest = omega (arith, d.rest, e.rest, length-append xs ys) }

-- an image keeps its length
pub length_in : {xs : List Step} {S n r : ℕ} {s u : Image} → RanIn xs S n r s u → length u ≡ length s
length_in {xs} {S} {n} {r} {s} d = ap length d.image ∙ run_in_length S (take n xs) s

-- a unit whose bytes are filled with 255 is erased
pub unit_filled : (S i : ℕ) (s : Image) → i * S + S ≤ length s → take (i * S) s ++ (replicate (length (take S (drop (i * S) s))) 255 ++ drop S (drop (i * S) s)) ≡ step_in S (erase i) s
unfolding erased step_in with_unit
unit_filled S i s h =
    rw (length-take-le S (drop (i * S) s) (omega (arith, length-drop (i * S) s)), drop-drop S (i * S) s, le-leb (i * S + S) (length s) h) refl

-- a segment of B + 1 pages is a unit of as many bytes
segment_is_unit : (B i : ℕ) (s : Image) → step_in ((B + 1) * 256) (erase i) s ≡ step B (erase i) s
unfolding step_in with_unit step with_segment
segment_is_unit B i s =
    let a : i * ((B + 1) * 256) ≡ i * (B + 1) * 256 = omega arith in
    let b : i * (B + 1) * 256 + (B + 1) * 256 ≡ (i * (B + 1) + (B + 1)) * 256 = omega arith in
    rw (a, b) refl

pub ran_unit : (B i : ℕ) {n m : ℕ} {s t : Image} → RanIn (erase i ∷ []) ((B + 1) * 256) n m s t → Ran (erase i ∷ []) B n m s t
unfolding run run_in
ran_unit B i {n} {m} {s} {t} d = record { image = d.image ∙ go n; rest = d.rest }
  where
    go : (k : ℕ) → run_in ((B + 1) * 256) (take k (erase i ∷ [])) s ≡ run B (take k (erase i ∷ [])) s
    go zero = refl
    go (suc zero) = segment_is_unit B i s
    go (suc (suc k)) = segment_is_unit B i s

-- bytes programmed are so whatever an erase would take
same_programmed : (S n c : ℕ) (xs : List Step) (s : Image) → Within c xs → run_in S (take n xs) s ≡ run 0 (take n xs) s
unfolding run run_in step step_in
same_programmed S zero c xs s w = refl
same_programmed S (suc n) c [] s w = refl
same_programmed S (suc n) c (program at v ∷ xs) s w = same_programmed S n c xs (set s at (clear (get_or s at 0) v)) w.1
same_programmed S (suc n) c (erase i ∷ xs) s w = absurd w

pub programmed_in : (S c : ℕ) {n m : ℕ} {xs : List Step} {s t : Image} → Within c xs → Programmed xs n m s t → RanIn xs S n m s t
programmed_in S c {n} {m} {xs} {s} w d = record { image = (d 0).image ∙ sym (same_programmed S n c xs s w); rest = (d 0).rest }
