-- Laws of steps under a budget: nothing, one step, one call after another, a budget that is spent; bytes programmed in a loop; a part of the image.
use mathlib.Core.Path.{◌≡◌, refl, sym, ap, ◌∙◌, subst}
use Prim.Native.Nat.{ℕ, zero, suc, ◌+◌, ◌-◌, ◌*◌, ◌≤◌, ◌<◌, min}
use native.Mathlib.Nat.{sub-zero, add-zero, zero-add, suc-add, min-eq_left, min-eq_right, min-le_left}
use native.Mathlib.Numerals.{add-one}
use native.Mathlib.Decide.{dec_le}
use native.Mathlib.Omega.{arith}
use mathlib.Core.List.{List, [], ◌∷◌, ◌++◌}
use lib.ListN.{length, get_or, take, drop, set, length-append, length-drop, take-append-drop, get_or-append}
use lib.Bits.{bit_and}
use lib.Seq.{take-suc, take-length, take_all, get_or-append-add, set-append_left, length-take-le}
use Rattle.model.specs.Chip.{Image, Step, program, erase, clear, step, run, run_first}
use Rattle.model.specs.Steps.{programs, on_page}
use Rattle.model.proofs.Laws.Chip.{step_length, run_length, run_append, first_append}
use Rattle.flash.specs.Ran.{Ran, Programmed, shifted, Within}

-- ---- lists of steps

-- nothing done
pub ran_none : (B n : ℕ) (s : Image) → Ran [] B n n s s
unfolding run
ran_none B zero s = record { image = refl; rest = refl }
ran_none B (suc n) s = record { image = refl; rest = sym (sub-zero (suc n)) }

-- one step that the budget covers
pub ran_one : (x : Step) (B n : ℕ) (s : Image) → (n ≡ 0 → ⊥) → Ran (x ∷ []) B n (n - 1) s (step B x s)
unfolding run
ran_one x B zero s h = absurd (h refl)
ran_one x B (suc zero) s h = record { image = refl; rest = refl }
ran_one x B (suc (suc n)) s h = record { image = refl; rest = refl }

-- a budget that is spent: nothing more is done
pub ran_spent : (xs : List Step) (B n : ℕ) (s : Image) → n ≡ 0 → Ran xs B n 0 s s
unfolding run
ran_spent xs B n s h = record { image = rw h; rest = omega arith }

-- the budget does not grow
pub ran_left : {xs : List Step} {B n m : ℕ} {s t : Image} → Ran xs B n m s t → m ≤ n
ran_left d = omega (arith, d.rest)

-- what is left of a budget says that all was done
pub whole_run : {xs : List Step} {B n m : ℕ} {s t : Image} → Ran xs B n m s t → 0 < m → t ≡ run B xs s
whole_run {xs} {B} {n} {m} {s} {t} d h = d.image ∙ ap (λ (y : List Step). run B y s) (take_all n xs (omega (arith, d.rest)))

-- an image keeps its length
pub ran_length : {xs : List Step} {B n r : ℕ} {s u : Image} → Ran xs B n r s u → length u ≡ length s
ran_length {xs} {B} {n} {r} {s} d = ap length d.image ∙ run_length B (take n xs) s

-- one call after another does the one list after the other
pub ◌then◌ : {xs ys : List Step} {B n n₁ n₂ : ℕ} {s s₁ s₂ : Image} → Ran xs B n n₁ s s₁ → Ran ys B n₁ n₂ s₁ s₂ → Ran (xs ++ ys) B n n₂ s s₂
unfolding run_first
◌then◌ {xs} {ys} {B} {n} {n₁} {n₂} {s} {s₁} {s₂} d e =
    let a : run B (take n (xs ++ ys)) s ≡ run B (take (n - length xs) ys) (run B (take n xs) s) = first_append B n xs ys s in
    record { image = cc (a, d.image, d.rest, e.image); rest = omega (arith, d.rest, e.rest, length-append xs ys) }

-- ---- programming

-- one byte
pub programmed_one : (at v n : ℕ) (s : Image) → (n ≡ 0 → ⊥) → Programmed (program at v ∷ []) n (n - 1) s (set s at (bit_and (get_or s at 0) v))
unfolding step clear
programmed_one at v n s h B = ran_one (program at v) B n s h

programs_append : (at : ℕ) (xs ys : List ℕ) → programs at (xs ++ ys) ≡ programs at xs ++ programs (at + length xs) ys
unfolding programs
programs_append at [] ys = ap (λ (k : ℕ). programs k ys) (sym (add-zero at))
programs_append at (x ∷ xs) ys =
    ap (λ (l : List Step). program at x ∷ l) (programs_append (suc at) xs ys
    ∙ ap (λ (k : ℕ). programs (suc at) xs ++ programs k ys) (omega arith))

programs_next : (at i : ℕ) (bs : List ℕ) → i < length bs → programs at (take (i + 1) bs) ≡ programs at (take i bs) ++ (program (at + i) (get_or bs i 0) ∷ [])
unfolding programs
programs_next at i bs h =
    rw (add-one, take-suc bs i 0 h, programs_append at (take i bs) (get_or bs i 0 ∷ []), length-take-le i bs (omega arith))

-- a loop that programs bytes: the first i are programmed; a turn; and the end, where all are or the budget goes no further
abbrev pub ProgrammedTo : ℕ → ℕ → List ℕ → Image → Image → Type 0
ProgrammedTo at i bs s t = (B : ℕ) → t ≡ run B (programs at (take i bs)) s

pub programs_turn : (at i : ℕ) (bs : List ℕ) (s t : Image) → i < length bs → ProgrammedTo at i bs s t → ProgrammedTo at (i + 1) bs s (set t (at + i) (bit_and (get_or t (at + i) 0) (get_or bs i 0)))
unfolding run step clear
programs_turn at i bs s t h e B =
    let x : List Step = program (at + i) (get_or bs i 0) ∷ [] in
    ap (run B x) (e B) ∙ sym (run_append B (programs at (take i bs)) x s) ∙ ap (λ (l : List Step). run B l s) (sym (programs_next at i bs h))

take_programs : (at n : ℕ) (bs : List ℕ) → take n (programs at bs) ≡ programs at (take n bs)
unfolding programs
take_programs at zero bs = refl
take_programs at (suc n) [] = refl
take_programs at (suc n) (b ∷ bs) = ap (λ (l : List Step). program at b ∷ l) (take_programs (suc at) n bs)

pub length_programs : (at : ℕ) (bs : List ℕ) → length (programs at bs) ≡ length bs
unfolding programs
length_programs at [] = refl
length_programs at (b ∷ bs) = ap suc (length_programs (suc at) bs)

take_covered : (n : ℕ) (bs : List ℕ) → take (min n (length bs)) bs ≡ take n bs
take_covered n bs = elim (dec_le n (length bs)) [ yes h ↦ rw (min-eq_left h) | no h ↦ long (omega arith) ]
  where
    long : length bs ≤ n → take (min n (length bs)) bs ≡ take n bs
    long h = rw (min-eq_right h, take-length bs) (sym (take_all n bs h))

pub programs_covered : (at n i : ℕ) (bs : List ℕ) (s t : Image) → i ≡ min n (length bs) → ProgrammedTo at i bs s t → Programmed (programs at bs) n (n - i) s t
programs_covered at n i bs s t h e B = record {
  image = e B ∙ ap (λ (l : List Step). run B l s) (ap (programs at) (rw h (take_covered n bs)) ∙ sym (take_programs at n bs));
  rest = omega (arith, length_programs at bs, min-le_left n (length bs));
}

-- ---- a part of the image: steps on it are the shifted steps on the whole

set_append_add : (xs ys : List ℕ) (o v : ℕ) → set (xs ++ ys) (length xs + o) v ≡ xs ++ set ys o v
set_append_add [] ys o v = rw zero-add
set_append_add (x ∷ xs) ys o v = rw suc-add (ap (λ (l : List ℕ). x ∷ l) (set_append_add xs ys o v))

step_part : (B at v : ℕ) (a p z : List ℕ) → at < length p → step B (program (length a + at) v) (a ++ (p ++ z)) ≡ a ++ (step B (program at v) p ++ z)
unfolding step
step_part B at v a p z h =
    let g : get_or (a ++ (p ++ z)) (length a + at) 0 ≡ get_or p at 0 = get_or-append-add a (p ++ z) at 0 ∙ get_or-append p z 0 at h in
    rw (g, set_append_add) (ap (λ (l : List ℕ). a ++ l) (set-append_left p z at (clear (get_or p at 0) v) h))

run_part : (B n : ℕ) (a p z : List ℕ) (xs : List Step) → Within (length p) xs → run B (take n (shifted (length a) xs)) (a ++ (p ++ z)) ≡ a ++ (run B (take n xs) p ++ z)
unfolding run shifted
run_part B zero a p z [] h = refl
run_part B (suc n) a p z [] h = refl
run_part B n a p z (erase i ∷ xs) h = absurd h
run_part B zero a p z (program at v ∷ xs) h = refl
run_part B (suc n) a p z (program at v ∷ xs) h =
    ap (λ (s : Image). run B (take n (shifted (length a) xs)) s) (step_part B at v a p z h.0)
    ∙ run_part B n a (step B (program at v) p) z xs (subst (λ (k : ℕ). Within k xs) (sym (step_length B (program at v) p)) h.1)

shifted_length : (k : ℕ) (xs : List Step) → length (shifted k xs) ≡ length xs
unfolding shifted
shifted_length k [] = refl
shifted_length k (program at v ∷ xs) = ap suc (shifted_length k xs)
shifted_length k (erase i ∷ xs) = ap suc (shifted_length k xs)

-- what a callee did on the part of c bytes from an offset on, said of the whole
pub ran_part : (at c : ℕ) (s : Image) (xs : List Step) {B n n₁ : ℕ} {p : List ℕ} → at + c ≤ length s → Within c xs
    → Ran xs B n n₁ (take c (drop at s)) p → Ran (shifted at xs) B n n₁ s (take at s ++ (p ++ drop c (drop at s)))
ran_part at c s xs {B} {n} h w d =
    let la : length (take at s) ≡ at = length-take-le at s (omega arith) in
    let lp : length (take c (drop at s)) ≡ c = length-take-le c (drop at s) (omega (arith, length-drop at s)) in
    let e = run_part B n (take at s) (take c (drop at s)) (drop c (drop at s)) xs (subst (λ (k : ℕ). Within k xs) (sym lp) w) in
    let g : take at s ++ (take c (drop at s) ++ drop c (drop at s)) ≡ s = rw (take-append-drop c (drop at s)) (take-append-drop at s) in
    record { image = rw d.image (sym (rw (la, g) at e)); rest = rw shifted_length d.rest }

-- steps in a page are the steps shifted by the page's offset
pub shifted_page : (p : ℕ) (xs : List Step) → shifted (p * 256) xs ≡ on_page p xs
unfolding shifted on_page
shifted_page p [] = refl
shifted_page p (program at v ∷ xs) = ap (λ (l : List Step). program (p * 256 + at) v ∷ l) (shifted_page p xs)
shifted_page p (erase i ∷ xs) = ap (λ (l : List Step). erase i ∷ l) (shifted_page p xs)

-- steps in page p of a part that begins with page q of the image
pub page_shifted : (q p : ℕ) (xs : List Step) → shifted (q * 256) (on_page p xs) ≡ on_page (q + p) xs
unfolding shifted on_page
page_shifted q p [] = refl
page_shifted q p (program at v ∷ xs) =
    let e : q * 256 + (p * 256 + at) ≡ (q + p) * 256 + at = omega arith in
    rw e (ap (λ (l : List Step). program ((q + p) * 256 + at) v ∷ l) (page_shifted q p xs))
page_shifted q p (erase i ∷ xs) = ap (λ (l : List Step). erase i ∷ l) (page_shifted q p xs)

pub within_append : (c : ℕ) (xs ys : List Step) → Within c xs → Within c ys → Within c (xs ++ ys)
within_append c [] ys p q = q
within_append c (program at v ∷ xs) ys p q = (p.0, within_append c xs ys p.1 q)
within_append c (erase i ∷ xs) ys p q = p

pub within_programs : (c at : ℕ) (bs : List ℕ) → at + length bs ≤ c → Within c (programs at bs)
unfolding programs
within_programs c at [] h = tt
within_programs c at (b ∷ bs) h = (omega arith, within_programs c (suc at) bs (omega arith))

within_page : (c p : ℕ) (xs : List Step) → p * 256 + 256 ≤ c → Within 256 xs → Within c (on_page p xs)
unfolding on_page
within_page c p [] h w = tt
within_page c p (program at v ∷ xs) h w = (omega (arith, w.0), within_page c p xs h w.1)
within_page c p (erase i ∷ xs) h w = absurd w

-- what a callee did in page p of the part of c bytes that begins with page q
pub ran_lent : (q c p : ℕ) (s : Image) (xs : List Step) {B n n₁ : ℕ} {t : List ℕ} → q * 256 + c ≤ length s → p * 256 + 256 ≤ c → Within 256 xs
    → Ran (on_page p xs) B n n₁ (take c (drop (q * 256) s)) t → Ran (on_page (q + p) xs) B n n₁ s (take (q * 256) s ++ (t ++ drop c (drop (q * 256) s)))
ran_lent q c p s xs h k w d = rw (← (page_shifted q p xs)) (ran_part (q * 256) c s (on_page p xs) h (within_page c p xs k w) d)
