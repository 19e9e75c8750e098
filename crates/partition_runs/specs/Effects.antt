-- What steps do to single bytes of an image of partitions: what is left alone, what an erase leaves, and erased bytes that are programmed.
use Rattle.std.specs.Prelude.{ℕ, zero, suc, ◌+◌, ◌-◌, ◌*◌, ◌≤◌, ◌<◌, ◌≡◌, refl, ◌≢◌, Bool, true, false, cond, List, [], ◌∷◌, ◌++◌, length, get_or, take, drop, set, replicate, leb}
use Rattle.std.proofs.Common.{sym, ap, ◌∙◌, inl, inr, ⊎_elim, arith, get_or-set_same, get_or-set_other, get_or-take, get_or-drop, get_or-append-add, length-take-le, le-leb, leb-true}
use Rattle.std.proofs.lemmas.List.{length-replicate, get_or-replicate}
use Rattle.std.proofs.Math.ListN.{get_or-append}
use Rattle.model.specs.Chip.{Image, Step, program, erase, clear, erased, Bytes}
use Rattle.model.specs.Steps.{programs}
use Rattle.model.proofs.Laws.Bytes.{clear_erased, clear_le, bytes_append, bytes_take, bytes_drop, bytes_get, bytes_set, erased_bytes}
use Rattle.model.proofs.Laws.Programs.{Outside}
use Rattle.flash.specs.Units.{with_unit, step_in, run_in}
use Rattle.flash.proofs.UnitLaws.{run_in_append, run_in_length}

pub run_append : (S : ℕ) (xs ys : List Step) (s : Image) → run_in S (xs ++ ys) s ≡ run_in S ys (run_in S xs s)
run_append S xs ys s = run_in_append S xs ys s

pub run_length : (S : ℕ) (xs : List Step) (s : Image) → length (run_in S xs s) ≡ length s
run_length S xs s = run_in_length S xs s

-- ---- bytes left alone

-- no step changes byte i
abbrev pub Leaves : ℕ → ℕ → List Step → Type 0
Leaves S i [] = Unit {0}
Leaves S i (program at v ∷ xs) = (i ≢ at) × Leaves S i xs
Leaves S i (erase p ∷ xs) = Outside i (p * S) S × Leaves S i xs

-- an erase leaves the bytes outside its unit
erase_outside : (S p i : ℕ) (s : Image) → Outside i (p * S) S → get_or (step_in S (erase p) s) i 0 ≡ get_or s i 0
unfolding step_in with_unit erased
erase_outside S p i s o = go (leb (p * S + S) (length s)) refl
  where
    behind : (r : ℕ) → p * S + S ≤ length s → p * S + S ≤ i → i ≡ p * S + (S + r) → get_or (take (p * S) s ++ (replicate S 255 ++ drop (p * S + S) s)) i 0 ≡ get_or s i 0
    behind r h l e =
        let a : length (take (p * S) s) ≡ p * S = length-take-le (p * S) s (omega arith) in
        let k : i ≡ length (take (p * S) s) + (length (replicate {A = ℕ} S 255) + r) = omega (arith, length-replicate {A = ℕ} S 255) in
        ap (λ (y : ℕ). get_or (take (p * S) s ++ (replicate S 255 ++ drop (p * S + S) s)) y 0) k
        ∙ get_or-append-add (take (p * S) s) (replicate S 255 ++ drop (p * S + S) s) (length (replicate {A = ℕ} S 255) + r) 0
        ∙ get_or-append-add (replicate S 255) (drop (p * S + S) s) r 0
        ∙ get_or-drop (p * S + S) s r 0
        ∙ ap (λ (y : ℕ). get_or s y 0) (omega arith)

    ahead : p * S + S ≤ length s → i < p * S → get_or (take (p * S) s ++ (replicate S 255 ++ drop (p * S + S) s)) i 0 ≡ get_or s i 0
    ahead h l = get_or-append (take (p * S) s) (replicate S 255 ++ drop (p * S + S) s) 0 i (omega (arith, length-take-le (p * S) s (omega arith))) ∙ get_or-take (p * S) s i 0 l

    go : (t : Bool) → leb (p * S + S) (length s) ≡ t → get_or (cond t (take (p * S) s ++ (replicate S 255 ++ drop (p * S + S) s)) s) i 0 ≡ get_or s i 0
    go true e = let h = leb-true (p * S + S) (length s) e in ⊎_elim (λ l. ahead h l) (λ l. behind (i - (p * S + S)) h l (omega arith)) o
    go false e = refl

-- and 255 inside it
pub erase_inside : (S p k : ℕ) (s : Image) → p * S + S ≤ length s → k < S → get_or (step_in S (erase p) s) (p * S + k) 0 ≡ 255
unfolding step_in with_unit erased
erase_inside S p k s h l =
    let a : length (take (p * S) s) ≡ p * S = length-take-le (p * S) s (omega arith) in
    rw (le-leb (p * S + S) (length s) h)
    (ap (λ (y : ℕ). get_or (take (p * S) s ++ (replicate S 255 ++ drop (p * S + S) s)) (y + k) 0) (sym a)
    ∙ get_or-append-add (take (p * S) s) (replicate S 255 ++ drop (p * S + S) s) k 0
    ∙ get_or-append (replicate S 255) (drop (p * S + S) s) 0 k (omega (arith, length-replicate {A = ℕ} S 255))
    ∙ get_or-replicate S k 255 0 l)

pub left_alone : (S i : ℕ) (xs : List Step) (s : Image) → Leaves S i xs → get_or (run_in S xs s) i 0 ≡ get_or s i 0
unfolding run_in step_in
left_alone S i [] s h = refl
left_alone S i (program at v ∷ xs) s h = left_alone S i xs (set s at (clear (get_or s at 0) v)) h.1 ∙ get_or-set_other s at i (clear (get_or s at 0) v) 0 h.0
left_alone S i (erase p ∷ xs) s h = left_alone S i xs (step_in S (erase p) s) h.1 ∙ erase_outside S p i s h.0

pub leaves_append : (S i : ℕ) (xs ys : List Step) → Leaves S i xs → Leaves S i ys → Leaves S i (xs ++ ys)
leaves_append S i [] ys h k = k
leaves_append S i (program at v ∷ xs) ys h k = (h.0, leaves_append S i xs ys h.1 k)
leaves_append S i (erase p ∷ xs) ys h k = (h.0, leaves_append S i xs ys h.1 k)

pub leaves_take : (S i n : ℕ) (xs : List Step) → Leaves S i xs → Leaves S i (take n xs)
leaves_take S i zero xs h = tt
leaves_take S i (suc n) [] h = tt
leaves_take S i (suc n) (program at v ∷ xs) h = (h.0, leaves_take S i n xs h.1)
leaves_take S i (suc n) (erase p ∷ xs) h = (h.0, leaves_take S i n xs h.1)

pub leaves_programs : (S i at : ℕ) (vs : List ℕ) → Outside i at (length vs) → Leaves S i (programs at vs)
unfolding programs
leaves_programs S i at [] o = tt
leaves_programs S i at (v ∷ vs) (inl h) = ((λ e. omega arith), leaves_programs S i (suc at) vs (inl (omega arith)))
leaves_programs S i at (v ∷ vs) (inr h) = ((λ e. omega arith), leaves_programs S i (suc at) vs (inr (omega arith)))

-- ---- erased bytes programmed

pub program_erased : (S at v : ℕ) (s : Image) → at < length s → v < 256 → get_or s at 0 ≡ 255 → get_or (step_in S (program at v) s) at 0 ≡ v
unfolding step_in
program_erased S at v s h b e = get_or-set_same s at (clear (get_or s at 0) v) 0 h ∙ ap (λ (y : ℕ). clear y v) e ∙ clear_erased v b

pub programs_erased : (S at k : ℕ) (vs : List ℕ) (s : Image) → Bytes vs → at + length vs ≤ length s → ((j : ℕ) → j < length vs → get_or s (at + j) 0 ≡ 255) → k < length vs → get_or (run_in S (programs at vs) s) (at + k) 0 ≡ get_or vs k 0
unfolding run_in programs
programs_erased S at k [] s b h e l = absurd (omega arith)
programs_erased S at zero (v ∷ vs) s b h e l =
    let z : at + 0 ≡ at = omega arith in
    ap (λ (y : ℕ). get_or (run_in S (programs (suc at) vs) (step_in S (program at v) s)) y 0) z
    ∙ left_alone S at (programs (suc at) vs) (step_in S (program at v) s) (leaves_programs S at (suc at) vs (inl (omega arith)))
    ∙ program_erased S at v s (omega arith) b.0 (ap (λ (y : ℕ). get_or s y 0) (sym z) ∙ e 0 (omega arith))
programs_erased S at (suc k) (v ∷ vs) s b h e l =
    let z : at + suc k ≡ suc at + k = omega arith in
    ap (λ (y : ℕ). get_or (run_in S (programs (suc at) vs) (step_in S (program at v) s)) y 0) z
    ∙ programs_erased S (suc at) k vs (step_in S (program at v) s) b.1 (omega (arith, kept_length)) others (omega arith)
  where
    kept_length : length (step_in S (program at v) s) ≡ length s
    kept_length = run_length S (program at v ∷ []) s

    others : (j : ℕ) → j < length vs → get_or (step_in S (program at v) s) (suc at + j) 0 ≡ 255
    others j m = left_alone S (suc at + j) (program at v ∷ []) s ((λ w. omega arith), tt) ∙ ap (λ (y : ℕ). get_or s y 0) (omega arith) ∙ e (suc j) (omega arith)

-- ---- an image of bytes stays one

step_bytes : (S : ℕ) (x : Step) (s : Image) → Bytes s → Bytes (step_in S x s)
unfolding step_in with_unit
step_bytes S (program at v) s b = bytes_set s at (clear (get_or s at 0) v) b (omega (arith, clear_le (get_or s at 0) v, bytes_get s at b))
step_bytes S (erase p) s b = go (leb (p * S + S) (length s))
  where
    go : (t : Bool) → Bytes (cond t (take (p * S) s ++ (erased S ++ drop (p * S + S) s)) s)
    go true = bytes_append (take (p * S) s) (erased S ++ drop (p * S + S) s) (bytes_take (p * S) s b) (bytes_append (erased S) (drop (p * S + S) s) (erased_bytes S) (bytes_drop (p * S + S) s b))
    go false = b

pub run_bytes : (S : ℕ) (xs : List Step) (s : Image) → Bytes s → Bytes (run_in S xs s)
unfolding run_in
run_bytes S [] s b = b
run_bytes S (x ∷ xs) s b = run_bytes S xs (step_in S x s) (step_bytes S x s b)
