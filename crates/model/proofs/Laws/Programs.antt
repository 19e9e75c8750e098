-- Laws of bytes programmed in a row: a byte that no step programs is kept, through a cut too; erased bytes become what was programmed.
use Rattle.std.specs.Prelude.{ℕ, suc, ◌+◌, ◌≤◌, ◌<◌, ◌≡◌, refl, ◌⊎◌, ◌≢◌, List, [], ◌∷◌, ◌++◌, length, get_or, take, drop, set}
use Rattle.std.proofs.Common.{sym, ap, ◌∙◌, inl, inr, append_assoc, arith, length-append, length-take, get_or-set_other}
use Rattle.std.proofs.lemmas.List.{set_at, get_or_at}
use Rattle.model.specs.Chip.{Image, Page, Bytes, Step, program, erase, clear, erased, step, run, Cut}
use Rattle.model.specs.Steps.{programs, program_part}
use Rattle.model.proofs.Laws.Bytes.{clear_erased}

-- ---- a byte that is kept

-- every step programs another byte than i
abbrev pub Spares : ℕ → List Step → Type 0
Spares i [] = Unit {0}
Spares i (program at v ∷ xs) = (i ≢ at) × Spares i xs
Spares i (erase k ∷ xs) = ⊥

-- i is before or after k bytes from an offset on
abbrev pub Outside : ℕ → ℕ → ℕ → Type 0
Outside i at k = (i < at) ⊎ (at + k ≤ i)

pub spares_append : (i : ℕ) (xs ys : List Step) → Spares i xs → Spares i ys → Spares i (xs ++ ys)
spares_append i [] ys p q = q
spares_append i (program at v ∷ xs) ys p q = (p.0, spares_append i xs ys p.1 q)
spares_append i (erase k ∷ xs) ys p q = p

pub spares_programs : (i at : ℕ) (vs : List ℕ) → Outside i at (length vs) → Spares i (programs at vs)
unfolding programs
spares_programs i at [] o = tt
spares_programs i at (v ∷ vs) (inl h) = ((λ e. omega arith), spares_programs i (suc at) vs (inl (omega arith)))
spares_programs i at (v ∷ vs) (inr h) = ((λ e. omega arith), spares_programs i (suc at) vs (inr (omega arith)))

pub spares_part : (i : ℕ) (p : Page) (at k : ℕ) → Outside i at k → Spares i (program_part p at k)
unfolding program_part
spares_part i p at k (inl h) = spares_programs i at (take k (drop at p)) (inl h)
spares_part i p at k (inr h) = spares_programs i at (take k (drop at p)) (inr (omega (arith, length-take k (drop at p))))

pub spared_run : (B i : ℕ) (xs : List Step) (s : Image) → Spares i xs → get_or (run B xs s) i 0 ≡ get_or s i 0
unfolding run step
spared_run B i [] s p = refl
spared_run B i (program at v ∷ xs) s p =
    let w = clear (get_or s at 0) v in
    spared_run B i xs (set s at w) p.1 ∙ get_or-set_other s at i w 0 p.0
spared_run B i (erase k ∷ xs) s p = absurd p

pub spared_cut : (B i : ℕ) (xs : List Step) (s t : Image) → Spares i xs → Cut B xs s t → get_or t i 0 ≡ get_or s i 0
unfolding step
spared_cut B i [] s t p e = ap (λ y. get_or y i 0) e
spared_cut B i (erase k ∷ xs) s t p c = absurd p
spared_cut B i (program at v ∷ xs) s t p (inl e) = ap (λ y. get_or y i 0) e
spared_cut B i (program at v ∷ xs) s t p (inr (inl (x, b, e))) = ap (λ y. get_or y i 0) e ∙ get_or-set_other s at i x 0 p.0
spared_cut B i (program at v ∷ xs) s t p (inr (inr c)) =
    let w = clear (get_or s at 0) v in
    spared_cut B i xs (set s at w) t p.1 c ∙ get_or-set_other s at i w 0 p.0

-- ---- erased bytes

pub program_at : (B at v : ℕ) (before after : List ℕ) → length before ≡ at → v < 256 → step B (program at v) (before ++ (255 ∷ after)) ≡ before ++ (v ∷ after)
unfolding step
program_at B at v before after h b = rw (get_or_at before 255 after 0 at h, clear_erased v b) (set_at before 255 after v at h)

-- erased bytes between others
pub programs_between : (B at : ℕ) (before vs after : List ℕ) → length before ≡ at → Bytes vs → run B (programs at vs) (before ++ (erased (length vs) ++ after)) ≡ before ++ (vs ++ after)
unfolding run programs erased
programs_between B at before [] after h b = refl
programs_between B at before (v ∷ vs) after h b =
    let rest = erased (length vs) ++ after in
    let front = before ++ (v ∷ []) in
    ap (λ y. run B (programs (suc at) vs) y) (program_at B at v before rest h b.0 ∙ sym (append_assoc before (v ∷ []) rest))
    ∙ programs_between B (suc at) front vs after (omega (arith, length-append before (v ∷ []))) b.1
    ∙ append_assoc before (v ∷ []) (vs ++ after)
