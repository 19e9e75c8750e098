-- The pages of a run are the run of the pages. A step inside a page changes that page only; an erase, that segment only.
use Rattle.std.specs.Prelude.{ℕ, zero, suc, ◌+◌, ◌*◌, ◌/◌, ◌%◌, ◌≤◌, ◌<◌, ◌≡◌, refl, List, [], ◌∷◌, ◌++◌, length, get_or, take, drop, set, replicate}
use Rattle.std.proofs.Common.{sym, ap, ◌∙◌, inl, inr, append-nil, append_assoc, arith, div-add-mod', length-set, length-append, length-take, length-drop, drop_of_length-le, take_at, drop_at, drop-drop, set-set, get_or-set_same, le-leb}
use Rattle.std.proofs.Math.Decide.{dec_lt, dec_le}
use Rattle.std.proofs.lemmas.List.{length-replicate, replicate-append-replicate, set-get_or}
use Rattle.std.proofs.Math.Seq.{set_out}
use Rattle.std.proofs.lemmas.Bool.{lt-leb}
use Rattle.model.specs.Lists.{chunk}
use Rattle.model.specs.Chip.{Image, Page, Step, program, erase, clear, erased, with_segment, step, run, image_length, pages_of, Cut}
use Rattle.model.specs.Steps.{programs, program_part, on_page, erase_first}
use Rattle.model.specs.Pages.{program_page, step_pages, run_pages}
use Rattle.model.specs.Laws.Chunk.{chunk_length, chunk_set, chunk_get, chunk_replace, chunk_replicate}
use Rattle.model.proofs.Laws.Chip.{step_length}

-- ---- the pages of a run

pages_program : (c at v : ℕ) (s : List ℕ) → chunk c 256 (set s at (clear (get_or s at 0) v)) ≡ set (chunk c 256 s) (at / 256) (program_page (at % 256) v (get_or (chunk c 256 s) (at / 256) []))
unfolding program_page
pages_program c at v s =
    let e = div-add-mod' at 256 in
    let l : at % 256 < 256 = omega arith in
    let g = chunk_set 256 c (at / 256) (at % 256) (clear (get_or s at 0) v) s l in
    elim (dec_lt (at / 256) c) [
      | yes p ↦ (rw e at g) ∙ rw (chunk_get 256 c (at / 256) (at % 256) 0 s p l, e)
      | no p ↦ (rw e at g) ∙ (rw (set_out (chunk c 256 s) (at / 256) _ (omega (arith, chunk_length c 256 s)), set_out (chunk c 256 s) (at / 256) _ (omega (arith, chunk_length c 256 s))))
    ]

pages_erase : (N B i : ℕ) (s : List ℕ) → length s ≡ N * (B + 1) * 256 → chunk (N * (B + 1)) 256 (step B (erase i) s) ≡ step_pages B (erase i) (chunk (N * (B + 1)) 256 s)
unfolding step step_pages with_segment erased
pages_erase N B i s h =
    let n = chunk_length (N * (B + 1)) 256 s in
    elim (dec_le (i * (B + 1) + (B + 1)) (N * (B + 1))) [
      | yes p ↦ rw (le-leb ((i * (B + 1) + (B + 1)) * 256) (length s) (omega arith), le-leb (i * (B + 1) + (B + 1)) (length (chunk (N * (B + 1)) 256 s)) (omega arith))
          (chunk_replace 256 (N * (B + 1)) (i * (B + 1)) (B + 1) (replicate ((B + 1) * 256) 255) s p (length-replicate ((B + 1) * 256) 255) (omega arith)
          ∙ ap (λ (y : List Page). take (i * (B + 1)) (chunk (N * (B + 1)) 256 s) ++ (y ++ drop (i * (B + 1) + (B + 1)) (chunk (N * (B + 1)) 256 s))) (chunk_replicate (B + 1) 256 255))
      | no p ↦ rw (lt-leb ((i * (B + 1) + (B + 1)) * 256) (length s) (omega arith), lt-leb (i * (B + 1) + (B + 1)) (length (chunk (N * (B + 1)) 256 s)) (omega arith))
    ]

pub pages_step : (N B : ℕ) (x : Step) (s : Image) → length s ≡ image_length N B → pages_of N B (step B x s) ≡ step_pages B x (pages_of N B s)
unfolding step step_pages pages_of image_length
pages_step N B (program at v) s h = pages_program (N * (B + 1)) at v s
pages_step N B (erase i) s h = pages_erase N B i s h

pub pages_run : (N B : ℕ) (xs : List Step) (s : Image) → length s ≡ image_length N B → pages_of N B (run B xs s) ≡ run_pages B xs (pages_of N B s)
unfolding run run_pages
pages_run N B [] s h = refl
pages_run N B (x ∷ xs) s h = pages_run N B xs (step B x s) (step_length B x s ∙ h) ∙ ap (λ y. run_pages B xs y) (pages_step N B x s h)

-- ---- the first segments erased

pages_append : (B : ℕ) (xs ys : List Step) (ps : List Page) → run_pages B (xs ++ ys) ps ≡ run_pages B ys (run_pages B xs ps)
unfolding run_pages
pages_append B [] ys ps = refl
pages_append B (x ∷ xs) ys ps = pages_append B xs ys (step_pages B x ps)

erase_one_more : (B i : ℕ) (ps : List Page) → suc i * (B + 1) ≤ length ps
    → step_pages B (erase i) (replicate (i * (B + 1)) (erased 256) ++ drop (i * (B + 1)) ps) ≡ replicate (suc i * (B + 1)) (erased 256) ++ drop (suc i * (B + 1)) ps
unfolding step_pages
erase_one_more B i ps h =
    let n = i * (B + 1) in
    let done = replicate n (erased 256) in
    let l = length-replicate n (erased 256) in
    let size : length (done ++ drop n ps) ≡ length ps = length-append done (drop n ps) ∙ omega (arith, l, length-drop n ps) in
    let rest : drop (n + (B + 1)) (done ++ drop n ps) ≡ drop (n + (B + 1)) ps =
    sym (drop-drop (B + 1) n (done ++ drop n ps)) ∙ ap (λ (y : List Page). drop (B + 1) y) (drop_at done (drop n ps) n l) ∙ drop-drop (B + 1) n ps in
    let total : suc i * (B + 1) ≡ n + (B + 1) = omega arith in
    rw (le-leb (n + (B + 1)) (length (done ++ drop n ps)) (omega arith), take_at done (drop n ps) n l, rest, total)
    (sym (append_assoc done (replicate (B + 1) (erased 256)) (drop (n + (B + 1)) ps))
    ∙ ap (λ (y : List Page). y ++ drop (n + (B + 1)) ps) (replicate-append-replicate n (B + 1) (erased 256)))

pub first_erased : (B k : ℕ) (ps : List Page) → k * (B + 1) ≤ length ps → run_pages B (erase_first k) ps ≡ replicate (k * (B + 1)) (erased 256) ++ drop (k * (B + 1)) ps
unfolding run_pages erase_first
first_erased B zero ps h = let e : 0 * (B + 1) ≡ 0 = omega arith in rw e
first_erased B (suc k) ps h =
    pages_append B (erase_first k) (erase k ∷ []) ps ∙ ap (λ (y : List Page). step_pages B (erase k) y) (first_erased B k ps (omega arith)) ∙ erase_one_more B k ps h

-- an image erased whole, and then these steps
pub all_erased : (N B : ℕ) (xs : List Step) (ps : List Page) → length ps ≡ N * (B + 1) → run_pages B (erase_first N ++ xs) ps ≡ run_pages B xs (replicate (N * (B + 1)) (erased 256))
all_erased N B xs ps h =
    pages_append B (erase_first N) xs ps
    ∙ ap (λ (y : List Page). run_pages B xs y)
    (first_erased B N ps (omega arith) ∙ ap (λ (y : List Page). replicate (N * (B + 1)) (erased 256) ++ y) (drop_of_length-le ps {i = N * (B + 1)} (omega arith)) ∙ append-nil (replicate (N * (B + 1)) (erased 256)))

-- ---- steps inside one page

pub on_page_append : (p : ℕ) (xs ys : List Step) → on_page p (xs ++ ys) ≡ on_page p xs ++ on_page p ys
unfolding on_page
on_page_append p [] ys = refl
on_page_append p (program at v ∷ xs) ys = ap {B = List Step} (λ z. program (p * 256 + at) v ∷ z) (on_page_append p xs ys)
on_page_append p (erase i ∷ xs) ys = ap {B = List Step} (λ z. erase i ∷ z) (on_page_append p xs ys)

-- every step programs a byte of a page
abbrev pub InPage : List Step → Type 0
InPage [] = Unit {0}
InPage (program at v ∷ xs) = (at < 256) × InPage xs
InPage (erase i ∷ xs) = ⊥

pub in_append : (xs ys : List Step) → InPage xs → InPage ys → InPage (xs ++ ys)
in_append [] ys p q = q
in_append (program at v ∷ xs) ys p q = (p.0, in_append xs ys p.1 q)
in_append (erase i ∷ xs) ys p q = p

pub in_programs : (at : ℕ) (vs : List ℕ) → at + length vs ≤ 256 → InPage (programs at vs)
unfolding programs
in_programs at [] h = tt
in_programs at (v ∷ vs) h = (omega arith, in_programs (suc at) vs (omega arith))

pub in_part : (p : Page) (at k : ℕ) → at + k ≤ 256 → InPage (program_part p at k)
unfolding program_part
in_part p at k h = in_programs at (take k (drop at p)) (omega (arith, length-take k (drop at p)))

one_program : (B p at v : ℕ) (ps : List Page) → at < 256 → step_pages B (program (p * 256 + at) v) ps ≡ set ps p (step B (program at v) (get_or ps p []))
unfolding step_pages program_page step
one_program B p at v ps h =
    let e : (p * 256 + at) / 256 ≡ p = omega arith in
    let f : (p * 256 + at) % 256 ≡ at = omega arith in
    rw (e, f)

-- steps inside page p change that page only, as they would change it alone
pub run_on_page : (B p : ℕ) (xs : List Step) (ps : List Page) → p < length ps → InPage xs → run_pages B (on_page p xs) ps ≡ set ps p (run B xs (get_or ps p []))
unfolding run_pages on_page run
run_on_page B p [] ps h i = sym (set-get_or ps p [])
run_on_page B p (erase k ∷ xs) ps h i = absurd i
run_on_page B p (program at v ∷ xs) ps h i =
    let q = step B (program at v) (get_or ps p []) in
    ap (λ y. run_pages B (on_page p xs) y) (one_program B p at v ps i.0)
    ∙ run_on_page B p xs (set ps p q) (omega (arith, length-set ps p q)) i.1
    ∙ rw (get_or-set_same ps p q [] h) (set-set ps p q (run B xs q))

-- ---- a cut inside one page

-- a cut of steps inside page p is a cut of that page alone
abbrev pub CutPage : ℕ → ℕ → ℕ → List Step → Image → Image → Type 0
CutPage B c p xs s t = (u : Page) × Cut B xs (get_or (chunk c 256 s) p []) u × (chunk c 256 t ≡ set (chunk c 256 s) p u)

uncut : (B c p : ℕ) (xs : List Step) (s t : Image) → t ≡ s → Cut B xs (get_or (chunk c 256 s) p []) (get_or (chunk c 256 s) p []) → CutPage B c p xs s t
uncut B c p xs s t e k = (get_or (chunk c 256 s) p [], k, ap (λ y. chunk c 256 y) e ∙ sym (set-get_or (chunk c 256 s) p []))

pub cut_on_page : (B c p : ℕ) (xs : List Step) (s t : Image) → p < c → InPage xs → Cut B (on_page p xs) s t → CutPage B c p xs s t
unfolding on_page step
cut_on_page B c p [] s t h i k = uncut B c p [] s t k refl
cut_on_page B c p (erase n ∷ xs) s t h i k = absurd i
cut_on_page B c p (program at v ∷ xs) s t h i (inl e) = uncut B c p (program at v ∷ xs) s t e (inl refl)
cut_on_page B c p (program at v ∷ xs) s t h i (inr (inl (x, b, e))) =
    let g = chunk_get 256 c p at 0 s h i.0 in
    (set (get_or (chunk c 256 s) p []) at x, inr (inl (x, rw g b, refl)), ap (λ y. chunk c 256 y) e ∙ chunk_set 256 c p at x s i.0)
cut_on_page B c p (program at v ∷ xs) s t h i (inr (inr k)) =
    let w = clear (get_or s (p * 256 + at) 0) v in
    let g = chunk_get 256 c p at 0 s h i.0 in
    let q = chunk_set 256 c p at w s i.0 in
    let r = cut_on_page B c p xs (set s (p * 256 + at) w) t h i.1 k in
    let o : get_or (chunk c 256 (set s (p * 256 + at) w)) p [] ≡ set (get_or (chunk c 256 s) p []) at w =
    rw q (get_or-set_same (chunk c 256 s) p (set (get_or (chunk c 256 s) p []) at w) [] (omega (arith, chunk_length c 256 s))) in
    (r.0, inr (inr (rw g (rw o at r.1))), r.2 ∙ rw q (set-set (chunk c 256 s) p (set (get_or (chunk c 256 s) p []) at w) r.0))
