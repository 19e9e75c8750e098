-- The same steps on an image's pages: what the bench table is computed with. Law: the pages of a run are the run of the pages (Laws.Pages).
use Rattle.std.specs.Prelude.{ℕ, ◌+◌, ◌*◌, ◌/◌, ◌%◌, cond, List, [], ◌∷◌, ◌++◌, length, get_or, take, drop, set, replicate, leb}
use Rattle.model.specs.Chip.{Page, Step, program, erase, clear, erased}

unfoldable pub program_page : ℕ → ℕ → Page → Page
program_page at v p = set p at (clear (get_or p at 0) v)

unfoldable pub step_pages : ℕ → Step → List Page → List Page
step_pages B (program at v) ps = set ps (at / 256) (program_page (at % 256) v (get_or ps (at / 256) []))
step_pages B (erase i) ps =
    cond (leb (i * (B + 1) + (B + 1)) (length ps)) (take (i * (B + 1)) ps ++ (replicate (B + 1) (erased 256) ++ drop (i * (B + 1) + (B + 1)) ps)) ps

unfoldable pub run_pages : ℕ → List Step → List Page → List Page
run_pages B [] ps = ps
run_pages B (x ∷ xs) ps = run_pages B xs (step_pages B x ps)
