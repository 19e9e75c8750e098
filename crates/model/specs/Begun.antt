-- Histories with what their requests set about: the erases begun, those that a loss of power fell into too, and the tidyings that reached the owing mark.
use Rattle.std.specs.Prelude.{ℕ, ◌+◌, ◌/◌, ◌%◌, ◌≡◌, ◌⊎◌, Bool, false, cond, ◌&&◌, List, [], ◌∷◌, ◌++◌, length, take, eqb}
use Rattle.model.specs.Lists.{same, count}
use Rattle.model.specs.Chip.{Image, Step, program, erase, step, Inside}
use Rattle.model.specs.Header.{erase_pending}
use Rattle.model.specs.Table.{blocks}
use Rattle.model.specs.Answers.{Request, format, put, delete, read, read_or, recover, work_of, outcome_of}
use Rattle.model.specs.Histories.{reply_of, Seen, answered, lost, Proper, shown}
use Rattle.model.specs.Sequences.{erases_in}

-- a step that sets the owing mark: status 9F, which is byte 5 of a header, page 0 of its segment
unfoldable pub is_mark : ℕ → Step → Bool
is_mark B (program at v) = eqb (at / 256 % (B + 1)) 0 && (eqb (at % 256) 5 && eqb v erase_pending)
is_mark B (erase i) = false

unfoldable pub marks_in : ℕ → List Step → ℕ
marks_in B xs = count (λ x. is_mark B x) xs

-- what a cut can leave of a list of steps, with the erases begun, each by the index of its segment, and the number of owing marks reached:
-- a cut inside a step that sets one has reached it if it left the image as the whole step does
abbrev pub CutBegun : ℕ → List Step → Image → Image → List ℕ → ℕ → Type 0
CutBegun B [] s t es f = (t ≡ s) × (es ≡ []) × (f ≡ 0)
CutBegun B (x ∷ xs) s t es f =
    ((t ≡ s) × (es ≡ []) × (f ≡ 0))
    ⊎ ((Inside B x s t × (es ≡ erases_in (x ∷ [])) × (f ≡ cond (same t (step B x s)) (marks_in B (x ∷ [])) 0))
    ⊎ ((rest : List ℕ) × (more : ℕ) × (es ≡ erases_in (x ∷ []) ++ rest) × (f ≡ marks_in B (x ∷ []) + more) × CutBegun B xs (step B x s) t rest more))

-- a request on image s shows this, leaves image u, has begun these erases and reached so many owing marks
abbrev pub DoesBegun : ℕ → ℕ → Request → Seen → Image → Image → List ℕ → ℕ → Type 0
DoesBegun N B r (answered o) s u es f =
    (allowance : ℕ) × (o ≡ reply_of N B s allowance r) × (u ≡ (outcome_of N B s allowance r).image)
    × (let done = take allowance (work_of N B s r).steps in (es ≡ erases_in done) × (f ≡ marks_in B done))
DoesBegun N B r lost s u es f = CutBegun B (work_of N B s r).steps s u es f

pub record Turn : Type 0 where
  pub request : Request
  pub seen : Seen
  pub begun : List ℕ
  pub marks : ℕ
  -- the blocks that a finished recovery shows of the image that it left
  pub kept : List ℕ

-- each request works on the image as the one before or a cut left it
abbrev pub Turns : ℕ → ℕ → Image → List Turn → Image → Type 0
Turns N B s [] u = u ≡ s
Turns N B s (e ∷ es) u =
    Proper e.request × ((m : Image) × DoesBegun N B e.request e.seen s m e.begun e.marks × (e.kept ≡ blocks (shown N B m)) × Turns N B m es u)

-- ---- what is counted

-- 1 for a cut: no answer came back, or the answer 9
unfoldable pub cut_seen : Seen → ℕ
cut_seen (answered o) = cond (eqb o.code 9) 1 0
cut_seen lost = 1

unfoldable pub cuts_in : List Turn → ℕ
cuts_in [] = 0
cuts_in (e ∷ es) = cut_seen e.seen + cuts_in es

-- the erases that a recovery has begun
unfoldable pub by_recovery : Request → List ℕ → ℕ
by_recovery format es = 0
by_recovery (put b c) es = 0
by_recovery (delete b) es = 0
by_recovery (read b) es = 0
by_recovery (read_or b f) es = 0
by_recovery recover es = length es

unfoldable pub recovery_erases : List Turn → ℕ
recovery_erases [] = 0
recovery_erases (e ∷ es) = by_recovery e.request e.begun + recovery_erases es

-- the erases begun on the segment at an index
unfoldable pub begun_on : ℕ → List Turn → ℕ
begun_on i [] = 0
begun_on i (e ∷ es) = count (λ x. eqb i x) e.begun + begun_on i es
