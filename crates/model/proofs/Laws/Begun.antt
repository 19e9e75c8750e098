-- Cuts with what they have begun are cuts, and every cut is one; so are histories. And cuts of lists one after the other.
use Rattle.std.specs.Prelude.{ℕ, zero, suc, ◌+◌, ◌≤◌, ◌≡◌, ◌⊎◌, Bool, true, false, cond, List, [], ◌∷◌, ◌++◌, length, take}
use Rattle.std.proofs.Math.Path.{refl}
use Rattle.std.proofs.Common.{sym, ap, ◌∙◌, inl, inr, append_assoc, arith, length-append}
use Rattle.model.specs.Lists.{same, count}
use Rattle.model.specs.Chip.{Image, Step, program, erase, step, run, Cut}
use Rattle.model.specs.Table.{blocks}
use Rattle.model.specs.Answers.{Request, work_of, outcome_of}
use Rattle.model.specs.Histories.{reply_of, Seen, answered, lost, Proper, Does, wears, Event, History, shown}
use Rattle.model.specs.Sequences.{Call, play, erases_in}
use Rattle.model.specs.Begun.{is_mark, marks_in, CutBegun, DoesBegun, Turn, Turns}
use Rattle.model.specs.Laws.Lists.{count_append}

pub begun_cut : (B : ℕ) (xs : List Step) (s u : Image) (es : List ℕ) (f : ℕ) → CutBegun B xs s u es f → Cut B xs s u
begun_cut B [] s u es f c = c.0
begun_cut B (x ∷ xs) s u es f (inl c) = inl c.0
begun_cut B (x ∷ xs) s u es f (inr (inl c)) = inr (inl c.0)
begun_cut B (x ∷ xs) s u es f (inr (inr (rest, more, e, g, c))) = inr (inr (begun_cut B xs (step B x s) u rest more c))

-- and every cut has begun something
pub cut_begun : (B : ℕ) (xs : List Step) (s u : Image) → Cut B xs s u → (es : List ℕ) × (f : ℕ) × CutBegun B xs s u es f
cut_begun B [] s u c = ([], 0, (c, refl, refl))
cut_begun B (x ∷ xs) s u (inl c) = ([], 0, inl (c, refl, refl))
cut_begun B (x ∷ xs) s u (inr (inl c)) = (erases_in (x ∷ []), cond (same u (step B x s)) (marks_in B (x ∷ [])) 0, inr (inl (c, refl, refl)))
cut_begun B (x ∷ xs) s u (inr (inr c)) = let (es, f, d) = cut_begun B xs (step B x s) u c in (erases_in (x ∷ []) ++ es, marks_in B (x ∷ []) + f, inr (inr (es, f, refl, refl, d)))

-- ---- the histories with what was begun are all histories

does_begun : (N B : ℕ) (r : Request) (o : Seen) (s u : Image) → Does N B r o s u → (es : List ℕ) × (f : ℕ) × DoesBegun N B r o s u es f
does_begun N B r (answered o) s u (allowance, e, left) = let done = take allowance (work_of N B s r).steps in (erases_in done, marks_in B done, (allowance, e, left, (refl, refl)))
does_begun N B r lost s u c = cut_begun B (work_of N B s r).steps s u c

pub begun_does : (N B : ℕ) (r : Request) (o : Seen) (s u : Image) (es : List ℕ) (f : ℕ) → DoesBegun N B r o s u es f → Does N B r o s u
begun_does N B r (answered o) s u es f (allowance, e, left, b) = (allowance, e, left)
begun_does N B r lost s u es f c = begun_cut B (work_of N B s r).steps s u es f c

-- the same requests, and the same seen of each, in the same order
abbrev pub Same : List Event → List Turn → Type 0
Same [] [] = Unit {0}
Same [] (t ∷ ts) = ⊥
Same (e ∷ es) [] = ⊥
Same (e ∷ es) (t ∷ ts) = (t.request ≡ e.request) × (t.seen ≡ e.seen) × Same es ts

pub history_turns : (N B : ℕ) (es : List Event) (s u : Image) → History N B s es u → (ts : List Turn) × Turns N B s ts u × Same es ts
history_turns N B [] s u e = ([], e, tt)
history_turns N B (v ∷ es) s u (p, w, (m, d, rest)) =
    let (ds, f, a) = does_begun N B v.request v.seen s m d in
    let b = history_turns N B es m u rest in
    (record { request = v.request; seen = v.seen; begun = ds; marks = f; kept = blocks (shown N B m) } ∷ b.0, (p, (m, a, refl, b.1)), (refl, refl, b.2))

pub turns_history : (N B : ℕ) (ts : List Turn) (s u : Image) → Turns N B s ts u → (es : List Event) × History N B s es u × Same es ts
turns_history N B [] s u e = ([], e, tt)
turns_history N B (v ∷ ts) s u (p, (m, d, k, rest)) =
    let b = turns_history N B ts m u rest in
    (record { request = v.request; worn = wears N B s; seen = v.seen } ∷ b.0, (p, refl, (m, begun_does N B v.request v.seen s m v.begun v.marks d, b.1)), (refl, refl, b.2))

-- ---- the turns of calls, each answered under its allowance

abbrev pub turn_of : ℕ → ℕ → Image → Call → Turn
turn_of N B s x = let done = take x.allowance (work_of N B s x.request).steps in record {
  request = x.request;
  seen = answered (reply_of N B s x.allowance x.request);
  begun = erases_in done;
  marks = marks_in B done;
  kept = blocks (shown N B (outcome_of N B s x.allowance x.request).image);
}

unfoldable pub turns_of : ℕ → ℕ → Image → List Call → List Turn
turns_of N B s [] = []
turns_of N B s (x ∷ xs) = turn_of N B s x ∷ turns_of N B (outcome_of N B s x.allowance x.request).image xs

-- contents are bytes
abbrev pub AllProper : List Call → Type 0
AllProper [] = Unit {0}
AllProper (x ∷ xs) = Proper x.request × AllProper xs

pub played : (N B : ℕ) (xs : List Call) (s : Image) → AllProper xs → Turns N B s (turns_of N B s xs) (play N B s xs)
unfolding turns_of play
played N B [] s p = refl
played N B (x ∷ xs) s p = let m = (outcome_of N B s x.allowance x.request).image in
    (p.0, (m, (x.allowance, refl, refl, (refl, refl)), refl, played N B xs m p.1))

-- ---- lists of steps

erases_cons : (x : Step) (xs : List Step) → erases_in (x ∷ xs) ≡ erases_in (x ∷ []) ++ erases_in xs
unfolding erases_in
erases_cons (program at v) xs = refl
erases_cons (erase i) xs = refl

pub erases_append : (xs ys : List Step) → erases_in (xs ++ ys) ≡ erases_in xs ++ erases_in ys
unfolding erases_in
erases_append [] ys = refl
erases_append (program at v ∷ xs) ys = erases_append xs ys
erases_append (erase i ∷ xs) ys = ap {B = List ℕ} (λ y. i ∷ y) (erases_append xs ys)

pub marks_append : (B : ℕ) (xs ys : List Step) → marks_in B (xs ++ ys) ≡ marks_in B xs + marks_in B ys
unfolding marks_in
marks_append B xs ys = count_append (λ x. is_mark B x) xs ys

marks_cons : (B : ℕ) (x : Step) (xs : List Step) → marks_in B (x ∷ xs) ≡ marks_in B (x ∷ []) + marks_in B xs
marks_cons B x xs = marks_append B (x ∷ []) xs

-- the first k steps of a list, as an allowance leaves them
pub taken_begun : (B : ℕ) (xs : List Step) (s : Image) (k : ℕ) → CutBegun B xs s (run B (take k xs) s) (erases_in (take k xs)) (marks_in B (take k xs))
unfolding run erases_in marks_in count
taken_begun B [] s k = none k
  where
    none : (n : ℕ) → (run B (take n []) s ≡ s) × (erases_in (take n []) ≡ []) × (marks_in B (take n []) ≡ 0)
    none zero = unfold run erases_in marks_in count in (refl, refl, refl)
    none (suc n) = unfold run erases_in marks_in count in (refl, refl, refl)
taken_begun B (x ∷ xs) s zero = inl (refl, refl, refl)
taken_begun B (x ∷ xs) s (suc k) = inr (inr (erases_in (take k xs), marks_in B (take k xs), erases_cons x (take k xs), marks_cons B x (take k xs), taken_begun B xs (step B x s) k))

-- all of it
pub whole_begun : (B : ℕ) (xs : List Step) (s : Image) → CutBegun B xs s (run B xs s) (erases_in xs) (marks_in B xs)
unfolding run erases_in marks_in count
whole_begun B [] s = (refl, refl, refl)
whole_begun B (x ∷ xs) s = inr (inr (erases_in xs, marks_in B xs, erases_cons x xs, marks_cons B x xs, whole_begun B xs (step B x s)))

-- of two lists, a cut in the first, or the first done and a cut in the second
abbrev pub Behind : ℕ → List Step → List Step → Image → Image → List ℕ → ℕ → Type 0
Behind B xs ys s u es f = (rest : List ℕ) × (more : ℕ) × (es ≡ erases_in xs ++ rest) × (f ≡ marks_in B xs + more) × CutBegun B ys (run B xs s) u rest more

pub begun_append : (B : ℕ) (xs ys : List Step) (s u : Image) (es : List ℕ) (f : ℕ) → CutBegun B (xs ++ ys) s u es f → CutBegun B xs s u es f ⊎ Behind B xs ys s u es f
unfolding run erases_in marks_in count
begun_append B [] ys s u es f c = inr (es, f, refl, omega arith, c)
begun_append B (x ∷ xs) ys s u es f (inl c) = inl (inl c)
begun_append B (x ∷ xs) ys s u es f (inr (inl c)) = inl (inr (inl c))
begun_append B (x ∷ xs) ys s u es f (inr (inr (rest, more, e, g, c))) = go (begun_append B xs ys (step B x s) u rest more c)
  where
    go : CutBegun B xs (step B x s) u rest more ⊎ Behind B xs ys (step B x s) u rest more → CutBegun B (x ∷ xs) s u es f ⊎ Behind B (x ∷ xs) ys s u es f
    go (inl d) = inl (inr (inr (rest, more, e, g, d)))
    go (inr (r, m, q, h, d)) = inr (
      r,
      m,
      e ∙ (ap (λ (y : List ℕ). erases_in (x ∷ []) ++ y) q ∙ (sym (append_assoc (erases_in (x ∷ [])) (erases_in xs) r) ∙ ap (λ (y : List ℕ). y ++ r) (sym (erases_cons x xs)))),
      omega (arith, g, h, marks_cons B x xs),
      unfold run in d,
    )

-- and back: the first done, and a cut in the second
pub append_begun : (B : ℕ) (xs ys : List Step) (s u : Image) (es : List ℕ) (f : ℕ) → CutBegun B ys (run B xs s) u es f → CutBegun B (xs ++ ys) s u (erases_in xs ++ es) (marks_in B xs + f)
unfolding run erases_in marks_in count
append_begun B [] ys s u es f c = let e : 0 + f ≡ f = omega arith in rw e c
append_begun B (x ∷ xs) ys s u es f c = inr (inr (
  erases_in xs ++ es,
  marks_in B xs + f,
  ap (λ (y : List ℕ). y ++ es) (erases_cons x xs) ∙ append_assoc (erases_in (x ∷ [])) (erases_in xs) es,
  omega (arith, marks_cons B x xs),
  append_begun B xs ys (step B x s) u es f c,
))

-- it begins no more erases than the list has
pub begun_few : (B : ℕ) (xs : List Step) (s u : Image) (es : List ℕ) (f : ℕ) → CutBegun B xs s u es f → length es ≤ length (erases_in xs)
begun_few B [] s u es f c = rw c.1 (omega arith)
begun_few B (x ∷ xs) s u es f (inl c) = rw c.1 (omega arith)
begun_few B (x ∷ xs) s u es f (inr (inl c)) = rw (c.1, erases_cons x xs) (omega (arith, length-append (erases_in (x ∷ [])) (erases_in xs)))
begun_few B (x ∷ xs) s u es f (inr (inr (rest, more, e, g, c))) =
    rw (e, erases_cons x xs) (omega (arith, length-append (erases_in (x ∷ [])) rest, length-append (erases_in (x ∷ [])) (erases_in xs), begun_few B xs (step B x s) u rest more c))

-- a list without erases begins none
pub begun_none : (B : ℕ) (xs : List Step) (s u : Image) (es : List ℕ) (f : ℕ) → erases_in xs ≡ [] → CutBegun B xs s u es f → es ≡ []
begun_none B [] s u es f n c = c.1
begun_none B (x ∷ xs) s u es f n (inl c) = c.1
begun_none B (x ∷ xs) s u es f n (inr (inl c)) = c.1 ∙ front (erases_in (x ∷ [])) (erases_in xs) (sym (erases_cons x xs) ∙ n)
  where
    front : (a b : List ℕ) → a ++ b ≡ [] → a ≡ []
    front [] b e = refl
    front (y ∷ a) b e = cc
begun_none B (x ∷ xs) s u es f n (inr (inr (rest, more, e, g, c))) =
    let both = parts (erases_in (x ∷ [])) (erases_in xs) (sym (erases_cons x xs) ∙ n) in
    e ∙ (ap (λ (y : List ℕ). y ++ rest) both.0 ∙ begun_none B xs (step B x s) u rest more both.1 c)
  where
    parts : (a b : List ℕ) → a ++ b ≡ [] → (a ≡ []) × (b ≡ [])
    parts [] b q = (refl, q)
    parts (y ∷ a) b q = (cc, cc)

-- and one without owing marks reaches none
pub begun_unmarked : (B : ℕ) (xs : List Step) (s u : Image) (es : List ℕ) (f : ℕ) → marks_in B xs ≡ 0 → CutBegun B xs s u es f → f ≡ 0
begun_unmarked B [] s u es f n c = c.2
begun_unmarked B (x ∷ xs) s u es f n (inl c) = c.2
begun_unmarked B (x ∷ xs) s u es f n (inr (inl c)) = c.2 ∙ go (same u (step B x s))
  where
    none : marks_in B (x ∷ []) ≡ 0
    none = omega (arith, n, marks_cons B x xs)

    go : (t : Bool) → cond t (marks_in B (x ∷ [])) 0 ≡ 0
    go true = none
    go false = refl
begun_unmarked B (x ∷ xs) s u es f n (inr (inr (rest, more, e, g, c))) =
    let later = begun_unmarked B xs (step B x s) u rest more (omega (arith, n, marks_cons B x xs)) c in omega (arith, g, later, n, marks_cons B x xs)
