-- A recovery, finished or cut: it leaves the rows that it found, begins one erase at most, and an erase that was due is made or stays due.
use Rattle.std.specs.Prelude.{ℕ, ◌+◌, ◌-◌, ◌%◌, ◌≤◌, ◌<◌, ◌≡◌, Bool, true, cond, ◌||◌, length}
use Rattle.std.proofs.Math.Path.{refl, ap}
use Rattle.std.proofs.Common.{sym, ◌∙◌, inl, inr, ⊎_elim, arith, length-append, eqb-true}
use Rattle.std.proofs.Math.Bool.{false}
use Rattle.std.proofs.lemmas.Bool.{false≢true}
use mathlib.Core.List.{List, [], ◌∷◌, ◌++◌}
use Rattle.std.proofs.Math.ListN.{get_or}
use Rattle.std.proofs.Math.Dec.{eqb}
use Rattle.model.specs.Lists.{count}
use Rattle.model.specs.Chip.{Image, Step, erase, right_size, run, Cut}
use Rattle.model.specs.Slot.{dead, cut}
use Rattle.model.specs.State.{Segment, blank, in_use, segments_of, is_in_use, is_invalid, slots_in, next_number, next_index, top_version, last_slot, older, Exception, case_a, case_b, case_c, case_d, State, clean, unfinished, damaged, state_of, state}
use Rattle.model.specs.Steps.{settle, unless_blank, erase_next, mend_steps, recover_steps}
use Rattle.model.specs.Answers.{recover, steps_for, work_of}
use Rattle.model.specs.Sequences.{erases_in}
use Rattle.model.specs.Begun.{is_mark, marks_in, CutBegun}
use Rattle.model.specs.Laws.Lists.{count_append}
use Rattle.model.proofs.Laws.Chip.{size_facts, whole_cut, cut_size}
use Rattle.model.proofs.Laws.Segments.{segments_length}
use Rattle.model.proofs.Laws.Begun.{begun_cut, erases_append, marks_append, Behind, begun_append, begun_few, begun_unmarked}
use Rattle.model.proofs.Laws.Counted.{bits_length}
use Rattle.model.proofs.Laws.Marks.{settle_unmarked, count_unmarked, dead_unmarked}
use Rattle.bridge.specs.Accepted.{accepted, refused_none, recover_none}
use Rattle.crash.specs.Sound.{SoundAs, Sound}
use Rattle.crash.specs.Alike.{like_after}
use Rattle.crash.proofs.States.{case_of, recovered_view, recover_steps_lem}
use Rattle.crash.proofs.RecoverMarks.{slot_inside, last_marks, older_marks}
use Rattle.crash.specs.RecoverCount.{counts, top, top_below}
use Rattle.crash.proofs.RecoverErase
use Rattle.crash.proofs.RecoverErase.{steps_a}
use Rattle.crash.proofs.RecoverOwing
use Rattle.crash.proofs.RecoverOwing.{is_unblank, by_old}
use Rattle.crash.proofs.Recover.{recover_cut}
use Rattle.wear.specs.Erases.{mark_none, settle_none}
use Rattle.tallied.proofs.Recovers.{counts_none}
use Rattle.tallied.proofs.Theorem.{count_least}
use Rattle.wear_cuts.specs.Passes.{erases_if, due, due_clean, paid_more, Passes, passes_views}

-- ---- one erase at most, of any image

next_one : (N B : ℕ) (l : List Segment) → erases_in (erase_next N B l) ≡ next_index N l ∷ []
unfolding erase_next erases_in
next_one N B l = erases_append (counts N B l) (erase (next_index N l) ∷ []) ∙ ap (λ (y : List ℕ). y ++ (next_index N l ∷ [])) (counts_none N B l)

unless_few : (x : Segment) (xs : List Step) → length (erases_in (unless_blank x xs)) ≤ length (erases_in xs)
unfolding unless_blank erases_in
unless_few x xs = go (is_in_use x || is_invalid x)
  where
    go : (t : Bool) → length (erases_in (cond t xs [])) ≤ length (erases_in xs)
    go true = omega arith
    go false = unfold erases_in in (omega arith)

mend_few : (N B : ℕ) (l : List Segment) (x : Exception) → length (erases_in (mend_steps N B l x)) ≤ 1
unfolding mend_steps
mend_few N B l case_a = rw (next_one N B l) (omega arith)
mend_few N B l case_b =
    let x = get_or l (next_index N l) blank in
    let one : length (erases_in (erase_next N B l)) ≡ 1 = ap length (next_one N B l) in
    rw (erases_append (unless_blank x (erase_next N B l)) (settle N B (next_number l - 1)), settle_none N B (next_number l - 1))
    (omega (arith, length-append (erases_in (unless_blank x (erase_next N B l))) [], unless_few x (erase_next N B l), one))
mend_few N B l case_c = rw (mark_none N B _) (omega arith)
mend_few N B l case_d = rw (mark_none N B _) (omega arith)

pub recover_few : (N B : ℕ) (s : Image) → length (due N B s) ≤ 1
unfolding steps_for erases_in
recover_few N B s = go (eqb (work_of N B s recover).code 0) refl
  where
    by_state : (x : State) → length (erases_in (recover_steps N B (segments_of N B s) x)) ≤ 1
    by_state clean = unfold recover_steps erases_in in (omega arith)
    by_state (unfinished x) = unfold recover_steps in (mend_few N B (segments_of N B s) x)
    by_state damaged = unfold recover_steps erases_in in (omega arith)

    go : (t : Bool) → eqb (work_of N B s recover).code 0 ≡ t → length (due N B s) ≤ 1
    go true e = rw (accepted N B s recover (eqb-true (work_of N B s recover).code 0 e)).0 (unfold steps_for in (by_state (state_of N B (segments_of N B s))))
    go false e = rw (refused_none N B s recover e) (unfold erases_in in (omega arith))

-- ---- an erase that is due

-- in (a) that of the segment after the top; in (b) too, unless it is blank
due_a : (N B : ℕ) (s : Image) → right_size N B s ≡ true → state N B s ≡ unfinished case_a → due N B s ≡ next_number (segments_of N B s) % N ∷ []
unfolding mend_steps next_index
due_a N B s z e = ap erases_in (recover_steps_lem N B s case_a z e) ∙ next_one N B (segments_of N B s)

pub due_b : (N B : ℕ) (s : Image) → right_size N B s ≡ true → state N B s ≡ unfinished case_b → is_unblank (get_or (segments_of N B s) (next_number (segments_of N B s) % N) blank) ≡ true
    → due N B s ≡ next_number (segments_of N B s) % N ∷ []
unfolding erases_in is_in_use is_invalid
due_b N B s z e n = by_old N B s z e (due N B s ≡ next_number (segments_of N B s) % N ∷ []) (λ q d. absurd (false≢true (sym (ap is_unblank q) ∙ n))) (λ q d.
    let l = segments_of N B s in
    ap erases_in (recover_steps_lem N B s case_b z e ∙ d) ∙ rw (erases_append (counts N B l) (erase (next_number l % N) ∷ settle N B (next_number l - 1)), counts_none N B l, settle_none N B (next_number l - 1)))

-- an erase that is due after each cut of the count is made by what follows, or still due
then_owed : (N B j : ℕ) (xs ys : List Step) (s u : Image) (es : List ℕ) (f : ℕ) → ((w : Image) → Cut B xs s w → due N B w ≡ j ∷ []) → CutBegun B (xs ++ (erase j ∷ ys)) s u es f
    → (i : ℕ) → erases_if i (j ∷ []) ≤ erases_if i es + erases_if i (due N B u)
unfolding erases_in
then_owed N B j xs ys s u es f still c i = ⊎_elim
    (λ d. rw (still u (begun_cut B xs s u es f d)) (omega arith))
    (λ d. go d d.4)
    (begun_append B xs (erase j ∷ ys) s u es f c)
  where
    go : (d : Behind B xs (erase j ∷ ys) s u es f) → CutBegun B (erase j ∷ ys) (run B xs s) u d.0 d.1 → erases_if i (j ∷ []) ≤ erases_if i es + erases_if i (due N B u)
    go d (inl q) = rw (still u (rw q.0 (whole_cut B xs s))) (omega arith)
    go d (inr (inl q)) = rw (d.2, q.1) (unfold erases_in in omega (arith, count_append (λ x. eqb i x) (erases_in xs) (j ∷ [])))
    go d (inr (inr (r, m, q, g, k))) = rw (d.2, q) (unfold erases_in in omega (arith, count_append (λ x. eqb i x) (erases_in xs) (j ∷ r), count_append (λ x. eqb i x) (j ∷ []) r))

module _ (N B : ℕ) (s : Image) (z : right_size N B s ≡ true) where
  counted_a : state N B s ≡ unfinished case_a → (w : Image) → Cut B (counts N B (segments_of N B s)) s w → due N B w ≡ next_number (segments_of N B s) % N ∷ []
  counted_a e w c = due_a N B w (cut_size N B (counts N B (segments_of N B s)) s w c ∙ z) (RecoverErase.counted_state N B s z e w c)
      ∙ ap {B = List ℕ} (λ (y : ℕ). y % N ∷ []) (RecoverErase.counted_next N B s z e w c)

  counted_b : state N B s ≡ unfinished case_b → is_unblank (get_or (segments_of N B s) (next_number (segments_of N B s) % N) blank) ≡ true → (w : Image) → Cut B (counts N B (segments_of N B s)) s w
      → due N B w ≡ next_number (segments_of N B s) % N ∷ []
  unfolding next_index
  counted_b e n w c =
      let l = segments_of N B s in
      let same : get_or (segments_of N B w) (next_number (segments_of N B w) % N) blank ≡ get_or l (next_number l % N) blank =
      like_after N l (segments_of N B w) (RecoverOwing.left N B s z e w c).1 (RecoverOwing.in_list N B s z e w c) (segments_length N B s) (size_facts N B s z).two (RecoverOwing.some N B s z e) in
      due_b N B w (cut_size N B (counts N B l) s w c ∙ z) (RecoverOwing.counted_state N B s z e w c) (ap is_unblank same ∙ n)
      ∙ ap {B = List ℕ} (λ (y : ℕ). y % N ∷ []) (RecoverOwing.counted_next N B s z e w c)

  recover_owed : Sound N B s → (u : Image) (es : List ℕ) (f : ℕ) → CutBegun B (work_of N B s recover).steps s u es f → (i : ℕ) → erases_if i (due N B s) ≤ erases_if i es + erases_if i (due N B u)
  unfolding count
  recover_owed h u es f c i = go (state N B s) refl h
    where
      none : due N B s ≡ [] → erases_if i (due N B s) ≤ erases_if i es + erases_if i (due N B u)
      none q = rw q (unfold count in omega arith)

      next : (ys : List Step) → (work_of N B s recover).steps ≡ counts N B (segments_of N B s) ++ (erase (next_number (segments_of N B s) % N) ∷ ys) → due N B s ≡ next_number (segments_of N B s) % N ∷ []
          → ((w : Image) → Cut B (counts N B (segments_of N B s)) s w → due N B w ≡ next_number (segments_of N B s) % N ∷ []) → erases_if i (due N B s) ≤ erases_if i es + erases_if i (due N B u)
      next ys q d still = rw d (then_owed N B (next_number (segments_of N B s) % N) (counts N B (segments_of N B s)) ys s u es f still (rw q at c) i)

      case : (x : Exception) → state N B s ≡ unfinished x → erases_if i (due N B s) ≤ erases_if i es + erases_if i (due N B u)
      case case_a e = next [] (recover_steps_lem N B s case_a z e ∙ steps_a N B s z e) (due_a N B s z e) (counted_a e)
      case case_b e = by_old N B s z e (erases_if i (due N B s) ≤ erases_if i es + erases_if i (due N B u))
          (λ q d. none (ap erases_in (recover_steps_lem N B s case_b z e ∙ d) ∙ settle_none N B (next_number (segments_of N B s) - 1)))
          (λ n d. next (settle N B (next_number (segments_of N B s) - 1)) (recover_steps_lem N B s case_b z e ∙ d) (due_b N B s z e n) (counted_b e n))
      case case_c e = none (ap erases_in (recover_steps_lem N B s case_c z e) ∙ (unfold mend_steps in mark_none N B _))
      case case_d e = none (ap erases_in (recover_steps_lem N B s case_d z e) ∙ (unfold mend_steps in mark_none N B _))

      go : (x : State) → state N B s ≡ x → SoundAs N B s (segments_of N B s) x → erases_if i (due N B s) ≤ erases_if i es + erases_if i (due N B u)
      go clean e k = none (due_clean N B s e)
      go (unfinished x) e k = case x e
      go damaged e k = absurd k

  -- ---- no tidying

  counts_unmarked : 0 < next_number (segments_of N B s) → marks_in B (counts N B (segments_of N B s)) ≡ 0
  counts_unmarked some =
      let l = segments_of N B s in
      let n = next_number l - 1 in
      let slots = slots_in (get_or l (n % N) blank) in
      let d = size_facts N B s z in
      let (st, at) = top N B s z some in
      count_unmarked N B n (top_version N l) (λ total bits e. bits_length N B d.two d.most d.most_b s d.whole n (top_below N B s z some) st slots total bits (at ∙ ap (λ y. in_use y st n slots) e))

  recover_unmarked : Sound N B s → marks_in B (work_of N B s recover).steps ≡ 0
  unfolding marks_in count
  recover_unmarked h = go (state N B s) refl h
    where
      l : List Segment
      l = segments_of N B s

      next : (ys : List Step) → 0 < next_number (segments_of N B s) → marks_in B ys ≡ 0 → marks_in B (counts N B (segments_of N B s) ++ (erase (next_number (segments_of N B s) % N) ∷ ys)) ≡ 0
      next ys some q = marks_append B (counts N B l) (erase (next_number l % N) ∷ ys) ∙ (unfold marks_in is_mark count in omega (arith, counts_unmarked some, q))

      case : (x : Exception) → state N B s ≡ unfinished x → marks_in B (mend_steps N B (segments_of N B s) x) ≡ 0
      case case_a e = rw (steps_a N B s z e) (next [] (RecoverErase.some N B s z e) (unfold marks_in count in refl))
      case case_b e = by_old N B s z e (marks_in B (mend_steps N B (segments_of N B s) case_b) ≡ 0)
          (λ q d. rw d (settle_unmarked N B (next_number l - 1)))
          (λ q d. rw d (next (settle N B (next_number l - 1)) (RecoverOwing.some N B s z e) (settle_unmarked N B (next_number l - 1))))
      case case_c e = unfold mend_steps state in
          (dead_unmarked N B (record { number = next_number l - 1; slot = last_slot N l }) (slot_inside N B s z (next_number l - 1) (last_slot N l) cut (last_marks N B l (case_of N B l case_c e))))
      case case_d e = unfold mend_steps state in (dead_unmarked N B (older N l) (slot_inside N B s z (older N l).number (older N l).slot dead (older_marks N B l (case_of N B l case_d e))))

      go : (x : State) → state N B s ≡ x → SoundAs N B s (segments_of N B s) x → marks_in B (work_of N B s recover).steps ≡ 0
      go clean e k = rw (recover_none N B s e) (unfold marks_in count in refl)
      go (unfinished x) e k = rw (recover_steps_lem N B s x z e) (case x e)
      go damaged e k = absurd k

  pub recover_passes : Sound N B s → (u : Image) (es : List ℕ) (f : ℕ) → CutBegun B (work_of N B s recover).steps s u es f → (f ≡ 0) × Passes N B 0 1 s u es f
  recover_passes h u es f c =
      let xs = (work_of N B s recover).steps in
      let v = recovered_view N B s in
      let few : length es ≤ 1 = omega (arith, begun_few B xs s u es f c, recover_few N B s) in
      let unmarked : f ≡ 0 = begun_unmarked B xs s u es f (recover_unmarked h) c in (
        unmarked,
        passes_views N B 0 1 s u es f v v (refl, refl) (recover_cut N B s u z h (begun_cut B xs s u es f c)).1 (omega (arith, unmarked)) (omega (arith, few))
            (λ i. omega (arith, few, count_least (λ x. eqb i x) es)) (λ i. omega (arith, recover_owed h u es f c i)) (λ L R l p. paid_more N B L R (R + 0) v (omega arith) p),
      )
