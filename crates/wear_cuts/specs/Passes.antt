-- What a request may do to the count, by the images before and after it, each as a finished recovery leaves it: the smallest number in use is F, and the erases are its turns.
use Rattle.std.specs.Prelude.{ℕ, suc, ◌+◌, ◌-◌, ◌*◌, ◌%◌, ◌≤◌, ◌≡◌, List, [], ◌∷◌, ◌++◌, length, eqb}
use Rattle.std.proofs.Common.{sym, ap, ◌∙◌, arith, length-append}
use Rattle.model.specs.Lists.{count}
use Rattle.model.specs.Chip.{Image}
use Rattle.model.specs.State.{View, entries_in, clean, state}
use Rattle.model.specs.Answers.{recover, work_of}
use Rattle.model.specs.Histories.{shown}
use Rattle.model.specs.Sequences.{erases_in}
use Rattle.model.specs.Laws.Lists.{count_append}
use Rattle.model.proofs.Laws.Counted.{SameRows}
use Rattle.bridge.specs.Accepted.{recover_none}
use Rattle.crash.proofs.States.{recovered_view, rows_table}
use Rattle.wear.specs.Erases.{turns, erases_at}
use Rattle.wear.specs.Room.{paid_after, PaidView}

-- the erases of index i in a list
abbrev pub erases_if : ℕ → List ℕ → ℕ
erases_if i es = count (λ x. eqb i x) es

-- the erases that a recovery of an image would make
abbrev pub due : ℕ → ℕ → Image → List ℕ
due N B s = erases_in (work_of N B s recover).steps

pub due_clean : (N B : ℕ) (s : Image) → state N B s ≡ clean → due N B s ≡ []
unfolding erases_in
due_clean N B s c = ap erases_in (recover_none N B s c)

-- one number more
pub turned_one : (N a i : ℕ) → erases_at N (suc a) i ≡ erases_at N a i + erases_if i (a % N ∷ [])
unfolding turns
turned_one N a i = count_append (λ x. eqb i x) (turns N a) (a % N ∷ [])

-- f marks, which pay for as many erases, and e erases more; and k slots that became dead and nobody paid for
pub record Passes (N B k e : ℕ) (s u : Image) (es : List ℕ) (f : ℕ) : Type 0 where
  pub first : (recovered_view N B u).first ≡ (recovered_view N B s).first + f
  pub few : length es ≤ f + e
  pub each : (i : ℕ) → erases_if i es + erases_at N (recovered_view N B s).first i ≤ erases_at N (recovered_view N B u).first i + e
  -- an erase that is due is made, or stays due
  pub owed : (i : ℕ) → erases_at N (recovered_view N B u).first i + erases_if i (due N B s) ≤ erases_at N (recovered_view N B s).first i + erases_if i es + erases_if i (due N B u)
  pub paid : (L R : ℕ) → length (shown N B s) ≤ L → PaidView N B L R (recovered_view N B s) → PaidView N B L (R + k) (recovered_view N B u)

pub paid_more : (N B L R S : ℕ) (v : View) → R ≤ S → PaidView N B L R v → PaidView N B L S v
paid_more N B L R S v h p = paid_after ((N - 1) * B - L) S 0 v.slots (omega arith) (omega arith) (λ q. omega arith) p

-- the same, by views with the same rows
pub passes_views : (N B k e : ℕ) (s u : Image) (es : List ℕ) (f : ℕ) (v w : View) → SameRows (recovered_view N B s) v → SameRows (recovered_view N B u) w → w.first ≡ v.first + f → length es ≤ f + e
    → ((i : ℕ) → erases_if i es + erases_at N v.first i ≤ erases_at N w.first i + e)
    → ((i : ℕ) → erases_at N w.first i + erases_if i (due N B s) ≤ erases_at N v.first i + erases_if i es + erases_if i (due N B u))
    → ((L R : ℕ) → length (entries_in v) ≤ L → PaidView N B L R v → PaidView N B L (R + k) w)
    → Passes N B k e s u es f
passes_views N B k e s u es f v w a b first few each owed paid = record {
  first = b.0 ∙ (first ∙ ap (λ (y : ℕ). y + f) (sym a.0));
  few = few;
  each = λ i. rw (a.0, b.0) (each i);
  owed = λ i. rw (a.0, b.0) (owed i);
  paid = λ L R h p. rw (b.0, b.1) (paid L R (rw (rows_table N B s v a) at h) (rw (a.0, a.1) at p));
}

pub passes_same : (N B e : ℕ) (s u : Image) → u ≡ s → Passes N B 0 e s u [] 0
unfolding count
passes_same N B e s u q = rw q (record {
  first = omega arith;
  few = omega arith;
  each = λ i. omega arith;
  owed = λ i. omega arith;
  paid = λ L R h p. paid_more N B L R (R + 0) (recovered_view N B s) (omega arith) p;
})

pub passes_trans : (N B k j : ℕ) (s t u : Image) (es ds fs : List ℕ) (f g h : ℕ) → fs ≡ es ++ ds → h ≡ f + g → length (shown N B t) ≤ length (shown N B s)
    → Passes N B k 0 s t es f → Passes N B j 0 t u ds g → Passes N B (k + j) 0 s u fs h
passes_trans N B k j s t u es ds fs f g h q r less a b = record {
  first = omega (arith, a.first, b.first, r);
  few = rw q (omega (arith, r, length-append es ds, a.few, b.few));
  each = λ i. rw q (omega (arith, count_append (λ x. eqb i x) es ds, a.each i, b.each i));
  owed = λ i. rw q (omega (arith, count_append (λ x. eqb i x) es ds, a.owed i, b.owed i));
  paid = λ L R l p. (let y : R + k + j ≡ R + (k + j) = omega arith in rw y at (b.paid L (R + k) (omega (arith, l, less)) (a.paid L R l p)));
}
