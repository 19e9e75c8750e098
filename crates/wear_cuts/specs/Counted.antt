-- The invariant, in two halves: the erases begun against F and K, and what R and K pay for. Each is kept by what one request may do.
use Rattle.std.specs.Prelude.{ℕ, ◌+◌, ◌-◌, ◌*◌, max, ◌≤◌, ◌≡◌, Bool, true}
use Rattle.std.proofs.Math.Path.{refl, ap}
use Rattle.std.proofs.Common.{sym, ◌∙◌, subst, arith}
use mathlib.Core.List.{List, ◌++◌}
use Rattle.std.proofs.Math.ListN.{length, length-append}
use Rattle.std.proofs.Math.Dec.{eqb}
use Rattle.model.specs.Lists.{count}
use Rattle.model.specs.Chip.{Image, right_size}
use Rattle.model.specs.State.{distinct}
use Rattle.model.specs.Table.{blocks, table_of}
use Rattle.model.specs.Answers.{Request, recover, work_of}
use Rattle.model.specs.Histories.{Seen, recovered, shown}
use Rattle.model.specs.Sequences.{Ledger, erase_count, erases_of}
use Rattle.model.specs.Begun.{Turn, cut_seen}
use Rattle.model.specs.Laws.Lists.{count_append}
use Rattle.model.proofs.Laws.Chip.{run_size}
use Rattle.bridge.specs.Views.Shape.{clean_distinct}
use Rattle.bridge.specs.Held.{clean_view}
use Rattle.crash.specs.Machine.{Board, Promise, settled, interrupted, unknown, OnTable, Moves}
use Rattle.crash.specs.Sound.{Sound}
use Rattle.crash.proofs.States.{recovered_view}
use Rattle.crash.proofs.Recover.{recover_done}
use Rattle.wear.specs.Erases.{erases_at}
use Rattle.wear.specs.Room.{paid_after, PaidView}
use Rattle.wear.specs.Stored.{Stored, stored_blocks, stored_length}
use Rattle.tallied.proofs.Theorem.{IsInterrupted, Below, below_same, below_more}
use Rattle.wear_counts.specs.Counts.{noted_cut}
use Rattle.wear_cuts.specs.Passes.{erases_if, due, Passes}

-- ---- the erases begun: F is the smallest number in use once recovered, and its turns are erased, but for those still due

pub record Erased (N B : ℕ) (s : Image) (x : Promise) (t : Ledger) (K F : ℕ) : Type 0 where
  pub first : (recovered_view N B s).first ≡ F
  pub total : Below x (erase_count t) (F + K)
  pub each : (i : ℕ) → Below x (erases_of i t) (erases_at N F i + K)
  pub owed : (i : ℕ) → erases_at N F i ≤ erases_of i t + erases_if i (due N B s)

-- both sides may grow by as much
below_shift : (x : Promise) (a b k l : ℕ) → b + k ≤ a + l → Below x a k → Below x b l
below_shift (settled t) a b k l h p = omega arith
below_shift (interrupted t) a b k l h p = omega arith
below_shift unknown a b k l h p = p

module _ (N B : ℕ) (s m : Image) (r : Request) (o : Seen) (es : List ℕ) (f : ℕ) (x y : Promise) (t u : Ledger) (K F : ℕ) (more : u.erased ≡ t.erased ++ es) where
  total_more : erase_count u ≡ erase_count t + length es
  unfolding erase_count
  total_more = ap length more ∙ length-append t.erased es

  each_more : (i : ℕ) → erases_of i u ≡ erases_of i t + erases_if i es
  unfolding erases_of
  each_more i = ap (λ (y : List ℕ). count (λ z. eqb i z) y) more ∙ count_append (λ z. eqb i z) t.erased es

  module _ {k e : ℕ} (a : Erased N B s x t K F) (p : Passes N B k e s m es f) where
    first_more : (recovered_view N B m).first ≡ f + F
    first_more = omega (arith, p.first, a.first)

    owed_more : (i : ℕ) → erases_at N (f + F) i ≤ erases_of i u + erases_if i (due N B m)
    owed_more i = let q = rw (first_more, a.first) at (p.owed i) in omega (arith, q, a.owed i, each_more i)

  cut_more : (a b c : ℕ) → a ≡ b → Below y c (cut_seen o + (a + K)) → Below y c (b + (cut_seen o + K))
  cut_more a b c e h = subst (λ (q : ℕ). Below y c q) (omega arith) h

  -- any request but a recovery with something to do
  pub erased_on : {C : Board} {w : Bool} {k : ℕ} → OnTable r → Moves C w r o x y → Erased N B s x t K F → Passes N B k 0 s m es f → Erased N B m y u (cut_seen o + K) (f + F)
  erased_on on moves a p = record {
    first = first_more a p;
    total = rw total_more (cut_more (f + F) (f + F) (erase_count t + length es) refl (below_same moves on (erase_count t + length es) (f + F + K)
        (below_shift x (erase_count t) (erase_count t + length es) (F + K) (f + F + K) (omega (arith, p.few)) a.total)));
    each = λ i. (let q = rw (first_more a p, a.first) at (p.each i) in rw (each_more i) (cut_more (erases_at N (f + F) i) (erases_at N (f + F) i) (erases_of i t + erases_if i es) refl (below_same moves on (erases_of i t + erases_if i es) (erases_at N (f + F) i + K)
        (below_shift x (erases_of i t) (erases_of i t + erases_if i es) (erases_at N F i + K) (erases_at N (f + F) i + K) (omega (arith, q)) (a.each i)))));
    owed = owed_more a p;
  }

  -- a recovery after a cut: the one erase more is paid by the cut
  pub erased_recovered : {C : Board} {w : Bool} {k : ℕ} → Moves C w r o x y → r ≡ recover → IsInterrupted x → f ≡ 0 → Erased N B s x t K F → Passes N B k 1 s m es f
      → Erased N B m y u (cut_seen o + K) (f + F)
  erased_recovered moves is cut none a p =
      let same : f + F ≡ F = omega (arith, none) in
      record {
        first = first_more a p;
        total = rw total_more (cut_more F (f + F) (erase_count t + length es) (sym same) (below_more moves is cut (erase_count t) (erase_count t + length es) (F + K) (omega (arith, p.few, none)) a.total));
        each = λ i. (let q = rw (first_more a p, a.first, same) at (p.each i) in
            rw (each_more i) (cut_more (erases_at N F i) (erases_at N (f + F) i) (erases_of i t + erases_if i es) (ap (λ (z : ℕ). erases_at N z i) (sym same)) (below_more moves is cut (erases_of i t) (erases_of i t + erases_if i es) (erases_at N F i + K) (omega (arith, q)) (a.each i))));
        owed = owed_more a p;
      }

-- ---- what is paid

pub record Funded (N B : ℕ) (s : Image) (t : Ledger) (K : ℕ) : Type 0 where
  pub stored : Stored t.stored (shown N B s)
  pub most : length t.stored ≤ t.largest
  pub paid : PaidView N B t.largest (t.replaced + K) (recovered_view N B s)

pub shown_distinct : (N B : ℕ) (s : Image) → right_size N B s ≡ true → Sound N B s → distinct (shown N B s) ≡ true
unfolding shown table_of recovered
shown_distinct N B s z h = clean_distinct (clean_view N B (recovered N B s) (run_size N B (work_of N B s recover).steps s ∙ z) (recover_done N B s z h))

module _ (N B : ℕ) (s m : Image) (t : Ledger) (K : ℕ) (a : Funded N B s t K) where
  pub shown_few : distinct (shown N B s) ≡ true → length (shown N B s) ≤ t.largest
  shown_few d = omega (arith, stored_length t.stored (shown N B s) a.stored d, a.most)

  -- the blocks stored now, and so many rewrites, deletes and cuts more
  pub funded_more : (u : Ledger) (J S : ℕ) → Stored u.stored (shown N B m) → u.largest ≡ max t.largest (length u.stored) → PaidView N B t.largest S (recovered_view N B m)
      → S ≤ u.replaced + J → Funded N B m u J
  funded_more u J S st la p le = record {
    stored = st;
    most = omega (arith, la);
    paid = paid_after ((N - 1) * B - u.largest) (u.replaced + J) 0 (recovered_view N B m).slots (omega (arith, la)) (omega (arith, le)) (λ q. omega arith) p;
  }

  -- after a cut what is shown is stored; the cut pays for the slot that became dead
  pub funded_cut : (e : Turn) → e.kept ≡ blocks (shown N B m) → distinct (shown N B s) ≡ true → distinct (shown N B m) ≡ true → {k c : ℕ} {es : List ℕ} {f : ℕ} → k ≤ 1 → Passes N B k c s m es f
      → Funded N B m (noted_cut e t) (1 + K)
  unfolding noted_cut
  funded_cut e kept ds dm {k} few p = funded_more (noted_cut e t) (1 + K) (t.replaced + K + k)
      (rw kept (stored_blocks (shown N B m) (shown N B m) dm (λ b. refl))) refl
      (p.paid t.largest (t.replaced + K) (shown_few ds) a.paid) (omega arith)
