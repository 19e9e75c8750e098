-- One write: whether it is taken, which list it has, and what becomes of the run of statuses.
use Rattle.std.specs.Prelude.{ℕ, zero, suc, ◌+◌, ◌-◌, ◌%◌, ◌≤◌, ◌≡◌, ◌≢◌, Bool, cond, ◌&&◌, not, List, [], ◌∷◌, length, eqb}
use Rattle.std.proofs.Math.Path.{refl, ap}
use Rattle.std.proofs.Common.{sym, ◌∙◌, subst, arith, eqb-true}
use Rattle.std.proofs.Math.Bool.{true, false}
use Rattle.std.proofs.Math.Nat.{zero-mod, mod-add-mod}
use Rattle.std.proofs.lemmas.Bool.{eqb-false}
use Rattle.model.specs.Chip.{Image, Step}
use Rattle.model.specs.Answers.{Work, first_of}
use Rattle.model.specs.Laws.Lists.{and_left, and_right}
use Rattle.partitions.specs.Layout.{Item, items_of, layout_ok, has_item, item_of}
use Rattle.partitions.specs.Partitions.{image_ok, partition_size, status_of, next_status, next_partition, newest_in, newest_of}
use Rattle.partitions.specs.Items.{is_erased}
use Rattle.partitions.specs.Writes.{Entry, entry_for, write_item, fill, carried, write_steps}
use Rattle.partitions.specs.Answers.{is_no_run, refusals, item_fits, write_work}
use Rattle.partition_runs.proofs.Reach.{Reaches, pointed, reach_newest, reach_status}

-- ---- taken or refused

pub record Taken (P : ℕ) (layout : List ℕ) (s : Image) (i : ℕ) (d : List ℕ) : Type 0 where
  pub right : image_ok P s ≡ true
  pub table : layout_ok (partition_size P s) layout ≡ true
  pub known : has_item i (items_of layout) ≡ true
  pub whole : length d ≡ (item_of i (items_of layout)).size
  pub single : is_no_run (newest_of P s) ≡ false

-- its list
abbrev pub list_of : ℕ → List ℕ → Image → ℕ → List ℕ → List Step
list_of P layout s i d = write_steps P (partition_size P s) (items_of layout) s (newest_of P s) (entry_for layout i d)

pub data Verdict (P : ℕ) (layout : List ℕ) (s : Image) (i : ℕ) (d : List ℕ) : Work → Type 0 where
  taken : Taken P layout s i d → Verdict P layout s i d (record { code = 0; steps = list_of P layout s i d })
  refused : (k : ℕ) → k ≢ 0 → k ≢ 9 → (k ≡ 4 → is_no_run (newest_of P s) ≡ true) → Verdict P layout s i d (record { code = k; steps = [] })

-- the first of the four that applies
abbrev first_of_lem : Bool → Bool → Bool → Bool → ℕ
first_of_lem a b c n = cond (not a) 1 (cond (not b) 2 (cond (not c) 3 (cond n 4 0)))

all_pass : (a b c n : Bool) → first_of_lem a b c n ≡ 0 → (a ≡ true) × (b ≡ true) × (c ≡ true) × (n ≡ false)
all_pass true true true true e = absurd (omega arith)
all_pass true true true false e = (refl, refl, refl, refl)
all_pass true true false n e = absurd (omega arith)
all_pass true false c n e = absurd (omega arith)
all_pass false b c n e = absurd (omega arith)

below_nine : (a b c n : Bool) → first_of_lem a b c n ≢ 9
below_nine true true true true e = omega arith
below_nine true true true false e = omega arith
below_nine true true false n e = omega arith
below_nine true false c n e = omega arith
below_nine false b c n e = omega arith

no_run : (a b c n : Bool) → first_of_lem a b c n ≡ 4 → n ≡ true
no_run true true true true e = refl
no_run true true true false e = absurd (omega arith)
no_run true true false n e = absurd (omega arith)
no_run true false c n e = absurd (omega arith)
no_run false b c n e = absurd (omega arith)

pub verdict : (P : ℕ) (layout : List ℕ) (s : Image) (i : ℕ) (d : List ℕ) → Verdict P layout s i d (write_work P layout s i d)
unfolding write_work refusals first_of item_fits
verdict P layout s i d = go (eqb code 0) refl
  where
    size : ℕ
    size = partition_size P s

    fits : Bool
    fits = has_item i (items_of layout) && eqb (length d) (item_of i (items_of layout)).size

    code : ℕ
    code = first_of_lem (image_ok P s) (layout_ok size layout) fits (is_no_run (newest_of P s))

    go : (t : Bool) → eqb code 0 ≡ t → Verdict P layout s i d (cond t (record { code = 0; steps = list_of P layout s i d }) (record { code = code; steps = [] }))
    go true e =
        let w = all_pass (image_ok P s) (layout_ok size layout) fits (is_no_run (newest_of P s)) (eqb-true code 0 e) in
        taken (record {
          right = w.0;
          table = w.1;
          known = and_left (has_item i (items_of layout)) (eqb (length d) (item_of i (items_of layout)).size) w.2;
          whole = eqb-true (length d) (item_of i (items_of layout)).size (and_right (has_item i (items_of layout)) (eqb (length d) (item_of i (items_of layout)).size) w.2);
          single = w.3;
        })
    go false e = refused code (eqb-false code 0 e) (below_nine (image_ok P s) (layout_ok size layout) fits (is_no_run (newest_of P s))) (no_run (image_ok P s) (layout_ok size layout) fits (is_no_run (newest_of P s)))

-- ---- the list, by the reach of the run

-- the entries of a partition that is filled: the new one alone in the first, otherwise with what the newest holds
unfoldable pub entries_for : ℕ → ℕ → List Item → Image → ℕ → Entry → List Entry
entries_for P S xs s zero e = e ∷ []
entries_for P S xs s (suc k) e = carried S s (k % P) e xs

module _ (P S : ℕ) (two : 2 ≤ P) (most : P ≤ 128) (s : Image) (xs : List Item) (e : Entry) where
  pub data Plan (A W : ℕ) : List Step → Type 0 where
    filling : Plan A W (fill S (A % P) (entries_for P S xs s A e) (W % 255))
    placing : (k : ℕ) → A ≡ suc k → is_erased S s (k % P) e.item ≡ true → Plan A W (write_item S (k % P) e)

  -- without a run all is 0
  none_yet : (W : ℕ) → Reaches P S s 0 W → W ≡ 0
  none_yet W r = (r.begun (omega (arith, r.index))).1

  -- with one, the status is some number's after another
  some_yet : (k W : ℕ) → Reaches P S s (suc k) W → W ≡ suc (W - 1)
  some_yet k W r = go r.count r.value r.begun
    where
      go : (n : ℕ) → r.status + n ≡ W → (n ≡ 0 → (suc k ≡ 0) × (W ≡ 0)) → W ≡ suc (W - 1)
      go zero e z = absurd (omega (arith, (z refl).0))
      go (suc n) e z = omega arith

  follows : (k w : ℕ) → Reaches P S s (suc k) (suc w) → (next_partition P (k % P) ≡ suc k % P) × (next_status (status_of S s (k % P)) ≡ suc w % 255)
  unfolding next_partition next_status
  follows k w r = (
    mod-add-mod k P 1 ∙ ap (λ (y : ℕ). y % P) (omega arith),
    ap (λ (y : ℕ). (y + 1) % 255) (reach_status P S two most s k w r) ∙ mod-add-mod w 255 1 ∙ ap (λ (y : ℕ). y % 255) (omega arith),
  )

  pub plan : (A W : ℕ) → Reaches P S s A W → Plan A W (write_steps P S xs s (newest_in P S s) e)
  unfolding pointed write_steps entries_for
  plan A W r = rw (reach_newest P S two most s A W r) (go A W r)
    where
      again : (k w : ℕ) → Reaches P S s (suc k) (suc w) → (t : Bool) → is_erased S s (k % P) e.item ≡ t
          → Plan (suc k) (suc w) (cond t (write_item S (k % P) e) (fill S (next_partition P (k % P)) (carried S s (k % P) e xs) (next_status (status_of S s (k % P)))))
      again k w r true h = placing k refl h
      again k w r false h = rw ((follows k w r).0, (follows k w r).1) filling

      go : (A W : ℕ) → Reaches P S s A W → Plan A W (write_steps P S xs s (pointed P A) e)
      go zero W r =
          let f : Plan 0 W (fill S (0 % P) (e ∷ []) (W % 255)) = filling in
          let z : W % 255 ≡ 0 = ap (λ (y : ℕ). y % 255) (none_yet W r) in
          rw (zero-mod P, z) at f
      go (suc k) W r =
          let g : Reaches P S s (suc k) (suc (W - 1)) → Plan (suc k) (suc (W - 1)) (write_steps P S xs s (pointed P (suc k)) e) = λ r. again k (W - 1) r (is_erased S s (k % P) e.item) refl in
          subst (λ (y : ℕ). Reaches P S s (suc k) y → Plan (suc k) y (write_steps P S xs s (pointed P (suc k)) e)) (sym (some_yet k W r)) g r
