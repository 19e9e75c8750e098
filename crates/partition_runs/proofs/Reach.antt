-- How far a run of statuses reaches: the partition that is filled next, and the status that it gets. An erase of that partition leaves the reach, whether it had no status or was the first of a full ring; its status set moves the reach on by one.
use Prim.Native.Nat.{ℕ, zero, suc, ◌+◌, ◌-◌, ◌%◌, ◌≤◌, ◌<◌}
use Rattle.std.specs.Prelude.{◌≡◌, refl, ◌≢◌}
use Rattle.std.proofs.Common.{sym, ap, ◌∙◌, mod-lt}
use native.Mathlib.Omega.{arith}
use Rattle.std.proofs.Math.Decide.{dec_lt, ℕ_discrete}
use Rattle.model.specs.Chip.{Image}
use Rattle.partitions.specs.Partitions.{no_status, status_of, Newest, nothing, newest, newest_in}
use Rattle.partition_runs.specs.Law.{Run, EndsAt}
use Rattle.partition_runs.specs.Rotation.{rotate, same_turn, whole_turn}
use Rattle.partition_runs.proofs.Runs.{nothing_newest, run_newest}

-- the next partition is A modulo P, and its status W modulo 255; without a run both are 0
pub record Reaches (P S : ℕ) (s : Image) (A W : ℕ) : Type 0 where
  pub start : ℕ
  pub status : ℕ
  pub count : ℕ
  pub run : Run P S s start status count
  pub index : start + count ≡ A
  pub value : status + count ≡ W
  pub begun : count ≡ 0 → (A ≡ 0) × (W ≡ 0)

-- the same with a partition that is no part of the run
pub record Free (P S : ℕ) (s : Image) (A W : ℕ) : Type 0 where
  pub reach : Reaches P S s A W
  pub free : reach.count < P

-- the partition before the next one
unfoldable pub pointed : ℕ → ℕ → Newest
pointed P zero = nothing
pointed P (suc k) = newest (k % P)

-- the statuses of all partitions but q are the same
abbrev pub Others : ℕ → ℕ → ℕ → Image → Image → Type 0
Others P S q s t = (r : ℕ) → r < P → r ≢ q → status_of S t r ≡ status_of S s r

module _ (P S : ℕ) (two : 2 ≤ P) (most : P ≤ 128) where
  none_of : (s : Image) (a v : ℕ) → Run P S s a v 0 → (p : ℕ) → p < P → status_of S s p ≡ no_status
  none_of s a v r p l = let (j, h, e) = rotate P a p l in ap (status_of S s) (sym e) ∙ r.none j (omega arith) h

  pub reach_newest : (s : Image) (A W : ℕ) → Reaches P S s A W → newest_in P S s ≡ pointed P A
  unfolding pointed
  reach_newest s A W r = go r.start r.status r.count r.run r.index r.begun
    where
      go : (a v n : ℕ) → Run P S s a v n → a + n ≡ A → (n ≡ 0 → (A ≡ 0) × (W ≡ 0)) → newest_in P S s ≡ pointed P A
      go a v zero w e z = rw (z refl).0 (nothing_newest P S s (none_of s a v w))
      go a v (suc b) w e z = let k : A ≡ suc (a + b) = omega arith in rw k (run_newest P S s a v b (omega arith) (omega arith) w)

  -- the status of the newest
  pub reach_status : (s : Image) (k w : ℕ) → Reaches P S s (suc k) (suc w) → status_of S s (k % P) ≡ w % 255
  reach_status s k w r = go r.start r.status r.count r.run r.index r.value r.begun
    where
      go : (a v n : ℕ) → Run P S s a v n → a + n ≡ suc k → v + n ≡ suc w → (n ≡ 0 → (suc k ≡ 0) × (suc w ≡ 0)) → status_of S s (k % P) ≡ w % 255
      go a v zero x e f z = absurd (omega (arith, (z refl).0))
      go a v (suc b) x e f z =
          let i : k ≡ a + b = omega arith in
          let j : w ≡ v + b = omega arith in
          rw (i, j) (x.has b (omega arith))

  -- ---- statuses that are the same, or one partition's changed

  pub reach_same : (s t : Image) (A W : ℕ) → Reaches P S s A W → ((r : ℕ) → status_of S t r ≡ status_of S s r) → Reaches P S t A W
  reach_same s t A W r e = record {
    start = r.start;
    status = r.status;
    count = r.count;
    run = record { most = r.run.most; has = λ j l. e ((r.start + j) % P) ∙ r.run.has j l; none = λ j l w. e ((r.start + j) % P) ∙ r.run.none j l w };
    index = r.index;
    value = r.value;
    begun = r.begun;
  }

  turn : (A j : ℕ) → j < P → (A + j) % P < P
  turn A j h = mod-lt (A + j) {m = P} (omega arith)

  -- the next partition erased
  pub reach_erased : (s t : Image) (A W : ℕ) → Reaches P S s A W → Others P S (A % P) s t → status_of S t (A % P) ≡ no_status → Free P S t A W
  reach_erased s t A W r others gone = elim (dec_lt r.count P) [ yes h ↦ unused h | no h ↦ first (omega (arith, r.run.most)) ]
    where
      a : ℕ
      a = r.start

      v : ℕ
      v = r.status

      n : ℕ
      n = r.count

      -- it had no status
      unused : n < P → Free P S t A W
      unused h = record { reach = record { start = a; status = v; count = n; run = record { most = r.run.most; has = has; none = none }; index = r.index; value = r.value; begun = r.begun }; free = h }
        where
          same : (j : ℕ) → j < P → j ≢ n → status_of S t ((a + j) % P) ≡ status_of S s ((a + j) % P)
          same j l d = others ((a + j) % P) (turn a j l) (λ e. d (same_turn P a j n l h (e ∙ ap (λ (y : ℕ). y % P) (sym r.index))))

          has : (j : ℕ) → j < n → status_of S t ((a + j) % P) ≡ (v + j) % 255
          has j l = same j (omega arith) (λ e. omega arith) ∙ r.run.has j l

          none : (j : ℕ) → n ≤ j → j < P → status_of S t ((a + j) % P) ≡ no_status
          none j l w = elim (ℕ_discrete j n) [
            | yes e ↦ ap (λ (y : ℕ). status_of S t (y % P)) (omega (arith, r.index)) ∙ gone
            | no e ↦ same j w e ∙ r.run.none j l w
          ]

      -- it was the first of a full ring
      first : n ≡ P → Free P S t A W
      first c = record {
        reach = record { start = suc a; status = suc v; count = P - 1; run = record { most = omega arith; has = has; none = none }; index = omega (arith, r.index); value = omega (arith, r.value); begun = λ z. absurd (omega arith) };
        free = omega arith;
      }
        where
          here : A % P ≡ (a + 0) % P
          here = ap (λ (y : ℕ). y % P) (sym r.index ∙ ap (λ (y : ℕ). a + y) c) ∙ whole_turn P a

          has : (j : ℕ) → j < P - 1 → status_of S t ((suc a + j) % P) ≡ (suc v + j) % 255
          has j l =
              let e : suc a + j ≡ a + suc j = omega arith in
              let f : suc v + j ≡ v + suc j = omega arith in
              rw (e, f) (others ((a + suc j) % P) (turn a (suc j) (omega arith)) (λ d. omega (arith, same_turn P a (suc j) 0 (omega arith) (omega arith) (d ∙ here))) ∙ r.run.has (suc j) (omega arith))

          none : (j : ℕ) → P - 1 ≤ j → j < P → status_of S t ((suc a + j) % P) ≡ no_status
          none j l w = ap (λ (y : ℕ). status_of S t (y % P)) (omega (arith, r.index)) ∙ gone

  -- its status set
  pub reach_set : (s t : Image) (A W : ℕ) → Free P S s A W → Others P S (A % P) s t → status_of S t (A % P) ≡ W % 255 → Reaches P S t (suc A) (suc W)
  reach_set s t A W f others set = record {
    start = a;
    status = v;
    count = suc n;
    run = record { most = f.free; has = has; none = none };
    index = omega (arith, r.index);
    value = omega (arith, r.value);
    begun = λ z. absurd (omega arith);
  }
    where
      r : Reaches P S s A W
      r = f.reach

      a : ℕ
      a = r.start

      v : ℕ
      v = r.status

      n : ℕ
      n = r.count

      same : (j : ℕ) → j < P → j ≢ n → status_of S t ((a + j) % P) ≡ status_of S s ((a + j) % P)
      same j l d = others ((a + j) % P) (turn a j l) (λ e. d (same_turn P a j n l f.free (e ∙ ap (λ (y : ℕ). y % P) (sym r.index))))

      has : (j : ℕ) → j < suc n → status_of S t ((a + j) % P) ≡ (v + j) % 255
      has j l = elim (ℕ_discrete j n) [
        | yes e ↦ ap (λ (y : ℕ). status_of S t (y % P)) (omega (arith, r.index)) ∙ set ∙ ap (λ (y : ℕ). y % 255) (omega (arith, r.value))
        | no e ↦ same j (omega (arith, f.free)) e ∙ r.run.has j (omega arith)
      ]

      none : (j : ℕ) → suc n ≤ j → j < P → status_of S t ((a + j) % P) ≡ no_status
      none j l w = same j w (λ e. omega arith) ∙ r.run.none j (omega arith) w

  -- ---- where histories start

  pub reach_none : (s : Image) → ((p : ℕ) → p < P → status_of S s p ≡ no_status) → Reaches P S s 0 0
  reach_none s h = record {
    start = 0;
    status = 0;
    count = 0;
    run = record { most = omega arith; has = λ j l. absurd (omega arith); none = λ j l w. h ((0 + j) % P) (turn 0 j w) };
    index = refl;
    value = refl;
    begun = λ z. (refl, refl);
  }

  pub reach_run : (s : Image) (p : ℕ) (w : EndsAt P S s p) → Reaches P S s (suc (w.start + w.before)) (suc (w.status + w.before))
  reach_run s p w = record {
    start = w.start;
    status = w.status;
    count = suc w.before;
    run = w.single;
    index = omega arith;
    value = omega arith;
    begun = λ z. absurd (omega arith);
  }
