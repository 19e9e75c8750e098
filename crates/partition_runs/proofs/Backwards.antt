-- From the one partition where a run ends, backwards: the statuses fall by one up to the first partition that has none, and from there on none has.
use Prim.Native.Nat.{ℕ, zero, suc, ◌+◌, ◌-◌, ◌%◌, ◌≤◌, ◌<◌}
use Rattle.std.specs.Prelude.{◌≡◌, ◌⊎◌, ◌≢◌, false}
use Rattle.std.proofs.Common.{sym, ◌∙◌, inl, inr, ⊎_elim, mod-lt, mod-eq_of_lt}
use Rattle.std.proofs.Math.Path.{ap}
use native.Mathlib.Omega.{arith}
use Rattle.std.proofs.Math.Nat.{sub-zero, add-mod_right}
use Rattle.std.proofs.Math.Decide.{ℕ_discrete}
use Rattle.model.specs.Chip.{Image, Bytes}
use Rattle.model.proofs.Laws.Bytes.{bytes_get}
use Rattle.partitions.specs.Partitions.{no_status, next_status, status_of, next_partition, ends_run, newest, newest_in}
use Rattle.partition_runs.specs.Law.{EndsAt}
use Rattle.partition_runs.specs.Rotation.{same_turn, next_turn, status_small, Only}
use Rattle.partition_runs.proofs.Runs.{has_status, followed, newest_ends}

module _ (P S : ℕ) (s : Image) (bytes : Bytes s) (small : P ≤ 128) (q : ℕ) (o : Only (ends_run P S s) P q) where
  -- the partition d before the last
  abbrev back : ℕ → ℕ
  back d = (q + (P - d)) % P

  abbrev at : ℕ → ℕ
  at d = status_of S s (back d)

  last : back 0 ≡ q
  last = ap (λ (y : ℕ). (q + y) % P) (sub-zero P) ∙ add-mod_right q P ∙ mod-eq_of_lt o.inside

  comes_after : (d : ℕ) → suc d < P → next_partition P (back (suc d)) ≡ back d
  comes_after d h = next_turn P q (P - suc d) ∙ ap (λ (y : ℕ). (q + y) % P) (omega arith)

  earlier : (d : ℕ) → suc d < P → ends_run P S s (back (suc d)) ≡ false
  earlier d h = o.others (back (suc d)) (mod-lt (q + (P - suc d)) {m = P} (omega (arith, o.inside))) other
    where
      other : back (suc d) ≢ q
      other e =
          let w : (q + (P - suc d)) % P ≡ (q + 0) % P = e ∙ sym (mod-eq_of_lt o.inside) ∙ ap (λ (y : ℕ). y % P) (omega arith) in
          omega (arith, same_turn P q (P - suc d) 0 (omega arith) (omega (arith, o.inside)) w)

  -- ---- as far as statuses go

  byte : (p : ℕ) → status_of S s p < 256
  unfolding status_of
  byte p = bytes_get s _ bytes

  one_less : (u w d : ℕ) → d < 254 → w < 255 → (u + (255 - d)) % 255 ≡ (w + 1) % 255 → w ≡ (u + (255 - suc d)) % 255
  one_less u w d h k e = omega arith

  falls : (d : ℕ) → d < P → ((c : ℕ) → c ≤ d → at c ≢ no_status) → at d ≡ (status_of S s q + (255 - d)) % 255
  unfolding next_status
  falls zero h some =
      let here : at 0 ≡ status_of S s q = ap (status_of S s) last in
      omega (arith, byte (back 0), some 0 (omega arith), here)
  falls (suc d) h some =
      let before = falls d (omega arith) (λ c l. some c (omega arith)) in
      let e : at d ≡ next_status (at (suc d)) = ap (status_of S s) (sym (comes_after d h)) ∙ followed P S s (back (suc d)) (earlier d h) (some (suc d) (omega arith)) in
      one_less (status_of S s q) (at (suc d)) d (omega arith) (below (at (suc d)) (byte (back (suc d))) (some (suc d) (omega arith))) (sym before ∙ e)
    where
      below : (x : ℕ) → x < 256 → x ≢ no_status → x < 255
      below x l n = elim (ℕ_discrete x 255) [ yes e ↦ absurd (n e) | no e ↦ omega arith ]

  -- once there is none, there is none before it
  stays_none : (d n : ℕ) → n ≤ d → d < P → at n ≡ no_status → at d ≡ no_status
  unfolding next_status
  stays_none zero n l h e = ap at (omega arith) ∙ e
  stays_none (suc d) n l h e = elim (ℕ_discrete n (suc d)) [
    | yes c ↦ ap at (sym c) ∙ e
    | no c ↦ elim (ℕ_discrete (at (suc d)) no_status) [
      | yes w ↦ w
      | no w ↦ absurd (clash (sym (stays_none d n (omega arith) (omega arith) e) ∙ ap (status_of S s) (sym (comes_after d h)) ∙ followed P S s (back (suc d)) (earlier d h) w))
    ]
  ]
    where
      clash : 255 ≡ next_status (at (suc d)) → ⊥
      clash w = omega (arith, status_small (at (suc d) + 1))

  -- how many statuses there are
  pub record Stops (k : ℕ) : Type 0 where
    pub n : ℕ
    pub within : n < k
    pub none : at n ≡ no_status
    pub some : (c : ℕ) → c < n → at c ≢ no_status

  search_back : (k : ℕ) → ((c : ℕ) → c < k → at c ≢ no_status) ⊎ Stops k
  search_back zero = inl (λ c l. absurd (omega arith))
  search_back (suc k) = ⊎_elim next (λ w. inr (record { n = w.n; within = omega (arith, w.within); none = w.none; some = w.some })) (search_back k)
    where
      next : ((c : ℕ) → c < k → at c ≢ no_status) → ((c : ℕ) → c < suc k → at c ≢ no_status) ⊎ Stops (suc k)
      next w = elim (ℕ_discrete (at k) no_status) [
        | yes e ↦ inr (record { n = k; within = omega arith; none = e; some = w })
        | no e ↦ inl (λ c l. elim (ℕ_discrete c k) [ yes d ↦ rw d e | no d ↦ w c (omega arith) ])
      ]

  -- ---- the run

  run_of : (b : ℕ) → b < P → ((c : ℕ) → c ≤ b → at c ≢ no_status) → ((d : ℕ) → b < d → d < P → at d ≡ no_status) → EndsAt P S s q
  run_of b h some none = record {
    start = q + (P - b);
    status = status_of S s q + (255 - b);
    before = b;
    single = record { most = h; has = has; none = rest };
    last = ap (λ (y : ℕ). y % P) (omega arith) ∙ last;
  }
    where
      has : (j : ℕ) → j < suc b → status_of S s ((q + (P - b) + j) % P) ≡ (status_of S s q + (255 - b) + j) % 255
      has j l =
          let e : q + (P - b) + j ≡ q + (P - (b - j)) = omega arith in
          let f : status_of S s q + (255 - b) + j ≡ status_of S s q + (255 - (b - j)) = omega arith in
          rw (e, f) (falls (b - j) (omega arith) (λ c w. some c (omega arith)))

      rest : (j : ℕ) → suc b ≤ j → j < P → status_of S s ((q + (P - b) + j) % P) ≡ no_status
      rest j l w =
          let e : q + (P - b) + j ≡ q + (P - (P - (j - b))) + P = omega arith in
          ap (status_of S s) (ap (λ (y : ℕ). y % P) e ∙ add-mod_right (q + (P - (P - (j - b)))) P) ∙ none (P - (j - b)) (omega arith) (omega arith)

  ends_at : EndsAt P S s q
  ends_at = ⊎_elim full part (search_back P)
    where
      full : ((c : ℕ) → c < P → at c ≢ no_status) → EndsAt P S s q
      full w = run_of (P - 1) (omega (arith, o.inside)) (λ c l. w c (omega (arith, o.inside))) (λ d l k. absurd (omega arith))

      part : Stops P → EndsAt P S s q
      part w = go w.n w.within w.none w.some
        where
          go : (n : ℕ) → n < P → at n ≡ no_status → ((c : ℕ) → c < n → at c ≢ no_status) → EndsAt P S s q
          go zero l none some = absurd (has_status P S s q o.holds (ap (status_of S s) (sym last) ∙ none))
          go (suc b) l none some = run_of b (omega arith) (λ c k. some c (omega arith)) (λ d k m. stays_none d (suc b) k m none)

-- what is newest is the last of a single run
pub newest_run : (P S : ℕ) (s : Image) → Bytes s → P ≤ 128 → (q : ℕ) → newest_in P S s ≡ newest q → EndsAt P S s q
newest_run P S s bytes small q e = ends_at P S s bytes small q (newest_ends P S s q e)
