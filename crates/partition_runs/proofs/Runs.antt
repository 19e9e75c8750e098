-- The newest partition is the last of a single run of statuses, and the other way round. Nothing is asked of P but that 2 ≤ P ≤ 128: a full ring never closes, since P is not a multiple of 255.
use Rattle.std.specs.Prelude.{ℕ, suc, ◌+◌, ◌%◌, ◌≤◌, ◌<◌, ◌≢◌, Bool, ◌||◌, ◌&&◌, leb}
use Rattle.std.proofs.Math.Path.{◌≡◌, refl}
use Rattle.std.proofs.Common.{sym, ap, ◌∙◌, true≢false, mod-lt}
use Rattle.std.proofs.Math.Bool.{true, false, cond, not}
use Rattle.std.proofs.lemmas.Bool.{false≢true}
use mathlib.Core.List.{List, [], ◌∷◌}
use native.Mathlib.Omega.{arith}
use Rattle.std.proofs.Math.Decide.{dec_lt, ℕ_discrete}
use Rattle.std.proofs.Math.Dec.{eqb}
use borrow.Author.Tests.{leb-true, eqb-true, eq-eqb, ne_eqb}
use Rattle.model.specs.Lists.{all}
use Rattle.model.specs.Chip.{Image}
use Rattle.model.specs.Sequences.{among}
use Rattle.model.specs.Laws.Lists.{and_left, and_right}
use Rattle.partitions.specs.Partitions.{partitions_ok, no_status, next_status, status_of, next_partition, ends_run, indices, kept, nothing, newest, only_one, newest_in}
use Rattle.partition_runs.specs.Law.{Run}
use Rattle.partition_runs.specs.Rotation.{rotate, next_turn, whole_turn, next_status_lem, status_small, never_closes, all_indices, indices_all, one_kept, Only, kept_one, only_one_lem}

-- ---- P

among_within : (b : ℕ) (xs : List ℕ) → all (λ x. leb 2 x && leb x 128) xs ≡ true → among b xs ≡ true → (2 ≤ b) × (b ≤ 128)
unfolding all among
among_within b [] h e = absurd (false≢true e)
among_within b (x ∷ xs) h e = go (eqb b x) refl e (λ w. among_within b xs (and_right (leb 2 x && leb x 128) (all (λ y. leb 2 y && leb y 128) xs) h) w)
  where
    go : (t : Bool) → eqb b x ≡ t → (t || among b xs) ≡ true → (among b xs ≡ true → (2 ≤ b) × (b ≤ 128)) → (2 ≤ b) × (b ≤ 128)
    go true d w ih =
        let both = and_left (leb 2 x && leb x 128) (all (λ y. leb 2 y && leb y 128) xs) h in
        rw (eqb-true b x d) (leb-true 2 x (and_left (leb 2 x) (leb x 128) both), leb-true x 128 (and_right (leb 2 x) (leb x 128) both))
    go false d w ih = ih w

pub power_within : (P : ℕ) → partitions_ok P ≡ true → (2 ≤ P) × (P ≤ 128)
unfolding partitions_ok all
power_within P e = among_within P (2 ∷ 4 ∷ 8 ∷ 16 ∷ 32 ∷ 64 ∷ 128 ∷ []) refl e

-- ---- where a run ends

module _ (P S : ℕ) (s : Image) where
  ends : (p : ℕ) → status_of S s p ≢ no_status → status_of S s (next_partition P p) ≢ next_status (status_of S s p) → ends_run P S s p ≡ true
  unfolding ends_run
  ends p h k = rw (ne_eqb (status_of S s p) no_status h, ne_eqb (status_of S s (next_partition P p)) (next_status (status_of S s p)) k)

  no_status_lem : (p : ℕ) → status_of S s p ≡ no_status → ends_run P S s p ≡ false
  unfolding ends_run
  no_status_lem p h = rw (eq-eqb (status_of S s p) no_status h)

  goes_on : (p : ℕ) → status_of S s (next_partition P p) ≡ next_status (status_of S s p) → ends_run P S s p ≡ false
  unfolding ends_run
  goes_on p h = rw (eq-eqb (status_of S s (next_partition P p)) (next_status (status_of S s p)) h) (go (eqb (status_of S s p) no_status))
    where
      go : (t : Bool) → not t && false ≡ false
      go true = refl
      go false = refl

  pub has_status : (p : ℕ) → ends_run P S s p ≡ true → status_of S s p ≢ no_status
  has_status p h e = true≢false (sym h ∙ no_status_lem p e)

  -- a status that ends no run is followed
  pub followed : (p : ℕ) → ends_run P S s p ≡ false → status_of S s p ≢ no_status → status_of S s (next_partition P p) ≡ next_status (status_of S s p)
  followed p h k = elim (ℕ_discrete (status_of S s (next_partition P p)) (next_status (status_of S s p))) [ yes e ↦ e | no e ↦ absurd (true≢false (sym (ends p k e) ∙ h)) ]

  -- ---- the newest, by where runs end

  pub nothing_newest : ((p : ℕ) → p < P → status_of S s p ≡ no_status) → newest_in P S s ≡ nothing
  unfolding newest_in
  nothing_newest h = rw (all_indices (λ p. eqb (status_of S s p) no_status) P (λ p l. eq-eqb (status_of S s p) no_status (h p l)))

  newest_only : (q : ℕ) → Only (ends_run P S s) P q → newest_in P S s ≡ newest q
  unfolding newest_in only_one
  newest_only q o = rw (one_kept (ends_run P S s) P q o.inside o.holds o.others) (go (all (λ p. eqb (status_of S s p) no_status) (indices P)) refl)
    where
      go : (t : Bool) → all (λ p. eqb (status_of S s p) no_status) (indices P) ≡ t → cond t nothing (newest q) ≡ newest q
      go true e = absurd (has_status q o.holds (eqb-true (status_of S s q) no_status (indices_all (λ p. eqb (status_of S s p) no_status) P q e o.inside)))
      go false e = refl

  pub newest_none : newest_in P S s ≡ nothing → (p : ℕ) → p < P → status_of S s p ≡ no_status
  unfolding newest_in only_one
  newest_none e p l = go (all (λ q. eqb (status_of S s q) no_status) (indices P)) refl e
    where
      never : (l : List ℕ) → only_one l ≡ nothing → ⊥
      never [] w = let z : ◌≡◌ {A = ℕ} 0 1 = cc in omega arith
      never (x ∷ []) w = let z : ◌≡◌ {A = ℕ} 0 1 = cc in omega arith
      never (x ∷ y ∷ l) w = let z : ◌≡◌ {A = ℕ} 0 1 = cc in omega arith

      go : (t : Bool) → all (λ q. eqb (status_of S s q) no_status) (indices P) ≡ t → cond t nothing (only_one (kept (ends_run P S s) (indices P))) ≡ nothing → status_of S s p ≡ no_status
      go true w d = eqb-true (status_of S s p) no_status (indices_all (λ q. eqb (status_of S s q) no_status) P p w l)
      go false w d = absurd (never (kept (ends_run P S s) (indices P)) d)

  pub newest_ends : (q : ℕ) → newest_in P S s ≡ newest q → Only (ends_run P S s) P q
  unfolding newest_in
  newest_ends q e = kept_one (ends_run P S s) P q (only_one_lem (kept (ends_run P S s) (indices P)) q (go (all (λ p. eqb (status_of S s p) no_status) (indices P)) e))
    where
      go : (t : Bool) → cond t nothing (only_one (kept (ends_run P S s) (indices P))) ≡ newest q → only_one (kept (ends_run P S s) (indices P)) ≡ newest q
      go true w = absurd (let z : ◌≡◌ {A = ℕ} 0 1 = cc in omega arith)
      go false w = w

  -- ---- a run's last is the newest

  pub run_newest : (a v b : ℕ) → 0 < P → P < 255 → Run P S s a v (suc b) → newest_in P S s ≡ newest ((a + b) % P)
  run_newest a v b h k r = newest_only ((a + b) % P) (record { inside = mod-lt (a + b) {m = P} h; holds = ends ((a + b) % P) status last; others = others })
    where
      status : status_of S s ((a + b) % P) ≢ no_status
      status e = omega (arith, r.has b (omega arith), status_small (v + b), e)

      next : next_status (status_of S s ((a + b) % P)) ≡ (v + suc b) % 255
      next = ap next_status (r.has b (omega arith)) ∙ next_status_lem v b

      last : status_of S s (next_partition P ((a + b) % P)) ≢ next_status (status_of S s ((a + b) % P))
      last e =
          let w : status_of S s ((a + suc b) % P) ≡ (v + suc b) % 255 = ap (status_of S s) (sym (next_turn P a b)) ∙ e ∙ next in
          elim (dec_lt (suc b) P) [
            | yes l ↦ omega (arith, r.none (suc b) (omega arith) l, w, status_small (v + suc b))
            | no l ↦ full (omega (arith, r.most)) w
          ]
        where
          full : suc b ≡ P → status_of S s ((a + suc b) % P) ≡ (v + suc b) % 255 → ⊥
          full c w =
              let one : status_of S s ((a + suc b) % P) ≡ (v + 0) % 255 = ap (λ (y : ℕ). status_of S s ((a + y) % P)) c ∙ ap (status_of S s) (whole_turn P a) ∙ r.has 0 (omega arith) in
              never_closes v (suc b) (omega arith) (omega arith) (sym w ∙ one)

      others : (p : ℕ) → p < P → p ≢ (a + b) % P → ends_run P S s p ≡ false
      others p l n =
          let (j, jl, e) = rotate P a p l in
          elim (dec_lt j b) [
            | yes c ↦ rw (← e) (goes_on ((a + j) % P) (ap (status_of S s) (next_turn P a j) ∙ r.has (suc j) (omega arith) ∙ sym (ap next_status (r.has j (omega arith)) ∙ next_status_lem v j)))
            | no c ↦ elim (ℕ_discrete j b) [
              | yes d ↦ absurd (n (sym e ∙ ap (λ (y : ℕ). (a + y) % P) d))
              | no d ↦ rw (← e) (no_status_lem ((a + j) % P) (r.none j (omega arith) jl))
            ]
          ]
