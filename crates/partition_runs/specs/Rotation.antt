-- Numbers going round: partitions modulo P, statuses modulo 255, and the partitions of which a test holds.
use Rattle.std.specs.Prelude.{ℕ, zero, suc, ◌+◌, ◌-◌, ◌*◌, ◌/◌, ◌%◌, ◌<◌, ◌≡◌, refl, ◌≢◌, Bool, true, false, cond, ◌&&◌, List, [], ◌∷◌, ◌++◌}
use Rattle.std.proofs.Common.{sym, ap, ◌∙◌, append-nil, arith, mod-lt, mod-eq_of_lt, div-add-mod', suc-mul}
use Rattle.std.proofs.Math.Nat.{mod-add-mod, add-mod-mod, add-mod_right, add-mul-mod_self_right}
use Rattle.std.proofs.Math.Decide.{dec_le, ℕ_discrete}
use Rattle.model.specs.Lists.{all}
use Rattle.model.specs.Laws.Lists.{mod_inj, all_append, and_left, and_right}
use Rattle.partitions.proofs.Laws.{kept_append}
use Rattle.partitions.specs.Partitions.{indices, kept, next_status, next_partition, newest, only_one}

-- ---- partitions

-- each partition is one of the P from a on
pub rotate : (P a p : ℕ) → p < P → (j : ℕ) × (j < P) × ((a + j) % P ≡ p)
rotate P a p h =
    let r : a % P < P = mod-lt a {m = P} (omega arith) in
    let j = (p + (P - a % P)) % P in
    let e : a + (p + (P - a % P)) ≡ p + suc (a / P) * P = omega (arith, div-add-mod' a P, suc-mul (a / P) P) in
    (j, mod-lt (p + (P - a % P)) {m = P} (omega arith), add-mod-mod a (p + (P - a % P)) P ∙ ap (λ (y : ℕ). y % P) e ∙ add-mul-mod_self_right p (suc (a / P)) P ∙ mod-eq_of_lt h)

-- and only of one
pub same_turn : (P a i j : ℕ) → i < P → j < P → (a + i) % P ≡ (a + j) % P → i ≡ j
same_turn P a i j h k e = elim (dec_le i j) [
  | yes l ↦ omega (arith, mod_inj P (a + i) (a + j) (omega arith) (omega arith) e)
  | no l ↦ omega (arith, mod_inj P (a + j) (a + i) (omega arith) (omega arith) (sym e))
]

pub next_turn : (P a j : ℕ) → next_partition P ((a + j) % P) ≡ (a + suc j) % P
unfolding next_partition
next_turn P a j = mod-add-mod (a + j) P 1 ∙ ap (λ (y : ℕ). y % P) (omega arith)

pub whole_turn : (P a : ℕ) → (a + P) % P ≡ (a + 0) % P
whole_turn P a = add-mod_right a P ∙ ap (λ (y : ℕ). y % P) (omega arith)

-- ---- statuses

pub next_status_lem : (v j : ℕ) → next_status ((v + j) % 255) ≡ (v + suc j) % 255
unfolding next_status
next_status_lem v j = mod-add-mod (v + j) 255 1 ∙ ap (λ (y : ℕ). y % 255) (omega arith)

pub status_small : (v : ℕ) → v % 255 < 255
status_small v = mod-lt v {m = 255} (omega arith)

-- a ring that is full does not close: 0 < P < 255
pub never_closes : (v P : ℕ) → 0 < P → P < 255 → (v + P) % 255 ≡ (v + 0) % 255 → ⊥
never_closes v P h k e = omega (arith, mod_inj 255 (v + 0) (v + P) (omega arith) (omega arith) (sym e))

-- ---- tests over the partitions

pub all_indices : (f : ℕ → Bool) (k : ℕ) → ((p : ℕ) → p < k → f p ≡ true) → all f (indices k) ≡ true
unfolding all indices
all_indices f zero h = refl
all_indices f (suc k) h = all_append f (indices k) (k ∷ []) ∙ rw (all_indices f k (λ p l. h p (omega arith)), h k (omega arith))

pub indices_all : (f : ℕ → Bool) (k p : ℕ) → all f (indices k) ≡ true → p < k → f p ≡ true
unfolding all indices
indices_all f zero p h l = absurd (omega arith)
indices_all f (suc k) p h l =
    let parts = sym (all_append f (indices k) (k ∷ [])) ∙ h in
    elim (ℕ_discrete p k) [
      | yes e ↦ rw e (and_left (f k) true (and_right (all f (indices k)) (f k && true) parts))
      | no e ↦ indices_all f k p (and_left (all f (indices k)) (f k && true) parts) (omega arith)
    ]

kept_next : (f : ℕ → Bool) (k : ℕ) → kept f (indices (suc k)) ≡ kept f (indices k) ++ cond (f k) (k ∷ []) []
unfolding indices kept
kept_next f k = kept_append f (indices k) (k ∷ [])

none_kept : (f : ℕ → Bool) (k : ℕ) → ((p : ℕ) → p < k → f p ≡ false) → kept f (indices k) ≡ []
unfolding indices kept
none_kept f zero h = refl
none_kept f (suc k) h = kept_next f k ∙ rw (none_kept f k (λ p l. h p (omega arith)), h k (omega arith))

-- a test that holds of q alone
pub one_kept : (f : ℕ → Bool) (k q : ℕ) → q < k → f q ≡ true → ((p : ℕ) → p < k → p ≢ q → f p ≡ false) → kept f (indices k) ≡ q ∷ []
one_kept f zero q l t h = absurd (omega arith)
one_kept f (suc k) q l t h = elim (ℕ_discrete q k) [
  | yes e ↦ kept_next f k ∙ rw (none_kept f k (λ p w. h p (omega arith) (λ d. omega arith)), ← e, t)
  | no e ↦ kept_next f k ∙ rw (h k (omega arith) (λ d. e (sym d)), one_kept f k q (omega arith) t (λ p w d. h p (omega arith) d))
]

snoc_some : (xs : List ℕ) (y : ℕ) → xs ++ (y ∷ []) ≡ [] → ⊥
snoc_some [] y e = let z : ◌≡◌ {A = ℕ} 0 1 = cc in omega arith
snoc_some (x ∷ xs) y e = let z : ◌≡◌ {A = ℕ} 0 1 = cc in omega arith

kept_none : (f : ℕ → Bool) (k p : ℕ) → kept f (indices k) ≡ [] → p < k → f p ≡ false
kept_none f zero p e l = absurd (omega arith)
kept_none f (suc k) p e l = go (f k) refl (sym (kept_next f k) ∙ e) (λ w m. kept_none f k p w m)
  where
    go : (t : Bool) → f k ≡ t → kept f (indices k) ++ cond t (k ∷ []) [] ≡ [] → (kept f (indices k) ≡ [] → p < k → f p ≡ false) → f p ≡ false
    go true d w ih = absurd (snoc_some (kept f (indices k)) k w)
    go false d w ih = elim (ℕ_discrete p k) [ yes q ↦ rw q d | no q ↦ ih (sym (append-nil (kept f (indices k))) ∙ w) (omega arith) ]

-- what is known of a test that keeps one
pub record Only (f : ℕ → Bool) (k q : ℕ) : Type 0 where
  pub inside : q < k
  pub holds : f q ≡ true
  pub others : (p : ℕ) → p < k → p ≢ q → f p ≡ false

snoc_one : (xs : List ℕ) (y q : ℕ) → xs ++ (y ∷ []) ≡ q ∷ [] → (xs ≡ []) × (y ≡ q)
snoc_one [] y q e = (refl, cc)
snoc_one (x ∷ []) y q e = absurd (let z : ◌≡◌ {A = ℕ} 0 1 = cc in omega arith)
snoc_one (x ∷ w ∷ xs) y q e = absurd (let z : ◌≡◌ {A = ℕ} 0 1 = cc in omega arith)

pub kept_one : (f : ℕ → Bool) (k q : ℕ) → kept f (indices k) ≡ q ∷ [] → Only f k q
unfolding indices kept
kept_one f zero q e = absurd (let z : ◌≡◌ {A = ℕ} 0 1 = cc in omega arith)
kept_one f (suc k) q e = go (f k) refl (sym (kept_next f k) ∙ e) (λ w. kept_one f k q w)
  where
    go : (t : Bool) → f k ≡ t → kept f (indices k) ++ cond t (k ∷ []) [] ≡ q ∷ [] → (kept f (indices k) ≡ q ∷ [] → Only f k q) → Only f (suc k) q
    go true d w ih = let two = snoc_one (kept f (indices k)) k q w in record {
      inside = omega (arith, two.1);
      holds = rw (← two.1) d;
      others = λ p l n. elim (ℕ_discrete p k) [ yes c ↦ absurd (n (c ∙ two.1)) | no c ↦ kept_none f k p two.0 (omega arith) ];
    }
    go false d w ih = let o = ih (sym (append-nil (kept f (indices k))) ∙ w) in record {
      inside = omega (arith, o.inside);
      holds = o.holds;
      others = λ p l n. elim (ℕ_discrete p k) [ yes c ↦ rw c d | no c ↦ o.others p (omega arith) n ];
    }

pub only_one_lem : (l : List ℕ) (p : ℕ) → only_one l ≡ newest p → l ≡ p ∷ []
unfolding only_one
only_one_lem [] p e = absurd (let z : ◌≡◌ {A = ℕ} 0 1 = cc in omega arith)
only_one_lem (x ∷ []) p e = cc
only_one_lem (x ∷ y ∷ l) p e = absurd (let z : ◌≡◌ {A = ℕ} 0 1 = cc in omega arith)
