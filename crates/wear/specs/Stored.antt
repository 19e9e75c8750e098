-- The blocks stored, by the answers, are the blocks that the live slots hold; and so they are equally many.
use Rattle.std.specs.Prelude.{ℕ, suc, ◌≤◌, ◌<◌, ◌≡◌, refl, Bool, true, false, cond, ◌||◌, ◌&&◌, not, List, [], ◌∷◌, length, eqb}
use Rattle.std.proofs.Common.{sym, ap, ◌∙◌, arith, eqb-true, eq-eqb}
use Rattle.std.proofs.lemmas.Bool.{false≢true, not-true}
use Rattle.std.proofs.Math.Bool.{and-false, and-eq-true_iff}
use Rattle.model.specs.State.{holds, distinct}
use Rattle.model.specs.Table.{Table, without, store, blocks, Agree}
use Rattle.model.specs.Sequences.{among, removed, inserted}
use Rattle.model.proofs.Laws.Tables.{agree_holds}

-- ---- lists of block numbers

abbrev Distinct : List ℕ → Type 0
Distinct [] = Unit {0}
Distinct (x ∷ xs) = (among x xs ≡ false) × Distinct xs

among_removed : (a b : ℕ) (xs : List ℕ) → among a (removed b xs) ≡ (not (eqb a b) && among a xs)
unfolding among removed
among_removed a b [] = sym (and-false (not (eqb a b)))
among_removed a b (x ∷ xs) = go (eqb b x) (eqb a b) (eqb a x) refl refl refl (among_removed a b xs)
  where
    go : (t u w : Bool) → eqb b x ≡ t → eqb a b ≡ u → eqb a x ≡ w → among a (removed b xs) ≡ (not u && among a xs) → among a (cond t (removed b xs) (x ∷ removed b xs)) ≡ (not u && (w || among a xs))
    go true true w p q r ih = ih
    go true false true p q r ih = let z : ◌≡◌ {A = Bool} true false = sym (eq-eqb a b (eqb-true a x r ∙ sym (eqb-true b x p))) ∙ q in cc
    go true false false p q r ih = ih
    go false true true p q r ih = let z : ◌≡◌ {A = Bool} true false = sym (eq-eqb b x (sym (eqb-true a b q) ∙ eqb-true a x r)) ∙ p in cc
    go false true false p q r ih = rw r ih
    go false false true p q r ih = rw r refl
    go false false false p q r ih = rw r ih

removed_distinct : (b : ℕ) (xs : List ℕ) → Distinct xs → Distinct (removed b xs)
unfolding removed
removed_distinct b [] d = tt
removed_distinct b (x ∷ xs) d = go (eqb b x) (removed_distinct b xs d.1)
  where
    go : (t : Bool) → Distinct (removed b xs) → Distinct (cond t (removed b xs) (x ∷ removed b xs))
    go true h = h
    go false h = (among_removed x b xs ∙ rw d.0 (and-false (not (eqb x b))), h)

inserted_distinct : (b : ℕ) (xs : List ℕ) → Distinct xs → Distinct (inserted b xs)
unfolding inserted
inserted_distinct b xs d = (among_removed b b xs ∙ rw (eq-eqb b b refl), removed_distinct b xs d)

removed_most : (b : ℕ) (xs : List ℕ) → length (removed b xs) ≤ length xs
unfolding removed
removed_most b [] = omega arith
removed_most b (x ∷ xs) = go (eqb b x) (removed_most b xs)
  where
    go : (t : Bool) → length (removed b xs) ≤ length xs → length (cond t (removed b xs) (x ∷ removed b xs)) ≤ suc (length xs)
    go true h = omega arith
    go false h = omega arith

removed_fewer : (b : ℕ) (xs : List ℕ) → among b xs ≡ true → length (removed b xs) < length xs
unfolding removed among
removed_fewer b [] h = absurd (false≢true h)
removed_fewer b (x ∷ xs) h = go (eqb b x) h (λ m. removed_fewer b xs m)
  where
    go : (t : Bool) → (t || among b xs) ≡ true → (among b xs ≡ true → length (removed b xs) < length xs) → length (cond t (removed b xs) (x ∷ removed b xs)) < suc (length xs)
    go true m ih = omega (arith, removed_most b xs)
    go false m ih = omega (arith, ih m)

-- distinct numbers that are all among others are no more than those
no_more : (xs ys : List ℕ) → Distinct xs → ((a : ℕ) → among a xs ≡ true → among a ys ≡ true) → length xs ≤ length ys
unfolding among
no_more [] ys d h = omega arith
no_more (x ∷ xs) ys d h =
    let i = no_more xs (removed x ys) d.1 (λ a m. among_removed a x ys ∙ rest a m (eqb a x) refl) in
    omega (arith, removed_fewer x ys (h x (rw (eq-eqb x x refl))))
  where
    rest : (a : ℕ) → among a xs ≡ true → (t : Bool) → eqb a x ≡ t → (not t && among a ys) ≡ true
    rest a m true e = let z : ◌≡◌ {A = Bool} true false = sym m ∙ ap (λ y. among y xs) (eqb-true a x e) ∙ d.0 in cc
    rest a m false e = h a (rw (e, m))

-- ---- the blocks of a table

pub blocks_length : (t : Table) → length (blocks t) ≡ length t
unfolding blocks
blocks_length [] = refl
blocks_length (e ∷ t) = ap suc (blocks_length t)

holds_blocks : (b : ℕ) (t : Table) → holds b t ≡ among b (blocks t)
unfolding blocks holds among
holds_blocks b [] = refl
holds_blocks b (e ∷ t) = ap (λ y. eqb b e.block || y) (holds_blocks b t)

blocks_without : (b : ℕ) (t : Table) → blocks (without b t) ≡ removed b (blocks t)
unfolding blocks without removed
blocks_without b [] = refl
blocks_without b (e ∷ t) = go (eqb b e.block) (blocks_without b t)
  where
    go : (u : Bool) → blocks (without b t) ≡ removed b (blocks t) → blocks (cond u (without b t) (e ∷ without b t)) ≡ cond u (removed b (blocks t)) (e.block ∷ removed b (blocks t))
    go true h = h
    go false h = ap {B = List ℕ} (λ y. e.block ∷ y) h

blocks_distinct_lem : (t : Table) → distinct t ≡ true → Distinct (blocks t)
unfolding blocks distinct
blocks_distinct_lem [] h = tt
blocks_distinct_lem (e ∷ t) h =
    let p = (and-eq-true_iff (not (holds e.block t)) (distinct t)).0 h in
    (sym (holds_blocks e.block t) ∙ not-true (holds e.block t) p.0, blocks_distinct_lem t p.1)

-- ---- the blocks stored

pub record Stored (xs : List ℕ) (t : Table) : Type 0 where
  pub same : (b : ℕ) → among b xs ≡ holds b t
  pub once : Distinct xs

pub stored_blocks : (t u : Table) → distinct t ≡ true → Agree u t → Stored (blocks t) u
stored_blocks t u d h = record { same = λ b. sym (agree_holds u t h b ∙ holds_blocks b t); once = blocks_distinct_lem t d }

pub stored_length : (xs : List ℕ) (t : Table) → Stored xs t → distinct t ≡ true → length xs ≡ length t
stored_length xs t s d =
    omega (
      arith,
      blocks_length t,
      no_more xs (blocks t) s.once (λ a m. sym (s.same a ∙ holds_blocks a t) ∙ m),
      no_more (blocks t) xs (blocks_distinct_lem t d) (λ a m. s.same a ∙ holds_blocks a t ∙ m),
    )

same_without : (xs : List ℕ) (t : Table) → Stored xs t → (b a : ℕ) → among a (removed b xs) ≡ holds a (without b t)
same_without xs t s b a =
    among_removed a b xs ∙ ap (λ y. not (eqb a b) && y) (s.same a ∙ holds_blocks a t)
    ∙ sym (holds_blocks a (without b t) ∙ ap (λ y. among a y) (blocks_without b t) ∙ among_removed a b (blocks t))

pub stored_delete : (xs : List ℕ) (t u : Table) (b : ℕ) → Stored xs t → Agree u (without b t) → Stored (removed b xs) u
stored_delete xs t u b s h = record { same = λ a. same_without xs t s b a ∙ sym (agree_holds u (without b t) h a); once = removed_distinct b xs s.once }

pub stored_put : (xs : List ℕ) (t u : Table) (b : ℕ) (c : List ℕ) → Stored xs t → Agree u (store b c t) → Stored (inserted b xs) u
unfolding inserted store among holds
stored_put xs t u b c s h =
    record {
      same = λ a. ap (λ y. eqb a b || y) (same_without xs t s b a) ∙ sym (agree_holds u (store b c t) h a);
      once = inserted_distinct b xs s.once;
    }
