-- Of each block number the last: as entries, it is a table with each number once, of the numbers that the candidates have; and where each number is there once, it is all of them.
use Rattle.std.specs.Prelude.{ℕ, ◌≡◌, refl, Bool, true, false, cond, ◌||◌, not, List, [], ◌∷◌, map, eqb}
use Rattle.std.proofs.Common.{sym, ap, ◌∙◌, arith, eqb-true}
use Rattle.std.proofs.Math.Bool.{and-eq-true_iff}
use Rattle.std.proofs.lemmas.Bool.{eqb-false, not-true}
use Rattle.model.specs.State.{holds, distinct, copies}
use Rattle.model.specs.Table.{Table}
use Rattle.model.proofs.Laws.CopyOut.{Valids}
use Rattle.model.proofs.Laws.Tables.{copies_none, copies_cons_same, copies_cons_other, absent_copies, without_first}
use Rattle.account_text.specs.Account.{LiveSlot}
use Rattle.salvage.specs.Salvage.{held_in, given}

-- so that a wrong definition is refused by what it computes before it is by a law

-- ---- of a table, the last entry of each block

unfoldable pub lasts : Table → Table
lasts [] = []
lasts (e ∷ t) = cond (holds e.block t) (lasts t) (e ∷ lasts t)

pub held_lasts : (b : ℕ) (t : Table) → holds b (lasts t) ≡ holds b t
unfolding holds lasts
held_lasts b [] = refl
held_lasts b (e ∷ t) = go (holds e.block t) refl (held_lasts b t)
  where
    absorbed : (u : Bool) → eqb b e.block ≡ u → holds e.block t ≡ true → holds b t ≡ (u || holds b t)
    absorbed true q h = ap (λ (k : ℕ). holds k t) (eqb-true b e.block q) ∙ h
    absorbed false q h = refl

    go : (u : Bool) → holds e.block t ≡ u → holds b (lasts t) ≡ holds b t → holds b (cond u (lasts t) (e ∷ lasts t)) ≡ (eqb b e.block || holds b t)
    go true h ih = ih ∙ absorbed (eqb b e.block) refl h
    go false h ih = ap (λ (x : Bool). eqb b e.block || x) ih

pub distinct_lasts : (t : Table) → distinct (lasts t) ≡ true
unfolding distinct lasts
distinct_lasts [] = refl
distinct_lasts (e ∷ t) = go (holds e.block t) refl (distinct_lasts t)
  where
    go : (u : Bool) → holds e.block t ≡ u → distinct (lasts t) ≡ true → distinct (cond u (lasts t) (e ∷ lasts t)) ≡ true
    go true h ih = ih
    go false h ih = rw (held_lasts e.block t, h) ih

pub lasts_distinct : (t : Table) → distinct t ≡ true → lasts t ≡ t
unfolding distinct lasts
lasts_distinct [] d = refl
lasts_distinct (e ∷ t) d = let p = (and-eq-true_iff (not (holds e.block t)) (distinct t)).0 d in
    rw (not-true (holds e.block t) p.0) (ap {B = Table} (λ y. e ∷ y) (lasts_distinct t p.1))

pub valid_lasts : (t : Table) → Valids t → Valids (lasts t)
unfolding lasts
valid_lasts [] v = tt
valid_lasts (e ∷ t) v = go (holds e.block t) (valid_lasts t v.1)
  where
    go : (u : Bool) → Valids (lasts t) → Valids (cond u (lasts t) (e ∷ lasts t))
    go true h = h
    go false h = (v.0, h)

-- of two entries of one block the first is left out
pub lasts_twice : (b : ℕ) (t : Table) → copies b t ≡ 2 → distinct (without_first b t) ≡ true → lasts t ≡ without_first b t
unfolding lasts without_first distinct
lasts_twice b [] c d = absurd (omega (arith, copies_none b))
lasts_twice b (e ∷ t) c d = go (eqb b e.block) refl d (λ p q. lasts_twice b t p q)
  where
    go : (u : Bool) → eqb b e.block ≡ u → distinct (cond u t (e ∷ without_first b t)) ≡ true → (copies b t ≡ 2 → distinct (without_first b t) ≡ true → lasts t ≡ without_first b t)
        → cond (holds e.block t) (lasts t) (e ∷ lasts t) ≡ cond u t (e ∷ without_first b t)
    go true q f ih = rw (again q) (lasts_distinct t f)
      where
        again : eqb b e.block ≡ true → holds e.block t ≡ true
        again z = ap (λ (k : ℕ). holds k t) (sym (eqb-true b e.block z)) ∙ held (holds b t) refl
          where
            held : (x : Bool) → holds b t ≡ x → x ≡ true
            held true h = refl
            held false h = absurd (omega (arith, c, copies_cons_same b e t (eqb-true b e.block z), absent_copies b t h))
    go false q f ih =
        let p = (and-eq-true_iff (not (holds e.block (without_first b t))) (distinct (without_first b t))).0 f in
        let same = ih (sym (copies_cons_other b e t (eqb-false b e.block q)) ∙ c) p.1 in
        let free : holds e.block t ≡ false = sym (held_lasts e.block t) ∙ (ap (holds e.block) same ∙ not-true (holds e.block (without_first b t)) p.0) in
        rw free (ap {B = Table} (λ y. e ∷ y) same)

-- ---- of candidates

pub given_lasts : (r : List LiveSlot) → map held_in (given r) ≡ lasts (map held_in r)
unfolding given lasts held_in
given_lasts [] = refl
given_lasts (e ∷ r) = go (holds e.block (map held_in r)) (given_lasts r)
  where
    go : (u : Bool) → map held_in (given r) ≡ lasts (map held_in r) → map held_in (cond u (given r) (e ∷ given r)) ≡ cond u (lasts (map held_in r)) (held_in e ∷ lasts (map held_in r))
    go true h = h
    go false h = ap {B = Table} (λ y. held_in e ∷ y) h

pub given_distinct : (r : List LiveSlot) → distinct (map held_in (given r)) ≡ true
given_distinct r = rw (given_lasts r) (distinct_lasts (map held_in r))

-- each number once: all are given
pub given_all_lem : (r : List LiveSlot) → distinct (map held_in r) ≡ true → given r ≡ r
unfolding given distinct held_in
given_all_lem [] d = refl
given_all_lem (e ∷ r) d = let p = (and-eq-true_iff (not (holds e.block (map held_in r))) (distinct (map held_in r))).0 d in
    rw (not-true (holds e.block (map held_in r)) p.0) (ap {B = List LiveSlot} (λ y. e ∷ y) (given_all_lem r p.1))
