-- Laws of tables, that is, lists of entries: appends, entries that change places, a block taken out, tables that agree.
use Rattle.std.specs.Prelude.{ℕ, suc, ◌+◌, ◌≤◌, ◌≡◌, refl, ◌≢◌, Bool, true, false, cond, ◌||◌, not, List, [], ◌∷◌, ◌++◌, length, ltb, eqb}
use Rattle.std.proofs.Common.{sym, ap, ◌∙◌, true≢false, arith, length-append, ltb-true, ltb-false, lt-ltb, le-ltb, eqb-true, eq-eqb, ne_eqb}
use Rattle.std.proofs.lemmas.Bool.{false≢true, eqb-false, not-true}
use Rattle.std.proofs.Math.Bool.{or_assoc, and-eq-true_iff}
use Rattle.std.proofs.Math.Decide.{ℕ_discrete}
use Rattle.model.specs.Lists.{count}
use Rattle.model.specs.Slot.{Entry}
use Rattle.model.specs.State.{holds, distinct, copies}
use Rattle.model.specs.Table.{Table, Found, absent, present, lookup, without, store, Agree, contents_found}
use Rattle.model.specs.Laws.Lists.{count_append}

-- ---- holds and copies

pub holds_append : (b : ℕ) (x y : Table) → holds b (x ++ y) ≡ (holds b x || holds b y)
unfolding holds
holds_append b [] y = refl
holds_append b (e ∷ x) y = ap (λ t. eqb b e.block || t) (holds_append b x y) ∙ sym (or_assoc (eqb b e.block) (holds b x) (holds b y))

pub copies_append : (b : ℕ) (x y : Table) → copies b (x ++ y) ≡ copies b x + copies b y
unfolding copies
copies_append b x y = count_append (λ e. eqb b e.block) x y

pub copies_cons : (b : ℕ) (e : Entry) (t : Table) → copies b (e ∷ t) ≡ cond (eqb b e.block) (suc (copies b t)) (copies b t)
unfolding copies count
copies_cons b e t = refl

pub copies_cons_same : (b : ℕ) (e : Entry) (t : Table) → b ≡ e.block → copies b (e ∷ t) ≡ suc (copies b t)
copies_cons_same b e t h = copies_cons b e t ∙ rw (eq-eqb b e.block h)

pub copies_cons_other : (b : ℕ) (e : Entry) (t : Table) → (b ≡ e.block → ⊥) → copies b (e ∷ t) ≡ copies b t
copies_cons_other b e t h = copies_cons b e t ∙ rw (ne_eqb b e.block h)

pub copies_more : (b : ℕ) (e : Entry) (t : Table) → copies b t ≤ copies b (e ∷ t)
copies_more b e t = elim (ℕ_discrete b e.block) [ yes h ↦ omega (arith, copies_cons_same b e t h) | no h ↦ omega (arith, copies_cons_other b e t h) ]

pub copies_none : (b : ℕ) → copies b [] ≡ 0
unfolding copies count
copies_none b = refl

pub holds_copies : (b : ℕ) (t : Table) → holds b t ≡ ltb 0 (copies b t)
unfolding holds
holds_copies b [] = sym (le-ltb 0 (copies b []) (omega (arith, copies_none b)))
holds_copies b (e ∷ t) = elim (ℕ_discrete b e.block) [
  | yes h ↦ rw (eq-eqb b e.block h, copies_cons_same b e t h) (sym (lt-ltb 0 (suc (copies b t)) (omega arith)))
  | no h ↦ rw (ne_eqb b e.block h, copies_cons_other b e t h) (holds_copies b t)
]

pub held_copies : (b : ℕ) (t : Table) → holds b t ≡ true → 1 ≤ copies b t
held_copies b t h = ltb-true 0 (copies b t) (sym (holds_copies b t) ∙ h)

pub absent_copies : (b : ℕ) (t : Table) → holds b t ≡ false → copies b t ≡ 0
absent_copies b t h = omega (arith, ltb-false 0 (copies b t) (sym (holds_copies b t) ∙ h))

pub copies_absent : (b : ℕ) (t : Table) → copies b t ≡ 0 → holds b t ≡ false
copies_absent b t h = holds_copies b t ∙ le-ltb 0 (copies b t) (omega arith)

-- ---- distinct: no block has two copies

pub distinct_copies : (t : Table) → distinct t ≡ true → (b : ℕ) → copies b t ≤ 1
unfolding distinct
distinct_copies [] h b = omega (arith, copies_none b)
distinct_copies (e ∷ t) h b =
    let p = (and-eq-true_iff (not (holds e.block t)) (distinct t)).0 h in
    let i = distinct_copies t p.1 b in
    elim (ℕ_discrete b e.block) [
      | yes q ↦ let z : copies b t ≡ 0 = rw q (absent_copies e.block t (not-true (holds e.block t) p.0)) in omega (arith, copies_cons_same b e t q)
      | no q ↦ omega (arith, copies_cons_other b e t q)
    ]

pub copies_distinct : (t : Table) → ((b : ℕ) → copies b t ≤ 1) → distinct t ≡ true
unfolding distinct
copies_distinct [] h = refl
copies_distinct (e ∷ t) h =
    let z : holds e.block t ≡ false = copies_absent e.block t (omega (arith, h e.block, copies_cons_same e.block e t refl)) in
    rw z (copies_distinct t (λ b. omega (arith, h b, copies_more b e t)))

pub distinct_swap : (x y : Table) → distinct (x ++ y) ≡ true → distinct (y ++ x) ≡ true
distinct_swap x y h = copies_distinct (y ++ x) (λ b. omega (arith, distinct_copies (x ++ y) h b, copies_append b x y, copies_append b y x))

-- ---- lookup

is_present : Found → Bool
is_present absent = false
is_present (present c) = true

holds_lookup : (b : ℕ) (t : Table) → holds b t ≡ is_present (lookup b t)
unfolding holds lookup is_present
holds_lookup b [] = refl
holds_lookup b (e ∷ t) = go (eqb b e.block) (holds_lookup b t)
  where
    go : (x : Bool) → holds b t ≡ is_present (lookup b t) → (x || holds b t) ≡ is_present (cond x (present e.contents) (lookup b t))
    go true h = refl
    go false h = h

pub lookup_absent : (b : ℕ) (t : Table) → holds b t ≡ false → lookup b t ≡ absent
unfolding is_present
lookup_absent b t e = go (lookup b t) (sym (holds_lookup b t) ∙ e)
  where
    go : (f : Found) → is_present f ≡ false → f ≡ absent
    go absent h = refl
    go (present c) h = absurd (true≢false h)

pub lookup_held : (b : ℕ) (t : Table) → holds b t ≡ true → lookup b t ≡ present (contents_found (lookup b t))
unfolding is_present contents_found
lookup_held b t e = go (lookup b t) (sym (holds_lookup b t) ∙ e)
  where
    go : (f : Found) → is_present f ≡ true → f ≡ present (contents_found f)
    go absent h = absurd (false≢true h)
    go (present c) h = refl

-- and back
pub absent_free : (b : ℕ) (t : Table) → lookup b t ≡ absent → holds b t ≡ false
unfolding is_present
absent_free b t e = holds_lookup b t ∙ ap is_present e

pub found_held : (b : ℕ) (t : Table) (c : List ℕ) → lookup b t ≡ present c → holds b t ≡ true
unfolding is_present
found_held b t c e = holds_lookup b t ∙ ap is_present e

pub lookup_append : (b : ℕ) (x y : Table) → lookup b (x ++ y) ≡ cond (holds b x) (lookup b x) (lookup b y)
unfolding lookup holds
lookup_append b [] y = refl
lookup_append b (e ∷ x) y = go (eqb b e.block) (lookup_append b x y)
  where
    go : (t : Bool) → lookup b (x ++ y) ≡ cond (holds b x) (lookup b x) (lookup b y)
        → cond t (present e.contents) (lookup b (x ++ y)) ≡ cond (t || holds b x) (cond t (present e.contents) (lookup b x)) (lookup b y)
    go true h = refl
    go false h = h

-- ---- tables that agree

pub agree_of : (t u : Table) → t ≡ u → Agree t u
agree_of t u e b = ap (λ y. lookup b y) e

pub agree_trans : (t u v : Table) → Agree t u → Agree u v → Agree t v
agree_trans t u v p q b = p b ∙ q b

pub agree_holds : (t u : Table) → Agree t u → (b : ℕ) → holds b t ≡ holds b u
agree_holds t u g b = holds_lookup b t ∙ (ap is_present (g b) ∙ sym (holds_lookup b u))

-- two parts of a table with each block once may change places
pub agree_swap : (x y : Table) → distinct (x ++ y) ≡ true → Agree (y ++ x) (x ++ y)
agree_swap x y h b = rw (lookup_append b y x, lookup_append b x y) (go (holds b x) (holds b y) refl refl)
  where
    go : (s t : Bool) → holds b x ≡ s → holds b y ≡ t → cond t (lookup b y) (lookup b x) ≡ cond s (lookup b x) (lookup b y)
    go true true p q = absurd (omega (arith, held_copies b x p, held_copies b y q, distinct_copies (x ++ y) h b, copies_append b x y))
    go true false p q = refl
    go false true p q = refl
    go false false p q = lookup_absent b x p ∙ sym (lookup_absent b y q)

-- ---- a block taken out

pub copies_without_same : (b : ℕ) (t : Table) → copies b (without b t) ≡ 0
unfolding without
copies_without_same b [] = copies_none b
copies_without_same b (e ∷ t) = go (eqb b e.block) refl (copies_without_same b t)
  where
    go : (x : Bool) → eqb b e.block ≡ x → copies b (without b t) ≡ 0 → copies b (cond x (without b t) (e ∷ without b t)) ≡ 0
    go true h ih = ih
    go false h ih = copies_cons_other b e (without b t) (eqb-false b e.block h) ∙ ih

pub copies_without_other : (a b : ℕ) (t : Table) → a ≢ b → copies a (without b t) ≡ copies a t
unfolding without
copies_without_other a b [] n = refl
copies_without_other a b (e ∷ t) n = go (eqb b e.block) refl (copies_without_other a b t n)
  where
    go : (x : Bool) → eqb b e.block ≡ x → copies a (without b t) ≡ copies a t → copies a (cond x (without b t) (e ∷ without b t)) ≡ copies a (e ∷ t)
    go true h ih = ih ∙ sym (copies_cons_other a e t (λ z. n (z ∙ sym (eqb-true b e.block h))))
    go false h ih = copies_cons a e (without b t) ∙ (rw ih (sym (copies_cons a e t)))

pub lookup_without_same : (b : ℕ) (t : Table) → lookup b (without b t) ≡ absent
lookup_without_same b t = lookup_absent b (without b t) (copies_absent b (without b t) (copies_without_same b t))

pub lookup_without_other : (a b : ℕ) (t : Table) → a ≢ b → lookup a (without b t) ≡ lookup a t
unfolding lookup without
lookup_without_other a b [] n = refl
lookup_without_other a b (e ∷ t) n = go (eqb b e.block) refl (lookup_without_other a b t n)
  where
    go : (x : Bool) → eqb b e.block ≡ x → lookup a (without b t) ≡ lookup a t → lookup a (cond x (without b t) (e ∷ without b t)) ≡ cond (eqb a e.block) (present e.contents) (lookup a t)
    go true h ih = let q : eqb a e.block ≡ false = ne_eqb a e.block (λ z. n (z ∙ sym (eqb-true b e.block h))) in rw (q, ih)
    go false h ih = rw ih

pub lookup_store_same : (b : ℕ) (c : List ℕ) (t : Table) → lookup b (store b c t) ≡ present c
unfolding lookup store
lookup_store_same b c t = rw (eq-eqb b b refl)

pub lookup_store_other : (a b : ℕ) (c : List ℕ) (t : Table) → a ≢ b → lookup a (store b c t) ≡ lookup a t
unfolding lookup store
lookup_store_other a b c t n = rw (ne_eqb a b n, lookup_without_other a b t n)

pub agree_without : (b : ℕ) (t u : Table) → Agree t u → Agree (without b t) (without b u)
agree_without b t u g a = elim (ℕ_discrete a b) [
  | yes e ↦ rw (e, lookup_without_same b t, lookup_without_same b u)
  | no n ↦ lookup_without_other a b t n ∙ (g a ∙ sym (lookup_without_other a b u n))
]

pub agree_store : (b : ℕ) (c : List ℕ) (t u : Table) → Agree t u → Agree (store b c t) (store b c u)
unfolding lookup store
agree_store b c t u g a = ap (λ y. cond (eqb a b) (present c) y) (agree_without b t u g a)

pub without_absent : (b : ℕ) (t : Table) → holds b t ≡ false → without b t ≡ t
unfolding holds without
without_absent b [] h = refl
without_absent b (e ∷ t) h = go (eqb b e.block) h (λ k. without_absent b t k)
  where
    go : (x : Bool) → (x || holds b t) ≡ false → (holds b t ≡ false → without b t ≡ t) → cond x (without b t) (e ∷ without b t) ≡ e ∷ t
    go true k ih = absurd (true≢false k)
    go false k ih = ap {B = Table} (λ y. e ∷ y) (ih k)

pub distinct_without : (b : ℕ) (t : Table) → distinct t ≡ true → distinct (without b t) ≡ true
distinct_without b t h = copies_distinct (without b t) (λ a. elim (ℕ_discrete a b) [
  | yes e ↦ rw e (omega (arith, copies_without_same b t))
  | no n ↦ omega (arith, copies_without_other a b t n, distinct_copies t h a)
])

pub distinct_store : (b : ℕ) (c : List ℕ) (t : Table) → distinct t ≡ true → distinct (store b c t) ≡ true
unfolding distinct store
distinct_store b c t h = rw (copies_absent b (without b t) (copies_without_same b t)) (distinct_without b t h)

-- ---- the first entry of a block taken out

unfoldable pub without_first : ℕ → Table → Table
without_first b [] = []
without_first b (e ∷ t) = cond (eqb b e.block) t (e ∷ without_first b t)

pub without_first_lem : (b : ℕ) (t : Table) → distinct t ≡ true → without_first b t ≡ without b t
unfolding distinct without without_first
without_first_lem b [] h = refl
without_first_lem b (e ∷ t) h =
    let p = (and-eq-true_iff (not (holds e.block t)) (distinct t)).0 h in
    go (eqb b e.block) refl (not-true (holds e.block t) p.0) (without_first_lem b t p.1)
  where
    go : (x : Bool) → eqb b e.block ≡ x → holds e.block t ≡ false → without_first b t ≡ without b t → cond x t (e ∷ without_first b t) ≡ cond x (without b t) (e ∷ without b t)
    go true q k ih = sym (without_absent b t (rw (eqb-true b e.block q) k))
    go false q k ih = ap {B = Table} (λ y. e ∷ y) ih

pub without_first_append : (b : ℕ) (x y : Table) → holds b x ≡ true → without_first b (x ++ y) ≡ without_first b x ++ y
unfolding holds without_first
without_first_append b [] y h = absurd (false≢true h)
without_first_append b (e ∷ x) y h = go (eqb b e.block) h (λ k. without_first_append b x y k)
  where
    go : (t : Bool) → (t || holds b x) ≡ true → (holds b x ≡ true → without_first b (x ++ y) ≡ without_first b x ++ y)
        → cond t (x ++ y) (e ∷ without_first b (x ++ y)) ≡ cond t x (e ∷ without_first b x) ++ y
    go true k ih = refl
    go false k ih = ap {B = Table} (λ z. e ∷ z) (ih k)

-- the first entry of a block, with the entries before and after it
pub without_first_at : (b : ℕ) (x : Table) (e : Entry) (y : Table) → holds b x ≡ false → b ≡ e.block → without_first b (x ++ (e ∷ y)) ≡ x ++ y
unfolding holds without_first
without_first_at b [] e y h q = rw (eq-eqb b e.block q)
without_first_at b (f ∷ x) e y h q = go (eqb b f.block) h (λ k. without_first_at b x e y k q)
  where
    go : (t : Bool) → (t || holds b x) ≡ false → (holds b x ≡ false → without_first b (x ++ (e ∷ y)) ≡ x ++ y) → cond t (x ++ (e ∷ y)) (f ∷ without_first b (x ++ (e ∷ y))) ≡ f ∷ (x ++ y)
    go true k ih = absurd (true≢false k)
    go false k ih = ap {B = Table} (λ z. f ∷ z) (ih k)

pub without_length : (b : ℕ) (t : Table) → distinct t ≡ true → holds b t ≡ true → suc (length (without b t)) ≡ length t
unfolding holds without_first
without_length b t d h = rw (← (without_first_lem b t d)) (one t h)
  where
    one : (u : Table) → holds b u ≡ true → suc (length (without_first b u)) ≡ length u
    one [] k = absurd (false≢true k)
    one (e ∷ u) k = go (eqb b e.block) k (λ m. one u m)
      where
        go : (x : Bool) → (x || holds b u) ≡ true → (holds b u ≡ true → suc (length (without_first b u)) ≡ length u) → suc (length (cond x u (e ∷ without_first b u))) ≡ suc (length u)
        go true m ih = refl
        go false m ih = ap suc (ih m)

-- ---- a block stored behind the others

unfoldable pub stored_last : ℕ → List ℕ → Table → Table
stored_last b c t = without b t ++ (record { block = b; contents = c } ∷ [])

pub stored_last_agree : (b : ℕ) (c : List ℕ) (t : Table) → Agree (stored_last b c t) (store b c t)
unfolding stored_last store lookup
stored_last_agree b c t a = lookup_append a (without b t) (record { block = b; contents = c } ∷ []) ∙ elim (ℕ_discrete a b) [
  | yes e ↦ rw (e, copies_absent b (without b t) (copies_without_same b t), eq-eqb b b refl)
  | no n ↦ rw (ne_eqb a b n) (split (holds a (without b t)) refl)
]
  where
    split : (x : Bool) → holds a (without b t) ≡ x → cond x (lookup a (without b t)) absent ≡ lookup a (without b t)
    split true h = refl
    split false h = sym (lookup_absent a (without b t) h)

pub stored_last_distinct : (b : ℕ) (c : List ℕ) (t : Table) → distinct t ≡ true → distinct (stored_last b c t) ≡ true
unfolding stored_last
stored_last_distinct b c t h = copies_distinct (without b t ++ (record { block = b; contents = c } ∷ [])) (λ a.
    let s = copies_append a (without b t) (record { block = b; contents = c } ∷ []) in
    let z = copies_none a in
    elim (ℕ_discrete a b) [
      | yes e ↦ let y : copies a (without b t) ≡ 0 = rw e (copies_without_same b t) in omega (arith, copies_cons_same a (record { block = b; contents = c }) [] e)
      | no n ↦ omega (arith, copies_cons_other a (record { block = b; contents = c }) [] n, copies_without_other a b t n, distinct_copies t h a)
    ])

-- a new block takes one entry more, a stored one as many
pub stored_last_length : (b : ℕ) (c : List ℕ) (t : Table) → distinct t ≡ true → length (stored_last b c t) ≡ cond (holds b t) (length t) (suc (length t))
unfolding stored_last
stored_last_length b c t d = go (holds b t) refl
  where
    go : (x : Bool) → holds b t ≡ x → length (without b t ++ (record { block = b; contents = c } ∷ [])) ≡ cond x (length t) (suc (length t))
    go true h = omega (arith, length-append (without b t) (record { block = b; contents = c } ∷ []), without_length b t d h)
    go false h = rw (without_absent b t h) (omega (arith, length-append t (record { block = b; contents = c } ∷ [])))

-- ---- tables with each block once that agree have as many

pub agree_size : (t u : Table) → distinct t ≡ true → distinct u ≡ true → Agree t u → length t ≡ length u
unfolding distinct holds lookup
agree_size [] [] p q g = refl
agree_size [] (e ∷ u) p q g =
    let k : eqb e.block e.block ≡ true = eq-eqb e.block e.block refl in
    absurd (false≢true (rw k at (agree_holds [] (e ∷ u) g e.block)))
agree_size (e ∷ t) u p q g =
    ap suc (agree_size t (without e.block u) tail.1 (distinct_without e.block u q) rest) ∙ without_length e.block u q here
  where
    tail : (not (holds e.block t) ≡ true) × (distinct t ≡ true)
    tail = (and-eq-true_iff (not (holds e.block t)) (distinct t)).0 p

    here : holds e.block u ≡ true
    here = sym (agree_holds (e ∷ t) u g e.block) ∙ rw (eq-eqb e.block e.block refl)

    rest : Agree t (without e.block u)
    rest a = elim (ℕ_discrete a e.block) [
      | yes i ↦ rw (i, lookup_without_same e.block u) (lookup_absent e.block t (not-true (holds e.block t) tail.0))
      | no n ↦ (let k : eqb a e.block ≡ false = ne_eqb a e.block n in rw k at (g a)) ∙ sym (lookup_without_other a e.block u n)
    ]
