-- A table by rising block number: the same table, and the list that looking up one number after the other gives.
use Prim.Native.Nat.{ℕ, zero, suc, ◌+◌, ◌≤◌, ◌<◌}
use Rattle.std.specs.Prelude.{◌≡◌, ◌≢◌, Bool, true, false, cond, ◌||◌, not, [], ◌∷◌, ◌++◌, length, ltb, leb, eqb}
use Rattle.std.proofs.Math.Path.{refl}
use Rattle.std.proofs.Common.{sym, ap, ◌∙◌, subst, true≢false, arith, ltb-true, eqb-true, eq-eqb, le-leb, ne_eqb}
use Rattle.std.proofs.Math.Bool.{and-eq-true_iff}
use Rattle.std.proofs.lemmas.Bool.{eqb-false, lt-leb, not-true}
use Rattle.model.specs.Slot.{Entry, number_ok}
use Rattle.model.specs.State.{holds, distinct, copies}
use Rattle.model.specs.Table.{Table, Found, absent, present, lookup, Agree}
use Rattle.model.specs.Laws.Lists.{and_left}
use Rattle.model.proofs.Laws.SlotPage.{number_below}
use Rattle.model.proofs.Laws.CopyOut.{Valids}
use Rattle.model.proofs.Laws.Tables.{copies_cons, copies_distinct, distinct_copies, lookup_absent, agree_holds}
use Rattle.moves.specs.Moves.{insert, by_number}

-- so that a wrong definition is refused by what it computes before it is by a law

-- ---- the same table

insert_length : (e : Entry) (t : Table) → length (insert e t) ≡ suc (length t)
unfolding insert
insert_length e [] = refl
insert_length e (x ∷ t) = go (leb e.block x.block) (insert_length e t)
  where
    go : (u : Bool) → length (insert e t) ≡ suc (length t) → length (cond u (e ∷ x ∷ t) (x ∷ insert e t)) ≡ suc (suc (length t))
    go true h = refl
    go false h = ap suc h

pub sorted_length : (t : Table) → length (by_number t) ≡ length t
unfolding by_number
sorted_length [] = refl
sorted_length (e ∷ t) = insert_length e (by_number t) ∙ ap suc (sorted_length t)

insert_copies : (b : ℕ) (e : Entry) (t : Table) → copies b (insert e t) ≡ copies b (e ∷ t)
unfolding insert
insert_copies b e [] = refl
insert_copies b e (x ∷ t) = go (leb e.block x.block) (insert_copies b e t)
  where
    swap : (u w : Bool) (n : ℕ) → cond u (suc (cond w (suc n) n)) (cond w (suc n) n) ≡ cond w (suc (cond u (suc n) n)) (cond u (suc n) n)
    swap true true n = refl
    swap true false n = refl
    swap false true n = refl
    swap false false n = refl

    go : (u : Bool) → copies b (insert e t) ≡ copies b (e ∷ t) → copies b (cond u (e ∷ x ∷ t) (x ∷ insert e t)) ≡ copies b (e ∷ x ∷ t)
    go true h = refl
    go false h = rw (copies_cons b x (insert e t), h, copies_cons b e (x ∷ t), copies_cons b x t, copies_cons b e t) (swap (eqb b x.block) (eqb b e.block) (copies b t))

sorted_copies : (b : ℕ) (t : Table) → copies b (by_number t) ≡ copies b t
unfolding by_number
sorted_copies b [] = refl
sorted_copies b (e ∷ t) = insert_copies b e (by_number t) ∙ rw (copies_cons b e (by_number t), copies_cons b e t, sorted_copies b t)

pub sorted_distinct : (t : Table) → distinct t ≡ true → distinct (by_number t) ≡ true
sorted_distinct t d = copies_distinct (by_number t) (λ b. omega (arith, sorted_copies b t, distinct_copies t d b))

insert_lookup : (b : ℕ) (e : Entry) (t : Table) → holds e.block t ≡ false → lookup b (insert e t) ≡ lookup b (e ∷ t)
unfolding insert lookup holds
insert_lookup b e [] h = refl
insert_lookup b e (x ∷ t) h = go (leb e.block x.block) (eqb b x.block) (eqb b e.block) refl refl (insert_lookup b e t (or_right (eqb e.block x.block) (holds e.block t) h))
  where
    or_right : (u w : Bool) → u || w ≡ false → w ≡ false
    or_right true w q = absurd (true≢false q)
    or_right false w q = q

    or_left : (u w : Bool) → u || w ≡ false → u ≡ false
    or_left true w q = absurd (true≢false q)
    or_left false w q = refl

    px : Found
    px = present x.contents

    pe : Found
    pe = present e.contents

    go : (u w z : Bool) → eqb b x.block ≡ w → eqb b e.block ≡ z → lookup b (insert e t) ≡ cond z pe (lookup b t)
        → lookup b (cond u (e ∷ x ∷ t) (x ∷ insert e t)) ≡ cond z pe (cond w px (lookup b t))
    go true w z p q ih = rw (p, q)
    go false true true p q ih =
        absurd (eqb-false e.block x.block (or_left (eqb e.block x.block) (holds e.block t) h) (sym (eqb-true b e.block q) ∙ eqb-true b x.block p))
    go false true false p q ih = rw p
    go false false z p q ih = rw p ih

-- for all block numbers at once
pub sorted_agree : (t : Table) → distinct t ≡ true → Agree (by_number t) t
unfolding by_number distinct lookup
sorted_agree [] d b = refl
sorted_agree (e ∷ t) d b =
    let p = (and-eq-true_iff (not (holds e.block t)) (distinct t)).0 d in
    let a = sorted_agree t p.1 in
    insert_lookup b e (by_number t) (agree_holds (by_number t) t a e.block ∙ not-true (holds e.block t) p.0) ∙ rw (a b)

insert_valids : (e : Entry) (t : Table) → Valids (e ∷ t) → Valids (insert e t)
unfolding insert
insert_valids e [] v = v
insert_valids e (x ∷ t) v = go (leb e.block x.block) (insert_valids e t (v.0, v.1.1))
  where
    go : (u : Bool) → Valids (insert e t) → Valids (cond u (e ∷ x ∷ t) (x ∷ insert e t))
    go true h = v
    go false h = (v.1.0, h)

pub sorted_valids : (t : Table) → Valids t → Valids (by_number t)
unfolding by_number
sorted_valids [] v = tt
sorted_valids (e ∷ t) v = insert_valids e (by_number t) (v.0, sorted_valids t v.1)

-- ---- one number after the other

unfoldable pub found_at : ℕ → Found → Table
found_at k absent = []
found_at k (present c) = record { block = k; contents = c } ∷ []

-- what the table holds of c block numbers from k on
unfoldable pub rising : ℕ → ℕ → Table → Table
rising k zero t = []
rising k (suc c) t = found_at k (lookup k t) ++ rising (suc k) c t

pub rising_agree : (k c : ℕ) (t u : Table) → Agree t u → rising k c t ≡ rising k c u
unfolding rising
rising_agree k zero t u h = refl
rising_agree k (suc c) t u h = rw (h k, rising_agree (suc k) c t u h)

rising_none : (k c : ℕ) → rising k c [] ≡ []
unfolding rising found_at lookup
rising_none k zero = refl
rising_none k (suc c) = rising_none (suc k) c

module _ (e : Entry) (t : Table) where
  lookup_here : lookup e.block (e ∷ t) ≡ present e.contents
  unfolding lookup
  lookup_here = rw (eq-eqb e.block e.block refl)

  lookup_other : (k : ℕ) → k ≢ e.block → lookup k (e ∷ t) ≡ lookup k t
  unfolding lookup
  lookup_other k h = rw (ne_eqb k e.block h)

  -- above its number the entry is not met
  rising_above : (k c : ℕ) → e.block < k → rising k c (e ∷ t) ≡ rising k c t
  unfolding rising
  rising_above k zero h = refl
  rising_above k (suc c) h = rw (lookup_other k (λ q. omega arith), rising_above (suc k) c (omega arith))

  insert_low : (k c : ℕ) → e.block < k → insert e (rising k c t) ≡ e ∷ rising k c t
  unfolding rising insert found_at
  insert_low k zero h = refl
  insert_low k (suc c) h = go (lookup k t) (insert_low (suc k) c (omega arith))
    where
      go : (f : Found) → insert e (rising (suc k) c t) ≡ e ∷ rising (suc k) c t → insert e (found_at k f ++ rising (suc k) c t) ≡ e ∷ (found_at k f ++ rising (suc k) c t)
      go absent ih = ih
      go (present x) ih = rw (le-leb e.block k (omega arith))

  insert_behind : (k : ℕ) (f : Found) (r : Table) → k < e.block → insert e (found_at k f ++ r) ≡ found_at k f ++ insert e r
  unfolding found_at insert
  insert_behind k absent r h = refl
  insert_behind k (present x) r h = rw (lt-leb e.block k h)

  insert_rising : (k c : ℕ) → k ≤ e.block → e.block < k + c → holds e.block t ≡ false → insert e (rising k c t) ≡ rising k c (e ∷ t)
  unfolding rising found_at
  insert_rising k zero lo hi a = absurd (omega arith)
  insert_rising k (suc c) lo hi a = go (eqb k e.block) refl (λ q. insert_rising (suc k) c (omega arith) (omega arith) a)
    where
      Inserts : ℕ → Type 0
      Inserts j = insert e (found_at j (lookup j t) ++ rising (suc j) c t) ≡ found_at j (lookup j (e ∷ t)) ++ rising (suc j) c (e ∷ t)

      here : Inserts e.block
      here = rw (lookup_absent e.block t a, lookup_here, rising_above (suc e.block) c (omega arith)) (insert_low (suc e.block) c (omega arith))

      go : (u : Bool) → eqb k e.block ≡ u → (k < e.block → insert e (rising (suc k) c t) ≡ rising (suc k) c (e ∷ t)) → insert e (found_at k (lookup k t) ++ rising (suc k) c t) ≡ found_at k (lookup k (e ∷ t)) ++ rising (suc k) c (e ∷ t)
      go true q ih = subst (λ (j : ℕ). Inserts j) (sym (eqb-true k e.block q)) here
      go false q ih =
          let n = eqb-false k e.block q in
          insert_behind k (lookup k t) (rising (suc k) c t) (omega arith) ∙ rw (lookup_other k n, ih (omega arith))

number_above : (b : ℕ) → number_ok b ≡ true → 1 ≤ b
unfolding number_ok
number_above b h = ltb-true 0 b (and_left (ltb 0 b) (ltb b 65535) h)

-- every block number is between 1 and 65,534
pub sorted_rising : (t : Table) → Valids t → distinct t ≡ true → by_number t ≡ rising 1 65535 t
unfolding by_number distinct
sorted_rising [] v d = sym (rising_none 1 65535)
sorted_rising (e ∷ t) v d =
    let p = (and-eq-true_iff (not (holds e.block t)) (distinct t)).0 d in
    ap (insert e) (sorted_rising t v.1 p.1) ∙ insert_rising e t 1 65535 (number_above e.block v.0.number) (omega (arith, number_below e.block v.0.number)) (not-true (holds e.block t) p.0)

-- equal tables are equal lists
pub sorted_equal : (t u : Table) → Valids t → Valids u → distinct t ≡ true → distinct u ≡ true → Agree t u → by_number t ≡ by_number u
sorted_equal t u v w d f h = sorted_rising t v d ∙ (rising_agree 1 65535 t u h ∙ sym (sorted_rising u w f))
