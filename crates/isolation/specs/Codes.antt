-- The answer of the layer by its rows: what binds every request, then the rows of this one. What an accepted request passed, and when a put is answered 7.
use Rattle.std.specs.Prelude.{ℕ, zero, suc, ◌≡◌, refl, ◌⊎◌, Bool, cond, ◌&&◌, not, List, [], ◌∷◌, ◌++◌, length, ltb, eqb, leb}
use Rattle.std.proofs.Common.{sym, ◌∙◌, inl, inr, ⊎_elim, true≢false, arith, eqb-true, ne_eqb}
use Rattle.std.proofs.Math.Path.{ap}
use Rattle.std.proofs.Math.Bool.{true, false}
use Rattle.model.specs.Chip.{Image, right_size}
use Rattle.model.specs.Header.{is_former}
use Rattle.model.specs.Slot.{number_ok}
use Rattle.model.specs.State.{holds, segments_of, state, capacity, view_of, view}
use Rattle.model.specs.Steps.{is_worn}
use Rattle.model.specs.Table.{Table, lookup, contents_found, table_of}
use Rattle.model.specs.Sequences.{among}
use Rattle.model.specs.Answers.{put, delete, read, Refusal, ◌when◌, first_of, work_of, is_damaged, is_unfinished, absent_refusals, refusals, length_ok, is_full}
use Rattle.bridge.specs.Accepted.{code_of_lem}
use Rattle.bridge.specs.Refusals.{neither}
use Rattle.crash.specs.Sound.{Clean}
use Rattle.shares.specs.Shares.{Share, shares_of, shares_ok, share_of, owns}
use Rattle.shares.specs.Layer.{Asked, puts, deletes, reads, block_asked, store_request, bounds, before_full, quota_used, rows, share_code}

-- ---- what binds every request

-- the number of its first row that applies
abbrev pub bound : ℕ → ℕ → List ℕ → Image → ℕ → ℕ → ℕ
bound N B ns s a b = first_of (bounds N B ns s a b)

pub record Passes (N B : ℕ) (ns : List ℕ) (s : Image) (a b : ℕ) : Type 0 where
  pub size : right_size N B s ≡ true
  pub right : shares_ok N B ns ≡ true
  pub number : number_ok b ≡ true
  pub own : owns (shares_of ns) a b ≡ true

abbrev four : Bool → Bool → Bool → Bool → List Refusal
four size right number own = (1 when not size) ∷ (13 when not right) ∷ (2 when not number) ∷ (12 when not own) ∷ []

four_none : (size right number own : Bool) → first_of (four size right number own) ≡ 0 → (size ≡ true) × (right ≡ true) × (number ≡ true) × (own ≡ true)
unfolding first_of
four_none false right number own h = absurd (omega (arith, h))
four_none true false number own h = absurd (omega (arith, h))
four_none true true false own h = absurd (omega (arith, h))
four_none true true true false h = absurd (omega (arith, h))
four_none true true true true h = (refl, refl, refl, refl)

-- the rows behind are asked where none of these applies
four_first : (size right number own : Bool) (r : List Refusal)
    → first_of (four size right number own ++ r) ≡ cond (eqb (first_of (four size right number own)) 0) (first_of r) (first_of (four size right number own))
unfolding first_of
four_first false right number own r = refl
four_first true false number own r = refl
four_first true true false own r = refl
four_first true true true false r = refl
four_first true true true true r = refl

-- none of them is 7 or 8
four_other : (size right number own : Bool) → (first_of (four size right number own) ≡ 7 → ⊥) × (first_of (four size right number own) ≡ 8 → ⊥)
unfolding first_of
four_other false right number own = ((λ h. omega (arith, h)), λ h. omega (arith, h))
four_other true false number own = ((λ h. omega (arith, h)), λ h. omega (arith, h))
four_other true true false own = ((λ h. omega (arith, h)), λ h. omega (arith, h))
four_other true true true false = ((λ h. omega (arith, h)), λ h. omega (arith, h))
four_other true true true true = ((λ h. omega (arith, h)), λ h. omega (arith, h))

module _ (N B : ℕ) (ns : List ℕ) (s : Image) (a : ℕ) where
  pub passes : (b : ℕ) → bound N B ns s a b ≡ 0 → Passes N B ns s a b
  unfolding bounds
  passes b h = let p = four_none (right_size N B s) (shares_ok N B ns) (number_ok b) (owns (shares_of ns) a b) h in record { size = p.0; right = p.1; number = p.2; own = p.3 }

  pub bound_other : (b : ℕ) → (bound N B ns s a b ≡ 7 → ⊥) × (bound N B ns s a b ≡ 8 → ⊥)
  unfolding bounds
  bound_other b = four_other (right_size N B s) (shares_ok N B ns) (number_ok b) (owns (shares_of ns) a b)

  -- images of one size are bound alike
  pub bound_same : (r : Image) (b : ℕ) → right_size N B s ≡ right_size N B r → bound N B ns s a b ≡ bound N B ns r a b
  unfolding bounds
  bound_same r b e = ap (λ (z : Bool). first_of (four z (shares_ok N B ns) (number_ok b) (owns (shares_of ns) a b))) e

  -- the number of the first of its own rows
  abbrev pub row : Asked → ℕ
  row r = first_of (rows (share_of (shares_of ns) a) (table_of N B s) (work_of N B s (store_request r)).code r)

  pub share_code_lem : (r : Asked) → share_code N B ns s a r ≡ cond (eqb (bound N B ns s a (block_asked r)) 0) (row r) (bound N B ns s a (block_asked r))
  unfolding share_code bounds
  share_code_lem r = four_first (right_size N B s) (shares_ok N B ns) (number_ok (block_asked r)) (owns (shares_of ns) a (block_asked r))
      (rows (share_of (shares_of ns) a) (table_of N B s) (work_of N B s (store_request r)).code r)

-- a foreign block is refused before its own rows
pub foreign_code : (N B : ℕ) (ns : List ℕ) (s : Image) (a : ℕ) (r : Asked) → right_size N B s ≡ true → shares_ok N B ns ≡ true → number_ok (block_asked r) ≡ true
    → owns (shares_of ns) a (block_asked r) ≡ false → share_code N B ns s a r ≡ 12
unfolding share_code bounds first_of
foreign_code N B ns s a r z right number foreign = rw (z, right, number, foreign)

-- ---- the rows of a request

-- a put is not refused for the quota
abbrev pub Spare : Share → Table → Asked → Type 0
Spare x t (puts b c) = (not (holds b t) && quota_used x t) ≡ false
Spare x t (deletes b) = Unit {0}
Spare x t (reads b size) = Unit {0}

-- refused by none of its rows: the store answers 0
rows_none : (x : Share) (t : Table) (k : ℕ) (r : Asked) → first_of (rows x t k r) ≡ 0 → (k ≡ 0) × Spare x t r
unfolding first_of rows
rows_none x t k (puts b c) h = go (before_full k) refl (not (holds b t) && quota_used x t) h
  where
    go : (y : Bool) → before_full k ≡ y → (z : Bool) → cond y k (cond z 7 (cond true k 0)) ≡ 0 → (k ≡ 0) × (z ≡ false)
    go true e z q = absurd (true≢false (sym e ∙ (ap before_full q ∙ (unfold before_full in refl))))
    go false e true q = absurd (omega (arith, q))
    go false e false q = (q, refl)
rows_none x t k (deletes b) h = (h, tt)
rows_none x t k (reads b size) h = (go (eqb k 0) refl h, tt)
  where
    go : (y : Bool) → eqb k 0 ≡ y → cond (not y) k (cond (ltb size (length (contents_found (lookup b t)))) 14 0) ≡ 0 → k ≡ 0
    go true e q = eqb-true k 0 e
    go false e q = q

-- an accepted request
pub record Taken (N B : ℕ) (ns : List ℕ) (s : Image) (a : ℕ) (r : Asked) : Type 0 where
  pub passed : Passes N B ns s a (block_asked r)
  pub accepted : (work_of N B s (store_request r)).code ≡ 0
  pub spare : Spare (share_of (shares_of ns) a) (table_of N B s) r

stops : (k j : ℕ) → cond (eqb (suc k) 0) j (suc k) ≡ suc k
stops k j = rw (ne_eqb (suc k) 0 (λ e. omega (arith, e)))

by_bound : (k j : ℕ) → cond (eqb k 0) j k ≡ 0 → (k ≡ 0) × (j ≡ 0)
by_bound zero j h = (refl, h)
by_bound (suc k) j h = absurd (omega (arith, sym (stops k j) ∙ h))

pub taken : (N B : ℕ) (ns : List ℕ) (s : Image) (a : ℕ) (r : Asked) → share_code N B ns s a r ≡ 0 → Taken N B ns s a r
taken N B ns s a r h =
    let p = by_bound (bound N B ns s a (block_asked r)) (row N B ns s a r) (sym (share_code_lem N B ns s a r) ∙ h) in
    let q = rows_none (share_of (shares_of ns) a) (table_of N B s) (work_of N B s (store_request r)).code r p.1 in
    record { passed = passes N B ns s a (block_asked r) p.0; accepted = q.0; spare = q.1 }

-- ---- a refusal that is not the layer's own is the store's

-- the layer's own
abbrev pub of_layer : ℕ → Bool
of_layer k = among k (7 ∷ 12 ∷ 13 ∷ 14 ∷ [])

own_not : (n k : ℕ) → of_layer n ≡ true → n ≡ k → of_layer k ≡ false → ⊥
own_not n k t e f = true≢false (sym t ∙ (ap (λ (y : ℕ). of_layer y) e ∙ f))

four_rows : (size right number own : Bool) (k : ℕ) (r : List Refusal) → first_of (four size right number own ++ r) ≡ suc k → of_layer (suc k) ≡ false
    → ((size ≡ false) × (1 ≡ suc k)) ⊎ (((size ≡ true) × (number ≡ false) × (2 ≡ suc k)) ⊎ (first_of r ≡ suc k))
unfolding first_of among
four_rows false right number own k r h n = inl (refl, h)
four_rows true false number own k r h n = absurd (own_not 13 (suc k) refl h n)
four_rows true true false own k r h n = inr (inl (refl, refl, h))
four_rows true true true false k r h n = absurd (own_not 12 (suc k) refl h n)
four_rows true true true true k r h n = inr (inr h)

seven_own : of_layer 7 ≡ true
unfolding among
seven_own = refl

fourteen_own : of_layer 14 ≡ true
unfolding among
fourteen_own = refl

rows_same : (x : Share) (t : Table) (k j : ℕ) (r : Asked) → first_of (rows x t k r) ≡ suc j → of_layer (suc j) ≡ false → k ≡ suc j
unfolding first_of rows
rows_same x t k j (puts b c) h n = go (before_full k) (not (holds b t) && quota_used x t) h
  where
    go : (y z : Bool) → cond y k (cond z 7 (cond true k 0)) ≡ suc j → k ≡ suc j
    go true z q = q
    go false true q = absurd (own_not 7 (suc j) seven_own q n)
    go false false q = q
rows_same x t k j (deletes b) h n = h
rows_same x t k j (reads b size) h n = go (not (eqb k 0)) (ltb size (length (contents_found (lookup b t)))) h
  where
    go : (y z : Bool) → cond y k (cond z 14 0) ≡ suc j → k ≡ suc j
    go true z q = q
    go false true q = absurd (own_not 14 (suc j) fourteen_own q n)
    go false false q = absurd (omega (arith, q))

store_size : (N B : ℕ) (s : Image) (r : Asked) → right_size N B s ≡ false → (work_of N B s (store_request r)).code ≡ 1
unfolding store_request refusals absent_refusals first_of
store_size N B s (puts b c) z = code_of_lem N B s (put b c) ∙ rw z
store_size N B s (deletes b) z = code_of_lem N B s (delete b) ∙ rw z
store_size N B s (reads b size) z = code_of_lem N B s (read b) ∙ rw z

store_number : (N B : ℕ) (s : Image) (r : Asked) → right_size N B s ≡ true → number_ok (block_asked r) ≡ false → (work_of N B s (store_request r)).code ≡ 2
unfolding store_request block_asked refusals absent_refusals first_of
store_number N B s (puts b c) z n = code_of_lem N B s (put b c) ∙ rw (z, n)
store_number N B s (deletes b) z n = code_of_lem N B s (delete b) ∙ rw (z, n)
store_number N B s (reads b size) z n = code_of_lem N B s (read b) ∙ rw (z, n)

pub store_same : (N B : ℕ) (ns : List ℕ) (s : Image) (a : ℕ) (r : Asked) (k : ℕ) → share_code N B ns s a r ≡ suc k → of_layer (suc k) ≡ false → (work_of N B s (store_request r)).code ≡ suc k
unfolding share_code bounds
store_same N B ns s a r k h n = ⊎_elim (λ p. store_size N B s r p.0 ∙ p.1)
    (λ q. ⊎_elim (λ p. store_number N B s r p.0 p.1 ∙ p.2) (λ p. rows_same (share_of (shares_of ns) a) (table_of N B s) (work_of N B s (store_request r)).code k r p n) q)
    (four_rows (right_size N B s) (shares_ok N B ns) (number_ok (block_asked r)) (owns (shares_of ns) a (block_asked r)) k
    (rows (share_of (shares_of ns) a) (table_of N B s) (work_of N B s (store_request r)).code r) h n)

-- ---- 7

pub seven : (m k : ℕ) (before : ℕ → Bool) (held used : Bool) → (m ≡ 7 → ⊥) → before 7 ≡ false → cond (eqb m 0) (cond (before k) k (cond (not held && used) 7 (cond true k 0))) m ≡ 7
    → ((m ≡ 0) × (before k ≡ false)) × (((held ≡ false) × (used ≡ true)) ⊎ (k ≡ 7))
seven (suc m) k before held used n e h = absurd (n (sym (stops m _) ∙ h))
seven zero k before held used n e h = go (before k) refl held used h
  where
    go : (y : Bool) → before k ≡ y → (v w : Bool) → cond y k (cond (not v && w) 7 k) ≡ 7 → ((zero ≡ 0) × (before k ≡ false)) × (((v ≡ false) × (w ≡ true)) ⊎ (k ≡ 7))
    go true b v w q = absurd (true≢false (sym b ∙ (ap before q ∙ e)))
    go false b true w q = ((refl, b), inr q)
    go false b false true q = ((refl, b), inl (refl, refl))
    go false b false false q = ((refl, b), inr q)

pub seven_back : (k : ℕ) (v w : Bool) → ((v ≡ false) × (w ≡ true)) ⊎ (k ≡ 7) → cond (not v && w) 7 (cond true k 0) ≡ 7
seven_back k v w (inl (p, q)) = rw (p, q)
seven_back k v w (inr e) = go (not v && w)
  where
    go : (y : Bool) → cond y 7 k ≡ 7
    go true = refl
    go false = e

-- the store's 7: the image is clean and full
seven_rows : (size number short damage undone former full worn : Bool)
    → first_of ((1 when size) ∷ (2 when number) ∷ (3 when short) ∷ (4 when damage) ∷ (5 when undone) ∷ (11 when former) ∷ (7 when full) ∷ (8 when worn) ∷ []) ≡ 7
    → (damage ≡ false) × (undone ≡ false) × (full ≡ true)
unfolding first_of
seven_rows true number short damage undone former full worn h = absurd (omega (arith, h))
seven_rows false true short damage undone former full worn h = absurd (omega (arith, h))
seven_rows false false true damage undone former full worn h = absurd (omega (arith, h))
seven_rows false false false true undone former full worn h = absurd (omega (arith, h))
seven_rows false false false false true former full worn h = absurd (omega (arith, h))
seven_rows false false false false false true full worn h = absurd (omega (arith, h))
seven_rows false false false false false false true worn h = (refl, refl, refl)
seven_rows false false false false false false false true h = absurd (omega (arith, h))
seven_rows false false false false false false false false h = absurd (omega (arith, h))

pub store_full : (N B : ℕ) (s : Image) (b : ℕ) (c : List ℕ) → (work_of N B s (put b c)).code ≡ 7
    → Clean N B s × ((not (holds b (table_of N B s)) && leb (capacity N B) (length (table_of N B s))) ≡ true)
unfolding refusals state view is_full table_of
store_full N B s b c h =
    let v = view_of N (segments_of N B s) in
    let p = seven_rows (not (right_size N B s)) (not (number_ok b)) (not (length_ok (length c))) (is_damaged (state N B s)) (is_unfinished (state N B s)) (is_former v.version) (is_full N B b v) (is_worn N v)
    (sym (code_of_lem N B s (put b c)) ∙ h) in
    (neither (state N B s) p.0 p.1, p.2)
