-- Live slots listed block by block are those sorted by block number, and no more of them.
use Rattle.std.specs.Prelude.{ℕ, zero, suc, ◌≤◌, ◌<◌, ◌≡◌, refl, Bool, true, false, cond, List, [], ◌∷◌, ◌++◌, length, leb, ltb, eqb}
use Rattle.std.proofs.Common.{sym, ap, ◌∙◌, arith, ltb-true, ltb-false, eqb-true, le-leb, ne_eqb}
use Rattle.std.proofs.lemmas.Bool.{eqb-false, lt-leb}
use Rattle.account_text.specs.Account.{LiveSlot, insert, by_block}
use Rattle.index.specs.Tables.{most_pages, of_block, AllStand, blocks_below}

-- ---- the blocks of a list

abbrev pub AllBelow : ℕ → List LiveSlot → Type 0
AllBelow k [] = Unit {0}
AllBelow k (e ∷ r) = (e.block < k) × AllBelow k r

abbrev pub AllOf : ℕ → List LiveSlot → Type 0
AllOf b [] = Unit {0}
AllOf b (e ∷ r) = (e.block ≡ b) × AllOf b r

below_more : (j k : ℕ) (r : List LiveSlot) → j ≤ k → AllBelow j r → AllBelow k r
below_more j k [] h a = tt
below_more j k (e ∷ r) h a = (let q = a.0 in omega arith, below_more j k r h a.1)

below_append : (k : ℕ) (r t : List LiveSlot) → AllBelow k r → AllBelow k t → AllBelow k (r ++ t)
below_append k [] t a b = b
below_append k (e ∷ r) t a b = (a.0, below_append k r t a.1 b)

of_below : (b k : ℕ) (r : List LiveSlot) → b < k → AllOf b r → AllBelow k r
of_below b k [] h a = tt
of_below b k (e ∷ r) h a = (let q = a.0 in omega arith, of_below b k r h a.1)

pub of_block_lem : (b : ℕ) (r : List LiveSlot) → AllOf b (of_block b r)
unfolding of_block
of_block_lem b [] = tt
of_block_lem b (e ∷ r) = go (eqb b e.block) refl (of_block_lem b r)
  where
    go : (t : Bool) → eqb b e.block ≡ t → AllOf b (of_block b r) → AllOf b (cond t (e ∷ of_block b r) (of_block b r))
    go true q a = (sym (eqb-true b e.block q), a)
    go false q a = a

below_below : (k : ℕ) (r : List LiveSlot) → AllBelow k (blocks_below k r)
unfolding blocks_below
below_below zero r = tt
below_below (suc k) r =
    below_append (suc k) (blocks_below k r) (of_block k r) (below_more k (suc k) (blocks_below k r) (omega arith) (below_below k r)) (of_below k (suc k) (of_block k r) (omega arith) (of_block_lem k r))

-- ---- one more live slot

-- it goes behind those of smaller blocks
insert_behind : (e : LiveSlot) (a b : List LiveSlot) → AllBelow e.block a → insert e (a ++ b) ≡ a ++ insert e b
unfolding insert
insert_behind e [] b h = refl
insert_behind e (x ∷ a) b h = rw (lt-leb e.block x.block h.0, insert_behind e a b h.1)

-- and before those of its own or larger ones
insert_first : (e : LiveSlot) (k : ℕ) (b : List LiveSlot) → e.block ≤ k → AllOf k b → insert e b ≡ e ∷ b
unfolding insert
insert_first e k [] h a = refl
insert_first e k (x ∷ b) h a = let q = a.0 in let p : e.block ≤ x.block = omega arith in rw (le-leb e.block x.block p)

insert_before : (e : LiveSlot) (k : ℕ) (a b : List LiveSlot) → e.block ≤ k → AllOf k b → insert e (a ++ b) ≡ insert e a ++ b
unfolding insert
insert_before e k [] b h q = insert_first e k b h q
insert_before e k (x ∷ a) b h q = go (leb e.block x.block) (insert_before e k a b h q)
  where
    go : (t : Bool) → insert e (a ++ b) ≡ insert e a ++ b → cond t (e ∷ x ∷ (a ++ b)) (x ∷ insert e (a ++ b)) ≡ cond t (e ∷ x ∷ a) (x ∷ insert e a) ++ b
    go true ih = refl
    go false ih = ap (λ (l : List LiveSlot). x ∷ l) ih

-- those below its block do not change
below_other : (k : ℕ) (e : LiveSlot) (r : List LiveSlot) → k ≤ e.block → blocks_below k (e ∷ r) ≡ blocks_below k r
unfolding blocks_below of_block
below_other zero e r h = refl
below_other (suc k) e r h =
    let f : eqb k e.block ≡ false = ne_eqb k e.block (λ q. omega arith) in
    rw (f, below_other k e r (omega arith))

insert_below : (k : ℕ) (e : LiveSlot) (r : List LiveSlot) → e.block < k → insert e (blocks_below k r) ≡ blocks_below k (e ∷ r)
unfolding blocks_below of_block
insert_below zero e r h = absurd (omega arith)
insert_below (suc k) e r h = go (eqb k e.block) refl (insert_below k e r)
  where
    go : (t : Bool) → eqb k e.block ≡ t → (e.block < k → insert e (blocks_below k r) ≡ blocks_below k (e ∷ r))
        → insert e (blocks_below k r ++ of_block k r) ≡ blocks_below k (e ∷ r) ++ cond t (e ∷ of_block k r) (of_block k r)
    go true q ih =
        let b : k ≡ e.block = eqb-true k e.block q in
        let a = below_more k e.block (blocks_below k r) (omega arith) (below_below k r) in
        insert_behind e (blocks_below k r) (of_block k r) a
        ∙ rw (insert_first e k (of_block k r) (omega arith) (of_block_lem k r), below_other k e r (omega arith))
    go false q ih =
        let b : e.block < k = omega (arith, eqb-false k e.block q) in
        insert_before e k (blocks_below k r) (of_block k r) (omega arith) (of_block_lem k r) ∙ ap (λ (l : List LiveSlot). l ++ of_block k r) (ih b)

-- ---- all of them

none_below : (k : ℕ) → [] ≡ blocks_below k []
unfolding blocks_below of_block
none_below zero = refl
none_below (suc k) = rw (sym (none_below k))

pub sorted : (k : ℕ) (r : List LiveSlot) → AllBelow k r → by_block r ≡ blocks_below k r
unfolding by_block
sorted k [] a = none_below k
sorted k (e ∷ r) a = ap (insert e) (sorted k r a.1) ∙ insert_below k e r a.0

-- ---- how many

insert_length : (e : LiveSlot) (r : List LiveSlot) → length (insert e r) ≡ suc (length r)
unfolding insert
insert_length e [] = refl
insert_length e (x ∷ r) = go (leb e.block x.block) (insert_length e r)
  where
    go : (t : Bool) → length (insert e r) ≡ suc (length r) → length (cond t (e ∷ x ∷ r) (x ∷ insert e r)) ≡ suc (suc (length r))
    go true ih = refl
    go false ih = ap suc ih

pub sorted_length : (r : List LiveSlot) → length (by_block r) ≡ length r
unfolding by_block
sorted_length [] = refl
sorted_length (e ∷ r) = insert_length e (by_block r) ∙ ap suc (sorted_length r)

pub below_few : (k : ℕ) (r : List LiveSlot) → length (blocks_below k r) ≤ length r
below_few k [] = let e = ap length (none_below k) in omega arith
below_few k (e ∷ r) = go (ltb e.block k) refl (below_few k r)
  where
    go : (t : Bool) → ltb e.block k ≡ t → length (blocks_below k r) ≤ length r → length (blocks_below k (e ∷ r)) ≤ suc (length r)
    go true q ih = let m = ap length (insert_below k e r (ltb-true e.block k q)) in let n = insert_length e (blocks_below k r) in omega arith
    go false q ih = let m = ap length (below_other k e r (ltb-false e.block k q)) in omega arith

pub of_few : (b : ℕ) (r : List LiveSlot) → length (of_block b r) ≤ length r
unfolding of_block
of_few b [] = omega arith
of_few b (e ∷ r) = go (eqb b e.block) (of_few b r)
  where
    go : (t : Bool) → length (of_block b r) ≤ length r → length (cond t (e ∷ of_block b r) (of_block b r)) ≤ suc (length r)
    go true ih = omega arith
    go false ih = omega arith

-- ---- standing in an image

pub stand_below : (N B : ℕ) (r : List LiveSlot) → AllStand N B r → AllBelow most_pages r
stand_below N B [] a = tt
stand_below N B (e ∷ r) a = (a.0.block, stand_below N B r a.1)

pub stand_of : (N B : ℕ) (b : ℕ) (r : List LiveSlot) → AllStand N B r → AllStand N B (of_block b r)
unfolding of_block
stand_of N B b [] a = tt
stand_of N B b (e ∷ r) a = go (eqb b e.block) (stand_of N B b r a.1)
  where
    go : (t : Bool) → AllStand N B (of_block b r) → AllStand N B (cond t (e ∷ of_block b r) (of_block b r))
    go true ih = (a.0, ih)
    go false ih = ih
