-- Laws of the definitions, for whoever proves code or histories: what a right layout table tells, where its items lie, and tests over all partitions.
use Rattle.std.specs.Prelude.{ℕ, ◌+◌, ◌-◌, ◌%◌, ◌≤◌, ◌≡◌, refl, ◌⊎◌, ◌≢◌, Bool, true, false, cond, ◌||◌, not, List, [], ◌∷◌, ◌++◌, length, leb, eqb}
use Rattle.std.proofs.Common.{sym, ap, ◌∙◌, inl, inr, arith, leb-true, eqb-true}
use Rattle.std.proofs.lemmas.Bool.{false≢true, eqb-false, not-true}
use Rattle.model.specs.Lists.{all}
use Rattle.model.specs.Laws.Lists.{and_left, and_right}
use Rattle.partitions.specs.Layout.{Item, items_from, items_of, distinct, bytes_used, layout_ok, has_item, item_of}
use Rattle.partitions.specs.Partitions.{kept}

-- ---- a right table

pub record RightLayout (S : ℕ) (ns : List ℕ) : Type 0 where
  pub even : length ns % 2 ≡ 0
  pub real : all (λ x. not (eqb x.identifier 255)) (items_of ns) ≡ true
  pub once : distinct (items_of ns) ≡ true
  pub fit : bytes_used (items_of ns) ≤ S

pub right_layout : (S : ℕ) (ns : List ℕ) → layout_ok S ns ≡ true → RightLayout S ns
unfolding layout_ok
right_layout S ns e =
    let xs = items_of ns in
    let a = and_right (eqb (length ns % 2) 0) _ e in
    let b = and_right (all (λ x. not (eqb x.identifier 255)) xs) _ a in
    let c = and_right (distinct xs) _ b in
    record {
      even = eqb-true (length ns % 2) 0 (and_left (eqb (length ns % 2) 0) _ e);
      real = and_left (all (λ x. not (eqb x.identifier 255)) xs) _ a;
      once = and_left (distinct xs) _ b;
      fit = leb-true (bytes_used xs) S (and_right (all (λ x. not (eqb x.size 0)) xs) (leb (bytes_used xs) S) c);
    }

-- the status byte is always there
pub used_some : (xs : List Item) → 1 ≤ bytes_used xs
unfolding bytes_used
used_some [] = omega arith
used_some (x ∷ xs) = let e = used_some xs in omega arith

-- identifier 255 is no item's
pub item_real : (i : ℕ) (xs : List Item) → all (λ x. not (eqb x.identifier 255)) xs ≡ true → has_item i xs ≡ true → i ≢ 255
unfolding all has_item
item_real i [] a h e = false≢true h
item_real i (x ∷ xs) a h e = go (eqb i x.identifier) refl h (λ w. item_real i xs (and_right (not (eqb x.identifier 255)) (all (λ y. not (eqb y.identifier 255)) xs) a) w e)
  where
    go : (t : Bool) → eqb i x.identifier ≡ t → (t || has_item i xs) ≡ true → (has_item i xs ≡ true → ⊥) → ⊥
    go true d w rest = eqb-false x.identifier 255 (not-true (eqb x.identifier 255) (and_left (not (eqb x.identifier 255)) (all (λ y. not (eqb y.identifier 255)) xs) a)) (sym (eqb-true i x.identifier d) ∙ e)
    go false d w rest = rest w

-- ---- where items lie

-- an item has identifier i, and its bytes are some of a partition's, from an offset on
pub record Lies (i from end : ℕ) (x : Item) : Type 0 where
  pub named : x.identifier ≡ i
  pub behind : from ≤ x.at
  pub inside : x.at + 1 + x.size ≤ end

-- the bytes used count the status byte, which lies before the first item
lies : (i o : ℕ) (ns : List ℕ) → has_item i (items_from o ns) ≡ true → Lies i o (o + bytes_used (items_from o ns) - 1) (item_of i (items_from o ns))
unfolding items_from bytes_used has_item item_of
lies i o [] h = absurd (false≢true h)
lies i o (k ∷ []) h = absurd (false≢true h)
lies i o (k ∷ n ∷ r) h = go (eqb i k) refl h (lies i (o + 1 + n) r)
  where
    go : (t : Bool) → eqb i k ≡ t → t || has_item i (items_from (o + 1 + n) r) ≡ true
        → (has_item i (items_from (o + 1 + n) r) ≡ true → Lies i (o + 1 + n) (o + 1 + n + bytes_used (items_from (o + 1 + n) r) - 1) (item_of i (items_from (o + 1 + n) r)))
        → Lies i o (o + (1 + n + bytes_used (items_from (o + 1 + n) r)) - 1) (cond t (record { identifier = k; size = n; at = o }) (item_of i (items_from (o + 1 + n) r)))
    go true e q rest = record { named = sym (eqb-true i k e); behind = omega arith; inside = omega (arith, used_some (items_from (o + 1 + n) r)) }
    go false e q rest = let x = rest q in record { named = x.named; behind = omega (arith, x.behind); inside = omega (arith, x.inside) }

-- an item of a table whose items fit
pub item_lies : (S i : ℕ) (ns : List ℕ) → bytes_used (items_of ns) ≤ S → has_item i (items_of ns) ≡ true → Lies i 1 S (item_of i (items_of ns))
unfolding items_of
item_lies S i ns f h = let x = lies i 1 ns h in record { named = x.named; behind = x.behind; inside = omega (arith, x.inside) }

-- two items have no byte in common
abbrev pub Apart : Item → Item → Type 0
Apart x y = (x.at + 1 + x.size ≤ y.at) ⊎ (y.at + 1 + y.size ≤ x.at)

pub items_apart : (i j o : ℕ) (ns : List ℕ) → i ≢ j → has_item i (items_from o ns) ≡ true → has_item j (items_from o ns) ≡ true → Apart (item_of i (items_from o ns)) (item_of j (items_from o ns))
unfolding items_from has_item item_of
items_apart i j o [] n h k = absurd (false≢true h)
items_apart i j o (a ∷ []) n h k = absurd (false≢true h)
items_apart i j o (a ∷ b ∷ r) n h k = go (eqb i a) (eqb j a) refl refl h k (lies i (o + 1 + b) r) (lies j (o + 1 + b) r) (items_apart i j (o + 1 + b) r n)
  where
    rest : List Item
    rest = items_from (o + 1 + b) r

    end : ℕ
    end = o + 1 + b + bytes_used rest - 1

    first : Item
    first = record { identifier = a; size = b; at = o }

    go : (t u : Bool) → eqb i a ≡ t → eqb j a ≡ u → t || has_item i rest ≡ true → u || has_item j rest ≡ true
        → (has_item i rest ≡ true → Lies i (o + 1 + b) end (item_of i rest)) → (has_item j rest ≡ true → Lies j (o + 1 + b) end (item_of j rest))
        → (has_item i rest ≡ true → has_item j rest ≡ true → Apart (item_of i rest) (item_of j rest))
        → Apart (cond t first (item_of i rest)) (cond u first (item_of j rest))
    go true true e f p q x y z = absurd (n (eqb-true i a e ∙ sym (eqb-true j a f)))
    go true false e f p q x y z = inl (y q).behind
    go false true e f p q x y z = inr (x p).behind
    go false false e f p q x y z = z p q

-- ---- tests over all partitions

pub kept_append : (f : ℕ → Bool) (xs ys : List ℕ) → kept f (xs ++ ys) ≡ kept f xs ++ kept f ys
unfolding kept
kept_append f [] ys = refl
kept_append f (x ∷ xs) ys = go (f x) (kept_append f xs ys)
  where
    go : (t : Bool) → kept f (xs ++ ys) ≡ kept f xs ++ kept f ys → cond t (x ∷ kept f (xs ++ ys)) (kept f (xs ++ ys)) ≡ cond t (x ∷ kept f xs) (kept f xs) ++ kept f ys
    go true e = ap (λ (l : List ℕ). x ∷ l) e
    go false e = e
