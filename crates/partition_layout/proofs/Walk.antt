-- A layout table by its pairs: the next item, and what a walk over the pairs finds right or refuses.
use Prim.Native.Nat.{ℕ, zero, suc, ◌+◌, ◌-◌, ◌%◌, ◌≤◌, ◌<◌}
use mathlib.Core.Path.{◌≡◌, refl, sym, ap, ◌∙◌}
use mathlib.Core.Bool.{Bool, true, false, ◌&&◌, not, and_assoc, and-true, and-false}
use mathlib.Core.List.{List, [], ◌∷◌, ◌++◌}
use native.Mathlib.Omega.{arith}
use lib.ListN.{length, get_or, set, replicate, length-set, length-append}
use lib.Seq.{get_or-set_same, get_or-set_other}
use lib.Dec.{leb, eqb}
use borrow.Author.Tests.{eqb-true, eqb-false, leb-true, leb-false, le-leb, lt-leb, eq-eqb, ne_eqb}
use Rattle.model.specs.Lists.{all}
use Rattle.partitions.proofs.Laws.{used_some}
use Rattle.partitions.specs.Layout.{Item, items_from, items_of, distinct, bytes_used, layout_ok, has_item, item_of}

-- ---- the pairs that are left

-- whole pairs are left, or none
abbrev pub Whole : List ℕ → Type 0
Whole xs = length xs % 2 ≡ 0

-- the first pair of what is left, and what is left behind it
pub record First (xs pair ys : List ℕ) : Type 0 where
  pub parts : xs ≡ pair ++ ys
  pub two : length pair ≡ 2

-- the item that a pair tells, at an offset
abbrev pub item_in : List ℕ → ℕ → Item
item_in pair o = record { identifier = get_or pair 0 0; size = get_or pair 1 0; at = o }

pub items_end : (xs : List ℕ) (o : ℕ) → length xs < 2 → Whole xs → items_from o xs ≡ []
unfolding items_from
items_end [] o h w = refl
items_end (i ∷ []) o h w = refl
items_end (i ∷ n ∷ xs) o h w = absurd (omega arith)

module _ {xs pair ys : List ℕ} (p : First xs pair ys) where
  pub whole_next : Whole xs → Whole ys
  whole_next w = let e = ap length p.parts ∙ length-append pair ys in omega (arith, p.two)

  pub items_next : (o : ℕ) → items_from o xs ≡ item_in pair o ∷ items_from (o + 1 + get_or pair 1 0) ys
  items_next o = ap (items_from o) p.parts ∙ go pair p.two
    where
      go : (two : List ℕ) → length two ≡ 2 → items_from o (two ++ ys) ≡ item_in two o ∷ items_from (o + 1 + get_or two 1 0) ys
      go [] e = absurd (omega arith)
      go (i ∷ []) e = absurd (omega arith)
      go (i ∷ n ∷ []) e = unfold items_from in refl
      go (i ∷ n ∷ m ∷ r) e = absurd (omega arith)

-- ---- identifiers met

-- none of these items' identifiers is among those met
unfoldable pub clear : List Bool → List Item → Bool
clear met xs = all (λ x. not (get_or met x.identifier false)) xs

none_met_lem : (n i : ℕ) → get_or (replicate n false) i false ≡ false
none_met_lem zero i = refl
none_met_lem (suc n) zero = refl
none_met_lem (suc n) (suc i) = none_met_lem n i

clear_none : (n : ℕ) (xs : List Item) → clear (replicate n false) xs ≡ true
unfolding clear all
clear_none n [] = refl
clear_none n (x ∷ xs) = rw (none_met_lem n x.identifier) (clear_none n xs)

and_swap : (a b c d : Bool) → (a && b) && (c && d) ≡ (a && c) && (b && d)
and_swap true true c d = refl
and_swap true false true d = refl
and_swap true false false d = refl
and_swap false b c d = refl

met_set : (met : List Bool) (i j : ℕ) → i < length met → not (get_or (set met i true) j false) ≡ not (get_or met j false) && not (eqb i j)
met_set met i j h = go (eqb i j) refl
  where
    go : (t : Bool) → eqb i j ≡ t → not (get_or (set met i true) j false) ≡ not (get_or met j false) && not t
    go true e = let k = eqb-true i j e in rw (← k, get_or-set_same met i true false h) (sym (and-false (not (get_or met i false))))
    go false e = rw (get_or-set_other met i j true false (λ k. eqb-false i j e (sym k))) (sym (and-true (not (get_or met j false))))

clear_set : (met : List Bool) (i : ℕ) → i < length met → (xs : List Item) → clear (set met i true) xs ≡ clear met xs && all (λ y. not (eqb i y.identifier)) xs
unfolding clear all
clear_set met i h [] = refl
clear_set met i h (x ∷ xs) = rw (met_set met i x.identifier h, clear_set met i h xs) (and_swap (not (get_or met x.identifier false)) (not (eqb i x.identifier)) (clear met xs) (all (λ y. not (eqb i y.identifier)) xs))

-- ---- the test of what is left, beside the identifiers met and the bytes that are left

unfoldable pub rest_ok : List Bool → ℕ → List Item → Bool
rest_ok met left xs = all (λ x. not (eqb x.identifier 255)) xs && (clear met xs && (distinct xs && (all (λ x. not (eqb x.size 0)) xs && leb (bytes_used xs) (left + 1))))

rest_start : (S : ℕ) (ns : List ℕ) (n : ℕ) → length ns % 2 ≡ 0 → (S ≡ 0 → ⊥) → layout_ok S ns ≡ rest_ok (replicate n false) (S - 1) (items_of ns)
unfolding layout_ok rest_ok
rest_start S ns n e h = let k : S - 1 + 1 ≡ S = omega arith in rw (e, clear_none n (items_of ns), k)

rest_end : (met : List Bool) (left : ℕ) → rest_ok met left [] ≡ true
unfolding rest_ok all clear distinct bytes_used
rest_end met left = le-leb 1 (left + 1) (omega arith)

module _ (met : List Bool) (left : ℕ) (x : Item) (xs : List Item) where
  rest_no_identifier : x.identifier ≡ 255 → rest_ok met left (x ∷ xs) ≡ false
  unfolding rest_ok all
  rest_no_identifier e = rw (eq-eqb x.identifier 255 e)

  rest_twice : get_or met x.identifier false ≡ true → rest_ok met left (x ∷ xs) ≡ false
  unfolding rest_ok clear all
  rest_twice e = simp (e, and-false)

  rest_empty : x.size ≡ 0 → rest_ok met left (x ∷ xs) ≡ false
  unfolding rest_ok all
  rest_empty e = simp (eq-eqb x.size 0 e, and-false)

  rest_long : left < 1 + x.size → rest_ok met left (x ∷ xs) ≡ false
  unfolding rest_ok bytes_used
  rest_long h = simp (lt-leb (1 + x.size + bytes_used xs) (left + 1) (omega (arith, used_some xs)), and-false)

  fits_next : 1 + x.size ≤ left → leb (1 + x.size + bytes_used xs) (left + 1) ≡ leb (bytes_used xs) (left - (1 + x.size) + 1)
  fits_next h = go (leb (bytes_used xs) (left - (1 + x.size) + 1)) refl
    where
      go : (t : Bool) → leb (bytes_used xs) (left - (1 + x.size) + 1) ≡ t → leb (1 + x.size + bytes_used xs) (left + 1) ≡ t
      go true e = le-leb (1 + x.size + bytes_used xs) (left + 1) (omega (arith, leb-true (bytes_used xs) (left - (1 + x.size) + 1) e))
      go false e = lt-leb (1 + x.size + bytes_used xs) (left + 1) (omega (arith, leb-false (bytes_used xs) (left - (1 + x.size) + 1) e))

  rest_next : (x.identifier ≡ 255 → ⊥) → get_or met x.identifier false ≡ false → (x.size ≡ 0 → ⊥) → 1 + x.size ≤ left → x.identifier < length met
      → rest_ok met left (x ∷ xs) ≡ rest_ok (set met x.identifier true) (left - (1 + x.size)) xs
  unfolding rest_ok clear distinct bytes_used all
  rest_next i m n h k =
      rw (ne_eqb x.identifier 255 i, m, ne_eqb x.size 0 n, fits_next h, clear_set met x.identifier k xs) (simp and_assoc)

-- ---- the walk

-- the test of the whole is that of what is left
pub record Walked (S : ℕ) (ns : List ℕ) (left : ℕ) (met : List Bool) (xs : List ℕ) : Type 0 where
  pub whole : Whole xs
  pub table : length met ≡ 256
  pub offset : ℕ
  pub rest : layout_ok S ns ≡ rest_ok met left (items_from offset xs)

module _ (S : ℕ) (ns : List ℕ) where
  pub left_over : (length ns % 2 ≡ 0 → ⊥) → false ≡ layout_ok S ns
  unfolding layout_ok
  left_over h = rw (ne_eqb (length ns % 2) 0 h)

  pub too_many : S < bytes_used (items_of ns) → false ≡ layout_ok S ns
  unfolding layout_ok
  too_many h = simp (lt-leb (bytes_used (items_of ns)) S h, and-false)

  pub no_room : S ≡ 0 → false ≡ layout_ok S ns
  no_room e = too_many (omega (arith, used_some (items_of ns)))

  pub walk_start : {xs : List ℕ} → xs ≡ ns → length ns % 2 ≡ 0 → (S ≡ 0 → ⊥) → Walked S ns (S - 1) (replicate 256 false) xs
  unfolding items_of
  walk_start q e h = rw q (record { whole = e; table = refl; offset = 1; rest = rest_start S ns 256 e h })

module _ {S : ℕ} {ns : List ℕ} {left : ℕ} {met : List Bool} {xs : List ℕ} (v : Walked S ns left met xs) where
  pub walk_end : length xs < 2 → true ≡ layout_ok S ns
  walk_end h = sym (v.rest ∙ rw (items_end xs v.offset h v.whole) (rest_end met left))

  module _ {pair ys : List ℕ} (p : First xs pair ys) where
    abbrev next : Item
    next = item_in pair v.offset

    abbrev others : List Item
    others = items_from (v.offset + 1 + next.size) ys

    here : layout_ok S ns ≡ rest_ok met left (next ∷ others)
    here = v.rest ∙ ap (rest_ok met left) (items_next p v.offset)

    pub no_identifier : next.identifier ≡ 255 → false ≡ layout_ok S ns
    no_identifier e = sym (here ∙ rest_no_identifier met left next others e)

    pub twice : get_or met next.identifier false ≡ true → false ≡ layout_ok S ns
    twice e = sym (here ∙ rest_twice met left next others e)

    pub empty : next.size ≡ 0 → false ≡ layout_ok S ns
    empty e = sym (here ∙ rest_empty met left next others e)

    pub too_long : left < 1 + next.size → false ≡ layout_ok S ns
    too_long e = sym (here ∙ rest_long met left next others e)

    pub walk_next : (next.identifier ≡ 255 → ⊥) → get_or met next.identifier false ≡ false → (next.size ≡ 0 → ⊥) → 1 + next.size ≤ left → next.identifier < 256
        → Walked S ns (left - (1 + next.size)) (set met next.identifier true) ys
    walk_next i m n f b = record {
      whole = whole_next p v.whole;
      table = length-set met next.identifier true ∙ v.table;
      offset = v.offset + 1 + next.size;
      rest = here ∙ rest_next met left next others i m n f (omega (arith, v.table));
    }

-- ---- the search

-- the item looked for is among those left, and the offset and their bytes are those of the whole
pub record Sought (ns : List ℕ) (i o : ℕ) (xs : List ℕ) : Type 0 where
  pub whole : Whole xs
  pub has : has_item i (items_of ns) ≡ has_item i (items_from o xs)
  pub item : item_of i (items_of ns) ≡ item_of i (items_from o xs)
  pub bytes : o + bytes_used (items_from o xs) ≡ 1 + bytes_used (items_of ns)

pub search_start : (ns : List ℕ) (i : ℕ) {xs : List ℕ} → xs ≡ ns → length ns % 2 ≡ 0 → Sought ns i 1 xs
unfolding items_of
search_start ns i q e = rw q (record { whole = e; has = refl; item = refl; bytes = refl })

module _ {ns : List ℕ} {i o : ℕ} {xs : List ℕ} (v : Sought ns i o xs) where
  pub search_end : length xs < 2 → has_item i (items_of ns) ≡ false
  unfolding has_item
  search_end h = v.has ∙ ap (has_item i) (items_end xs o h v.whole)

  module _ {pair ys : List ℕ} (p : First xs pair ys) where
    abbrev first : Item
    first = item_in pair o

    abbrev later : List Item
    later = items_from (o + (1 + first.size)) ys

    left : items_from o xs ≡ first ∷ later
    left = items_next p o ∙ ap (λ k. first ∷ items_from k ys) (omega arith)

    -- the offset behind this item is one in the partition
    pub search_within : o + (1 + first.size) ≤ bytes_used (items_of ns)
    unfolding bytes_used
    search_within = omega (arith, v.bytes, ap bytes_used left, used_some later)

    pub search_found : first.identifier ≡ i → (has_item i (items_of ns) ≡ true) × (item_of i (items_of ns) ≡ record { identifier = i; size = first.size; at = o })
    unfolding has_item item_of
    search_found e =
        let t = eq-eqb i first.identifier (sym e) in
        (v.has ∙ rw (left, t), v.item ∙ rw (left, t, e))

    pub search_next : (first.identifier ≡ i → ⊥) → Sought ns i (o + (1 + first.size)) ys
    unfolding has_item item_of bytes_used
    search_next n =
        let f = ne_eqb i first.identifier (λ e. n (sym e)) in
        record {
          whole = whole_next p v.whole;
          has = v.has ∙ rw (left, f);
          item = v.item ∙ rw (left, f);
          bytes = omega (arith, v.bytes, ap bytes_used left);
        }
