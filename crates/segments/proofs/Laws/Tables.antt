-- A table of summaries walked through: what is left of it.
use Prim.Native.Nat.{ℕ, suc, ◌+◌, ◌-◌, ◌%◌, ◌≤◌, ◌<◌, max}
use mathlib.Core.Path.{◌≡◌, refl, sym, ap, ap₂, ◌∙◌}
use mathlib.Core.Bool.{Bool, true, false, cond, ◌&&◌, not, and-false, and-true, and_assoc}
use mathlib.Core.List.{List, [], ◌∷◌, map}
use native.Mathlib.Omega.{arith}
use native.Mathlib.Nat.{sub-zero}
use native.Mathlib.Numerals.{add-one}
use lib.ListN.{length, get_or, take, drop, length-take, length-map}
use lib.Seq.{drop-cons, drop-length, get_or-take}
use lib.Dec.{eqb}
use borrow.Author.Tests.{eq-eqb, ne_eqb}
use Rattle.model.specs.Lists.{all, count}
use Rattle.model.specs.State.{Segment, blank, is_in_use, is_invalid, is_owing, number_after, of_version, next_number, used_count, numbers_from, none_owing, others_blank}
use Rattle.judge.specs.declared.Summary.{Summary}
use Rattle.judge.specs.declared.HeaderCounts.{HeaderCounts}
use Rattle.judge.specs.Heads.{bare, outline, outline_get, heads, all_settled, counts_of, no_counts, count_one}

pub heads_get : (N i : ℕ) (table : List Summary) (d : Summary) → i < N → i < length table → get_or (heads N table) i blank ≡ bare (get_or table i d)
unfolding heads
heads_get N i table d h k = Rattle.model.specs.Laws.Lists.map_get bare (take N table) i d blank (omega (arith, length-take N table)) ∙ ap bare (get_or-take N table i d h)

heads_length : (N : ℕ) (table : List Summary) → N ≤ length table → length (heads N table) ≡ N
unfolding heads
heads_length N table h = length-map (take N table) bare ∙ omega (arith, length-take N table)

-- ---- counted: what was counted so far, and what is left

unfoldable pub counted : HeaderCounts → List Segment → HeaderCounts
counted c l = record {
  next = max c.next (next_number l);
  used = c.used + used_count l;
  settled = c.settled && all_settled l;
  all_version_1 = c.all_version_1 && all (λ x. of_version 1 x) l;
  all_version_2 = c.all_version_2 && all (λ x. of_version 2 x) l;
}

pub counted_cons : (c : HeaderCounts) (x : Segment) (l : List Segment) → counted c (x ∷ l) ≡ counted (count_one c x) l
unfolding counted count_one next_number used_count count all_settled none_owing others_blank all
counted_cons c x l =
    let n : max c.next (max (number_after x) (next_number l)) ≡ max (max c.next (number_after x)) (next_number l) = omega arith in
    rw (n, used (is_in_use x), settled c.settled (is_owing x) (is_invalid x) (none_owing l), and_assoc c.all_version_1 (of_version 1 x) (all (λ y. of_version 1 y) l), and_assoc c.all_version_2 (of_version 2 x) (all (λ y. of_version 2 y) l))
  where
    used : (t : Bool) → c.used + cond t (suc (used_count l)) (used_count l) ≡ cond t (c.used + 1) c.used + used_count l
    used true = omega arith
    used false = refl

    settled : (s o v t : Bool) → (s && ((not o && t) && (not v && others_blank l))) ≡ ((s && (not o && not v)) && (t && others_blank l))
    settled false o v t = refl
    settled true true v t = refl
    settled true false v false = rw (and-false (not v))
    settled true false true true = refl
    settled true false false true = refl

-- a list counted up to a place
module _ (l : List Segment) where
  pub counted_start : counted no_counts (drop 0 l) ≡ counts_of l
  unfolding counted counts_of no_counts
  counted_start =
      let m : max 0 (next_number l) ≡ next_number l = omega arith in
      let u : 0 + used_count l ≡ used_count l = omega arith in
      rw (m, u)

  pub counted_turn : (i : ℕ) (c k whole : HeaderCounts) → i < length l → k ≡ count_one c (get_or l i blank) → counted c (drop i l) ≡ whole → counted k (drop (i + 1) l) ≡ whole
  counted_turn i c k whole h e q =
      let d : drop (i + 1) l ≡ drop (suc i) l = rw (add-one i) in
      ap₂ counted e d ∙ (sym (ap (counted c) (drop-cons l i blank h) ∙ counted_cons c (get_or l i blank) (drop (suc i) l)) ∙ q)

  pub counted_end : (i : ℕ) (c whole : HeaderCounts) → i ≡ length l → counted c (drop i l) ≡ whole → c ≡ whole
  counted_end i c whole h q = sym (ap (λ (k : ℕ). counted c (drop k l)) h ∙ (ap (counted c) (drop-length l) ∙ none)) ∙ q
    where
      none : counted c [] ≡ c
      none = unfold counted next_number used_count count all_settled none_owing others_blank all in
          (let m : max c.next 0 ≡ c.next = omega arith in let u : c.used + 0 ≡ c.used = omega arith in rw (m, u, and-true c.settled, and-true c.all_version_1, and-true c.all_version_2))

-- of the image's segments as summaries show them
module _ (l : List Segment) where
  pub seen_turn : (i : ℕ) (c k whole : HeaderCounts) (v : Summary) → i < length l → k ≡ count_one c (bare v) → bare v ≡ outline (get_or l i blank)
      → counted c (drop i (map outline l)) ≡ whole → counted k (drop (i + 1) (map outline l)) ≡ whole
  seen_turn i c k whole v h e f q = counted_turn (map outline l) i c k whole (omega (arith, length-map l outline)) (e ∙ ap (count_one c) (f ∙ sym (outline_get l i))) q

  pub seen_end : (i : ℕ) (c whole : HeaderCounts) → i ≡ length l → counted c (drop i (map outline l)) ≡ whole → c ≡ whole
  seen_end i c whole h q = counted_end (map outline l) i c whole (h ∙ sym (length-map l outline)) q

-- of those that a table shows
module _ (N : ℕ) (table : List Summary) (long : N ≤ length table) where
  pub table_turn : (d : Summary) (i : ℕ) (c k whole : HeaderCounts) → i < N → k ≡ count_one c (bare (get_or table i d)) → counted c (drop i (heads N table)) ≡ whole → counted k (drop (i + 1) (heads N table)) ≡ whole
  table_turn d i c k whole h e q = counted_turn (heads N table) i c k whole (omega (arith, heads_length N table long)) (e ∙ ap (count_one c) (sym (heads_get N i table d h (omega arith)))) q

  pub table_end : (i : ℕ) (c whole : HeaderCounts) → i ≡ N → counted c (drop i (heads N table)) ≡ whole → c ≡ whole
  table_end i c whole h q = counted_end (heads N table) i c whole (h ∙ sym (heads_length N table long)) q

module _ (N : ℕ) (table : List Summary) where
  -- ---- numbers from the first on

  module _ (u n : ℕ) where
    pub numbers_start : numbers_from N (heads N table) (u - 0) (n + 0) ≡ numbers_from N (heads N table) u n
    numbers_start = let e : n + 0 ≡ n = omega arith in rw (sub-zero u, e)

    numbers_cons : (i : ℕ) (d : Summary) → i < u → (n + i) % N < N → (n + i) % N < length table
        → numbers_from N (heads N table) (u - i) (n + i) ≡ (eqb (number_after (bare (get_or table ((n + i) % N) d))) (n + i + 1) && numbers_from N (heads N table) (u - (i + 1)) (n + (i + 1)))
    unfolding numbers_from
    numbers_cons i d h m k =
        let e : u - i ≡ suc (u - (i + 1)) = omega arith in
        let f : n + (i + 1) ≡ suc (n + i) = omega arith in
        rw (e, f, heads_get N ((n + i) % N) table d m k, add-one (n + i))

    pub numbers_stop : (i : ℕ) (d : Summary) → i < u → (n + i) % N < N → (n + i) % N < length table → (number_after (bare (get_or table ((n + i) % N) d)) ≡ n + i + 1 → ⊥)
        → numbers_from N (heads N table) (u - i) (n + i) ≡ false
    numbers_stop i d h m k e = numbers_cons i d h m k ∙ rw (ne_eqb (number_after (bare (get_or table ((n + i) % N) d))) (n + i + 1) e)

    pub numbers_turn : (i : ℕ) (d : Summary) → i < u → (n + i) % N < N → (n + i) % N < length table → number_after (bare (get_or table ((n + i) % N) d)) ≡ n + i + 1
        → numbers_from N (heads N table) (u - i) (n + i) ≡ numbers_from N (heads N table) (u - (i + 1)) (n + (i + 1))
    numbers_turn i d h m k e = numbers_cons i d h m k ∙ rw (eq-eqb (number_after (bare (get_or table ((n + i) % N) d))) (n + i + 1) e)

    pub numbers_end : (i : ℕ) → u ≤ i → numbers_from N (heads N table) (u - i) (n + i) ≡ true
    unfolding numbers_from
    numbers_end i h = let e : u - i ≡ 0 = omega arith in rw e
