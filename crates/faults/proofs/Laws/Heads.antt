-- Headers tested one by one, numbers followed, and the first of conditions 1 to 4 that fails.
use Prim.Native.Nat.{ℕ, suc, ◌+◌, ◌-◌, ◌%◌, ◌≤◌, ◌<◌}
use mathlib.Core.Path.{◌≡◌, refl, sym, ap, ap₂, ◌∙◌}
use mathlib.Core.Bool.{Bool, true, false, cond, ◌&&◌, not, and-true, and_assoc}
use mathlib.Core.List.{List, [], ◌∷◌}
use native.Mathlib.Omega.{arith}
use native.Mathlib.Nat.{sub-zero}
use native.Mathlib.Numerals.{add-one}
use lib.ListN.{length, get_or, drop}
use lib.Seq.{drop-cons, drop-length}
use lib.Dec.{eqb}
use borrow.Author.Tests.{eq-eqb, ne_eqb}
use Rattle.model.specs.Lists.{all}
use Rattle.model.specs.Header.{erase_pending, compacted, version1, version2, version_number, is_former}
use Rattle.model.specs.State.{Segment, blank, invalid, in_use, is_in_use, is_invalid, is_owing, number_after, of_version, used_count, first_number, some_in_use, numbers_from, consecutive, one_version, none_owing, others_blank}
use Rattle.judge.specs.declared.HeaderCounts.{HeaderCounts}
use Rattle.judge.specs.declared.Summary.{Summary}
use Rattle.judge.specs.Heads.{bare_version, bare, outline, counts_of, count_one, no_counts}
use Rattle.segments.proofs.Laws.Tables.{counted, counted_cons, counted_start, counted_end}
use Rattle.faults.specs.declared.HeadTests.{HeadTests}
use Rattle.faults.specs.Tests.{test_head, head_tests, head_place, heads_told}

-- ---- tested so far, and what is left

unfoldable pub tested : HeadTests → List Segment → HeadTests
tested t l = record { counts = counted t.counts l; none_owing = t.none_owing && none_owing l; others_blank = t.others_blank && others_blank l }

tested_cons : (t : HeadTests) (x : Segment) (l : List Segment) → tested t (x ∷ l) ≡ tested (test_head t x) l
unfolding tested test_head none_owing others_blank all
tested_cons t x l = rw (
  counted_cons t.counts x l,
  and_assoc t.none_owing (not (is_owing x)) (none_owing l),
  and_assoc t.others_blank (not (is_invalid x)) (others_blank l),
)

owing_seen : (b : Bool) → eqb (cond b erase_pending compacted) erase_pending ≡ b
owing_seen true = refl
owing_seen false = refl

-- a segment is tested as its summary shows it
head_outline : (t : HeadTests) (x : Segment) → test_head t (outline x) ≡ test_head t x
unfolding test_head count_one outline is_owing is_invalid is_in_use number_after of_version version_number is_former bare_version
head_outline t blank = refl
head_outline t invalid = refl
head_outline t (in_use version1 st n ks) = rw (owing_seen (eqb st erase_pending))
head_outline t (in_use (version2 total bits) st n ks) = rw (owing_seen (eqb st erase_pending))

module _ (l : List Segment) where
  pub tests_start : (c : HeaderCounts) → c ≡ no_counts → tested (record { counts = c; none_owing = true; others_blank = true }) (drop 0 l) ≡ head_tests l
  unfolding tested head_tests
  tests_start c e = rw (e, counted_start l)

  pub tests_turn : (i : ℕ) (t k whole : HeadTests) (v : Summary) → i < length l → k ≡ test_head t (bare v) → bare v ≡ outline (get_or l i blank) → tested t (drop i l) ≡ whole → tested k (drop (i + 1) l) ≡ whole
  tests_turn i t k whole v h e f q =
      let d : drop (i + 1) l ≡ drop (suc i) l = rw (add-one i) in
      let a : k ≡ test_head t (get_or l i blank) = e ∙ (ap (test_head t) f ∙ head_outline t (get_or l i blank)) in
      ap₂ tested a d ∙ (sym (ap (tested t) (drop-cons l i blank h) ∙ tested_cons t (get_or l i blank) (drop (suc i) l)) ∙ q)

  pub tests_end : (i : ℕ) (t whole : HeadTests) → i ≡ length l → tested t (drop i l) ≡ whole → t ≡ whole
  tests_end i t whole h q = sym (ap (λ (k : ℕ). tested t (drop k l)) h ∙ (ap (tested t) (drop-length l) ∙ none)) ∙ q
    where
      none : tested t [] ≡ t
      none = unfold tested none_owing others_blank all in rw (counted_none t.counts, and-true t.none_owing, and-true t.others_blank)
        where
          counted_none : (c : HeaderCounts) → counted c [] ≡ c
          counted_none c = sym (counted_end [] 0 c (counted c []) refl refl)

-- ---- numbers from the first on

module _ (N u n : ℕ) (l : List Segment) where
  pub numbers_start : numbers_from N l (u - 0) (n + 0) ≡ numbers_from N l u n
  numbers_start = let e : n + 0 ≡ n = omega arith in rw (sub-zero u, e)

  module _ (k after : ℕ) (h : k < u) (e : after ≡ number_after (get_or l ((n + k) % N) blank)) where
    numbers_cons : numbers_from N l (u - k) (n + k) ≡ (eqb after (n + k + 1) && numbers_from N l (u - (k + 1)) (n + (k + 1)))
    unfolding numbers_from
    numbers_cons =
        let d : u - k ≡ suc (u - (k + 1)) = omega arith in
        let f : n + (k + 1) ≡ suc (n + k) = omega arith in
        rw (d, f, e, add-one (n + k))

    pub numbers_stop : (after ≡ n + k + 1 → ⊥) → numbers_from N l (u - k) (n + k) ≡ false
    numbers_stop q = numbers_cons ∙ rw (ne_eqb after (n + k + 1) q)

    pub numbers_turn : after ≡ n + k + 1 → numbers_from N l (u - k) (n + k) ≡ numbers_from N l (u - (k + 1)) (n + (k + 1))
    numbers_turn q = numbers_cons ∙ rw (eq-eqb after (n + k + 1) q)

  pub numbers_end : (k : ℕ) → u ≤ k → numbers_from N l (u - k) (n + k) ≡ true
  unfolding numbers_from
  numbers_end k h = let e : u - k ≡ 0 = omega arith in rw e

pub number_outline : (x y : Segment) (r : ℕ) → r ≡ number_after y → y ≡ outline x → r ≡ number_after x
number_outline x y r e q = e ∙ (ap number_after q ∙ go x)
  where
    go : (z : Segment) → number_after (outline z) ≡ number_after z
    go blank = unfold outline in refl
    go invalid = unfold outline in refl
    go (in_use ver st m ks) = unfold outline number_after in refl

-- ---- told

module _ (N : ℕ) (l : List Segment) (t : HeadTests) (e : t ≡ head_tests l) where
  first_is : t.counts.next - t.counts.used ≡ first_number l
  unfolding head_tests counts_of first_number
  first_is = rw e

  used_is : t.counts.used ≡ used_count l
  unfolding head_tests counts_of
  used_is = rw e

  pub heads_told_lem : (first place : ℕ) (follow : Bool) → first ≡ t.counts.next - t.counts.used → follow ≡ numbers_from N l t.counts.used first → place ≡ head_place N t follow
      → record { first = first; used = t.counts.used; place = place } ≡ heads_told N l
  unfolding head_place heads_told some_in_use consecutive one_version head_tests counts_of
  heads_told_lem first place follow a b c =
      let f : first ≡ first_number l = a ∙ first_is in
      let g : follow ≡ numbers_from N l (used_count l) (first_number l) = b ∙ ap₂ (numbers_from N l) used_is f in
      rw (c, f, g, e)

pub first_small : (t : HeadTests) (first : ℕ) → first ≡ t.counts.next - t.counts.used → t.counts.next ≤ 4294967296 → first ≤ 4294967296
first_small t first a b = omega arith
