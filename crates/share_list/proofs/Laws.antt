-- A list of shares by the places of its numbers: one share more or less, what is left at the end, and a tenant's share.
use Prim.Native.Nat.{ℕ, zero, suc, ◌+◌, ◌-◌, ◌*◌, ◌/◌, ◌%◌, ◌≤◌, ◌<◌}
use mathlib.Core.Path.{◌≡◌, refl, sym, ap, ◌∙◌}
use mathlib.Core.Bool.{Bool, true, false, ◌&&◌}
use mathlib.Core.List.{List, [], ◌∷◌}
use native.Mathlib.Omega.{arith}
use lib.ListN.{length, get_or, drop}
use lib.Seq.{drop-cons, drop-length}
use lib.Dec.{leb, ltb, eqb}
use borrow.Author.Tests.{ltb-true, leb-true, le-leb, lt-leb, lt-ltb, le-ltb, ne_eqb}
use Rattle.model.specs.Lists.{all}
use Rattle.model.specs.Slot.{number_ok}
use Rattle.model.specs.State.{capacity}
use Rattle.model.specs.Laws.Lists.{and_left, and_right, all_get}
use Rattle.shares.specs.Shares.{Share, most_tenants, shares_of, range_ok, overlap, disjoint, quota_sum, shares_within, shares_ok, is_tenant, share_of, owns}
use Rattle.share_list.specs.Places.{most_numbers, share_at, shares_from, Stands, clear_of}

-- ---- two numbers, and two ranges

and_none : (t u : Bool) → false ≡ t && (u && false)
and_none true true = refl
and_none true false = refl
and_none false u = refl

module _ (first last : ℕ) where
  abbrev range : Bool
  range = number_ok first && (number_ok last && leb first last)

  pub range_none : first ≡ 0 → false ≡ range
  unfolding number_ok
  range_none e = rw e

  pub range_back : last < first → false ≡ range
  range_back h = rw (lt-leb first last h) (and_none (number_ok first) (number_ok last))

  pub range_some : (first ≡ 0 → ⊥) → first ≤ last → ltb last 65535 ≡ range
  unfolding number_ok
  range_some n h = go (ltb last 65535) refl
    where
      go : (t : Bool) → ltb last 65535 ≡ t → t ≡ ltb 0 first && ltb first 65535 && (ltb 0 last && t && leb first last)
      go true e = let k = ltb-true last 65535 e in rw (lt-ltb 0 first (omega arith), lt-ltb first 65535 (omega arith), lt-ltb 0 last (omega arith), le-leb first last h)
      go false e = rw (lt-ltb 0 first (omega arith), lt-ltb 0 last (omega arith)) (shut (ltb first 65535))
        where
          shut : (u : Bool) → false ≡ u && false
          shut true = refl
          shut false = refl

number_small : (n : ℕ) → number_ok n ≡ true → n < 65536
unfolding number_ok
number_small n e = omega (arith, ltb-true n 65535 (and_right (ltb 0 n) (ltb n 65535) e))

module _ (x y : Share) where
  pub overlap_behind : y.last < x.first → false ≡ overlap x y
  unfolding overlap
  overlap_behind h = rw (lt-leb x.first y.last h)

  pub overlap_before : x.first ≤ y.last → leb y.first x.last ≡ overlap x y
  unfolding overlap
  overlap_before h = rw (le-leb x.first y.last h)

-- ---- from a place on

drop_next : (ns : List ℕ) (j k : ℕ) → j < length ns → k ≡ suc j → drop j ns ≡ get_or ns j 0 ∷ drop k ns
drop_next ns j k h e = rw e (drop-cons ns j 0 h)

module _ (ns : List ℕ) (at : ℕ) where
  -- the first of the shares left
  pub shares_next : at + 3 ≤ length ns → shares_from ns at ≡ share_at ns at ∷ shares_from ns (at + 3)
  unfolding shares_of
  shares_next h = rw (drop_next ns at (at + 1) (omega arith) (omega arith), drop_next ns (at + 1) (at + 2) (omega arith) (omega arith), drop_next ns (at + 2) (at + 3) (omega arith) (omega arith))

  -- none is left
  pub shares_end : Stands ns at → length ns ≤ at → shares_from ns at ≡ []
  unfolding shares_of
  shares_end s h = let e : at ≡ length ns = omega arith in rw (e, drop-length ns)

  module _ (s : Stands ns at) (h : at < length ns) where
    pub stands_whole : at + 3 ≤ length ns
    stands_whole = omega arith

    pub stands_next : Stands ns (at + 3)
    stands_next = (omega arith, omega arith)

    pub all_next : (f : Share → Bool) → all f (shares_from ns at) ≡ f (share_at ns at) && all f (shares_from ns (at + 3))
    unfolding all
    all_next f = ap (all f) (shares_next stands_whole)

    pub disjoint_next : disjoint (shares_from ns at) ≡ clear_of ns at (at + 3) && disjoint (shares_from ns (at + 3))
    unfolding disjoint
    disjoint_next = ap disjoint (shares_next stands_whole)

    pub quota_next : quota_sum (shares_from ns at) ≡ get_or ns (at + 2) 0 + quota_sum (shares_from ns (at + 3))
    unfolding quota_sum
    quota_next = ap quota_sum (shares_next stands_whole)

-- what is asked of all is asked of those left: the next of them, and the rest
module _ {x : Bool} (t u : Bool) (left : x ≡ (t && u)) where
  pub goes_on : t ≡ true → x ≡ u
  goes_on e = left ∙ rw e

  pub stops : t ≡ false → false ≡ x
  stops e = sym (left ∙ rw e)

-- ---- a list that is right

pub shares_length : (ns : List ℕ) → length (shares_of ns) ≡ length ns / 3
unfolding shares_of
shares_length [] = refl
shares_length (f ∷ []) = omega arith
shares_length (f ∷ l ∷ []) = omega arith
shares_length (f ∷ l ∷ q ∷ ns) = let e = shares_length ns in omega arith

-- `shares_ok`, where C is what there is to share
pub within_capacity_lem : (N B : ℕ) (ns : List ℕ) → shares_within (capacity N B) ns ≡ shares_ok N B ns
unfolding shares_ok
within_capacity_lem N B ns = refl

module _ (most : ℕ) (ns : List ℕ) where
  pub within_odd : (length ns % 3 ≡ 0 → ⊥) → false ≡ shares_within most ns
  unfolding shares_within
  within_odd h = rw (ne_eqb (length ns % 3) 0 h)

  module _ (e : length ns % 3 ≡ 0) where
    pub within_many : most_numbers < length ns → false ≡ shares_within most ns
    unfolding shares_within
    within_many h = rw (e, lt-leb (length (shares_of ns)) most_tenants (omega (arith, shares_length ns)))

    pub within_few : length ns ≤ most_numbers → shares_within most ns ≡ (all range_ok (shares_of ns) && (disjoint (shares_of ns) && leb (quota_sum (shares_of ns)) most))
    unfolding shares_within
    within_few h = rw (e, le-leb (length (shares_of ns)) most_tenants (omega (arith, shares_length ns)))

-- ranges of a list that is right
pub within_ranges : (most : ℕ) (ns : List ℕ) → shares_within most ns ≡ true → all range_ok (shares_of ns) ≡ true
unfolding shares_within
within_ranges most ns e =
    let xs = shares_of ns in
    and_left (all range_ok xs) (disjoint xs && leb (quota_sum xs) most) (and_right (leb (length xs) most_tenants) _ (and_right (eqb (length ns % 3) 0) _ e))

pub sum_tested : (sum quotas most : ℕ) {x : Bool} → sum ≡ quotas → x ≡ leb quotas most → leb sum most ≡ x
sum_tested sum quotas most e h = rw e (sym h)

-- ---- tenants

pub share_index : (ns : List ℕ) (at i : ℕ) (d : Share) → at + i * 3 + 3 ≤ length ns → get_or (shares_from ns at) i d ≡ share_at ns (at + i * 3)
share_index ns at zero d h = rw (shares_next ns at (omega arith)) (ap (share_at ns) (omega arith))
share_index ns at (suc i) d h = rw (shares_next ns at (omega arith)) (share_index ns (at + 3) i d (omega arith) ∙ ap (share_at ns) (omega arith))

module _ (ns : List ℕ) (a : ℕ) where
  pub tenant_none : a < 1 → false ≡ is_tenant (shares_of ns) a
  unfolding is_tenant
  tenant_none h = rw (le-ltb 0 a (omega arith))

  pub tenant_some : 0 < a → leb a (length ns / 3) ≡ is_tenant (shares_of ns) a
  unfolding is_tenant
  tenant_some h = rw (lt-ltb 0 a h, shares_length ns)

  pub stranger : (b : ℕ) → is_tenant (shares_of ns) a ≡ false → false ≡ owns (shares_of ns) a b
  unfolding owns
  stranger b e = rw e

  pub owner_tenant : (b : ℕ) → owns (shares_of ns) a b ≡ true → is_tenant (shares_of ns) a ≡ true
  unfolding owns
  owner_tenant b e = and_left (is_tenant (shares_of ns) a) _ e

  module _ (e : is_tenant (shares_of ns) a ≡ true) where
    pub tenant_first : 0 < a
    unfolding is_tenant
    tenant_first = ltb-true 0 a (and_left (ltb 0 a) (leb a (length (shares_of ns))) e)

    tenant_last : a ≤ length (shares_of ns)
    unfolding is_tenant
    tenant_last = leb-true a (length (shares_of ns)) (and_right (ltb 0 a) (leb a (length (shares_of ns))) e)

    -- a tenant has three numbers in the list, and they are its share
    module _ (at : ℕ) (p : at ≡ (a - 1) * 3) where
      pub tenant_inside : at + 3 ≤ length ns
      tenant_inside = omega (arith, tenant_first, tenant_last, shares_length ns)

      pub tenant_share : share_of (shares_of ns) a ≡ share_at ns at
      unfolding share_of
      tenant_share = share_index ns 0 (a - 1) _ (omega (arith, tenant_inside)) ∙ ap (share_at ns) (omega arith)

      pub owns_below : (b : ℕ) → b < get_or ns at 0 → false ≡ owns (shares_of ns) a b
      unfolding owns
      owns_below b h = rw (e, tenant_share, lt-leb (get_or ns at 0) b h)

      pub owns_from : (b : ℕ) → get_or ns at 0 ≤ b → leb b (get_or ns (at + 1) 0) ≡ owns (shares_of ns) a b
      unfolding owns
      owns_from b h = rw (e, tenant_share, le-leb (get_or ns at 0) b h)

      -- both ends of its range are numbers that a block can have
      module _ (k : all range_ok (shares_of ns) ≡ true) where
        tenant_range : range_ok (share_at ns at) ≡ true
        unfolding share_of
        tenant_range = rw tenant_share at (all_get range_ok (shares_of ns) (a - 1) (record { first = 0; last = 0; quota = 0 }) k (omega (arith, tenant_first, tenant_last)))

        pub first_small : get_or ns at 0 < 65536
        unfolding range_ok
        first_small = number_small (get_or ns at 0) (and_left (number_ok (get_or ns at 0)) _ tenant_range)

        pub last_small : get_or ns (at + 1) 0 < 65536
        unfolding range_ok
        last_small = number_small (get_or ns (at + 1) 0) (and_left (number_ok (get_or ns (at + 1) 0)) _ (and_right (number_ok (get_or ns at 0)) _ tenant_range))
