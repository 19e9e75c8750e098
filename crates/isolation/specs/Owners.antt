-- Laws of a list of shares: a block has one owner, and while each tenant keeps to its quota there are at most as many blocks as all quotas together.
use Rattle.std.specs.Prelude.{ℕ, zero, suc, ◌+◌, ◌-◌, ◌%◌, ◌≤◌, ◌<◌, ◌≡◌, refl, Bool, true, false, cond, ◌||◌, ◌&&◌, not, List, [], ◌∷◌, length, get_or, ltb, leb, eqb}
use Rattle.std.proofs.Common.{sym, ap, ◌∙◌, true≢false, arith, ltb-true, leb-true, lt-ltb, le-leb, eq-eqb}
use Rattle.std.proofs.lemmas.Bool.{not-true}
use Rattle.model.specs.Lists.{all}
use Rattle.model.specs.Slot.{Entry}
use Rattle.model.specs.State.{holds, capacity}
use Rattle.model.specs.Table.{Table, live_between}
use Rattle.model.specs.Laws.Lists.{and_left, and_right, and_both, all_get}
use Rattle.shares.specs.Shares.{Share, most_tenants, shares_of, range_ok, overlap, disjoint, quota_sum, shares_within, shares_ok, is_tenant, share_of, owns}
use Rattle.isolation.specs.Live.{in_range, live_cons}

-- the share at a place, and what nobody asks for behind the last
abbrev nobody : Share
nobody = record { first = 0; last = 0; quota = 0 }

abbrev at : List Share → ℕ → Share
at xs i = get_or xs i nobody

-- a block of a share's range
abbrev pub covers : Share → ℕ → Bool
covers x b = in_range x.first x.last b

abbrev pub live : Share → Table → ℕ
live x t = live_between x.first x.last t

-- ---- a tenant is a place in the list

place : (xs : List Share) (a : ℕ) → is_tenant xs a ≡ true → (0 < a) × (a - 1 < length xs)
unfolding is_tenant
place xs a h =
    let p = ltb-true 0 a (and_left (ltb 0 a) (leb a (length xs)) h) in
    let l = leb-true a (length xs) (and_right (ltb 0 a) (leb a (length xs)) h) in
    (p, omega (arith, p, l))

pub owner_tenant : (xs : List Share) (a b : ℕ) → owns xs a b ≡ true → is_tenant xs a ≡ true
unfolding owns
owner_tenant xs a b h = and_left (is_tenant xs a) (covers (share_of xs a) b) h

pub owner_covers : (xs : List Share) (a b : ℕ) → owns xs a b ≡ true → covers (share_of xs a) b ≡ true
unfolding owns
owner_covers xs a b h = and_right (is_tenant xs a) (covers (share_of xs a) b) h

pub covers_owner : (xs : List Share) (a b : ℕ) → is_tenant xs a ≡ true → covers (share_of xs a) b ≡ true → owns xs a b ≡ true
unfolding owns
covers_owner xs a b h k = and_both (is_tenant xs a) (covers (share_of xs a) b) h k

-- ---- one owner

both_overlap : (x y : Share) (b : ℕ) → covers x b ≡ true → covers y b ≡ true → overlap x y ≡ true
unfolding overlap
both_overlap x y b p q =
    let lx = leb-true x.first b (and_left (leb x.first b) (leb b x.last) p) in
    let hx = leb-true b x.last (and_right (leb x.first b) (leb b x.last) p) in
    let ly = leb-true y.first b (and_left (leb y.first b) (leb b y.last) q) in
    let hy = leb-true b y.last (and_right (leb y.first b) (leb b y.last) q) in
    and_both (leb x.first y.last) (leb y.first x.last) (le-leb x.first y.last (omega (arith, lx, hy))) (le-leb y.first x.last (omega (arith, ly, hx)))

one_place : (xs : List Share) (b i j : ℕ) → disjoint xs ≡ true → i < length xs → j < length xs → covers (at xs i) b ≡ true → covers (at xs j) b ≡ true → i ≡ j
unfolding disjoint
one_place [] b i j d p q h k = absurd (omega (arith, p))
one_place (x ∷ xs) b zero zero d p q h k = refl
one_place (x ∷ xs) b zero (suc j) d p q h k = absurd (true≢false (sym (both_overlap x (at xs j) b h k)
    ∙ not-true (overlap x (at xs j)) (all_get (λ y. not (overlap x y)) xs j nobody (and_left (all (λ y. not (overlap x y)) xs) (disjoint xs) d) (omega (arith, q)))))
one_place (x ∷ xs) b (suc i) zero d p q h k = absurd (true≢false (sym (both_overlap x (at xs i) b k h)
    ∙ not-true (overlap x (at xs i)) (all_get (λ y. not (overlap x y)) xs i nobody (and_left (all (λ y. not (overlap x y)) xs) (disjoint xs) d) (omega (arith, p)))))
one_place (x ∷ xs) b (suc i) (suc j) d p q h k =
    ap suc (one_place xs b i j (and_right (all (λ y. not (overlap x y)) xs) (disjoint xs) d) (omega (arith, p)) (omega (arith, q)) h k)

right_disjoint : (N B : ℕ) (ns : List ℕ) → shares_ok N B ns ≡ true → (disjoint (shares_of ns) ≡ true) × (quota_sum (shares_of ns) ≤ capacity N B)
unfolding shares_ok shares_within
right_disjoint N B ns h =
    let xs = shares_of ns in
    let fits = disjoint xs && leb (quota_sum xs) (capacity N B) in
    let few = and_right (eqb (length ns % 3) 0) (leb (length xs) most_tenants && (all range_ok xs && fits)) h in
    let ranges = and_right (leb (length xs) most_tenants) (all range_ok xs && fits) few in
    let apart = and_right (all range_ok xs) fits ranges in
    (and_left (disjoint xs) (leb (quota_sum xs) (capacity N B)) apart, leb-true (quota_sum xs) (capacity N B) (and_right (disjoint xs) (leb (quota_sum xs) (capacity N B)) apart))

pub one_owner : (N B : ℕ) (ns : List ℕ) (a o b : ℕ) → shares_ok N B ns ≡ true → owns (shares_of ns) a b ≡ true → owns (shares_of ns) o b ≡ true → a ≡ o
unfolding share_of
one_owner N B ns a o b right h k =
    let xs = shares_of ns in
    let p = place xs a (owner_tenant xs a b h) in
    let q = place xs o (owner_tenant xs o b k) in
    let e = one_place xs b (a - 1) (o - 1) (right_disjoint N B ns right).0 p.1 q.1 (owner_covers xs a b h) (owner_covers xs o b k) in
    omega (arith, e, p.0, q.0)

-- ---- all quotas together

live_sum : List Share → Table → ℕ
live_sum [] t = 0
live_sum (x ∷ xs) t = live x t + live_sum xs t

-- an entry more counts at least where it is covered
sum_more : (xs : List Share) (e : Entry) (t : Table) → live_sum xs t ≤ live_sum xs (e ∷ t)
unfolding live_sum
sum_more [] e t = omega arith
sum_more (x ∷ xs) e t = go (covers x e.block) (live_cons x.first x.last e t) (sum_more xs e t)
  where
    go : (y : Bool) → live x (e ∷ t) ≡ cond y (suc (live x t)) (live x t) → live_sum xs t ≤ live_sum xs (e ∷ t) → live x t + live_sum xs t ≤ live x (e ∷ t) + live_sum xs (e ∷ t)
    go true q ih = omega (arith, q, ih)
    go false q ih = omega (arith, q, ih)

sum_covered : (xs : List Share) (i : ℕ) (e : Entry) (t : Table) → i < length xs → covers (at xs i) e.block ≡ true → suc (live_sum xs t) ≤ live_sum xs (e ∷ t)
unfolding live_sum
sum_covered [] i e t l h = absurd (omega (arith, l))
sum_covered (x ∷ xs) zero e t l h = let one : live x (e ∷ t) ≡ suc (live x t) = live_cons x.first x.last e t ∙ rw h in omega (arith, one, sum_more xs e t)
sum_covered (x ∷ xs) (suc i) e t l h = go (covers x e.block) (live_cons x.first x.last e t) (sum_covered xs i e t (omega (arith, l)) h)
  where
    go : (y : Bool) → live x (e ∷ t) ≡ cond y (suc (live x t)) (live x t) → suc (live_sum xs t) ≤ live_sum xs (e ∷ t) → suc (live x t + live_sum xs t) ≤ live x (e ∷ t) + live_sum xs (e ∷ t)
    go true q ih = omega (arith, q, ih)
    go false q ih = omega (arith, q, ih)

-- every block of the table has an owner
abbrev pub Owned : List Share → Table → Type 0
Owned xs t = (b : ℕ) → holds b t ≡ true → (a : ℕ) × (owns xs a b ≡ true)

-- and no tenant has more than its quota
abbrev pub WithinQuotas : List Share → Table → Type 0
WithinQuotas xs t = (a : ℕ) → is_tenant xs a ≡ true → live (share_of xs a) t ≤ (share_of xs a).quota

owned_sum : (xs : List Share) (t : Table) → Owned xs t → length t ≤ live_sum xs t
unfolding holds share_of
owned_sum xs [] o = omega arith
owned_sum xs (e ∷ t) o =
    let w = o e.block (rw (eq-eqb e.block e.block refl)) in
    let p = place xs w.0 (owner_tenant xs w.0 e.block w.1) in
    let ih = owned_sum xs t (λ b h. o b (later b h)) in
    omega (arith, ih, sum_covered xs (w.0 - 1) e t p.1 (owner_covers xs w.0 e.block w.1))
  where
    later : (b : ℕ) → holds b t ≡ true → (eqb b e.block || holds b t) ≡ true
    later b h = go (eqb b e.block)
      where
        go : (x : Bool) → (x || holds b t) ≡ true
        go true = refl
        go false = h

quota_sum_lem : (xs : List Share) (t : Table) → ((i : ℕ) → i < length xs → live (at xs i) t ≤ (at xs i).quota) → live_sum xs t ≤ quota_sum xs
unfolding live_sum quota_sum
quota_sum_lem [] t h = omega arith
quota_sum_lem (x ∷ xs) t h = omega (arith, h 0 (omega arith), quota_sum_lem xs t (λ i l. h (suc i) (omega (arith, l))))

below_sum : (xs : List Share) (j : ℕ) (t : Table) → j < length xs → ((i : ℕ) → i < length xs → live (at xs i) t ≤ (at xs i).quota) → live (at xs j) t < (at xs j).quota → live_sum xs t < quota_sum xs
unfolding live_sum quota_sum
below_sum [] j t l h k = absurd (omega (arith, l))
below_sum (x ∷ xs) zero t l h k = omega (arith, k, quota_sum_lem xs t (λ i m. h (suc i) (omega (arith, m))))
below_sum (x ∷ xs) (suc j) t l h k = omega (arith, h 0 (omega arith), below_sum xs j t (omega (arith, l)) (λ i m. h (suc i) (omega (arith, m))) k)

-- tenants are counted from 1, places from 0
share_next : (xs : List Share) (i : ℕ) → share_of xs (suc i) ≡ at xs i
unfolding share_of
share_next xs i = ap (λ (k : ℕ). at xs k) (omega arith)

-- so a tenant below its quota finds room
pub room_for_tenant : (N B : ℕ) (ns : List ℕ) (a : ℕ) (t : Table) → shares_ok N B ns ≡ true → Owned (shares_of ns) t → WithinQuotas (shares_of ns) t → is_tenant (shares_of ns) a ≡ true
    → live (share_of (shares_of ns) a) t < (share_of (shares_of ns) a).quota → length t < capacity N B
unfolding share_of is_tenant
room_for_tenant N B ns a t right o q h k = omega (arith, owned_sum xs t o, below_sum xs (a - 1) t (place xs a h).1 each k, (right_disjoint N B ns right).1)
  where
    xs : List Share
    xs = shares_of ns

    each : (i : ℕ) → i < length xs → live (at xs i) t ≤ (at xs i).quota
    each i l = rw (← (share_next xs i)) (q (suc i) (and_both (ltb 0 (suc i)) (leb (suc i) (length xs)) (lt-ltb 0 (suc i) (omega arith)) (le-leb (suc i) (length xs) (omega (arith, l)))))
