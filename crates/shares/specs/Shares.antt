-- Request #110, "Shares for tenants": the list of shares, and whose a block is.
use Rattle.std.specs.Prelude.{ℕ, ◌+◌, ◌-◌, ◌%◌, Bool, true, ◌&&◌, not, List, [], ◌∷◌, length, get_or, ltb, leb, eqb}
use Rattle.model.specs.Lists.{all}
use Rattle.model.specs.Slot.{number_ok}
use Rattle.model.specs.State.{capacity}

-- a tenant's range of block numbers, first to last, and how many of them it may have stored
pub record Share : Type 0 where
  pub first : ℕ
  pub last : ℕ
  pub quota : ℕ

abbrev pub most_tenants : ℕ
most_tenants = 40

-- three numbers for each tenant
unfoldable pub shares_of : List ℕ → List Share
shares_of [] = []
shares_of (f ∷ []) = []
shares_of (f ∷ l ∷ []) = []
shares_of (f ∷ l ∷ q ∷ ns) = record { first = f; last = l; quota = q } ∷ shares_of ns

-- ---- a list that is right; one that breaks this answers 13

-- "a range of block numbers (first to last, not empty)"
unfoldable pub range_ok : Share → Bool
range_ok x = number_ok x.first && (number_ok x.last && leb x.first x.last)

-- a number is in both ranges
unfoldable pub overlap : Share → Share → Bool
overlap x y = leb x.first y.last && leb y.first x.last

-- "ranges disjoint"
unfoldable pub disjoint : List Share → Bool
disjoint [] = true
disjoint (x ∷ xs) = all (λ y. not (overlap x y)) xs && disjoint xs

unfoldable pub quota_sum : List Share → ℕ
quota_sum [] = 0
quota_sum (x ∷ xs) = x.quota + quota_sum xs

-- up to 40 tenants, whose quotas add up to at most so many blocks
unfoldable pub shares_within : ℕ → List ℕ → Bool
shares_within most ns = let xs = shares_of ns in
    eqb (length ns % 3) 0 && (leb (length xs) most_tenants && (all range_ok xs && (disjoint xs && leb (quota_sum xs) most)))

-- and that is C
unfoldable pub shares_ok : ℕ → ℕ → List ℕ → Bool
shares_ok N B ns = shares_within (capacity N B) ns

-- ---- tenants, named by their place in the list, from 1

unfoldable pub is_tenant : List Share → ℕ → Bool
is_tenant xs a = ltb 0 a && leb a (length xs)

-- its share; one that is not in the list has none, and nothing asks for it
unfoldable pub share_of : List Share → ℕ → Share
share_of xs a = get_or xs (a - 1) (record { first = 0; last = 0; quota = 0 })

-- block b is tenant a's; "foreign numbers and unknown tenants" are not
unfoldable pub owns : List Share → ℕ → ℕ → Bool
owns xs a b = let x = share_of xs a in is_tenant xs a && (leb x.first b && leb b x.last)
