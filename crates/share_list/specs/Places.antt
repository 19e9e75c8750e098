-- A list of shares by the places of its numbers.
use Rattle.std.specs.Prelude.{ℕ, ◌+◌, ◌-◌, ◌*◌, ◌%◌, ◌≤◌, ◌≡◌, Bool, not, List, length, get_or, drop}
use Rattle.model.specs.Lists.{all}
use Rattle.shares.specs.Shares.{Share, most_tenants, shares_of, overlap}
use Rattle.share_list.specs.declared.Part.{Part}

abbrev pub most_numbers : ℕ
most_numbers = 3 * most_tenants

-- the share whose three numbers begin at a place
abbrev pub share_at : List ℕ → ℕ → Share
share_at ns at = record { first = get_or ns at 0; last = get_or ns (at + 1) 0; quota = get_or ns (at + 2) 0 }

-- the shares from a place on
abbrev pub shares_from : List ℕ → ℕ → List Share
shares_from ns at = shares_of (drop at ns)

-- whole shares are left from a place on, or none
abbrev pub Stands : List ℕ → ℕ → Type 0
Stands ns at = (at ≤ length ns) × ((length ns - at) % 3 ≡ 0)

-- the share at one place overlaps none from another on
abbrev pub clear_of : List ℕ → ℕ → ℕ → Bool
clear_of ns one at = all (λ y. not (overlap (share_at ns one) y)) (shares_from ns at)

-- the share that a part tells
unfoldable pub share_in : Part → Share
share_in p = record { first = p.first.0; last = p.last.0; quota = p.quota }
