-- The way of the code through a file: where a part ends, and numbers put behind those that are there.
use Rattle.std.specs.Prelude.{ℕ, zero, suc, ◌+◌, ◌≤◌, min, ◌≡◌, Bool, cond, List, [], ◌∷◌, ◌++◌, length, take, drop}
use Rattle.qbx_share_file.specs.AnyFile.{over}

-- how many bytes come before the first of a kind
unfoldable pub reach : (ℕ → Bool) → List ℕ → ℕ
reach parted [] = zero
reach parted (b ∷ s) = cond (parted b) zero (suc (reach parted s))

-- numbers put behind the first `count` of a list
unfoldable pub behind : {T : Type 0} → ℕ → List T → List T → List T
behind count ns lent = take count lent ++ over ns (drop count lent)

-- some numbers are in the list, whatever follows them
pub record Kept {T : Type 0} (ns : List T) (count : ℕ) (lent : List T) (next : ℕ) (after : List T) : Type 0 where
  pub puts : (more : List T) → behind count (ns ++ more) lent ≡ behind next more after
  pub counts : (more : ℕ) → min (count + (length ns + more)) (length lent) ≡ min (next + more) (length lent)
  pub within : next ≤ length lent
  pub long : length after ≡ length lent
