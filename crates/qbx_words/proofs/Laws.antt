-- A word that is missing.
use Prim.Native.Nat.{ℕ}
use mathlib.Core.Path.{◌≡◌, refl}
use mathlib.Core.List.{List, [], ◌∷◌}
use native.Mathlib.Omega.{arith}
use lib.ListN.{length}
use lib.Dec.{eqb}
use borrow.Author.Tests.{ne_eqb}
use Rattle.qbx_words.specs.Command.{is_missing}

pub missing_length : (w : List ℕ) → eqb (length w) 0 ≡ is_missing w
unfolding is_missing
missing_length [] = refl
missing_length (x ∷ w) = ne_eqb (length (x ∷ w)) 0 (λ e. omega arith)
