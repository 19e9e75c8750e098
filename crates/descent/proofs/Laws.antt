-- The largest of a table's numbers, one after the other.
use Prim.Native.Nat.{ℕ, suc, ◌+◌, ◌-◌, ◌≤◌, ◌<◌, max}
use mathlib.Core.Path.{◌≡◌}
use mathlib.Core.List.{List}
use native.Mathlib.Omega.{arith}
use native.Mathlib.Numerals.{add-one}
use native.Mathlib.Nat.{sub-zero}
use lib.ListN.{length, get_or, take, drop}
use lib.Seq.{drop-cons}
use Rattle.descent.specs.Descent.{largest}

pub largest_start : (n : ℕ) (left : List ℕ) → max 0 (largest (take (n - 0) (drop 0 left))) ≡ largest (take n left)
largest_start n left = rw (sub-zero n) (omega arith)

pub largest_more : (n i most : ℕ) (left : List ℕ) → i < n → i < length left → max (max most (get_or left i 0)) (largest (take (n - (i + 1)) (drop (i + 1) left))) ≡ max most (largest (take (n - i) (drop i left)))
largest_more n i most left h k =
    let d : n - i ≡ suc (n - (i + 1)) = omega arith in
    rw (d, drop-cons left i 0 k, add-one i) (unfold largest in (omega arith))

pub largest_end : (n i most : ℕ) (left : List ℕ) → n ≤ i → max most (largest (take (n - i) (drop i left))) ≡ most
largest_end n i most left h = let d : n - i ≡ 0 = omega arith in rw d (unfold largest in (omega arith))
