-- The digits that `io` writes are those of the definition.
use Prim.Native.Nat.{ℕ, zero, suc, ◌+◌, ◌-◌, ◌*◌, ◌/◌, ◌%◌, ◌^◌, ◌<◌, ◌≤◌}
use mathlib.Core.Path.{◌≡◌, refl, subst, ap}
use mathlib.Core.Bool.{Bool, true, false}
use mathlib.Core.List.{List, [], ◌∷◌, ◌++◌}
use native.Mathlib.Nat.{mod-lt, mod-eq_of_lt, pow-suc, pow-le-pow_right}
use native.Mathlib.Omega.{arith}
use lib.Dec.{ltb}
use borrow.Author.Tests.{lt-ltb, le-ltb, ltb-true, ltb-false}
use Rattle.io.specs.Digits.{hex_digit_ascii, last_digits, IsDigitCount}
use Rattle.text.specs.Decimal.{decimal_of}

glyph_digit : (d : ℕ) → d < 10 → hex_digit_ascii d ≡ 48 + d
glyph_digit d h = rw (lt-ltb d 10 h)

pub digits_decimal : (k r n : ℕ) → r ≤ suc k → IsDigitCount 10 1 n r → last_digits 10 r n ≡ decimal_of k n
unfolding decimal_of
digits_decimal k zero n l f = absurd (omega arith)
digits_decimal zero (suc zero) n l f = rw (glyph_digit (n % 10) (mod-lt n (omega arith)))
digits_decimal (suc k) (suc zero) n l f =
    let h : n < 10 = f.1 in
    let m : n % 10 ≡ n = mod-eq_of_lt h in
    rw (lt-ltb n 10 h, m, glyph_digit n h)
digits_decimal zero (suc (suc r)) n l f = absurd (omega arith)
digits_decimal (suc k) (suc (suc r)) n l f =
    let p = 10 ^ suc r in
    let below : n < p * 10 = rw (pow-suc 10 (suc r)) at f.1 in
    let e : suc (suc r) - 1 ≡ suc r = omega arith in
    let above : p ≤ n = subst (λ (k : ℕ). 10 ^ k ≤ n) e (f.2 (omega arith)) in
    let tenth : 10 ^ r * 10 ≤ n = rw (pow-suc 10 r) at above in
    let whole : 0 < 10 ^ r = pow-le-pow_right {n = 10} (omega arith) {i = 0} {j = r} (omega arith) in
    let e' : suc r - 1 ≡ r = omega arith in
    let least : 10 ^ (suc r - 1) ≤ n / 10 = rw e' (omega arith) in
    let ih : last_digits 10 (suc r) (n / 10) ≡ decimal_of k (n / 10) = digits_decimal k (suc r) (n / 10) (omega arith) (omega arith, omega arith, λ _. least) in
    rw (le-ltb n 10 (omega arith), glyph_digit (n % 10) (mod-lt n (omega arith))) (ap (λ (t : List ℕ). t ++ ((48 + n % 10) ∷ [])) ih)

-- 64 bits take 20 digits or fewer
pub digits_few : (r n : ℕ) → n < 18446744073709551616 → IsDigitCount 10 1 n r → r ≤ 20
digits_few r n h f = go (ltb 20 r) refl where
  go : (t : Bool) → ltb 20 r ≡ t → r ≤ 20
  go false e = ltb-false 20 r e
  go true e =
      let l : 20 < r = ltb-true 20 r e in
      let p : 10 ^ 20 ≤ 10 ^ (r - 1) = pow-le-pow_right {n = 10} (omega arith) {i = 20} {j = r - 1} (omega arith) in
      let q : 10 ^ (r - 1) ≤ n = f.2 (omega arith) in
      absurd (omega arith)
