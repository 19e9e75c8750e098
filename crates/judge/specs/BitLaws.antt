-- What is in a set of numbers after one is put in; the empty set. Laws for words of any width z.
use Rattle.std.specs.Prelude.{ℕ, suc, ◌+◌, ◌-◌, ◌*◌, ◌/◌, ◌%◌, ◌^◌, ◌<◌, max, ◌≡◌, true, false, List, length, get_or, replicate}
use Rattle.std.proofs.Common.{sym, ap, ap₂, ◌∙◌, arith, mul-div_cancel, pow-suc, div-add-mod', pow-add, pow_pos, get_or-set_same, get_or-set_other}
use Rattle.std.proofs.Math.Decide.{dec_lt, ℕ_discrete}
use Rattle.std.proofs.Math.Nat.{mul-add-mod_self_right, mul-mod_left, max-zero, div-eq_of_lt, div_self, zero-div}
use Rattle.std.proofs.Math.Pow.{pow-lt}
use Rattle.std.proofs.lemmas.List.{get_or-replicate, length-replicate}
use Rattle.std.proofs.Math.ListN.{get_or-eq_default}
use Rattle.std.proofs.Math.Seq.{set_out}
use Rattle.std.specs.Int.Bits.{bit_or, or_step}
use Rattle.std.proofs.lemmas.Nat.{or_shr}
use Rattle.judge.specs.Bitmap.{in_bits, put_bit}

-- digit j of a word, and of a power of two
or_digit : (a b j : ℕ) → bit_or a b / 2 ^ j % 2 ≡ max (a / 2 ^ j % 2) (b / 2 ^ j % 2)
or_digit a b j =
    let x = a / 2 ^ j in let y = b / 2 ^ j in
    let m : max (x % 2) (y % 2) < 2 = omega arith in
    ap (λ (n : ℕ). n % 2) (or_shr a b j ∙ or_step x y) ∙ mul-add-mod_self_right (bit_or (x / 2) (y / 2)) 2 (max (x % 2) (y % 2)) ∙ omega arith

power_above : (j d : ℕ) → 2 ^ (j + suc d) / 2 ^ j % 2 ≡ 0
power_above j d =
    let e : j + suc d ≡ suc d + j = omega arith in
    rw (e, pow-add, mul-div_cancel (2 ^ suc d) (pow_pos j), pow-suc) (mul-mod_left (2 ^ d) 2)

power_other : (j k : ℕ) → (j ≡ k → ⊥) → 2 ^ k / 2 ^ j % 2 ≡ 0
power_other j k n = elim (dec_lt j k) [
  | yes p ↦ (let e : k ≡ j + suc (k - j - 1) = omega arith in rw e (power_above j (k - j - 1)))
  | no p ↦ rw (div-eq_of_lt (pow-lt {i = k} {j = j} (omega arith)))
]

put_same : (a k : ℕ) → bit_or a (2 ^ k) / 2 ^ k % 2 ≡ 1
put_same a k = or_digit a (2 ^ k) k ∙ (rw (div_self (pow_pos k)) (omega arith))

put_other : (a j k : ℕ) → (j ≡ k → ⊥) → bit_or a (2 ^ k) / 2 ^ j % 2 ≡ a / 2 ^ j % 2
put_other a j k n = or_digit a (2 ^ k) j ∙ rw (power_other j k n, max-zero)

pub in_same : (z : ℕ) (s : List ℕ) (x : ℕ) → x / z < length s → in_bits z (put_bit z s x) x ≡ true
unfolding in_bits put_bit
in_same z s x h = rw (get_or-set_same s (x / z) _ 0 h, put_same)

pub in_other : (z : ℕ) (s : List ℕ) (x y : ℕ) → (y ≡ x → ⊥) → in_bits z (put_bit z s x) y ≡ in_bits z s y
unfolding in_bits put_bit
in_other z s x y n =
    elim (ℕ_discrete (y / z) (x / z)) [
      | no p ↦ rw (get_or-set_other s (x / z) (y / z) _ 0 p)
      | yes p ↦ elim (dec_lt (x / z) (length s)) [
        | no q ↦ rw (set_out s (x / z) _ (omega arith))
        | yes q ↦ (let d : y % z ≡ x % z → ⊥ = λ e. n (sym (div-add-mod' y z) ∙ ap₂ (λ (u v : ℕ). u * z + v) p e ∙ div-add-mod' x z) in
            rw (p, get_or-set_same s (x / z) _ 0 q, put_other (get_or s (x / z) 0) (y % z) (x % z) d))
      ]
    ]

pub in_none : (z n x : ℕ) → in_bits z (replicate n 0) x ≡ false
unfolding in_bits
in_none z n x =
    elim (dec_lt (x / z) n) [
      | yes p ↦ rw (get_or-replicate {A = ℕ} n (x / z) 0 0 p, zero-div)
      | no p ↦ rw (get_or-eq_default {A = ℕ} (replicate n 0) 0 {n = x / z} (omega (arith, length-replicate {A = ℕ} n 0)), zero-div)
    ]
