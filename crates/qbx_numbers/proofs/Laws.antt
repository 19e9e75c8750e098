-- Decimal numbers: reading one digit more.
use Prim.Native.Nat.{ℕ, suc, ◌+◌, ◌-◌, ◌*◌, ◌<◌, ◌≤◌}
use mathlib.Core.Path.{◌≡◌, refl}
use mathlib.Core.Bool.{Bool, true, false, cond, ◌&&◌}
use mathlib.Core.List.{List, [], ◌∷◌}
use native.Mathlib.Numerals.{add-one}
use native.Mathlib.Omega.{arith}
use lib.ListN.{length, drop, get_or, drop_of_length-le}
use lib.Seq.{drop-cons}
use lib.Dec.{ltb}
use borrow.Author.Tests.{lt-ltb, le-ltb}
use Rattle.qbx_numbers.specs.Number.{is_digit, digit_of, all_digits, value_from, number_bound, number_from, number_of}
use Rattle.std.specs.Prelude.{Some, None}

pub read_start : (s : List ℕ) → (length s ≡ 0 → ⊥) → number_of s ≡ number_from 0 s
unfolding number_of
read_start [] n = absurd (n refl)
read_start (b ∷ s) n = refl

pub read_none : (s : List ℕ) → length s ≡ 0 → number_of s ≡ None
unfolding number_of
read_none [] e = refl
read_none (b ∷ s) e = absurd (omega arith)

given : (t : Bool) (d n : ℕ) → Some d ≡ cond t (Some n) None → (t ≡ true) × (d ≡ n)
given true d n e = (refl, cc)
given false d n e = absurd cc

missed : (t : Bool) (n : ℕ) → None ≡ cond t (Some n) None → t ≡ false
missed true n e = absurd cc
missed false n e = refl

up_to : (b : ℕ) → is_digit b ≡ true → b < 58
unfolding is_digit
up_to b e = grind (arith, e)

-- a byte with a digit is one, and of its value
pub digit_says : (b d : ℕ) → Some d ≡ digit_of b → (is_digit b ≡ true) × (d ≡ b - 48)
unfolding digit_of
digit_says b d e = given (is_digit b) d (b - 48) e

pub digit_below : (b d : ℕ) → Some d ≡ digit_of b → d < 10
digit_below b d e = let s = digit_says b d e in omega (arith, s.1, up_to b s.0)

pub read_next : (s : List ℕ) (i v d : ℕ) → i < length s → Some d ≡ digit_of (get_or s i 0) → number_from v (drop i s) ≡ number_from (10 * v + d) (drop (i + 1) s)
unfolding number_from all_digits value_from
read_next s i v d h e =
    let w = digit_says (get_or s i 0) d e in
    rw (drop-cons s i 0 h, w.0, w.1, add-one)

pub read_stop : (s : List ℕ) (i v : ℕ) → i < length s → None ≡ digit_of (get_or s i 0) → number_from v (drop i s) ≡ None
unfolding number_from all_digits digit_of
read_stop s i v h e = rw (drop-cons s i 0 h, missed (is_digit (get_or s i 0)) (get_or s i 0 - 48) e)

from_grows : (v : ℕ) (s : List ℕ) → v ≤ value_from v s
unfolding value_from
from_grows v [] = omega arith
from_grows v (b ∷ s) = omega (arith, from_grows (10 * v + (b - 48)) s)

both_false : (a b : Bool) → b ≡ false → (a && b) ≡ false
both_false true b e = e
both_false false b e = refl

pub read_large : (s : List ℕ) (i v : ℕ) → i < length s → 1000000000000000000 ≤ v → number_from v (drop i s) ≡ None
unfolding number_from number_bound value_from
read_large s i v h l =
    let b = get_or s i 0 in
    let r = drop (suc i) s in
    let t : ltb (value_from (10 * v + (b - 48)) r) 10000000000000000000 ≡ false = le-ltb (value_from (10 * v + (b - 48)) r) 10000000000000000000 (omega (arith, from_grows (10 * v + (b - 48)) r)) in
    rw (drop-cons s i 0 h, both_false (all_digits (b ∷ r)) (ltb (value_from (10 * v + (b - 48)) r) 10000000000000000000) t)

pub read_end : (s : List ℕ) (i v : ℕ) → length s ≤ i → v < 10000000000000000000 → number_from v (drop i s) ≡ Some v
unfolding number_from number_bound value_from all_digits
read_end s i v h l = rw (drop_of_length-le s h, lt-ltb v 10000000000000000000 l)
