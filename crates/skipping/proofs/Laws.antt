-- Entries of 0, eight joined, and passed over.
use Prim.Native.Nat.{ℕ, zero, suc, ◌+◌, ◌-◌, ◌≤◌, ◌<◌}
use mathlib.Core.Path.{◌≡◌}
use mathlib.Core.Bool.{true}
use native.Mathlib.Omega.{arith}
use native.Mathlib.Decide.{dec_lt}
use lib.ListN.{length, get_or, take, drop, length-take, length-drop}
use lib.Seq.{get_or-take, get_or-drop}
use lib.Bits.{bit_or, and_le_l, and_le_r, or_add_and}
use lib.Dec.{eqb}
use borrow.Author.Tests.{eqb-true}
use Rattle.model.specs.Mounted.{Places, least_places}
use Rattle.skipping.specs.Passed.{AllNone, Passed}

or_none : (a b : ℕ) → bit_or a b ≡ 0 → (a ≡ 0) × (b ≡ 0)
or_none a b e = (omega (arith, or_add_and a b, and_le_r a b), omega (arith, or_add_and a b, and_le_l a b))

eight : (f : ℕ → ℕ) → f 0 ≡ 0 → f 1 ≡ 0 → f 2 ≡ 0 → f 3 ≡ 0 → f 4 ≡ 0 → f 5 ≡ 0 → f 6 ≡ 0 → f 7 ≡ 0 → (k : ℕ) → k < 8 → f k ≡ 0
eight f a b c d e g h i zero l = a
eight f a b c d e g h i (suc zero) l = b
eight f a b c d e g h i (suc (suc zero)) l = c
eight f a b c d e g h i (suc (suc (suc zero))) l = d
eight f a b c d e g h i (suc (suc (suc (suc zero)))) l = e
eight f a b c d e g h i (suc (suc (suc (suc (suc zero))))) l = g
eight f a b c d e g h i (suc (suc (suc (suc (suc (suc zero)))))) l = h
eight f a b c d e g h i (suc (suc (suc (suc (suc (suc (suc zero))))))) l = i
eight f a b c d e g h i (suc (suc (suc (suc (suc (suc (suc (suc k)))))))) l = absurd (omega arith)

-- eight entries joined
pub none_joined : (t : Places) → length t ≡ 8
    → (eqb (bit_or (bit_or (bit_or (bit_or (bit_or (bit_or (bit_or (get_or t 0 0) (get_or t 1 0)) (get_or t 2 0)) (get_or t 3 0)) (get_or t 4 0)) (get_or t 5 0)) (get_or t 6 0)) (get_or t 7 0)) 0 ≡ true) → AllNone t
none_joined t l e =
    let h = or_none _ (get_or t 7 0) (eqb-true _ 0 e) in
    let g = or_none _ (get_or t 6 0) h.0 in
    let f = or_none _ (get_or t 5 0) g.0 in
    let d = or_none _ (get_or t 4 0) f.0 in
    let c = or_none _ (get_or t 3 0) d.0 in
    let b = or_none _ (get_or t 2 0) c.0 in
    let a = or_none (get_or t 0 0) (get_or t 1 0) b.0 in
    λ k q. eight (λ n. get_or t n 0) a.0 a.1 b.1 c.1 d.1 f.1 g.1 h.1 k (omega (arith, l, q))

pub passed_none : (t : Places) (from : ℕ) → from ≤ least_places → Passed t from from
passed_none t from h = record { up = omega arith; most = h; none = λ k a b. absurd (omega arith) }

-- eight more
pub passed_eight : (t : Places) (from block : ℕ) → least_places ≤ length t → Passed t from block → block < least_places - 7 → AllNone (take (block + 8 - block) (drop block t)) → Passed t from (block + 8)
passed_eight t from block l p h n = record { up = omega (arith, p.up); most = omega arith; none = none }
  where
    part : take (block + 8 - block) (drop block t) ≡ take 8 (drop block t)
    part = let e : block + 8 - block ≡ 8 = omega arith in rw e

    none : (k : ℕ) → from ≤ k → k < block + 8 → get_or t k 0 ≡ 0
    none k a b = elim (dec_lt k block) [
      | yes c ↦ p.none k a c
      | no c ↦
          let e : block + (k - block) ≡ k = omega arith in
          let z = rw part at (n (k - block)) in
          rw (get_or-take 8 (drop block t) (k - block) 0 (omega arith), get_or-drop block t (k - block) 0, e) at (z (omega (arith, length-take 8 (drop block t), length-drop block t)))
    ]
