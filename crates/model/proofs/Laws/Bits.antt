-- The bits of a tally: the step of a recovery clears one more, and has no inside.
use Rattle.std.specs.Prelude.{ℕ, suc, ◌+◌, ◌-◌, ◌<◌, ◌≡◌, refl, ◌⊎◌, Bool, true, cond, ◌||◌, ◌&&◌, List, [], ◌∷◌, length, get_or, eqb}
use Rattle.std.proofs.Common.{sym, ap, ◌∙◌, inl, inr, true≢false, arith, eqb-true}
use Rattle.std.proofs.Math.Bool.{false}
use Rattle.model.specs.Lists.{all, count}
use Rattle.model.specs.Chip.{Bytes, program, clear}
use Rattle.model.specs.Header.{bit_values, cleared_in, cleared_bits}
use Rattle.model.specs.Steps.{highest_of, highest_bit, clear_next}
use Rattle.model.specs.Laws.Lists.{and_left, and_right}
use Rattle.model.proofs.Laws.Bytes.{OneBit, all_below, below, one_apart, one_bit}

-- the bits after the step
unfoldable pub next_cleared : List ℕ → List ℕ
next_cleared [] = []
next_cleared (x ∷ xs) = cond (eqb x 0) (x ∷ next_cleared xs) (clear x (x - highest_bit x) ∷ xs)

or_second : (s t : Bool) → s ≡ false → (s || t) ≡ true → t ≡ true
or_second true t e h = absurd (true≢false e)
or_second false t e h = h

counts_one : ℕ → Bool
counts_one x = eqb x 0 || eqb (cleared_in (clear x (x - highest_bit x))) (suc (cleared_in x))

counts_one_lem : all_below counts_one 256 ≡ true
unfolding all_below counts_one clear highest_bit highest_of bit_values cleared_in count
counts_one_lem = refl

one_more : (x : ℕ) → x < 256 → eqb x 0 ≡ false → cleared_in (clear x (x - highest_bit x)) ≡ suc (cleared_in x)
one_more x h n = eqb-true _ _ (each (below counts_one 256 counts_one_lem x h))
  where
    each : counts_one x ≡ true → eqb (cleared_in (clear x (x - highest_bit x))) (suc (cleared_in x)) ≡ true
    each q = or_second (eqb x 0) (eqb (cleared_in (clear x (x - highest_bit x))) (suc (cleared_in x))) n (unfold counts_one in q)

one_bit_each : ℕ → Bool
one_bit_each x = eqb x 0 || one_apart 8 (clear x (x - highest_bit x)) x

one_bit_each_lem : all_below one_bit_each 256 ≡ true
unfolding all_below one_bit_each one_apart clear highest_bit highest_of bit_values
one_bit_each_lem = refl

pub highest_bit_lem : (x : ℕ) → x < 256 → eqb x 0 ≡ false → OneBit (clear x (x - highest_bit x)) x
highest_bit_lem x h n = one_bit 8 (clear x (x - highest_bit x)) x (each (below one_bit_each 256 one_bit_each_lem x h))
  where
    each : one_bit_each x ≡ true → one_apart 8 (clear x (x - highest_bit x)) x ≡ true
    each q = or_second (eqb x 0) (one_apart 8 (clear x (x - highest_bit x)) x) n (unfold one_bit_each in q)

-- the step clears one more
pub cleared_more : (bits : List ℕ) → Bytes bits → all (λ x. eqb x 0) bits ≡ false → cleared_bits (next_cleared bits) ≡ suc (cleared_bits bits)
unfolding next_cleared cleared_bits all
cleared_more [] b h = absurd (true≢false h)
cleared_more (x ∷ xs) b h = go (eqb x 0) refl h (λ n. cleared_more xs b.1 n)
  where
    go : (t : Bool) → eqb x 0 ≡ t → (t && all (λ y. eqb y 0) xs) ≡ false → (all (λ y. eqb y 0) xs ≡ false → cleared_bits (next_cleared xs) ≡ suc (cleared_bits xs))
        → cleared_bits (cond t (x ∷ next_cleared xs) (clear x (x - highest_bit x) ∷ xs)) ≡ suc (cleared_in x + cleared_bits xs)
    go true e n ih = unfold cleared_bits in omega (arith, ih n)
    go false e n ih = unfold cleared_bits in omega (arith, one_more x b.0 e)

-- where no bit is left none is cleared, and that stays so
pub none_left : (bits : List ℕ) → all (λ x. eqb x 0) bits ≡ true → next_cleared bits ≡ bits
unfolding next_cleared all
none_left [] h = refl
none_left (x ∷ xs) h = rw (and_left (eqb x 0) (all (λ y. eqb y 0) xs) h) (ap {B = List ℕ} (λ r. x ∷ r) (none_left xs (and_right (eqb x 0) (all (λ y. eqb y 0) xs) h)))

-- the step: none, or one with the highest bit of a byte
pub clear_shape : (bits : List ℕ) (at : ℕ) → Bytes bits → (clear_next at bits ≡ [])
    ⊎ ((j : ℕ) × (j < length bits) × (eqb (get_or bits j 0) 0 ≡ false) × (get_or bits j 0 < 256) × (clear_next at bits ≡ program (at + j) (get_or bits j 0 - highest_bit (get_or bits j 0)) ∷ []))
unfolding clear_next
clear_shape [] at b = inl refl
clear_shape (x ∷ xs) at b = go (eqb x 0) refl (clear_shape xs (suc at) b.1)
  where
    go : (t : Bool) → eqb x 0 ≡ t
        → (clear_next (suc at) xs ≡ [])
        ⊎ ((j : ℕ) × (j < length xs) × (eqb (get_or xs j 0) 0 ≡ false) × (get_or xs j 0 < 256) × (clear_next (suc at) xs ≡ program (suc at + j) (get_or xs j 0 - highest_bit (get_or xs j 0)) ∷ []))
        → (cond t (clear_next (suc at) xs) (program at (x - highest_bit x) ∷ []) ≡ [])
        ⊎ ((j : ℕ) × (j < suc (length xs)) × (eqb (get_or (x ∷ xs) j 0) 0 ≡ false) × (get_or (x ∷ xs) j 0 < 256)
        × (cond t (clear_next (suc at) xs) (program at (x - highest_bit x) ∷ []) ≡ program (at + j) (get_or (x ∷ xs) j 0 - highest_bit (get_or (x ∷ xs) j 0)) ∷ []))
    go true e (inl q) = inl q
    go true e (inr (j, l, n, y, q)) = let k : suc at + j ≡ at + suc j = omega arith in inr (suc j, omega arith, n, y, q ∙ ap (λ (a : ℕ). program a (get_or xs j 0 - highest_bit (get_or xs j 0)) ∷ []) k)
    go false e r = let k : at + 0 ≡ at = omega arith in inr (0, omega arith, e, b.0, ap (λ (a : ℕ). program a (x - highest_bit x) ∷ []) (sym k))
