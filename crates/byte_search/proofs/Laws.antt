-- The search at the byte, a byte on, and at the end.
use Rattle.std.proofs.Common.{ℕ, suc, ◌+◌, ◌<◌, ◌≤◌, ◌≡◌, ◌≢◌, List, ◌∷◌, length, take, get_or, arith}
use Rattle.std.proofs.Math.ListN.{drop_of_length-le}
use Rattle.std.proofs.lemmas.Bool.{eq-eqb, ne_eqb}
use Rattle.std.proofs.lemmas.List.{drop_more, length-take-le, get_or-take}
use Rattle.byte_search.specs.Bytes.{index_of, slice}

module _ (b i end : ℕ) (xs : List ℕ) (within : end ≤ length xs) where
  begins : i < end → slice i end xs ≡ get_or xs i 0 ∷ slice (i + 1) end xs
  unfolding slice
  begins h =
      let l : i < length (take end xs) = omega (arith, length-take-le end xs within) in
      rw (drop_more (take end xs) i 0 l, get_or-take end xs i 0 h)

  pub found_here : i < end → get_or xs i 0 ≡ b → index_of b (slice i end xs) ≡ 0
  unfolding index_of
  found_here h e = rw (begins h, eq-eqb (get_or xs i 0) b e)

  pub found_on : i < end → get_or xs i 0 ≢ b → index_of b (slice i end xs) ≡ suc (index_of b (slice (i + 1) end xs))
  unfolding index_of
  found_on h e = rw (begins h, ne_eqb (get_or xs i 0) b e)

  pub found_none : end ≤ i → index_of b (slice i end xs) ≡ 0
  unfolding index_of slice
  found_none h =
      let l : length (take end xs) ≤ i = omega (arith, length-take-le end xs within) in
      rw (drop_of_length-le (take end xs) l)
