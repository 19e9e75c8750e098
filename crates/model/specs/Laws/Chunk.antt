-- Laws of a list cut into parts.
use Prim.Native.Nat.{ℕ, zero, suc, ◌+◌, ◌*◌, ◌≤◌, ◌<◌}
use Rattle.std.specs.Prelude.{◌≡◌}
use Rattle.std.proofs.Math.Path.{refl, sym, ap}
use Rattle.std.proofs.Common.{◌∙◌}
use mathlib.Core.List.{List, [], ◌∷◌, ◌++◌, append_assoc}
use native.Mathlib.Omega.{arith}
use lib.ListN.{length, get_or, take, drop, set, replicate, length-take, length-drop, length-replicate, replicate-append-replicate}
use lib.Seq.{take-set-lt, drop-set-lt, take-set-le, drop-set-add, get_or-take, get_or-drop, take_at, drop_at, length-take-le, take-add, drop-drop}
use Rattle.model.specs.Lists.{chunk}

pub chunk_length : {A : Type 0} (c z : ℕ) (s : List A) → length (chunk c z s) ≡ c
unfolding chunk
chunk_length zero z s = refl
chunk_length (suc c) z s = ap suc (chunk_length c z (drop z s))

chunk_suc : {A : Type 0} (c z : ℕ) (s : List A) → chunk (suc c) z s ≡ take z s ∷ chunk c z (drop z s)
unfolding chunk
chunk_suc c z s = refl

chunk_cons : {A : Type 0} (c z : ℕ) (p r : List A) → length p ≡ z → chunk (suc c) z (p ++ r) ≡ p ∷ chunk c z r
unfolding chunk
chunk_cons c z p r h = rw (take_at p r z h, drop_at p r z h)

module _ {A : Type 0} (z : ℕ) where
  -- an element changed: one part changed
  pub chunk_set : (c p q : ℕ) (v : A) (s : List A) → q < z → chunk c z (set s (p * z + q) v) ≡ set (chunk c z s) p (set (get_or (chunk c z s) p []) q v)
  unfolding chunk
  chunk_set zero p q v s h = refl
  chunk_set (suc c) zero q v s h =
      let e : 0 * z + q ≡ q = omega arith in
      rw (e, take-set-lt z s q v h, drop-set-lt z s q v h)
  chunk_set (suc c) (suc p) q v s h =
      let e : suc p * z + q ≡ z + (p * z + q) = omega arith in
      rw (e, take-set-le z s (z + (p * z + q)) v (omega arith), drop-set-add z s (p * z + q) v, chunk_set c p q v (drop z s) h)

  pub chunk_get : (c p q : ℕ) (d : A) (s : List A) → p < c → q < z → get_or (get_or (chunk c z s) p []) q d ≡ get_or s (p * z + q) d
  unfolding chunk
  chunk_get zero p q d s h k = absurd (omega arith)
  chunk_get (suc c) zero q d s h k =
      let e : 0 * z + q ≡ q = omega arith in
      rw e (get_or-take z s q d k)
  chunk_get (suc c) (suc p) q d s h k =
      let e : suc p * z + q ≡ z + (p * z + q) = omega arith in
      rw e (chunk_get c p q d (drop z s) (omega arith) k ∙ get_or-drop z s (p * z + q) d)

  -- one part
  pub chunk_part : (c p : ℕ) (s : List A) → p < c → get_or (chunk c z s) p [] ≡ take z (drop (p * z) s)
  unfolding chunk
  chunk_part zero p s h = absurd (omega arith)
  chunk_part (suc c) zero s h = let e : 0 * z ≡ 0 = omega arith in rw e
  chunk_part (suc c) (suc p) s h =
      let e : suc p * z ≡ z + p * z = omega arith in
      rw (e, ← (drop-drop (p * z) z s)) (chunk_part c p (drop z s) (omega arith))

  pub part_length : (c p : ℕ) (s : List A) → p < c → c * z ≤ length s → length (get_or (chunk c z s) p []) ≡ z
  unfolding chunk
  part_length zero p s h k = absurd (omega arith)
  part_length (suc c) zero s h k = length-take z s ∙ omega arith
  part_length (suc c) (suc p) s h k = part_length c p (drop z s) (omega arith) (omega (arith, length-drop z s))

  -- m parts replaced
  replace_front : (c m : ℕ) (u s : List A) → m ≤ c → length u ≡ m * z → m * z ≤ length s → chunk c z (u ++ drop (m * z) s) ≡ chunk m z u ++ drop m (chunk c z s)
  unfolding chunk
  replace_front c zero u s h l k =
      let e : 0 * z ≡ 0 = omega arith in
      let n : u ≡ [] = nil u (l ∙ e) in
      rw (e, n)
    where
      nil : (v : List A) → length v ≡ 0 → v ≡ []
      nil [] q = refl
      nil (x ∷ v) q = absurd (omega arith)
  replace_front zero (suc m) u s h l k = absurd (omega arith)
  replace_front (suc c) (suc m) u s h l k =
      let e : suc m * z ≡ z + m * z = omega arith in
      let lu : length (take z u) ≡ z = length-take-le z u (omega arith) in
      let f : u ≡ take z u ++ drop z u = sym (lib.ListN.take-append-drop z u) in
      let g : u ++ drop (z + m * z) s ≡ take z u ++ (drop z u ++ drop (z + m * z) s) = ap (λ (y : List A). y ++ drop (z + m * z) s) f ∙ append_assoc (take z u) (drop z u) (drop (z + m * z) s) in
      rw (
        e,
        g,
        ← (drop-drop (m * z) z s),
        take_at (take z u) (drop z u ++ drop (m * z) (drop z s)) z lu,
        drop_at (take z u) (drop z u ++ drop (m * z) (drop z s)) z lu,
        replace_front c m (drop z u) (drop z s) (omega arith) (omega (arith, length-drop z u)) (omega (arith, length-drop z s)),
      )

  pub chunk_replace : (c a m : ℕ) (u s : List A) → a + m ≤ c → length u ≡ m * z → (a + m) * z ≤ length s
      → chunk c z (take (a * z) s ++ (u ++ drop ((a + m) * z) s)) ≡ take a (chunk c z s) ++ (chunk m z u ++ drop (a + m) (chunk c z s))
  chunk_replace c zero m u s h l k =
      let e : 0 * z ≡ 0 = omega arith in
      let f : 0 + m ≡ m = omega arith in
      rw (f, e) (replace_front c m u s (omega arith) l (rw f at k))
  chunk_replace zero (suc a) m u s h l k = absurd (omega arith)
  chunk_replace (suc c) (suc a) m u s h l k =
      let e : suc a * z ≡ z + a * z = omega arith in
      let f : (suc a + m) * z ≡ z + (a + m) * z = omega arith in
      let g : suc a + m ≡ suc (a + m) = omega arith in
      rw (
        e,
        f,
        take-add z (a * z) s,
        append_assoc,
        ← (drop-drop ((a + m) * z) z s),
        chunk_cons c z (take z s) _ (length-take-le z s (omega arith)),
        chunk_replace c a m u (drop z s) (omega arith) l (omega (arith, length-drop z s)),
        g,
        chunk_suc c z s,
      )

-- one element repeated
pub chunk_replicate : {A : Type 0} (c z : ℕ) (x : A) → chunk c z (replicate (c * z) x) ≡ replicate c (replicate z x)
unfolding chunk
chunk_replicate zero z x = refl
chunk_replicate (suc c) z x = let e : suc c * z ≡ z + c * z = omega arith in
    rw (
      e,
      ← (replicate-append-replicate z (c * z) x),
      take_at (replicate z x) (replicate (c * z) x) z (length-replicate z x),
      drop_at (replicate z x) (replicate (c * z) x) z (length-replicate z x),
      chunk_replicate c z x,
    )

-- a replaced part, by index
pub replace_part : {A : Type 0} (l : List A) (i : ℕ) (x : A) → i < length l → take i l ++ ((x ∷ []) ++ drop (i + 1) l) ≡ set l i x
replace_part l i x h = let e : i + 1 ≡ suc i = omega arith in rw e (sym (lib.Seq.set_split l i x h))
