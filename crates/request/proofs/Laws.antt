-- Laws of the tests that come before the image is looked at.
use Prim.Native.Nat.{ℕ, ◌+◌, ◌*◌, ◌≤◌}
use mathlib.Core.Path.{◌≡◌, sym, ◌∙◌}
use mathlib.Core.Bool.{Bool, true, false, ◌&&◌}
use native.Mathlib.Nat.{mul-le-mul}
use native.Mathlib.Omega.{arith}
use lib.ListN.{length}
use lib.Dec.{leb, ltb, eqb}
use borrow.Author.Tests.{leb-true, lt-ltb}
use Rattle.model.specs.Chip.{Image, most_segments, most_slots, in_range, image_length, right_size}
use Rattle.model.specs.Laws.Lists.{and_left, and_right}

-- an image has at most 255 segments of 256 pages
pub most_pages_lem : (N B : ℕ) → N ≤ most_segments → B ≤ most_slots → N * (B + 1) ≤ most_segments * (most_slots + 1)
most_pages_lem N B n b = mul-le-mul n (let h : B + 1 ≤ most_slots + 1 = omega arith in h)

-- what the test of the ranges tells
pub in_bounds : (N B : ℕ) → in_range N B ≡ true → (N ≤ most_segments) × (B ≤ most_slots)
unfolding in_range
in_bounds N B e =
    let t = and_right (leb 2 N) (leb N most_segments && (leb 2 B && leb B 255)) e in
    let u = and_right (leb N most_segments) (leb 2 B && leb B 255) t in
    (leb-true N most_segments (and_left (leb N most_segments) (leb 2 B && leb B 255) t), leb-true B 255 (and_right (leb 2 B) (leb B 255) u))

-- a test for more than 0 and for a limit: of block numbers, and of lengths
pub none_fails : (n : ℕ) (t : Bool) → n ≡ 0 → false ≡ (ltb 0 n && t)
none_fails n t e = rw e

pub some_passes : (n : ℕ) (t : Bool) → (n ≡ 0 → ⊥) → t ≡ (ltb 0 n && t)
some_passes n t h = rw (lt-ltb 0 n (omega arith))

-- the test of the size as the requests use it
module _ (N B : ℕ) (s : Image) (r : Bool) (e : r ≡ (in_range N B && eqb (length s) (image_length N B))) where
  pub wrong_size : r ≡ false → right_size N B s ≡ false
  unfolding right_size
  wrong_size h = sym e ∙ h

  pub right_size_lem : r ≡ true → right_size N B s ≡ true
  unfolding right_size
  right_size_lem h = sym e ∙ h
