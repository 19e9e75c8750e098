-- How long an image is that is made, and a part of one.
use Prim.Native.Nat.{ℕ, ◌+◌, ◌-◌, ◌<◌, ◌≤◌}
use mathlib.Core.Path.{◌≡◌, sym, ◌∙◌}
use mathlib.Core.Bool.{Bool, true, false}
use mathlib.Core.List.{List, []}
use native.Mathlib.Omega.{arith}
use lib.ListN.{length, take, drop, replicate, length-append, length-drop, length-replicate, drop_of_length-le}
use lib.Seq.{take_all, take-nil}
use Rattle.std.specs.Prelude.{IfSome}
use Rattle.qbx_images.specs.Images.{made, factory}
use Rattle.qbx_images.specs.declared.ImageFile.{ImageFile}

-- a file that is made lies within the buffer
pub made_within : (t : Bool) (size : ℕ) (s : List ℕ) → size ≤ length s → IfSome (made t size) (λ (f : ImageFile). f.count ≤ length (factory t size s))
unfolding made factory
made_within true size s h = omega (arith, length-append (replicate size 255) (drop size s), length-replicate {A = ℕ} size 255)
made_within false size s h = tt

-- a part of an image
pub piece_none : (s : List ℕ) (at count : ℕ) → length s < at → [] ≡ take count (drop at s)
piece_none s at count h = let l : length s ≤ at = omega arith in rw (drop_of_length-le s l, take-nil {A = ℕ} count)

pub piece_rest : (s : List ℕ) (at count : ℕ) → length s - at < count → take (length s - at) (drop at s) ≡ take count (drop at s)
piece_rest s at count h =
    let l : length (drop at s) ≡ length s - at = length-drop at s in
    take_all (length s - at) (drop at s) (omega arith) ∙ sym (take_all count (drop at s) (omega arith))

pub piece_whole : (s : List ℕ) (at count : ℕ) → take (at + count - at) (drop at s) ≡ take count (drop at s)
piece_whole s at count = let e : at + count - at ≡ count = omega arith in rw e
