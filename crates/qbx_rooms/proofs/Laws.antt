-- A buffer of so many bytes, and what the buffers hold.
use Prim.Native.Nat.{ℕ, suc, ◌<◌, ◌≤◌, max}
use mathlib.Core.Path.{◌≡◌, refl, sym, ap, subst, ◌∙◌}
use mathlib.Core.Bool.{Bool, true, false, cond}
use native.Mathlib.Omega.{arith}
use lib.ListN.{length, replicate, length-replicate}
use lib.Dec.{leb, ltb}
use borrow.Author.Tests.{leb-true, ltb-true, ltb-false}
use Rattle.std.specs.Prelude.{Option, Some, None}
use Rattle.model.specs.Chip.{largest_image, in_range, image_length}
use Rattle.request.specs.Request.{size_of}
use Rattle.request.proofs.Laws.{in_bounds, most_pages_lem}
use Rattle.qbx_rooms.specs.declared.Buffer.{Buffer}
use Rattle.qbx_rooms.specs.declared.Buffer.TheVariants.{Small, Middle, Large}
use Rattle.qbx_rooms.specs.Rooms.{room_of, smallest_for, need_of, move_need_of, lack_of}

-- so many bytes alike; over any count, so that none is counted out
pub as_many : (n v : ℕ) → n ≡ length (replicate n v)
as_many n v = sym (length-replicate n v)

-- a buffer holds its largest image and more
pub longer : (n s v : ℕ) → s < n → s < length (replicate n v)
longer n s v h = subst (λ (y : ℕ). s < y) (as_many n v) h

-- what is lacking is more than is allowed; where nothing is, enough is allowed
pub lacks : (needed allowed r : ℕ) → lack_of needed allowed ≡ Some r → allowed < r
unfolding lack_of
lacks needed allowed r is = go (ltb allowed needed) refl is
  where
    go : (t : Bool) → ltb allowed needed ≡ t → cond t (Some needed) None ≡ Some r → allowed < r
    go true e is' = let n : needed ≡ r = cc in omega (arith, ltb-true allowed needed e)
    go false e is' = absurd (let z : ◌≡◌ {A = ℕ} 0 1 = cc in omega arith)

pub lacks_none : (needed allowed : ℕ) → lack_of needed allowed ≡ None → needed ≤ allowed
unfolding lack_of
lacks_none needed allowed is = go (ltb allowed needed) refl is
  where
    go : (t : Bool) → ltb allowed needed ≡ t → ◌≡◌ {A = Option ℕ} (cond t (Some needed) None) None → needed ≤ allowed
    go true e is' = absurd (let z : ◌≡◌ {A = ℕ} 0 1 = cc in omega arith)
    go false e is' = ltb-false allowed needed e

-- the buffer that is taken holds the image, if any does
pub fits : (s : ℕ) → s ≤ largest_image → s ≤ room_of (smallest_for s)
unfolding smallest_for room_of
fits s h = go (leb s 1048576) refl (leb s 4194304) refl
  where
    go : (t : Bool) → leb s 1048576 ≡ t → (u : Bool) → leb s 4194304 ≡ u → s ≤ room_of (cond t Small (cond u Middle Large))
    go true e u f = unfold room_of in leb-true s 1048576 e
    go false e true f = unfold room_of in leb-true s 4194304 f
    go false e false f = unfold room_of in h

-- the last buffer holds every image
pub any_size : (N B : ℕ) → size_of N B ≤ largest_image
unfolding size_of
any_size N B = go (in_range N B) refl
  where
    go : (t : Bool) → in_range N B ≡ t → cond t (image_length N B) 0 ≤ largest_image
    go true e = unfold image_length in (let b = in_bounds N B e in omega (arith, most_pages_lem N B b.0 b.1))
    go false e = omega arith

pub bounded : (b : Buffer) → room_of b ≤ largest_image
unfolding room_of
bounded Small = omega arith
bounded Middle = omega arith
bounded Large = omega arith

-- a buffer and a byte more
pub bytes_small : 1048577 ≡ suc (room_of Small)
unfolding room_of
bytes_small = refl

pub bytes_middle : 4194305 ≡ suc (room_of Middle)
unfolding room_of
bytes_middle = refl

pub bytes_large : 16711681 ≡ suc (room_of Large)
unfolding room_of
bytes_large = refl

-- the buffer that was taken, by what was reckoned, holds the image
pub held : (s size : ℕ) (r b : Buffer) → size ≡ s → s ≤ largest_image → r ≡ smallest_for size → r ≡ b → s ≤ room_of b
held s size r b e m f g =
    let h = fits size (omega (arith, e, m)) in
    let q : room_of (smallest_for size) ≡ room_of b = ap room_of (sym f ∙ g) in
    omega (arith, h, e, q)

-- and its stack is allowed
pub enough : (p t : Bool) (r b : Buffer) (a : ℕ) (l : Option ℕ) → l ≡ lack_of (need_of p r) a → l ≡ None → p ≡ t → r ≡ b → need_of t b ≤ a
enough p t r b a l e n q g =
    let h = lacks_none (need_of p r) a (sym e ∙ n) in
    let x : need_of p r ≡ need_of t r = ap (λ (y : Bool). need_of y r) q in
    let y : need_of t r ≡ need_of t b = ap (need_of t) g in
    omega (arith, h, x, y)

pub enough_for_move : (r b : Buffer) (a : ℕ) (l : Option ℕ) → l ≡ lack_of (move_need_of r) a → l ≡ None → r ≡ b → move_need_of b ≤ a
enough_for_move r b a l e n g =
    let h = lacks_none (move_need_of r) a (sym e ∙ n) in
    let y : move_need_of r ≡ move_need_of b = ap move_need_of g in
    omega (arith, h, y)

-- the same of a move, by the larger of its images
pub held_both : (N B M C size : ℕ) (r b : Buffer) → size ≡ max (size_of N B) (size_of M C) → r ≡ smallest_for size → r ≡ b → (size_of N B ≤ room_of b) × (size_of M C ≤ room_of b)
held_both N B M C size r b e f g =
    let h = held (max (size_of N B) (size_of M C)) size r b e (omega (arith, any_size N B, any_size M C)) f g in
    (omega (arith, h), omega (arith, h))
