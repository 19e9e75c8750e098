-- Laws of the search over the headers: where one lies, and one turn of each loop.
use Prim.Native.Nat.{ℕ, ◌+◌, ◌-◌, ◌*◌, ◌≤◌, ◌<◌}
use mathlib.Core.Path.{◌≡◌, refl, ◌∙◌}
use mathlib.Core.Logic.{◌≢◌}
use native.Mathlib.Decide.{dec_lt}
use native.Mathlib.Nat.{mul-le-mul_right, suc-mul}
use native.Mathlib.Omega.{arith}
use lib.ListN.{get_or, take, drop}
use Rattle.model.specs.Chip.{Image}
use Rattle.model.specs.Header.{header_number}
use Rattle.flash.specs.Pages.{Sized}
use Rattle.ring.specs.Seen.{status_at, number_at, LastFollowing}

-- ---- one header

-- it lies inside the image
pub header_inside : (N B i bytes : ℕ) → Sized N B bytes → i < N → i * (B + 1) * 256 + 256 ≤ bytes
header_inside N B i bytes z h = omega (arith, z.whole, mul-le-mul_right (B + 1) h, suc-mul i (B + 1))

pub header_status_lem : (B i : ℕ) (s : Image) → get_or s (i * (B + 1) * 256 + 5) 0 ≡ status_at B s i
unfolding status_at
header_status_lem B i s = refl

pub header_number_lem : (B i at n : ℕ) (s : Image) → at ≡ i * (B + 1) * 256 → n ≡ header_number (take (at + 256 - at) (drop at s)) → n ≡ number_at B s i
unfolding number_at
header_number_lem B i at n s a e = let f : at + 256 - at ≡ 256 = omega arith in e ∙ (rw (f, a))

-- ---- the last that follows

-- low does or is 0, and high does not or is the count
pub record Following (N B : ℕ) (s : Image) (n low high : ℕ) : Type 0 where
  pub order : low < high
  pub within : high ≤ N
  pub follows : 0 < low → number_at B s low ≡ n + low
  pub ends : high < N → number_at B s high ≢ n + high

pub following_start : (N B : ℕ) (s : Image) (n : ℕ) → 0 < N → Following N B s n 0 N
following_start N B s n h = record { order = h; within = omega arith; follows = λ k. absurd (omega arith); ends = λ k. absurd (omega arith) }

pub following_low : (N B : ℕ) (s : Image) (n low high : ℕ) → Following N B s n low high → (m : ℕ) → m < high → number_at B s m ≡ n + m → Following N B s n m high
following_low N B s n low high w m q e = record { order = q; within = w.within; follows = λ k. e; ends = w.ends }

pub following_high : (N B : ℕ) (s : Image) (n low high : ℕ) → Following N B s n low high → (m : ℕ) → low < m → m < high → number_at B s m ≢ n + m → Following N B s n low m
following_high N B s n low high w m p q e = record { order = p; within = omega (arith, w.within); follows = w.follows; ends = λ k. e }

pub following_end : (N B : ℕ) (s : Image) (n low high : ℕ) → Following N B s n low high → high ≤ low + 1 → LastFollowing N B s n low
following_end N B s n low high w h =
    let e : high ≡ low + 1 = omega (arith, w.order) in
    record { within = omega (arith, w.order, w.within); follows = w.follows; ends = rw e at w.ends }

-- ---- the last that is in use

-- none after i
abbrev pub FreeAfter : ℕ → ℕ → Image → ℕ → Type 0
FreeAfter N B s i = (j : ℕ) → i < j → j < N → status_at B s j ≡ 255

pub free_more : (N B : ℕ) (s : Image) (i : ℕ) → FreeAfter N B s i → status_at B s i ≡ 255 → FreeAfter N B s (i - 1)
free_more N B s i f e j p q = elim (dec_lt i j) [ yes l ↦ f j l q | no l ↦ let g : j ≡ i = omega arith in rw g e ]

-- ---- a run

abbrev pub UsedFrom : ℕ → Image → ℕ → ℕ → Type 0
UsedFrom B s i e = (j : ℕ) → i ≤ j → j < e → status_at B s j ≢ 255

pub used_more : (B : ℕ) (s : Image) (i e : ℕ) → 0 < i → UsedFrom B s i e → status_at B s (i - 1) ≢ 255 → UsedFrom B s (i - 1) e
used_more B s i e h f n j p q = elim (dec_lt j i) [ yes l ↦ let g : j ≡ i - 1 = omega arith in rw g n | no l ↦ f j (omega arith) q ]
