-- Laws of pages: bytes of a page that was made up, a page lent from the image, and an image of a right size.
use Prim.Native.Nat.{ℕ, ◌+◌, ◌-◌, ◌*◌, ◌%◌, ◌≤◌, ◌<◌}
use mathlib.Core.Path.{◌≡◌}
use mathlib.Core.Bool.{true}
use mathlib.Core.List.{List, ◌++◌}
use native.Mathlib.Nat.{suc-mul, mul-le-mul_right, mod-lt}
use native.Mathlib.Omega.{arith}
use lib.ListN.{length, take, drop, length-take}
use lib.Dec.{leb, eqb}
use borrow.Author.Tests.{leb-true, eqb-true}
use Rattle.model.specs.Chip.{Image, Page, Step, most_segments, in_range, image_length, right_size}
use Rattle.model.specs.Steps.{programs, program_part, on_page, header_at}
use Rattle.model.specs.Laws.Lists.{and_left, and_right}
use Rattle.flash.specs.Ran.{Programmed, shifted, Within}
use Rattle.flash.specs.Pages.{OnPageAt, Sized}
use Rattle.flash.proofs.Laws.{ran_part, shifted_page, within_programs}

-- ---- bytes of a page

pub programmed_part : (p : Page) (at k : ℕ) {n r : ℕ} {s t : Image} → Programmed (programs at (take (at + k - at) (drop at p))) n r s t → Programmed (program_part p at k) n r s t
unfolding program_part
programmed_part p at k d = let e : at + k - at ≡ k = omega arith in rw e at d

pub within_part : (p : Page) (at k : ℕ) → at + k ≤ 256 → Within 256 (program_part p at k)
unfolding program_part
within_part p at k h = within_programs 256 at (take k (drop at p)) (omega (arith, length-take k (drop at p)))

-- steps that were done on a page lent from the image
pub on_page_lem : (at : ℕ) (s : Image) (xs : List Step) {n r : ℕ} {q : Page} → at + 256 ≤ length s → Within 256 xs
    → Programmed xs n r (take (at + 256 - at) (drop at s)) q → OnPageAt at xs n r s (take at s ++ (q ++ drop (at + 256 - at) (drop at s)))
on_page_lem at s xs h w d B =
    let k : at + 256 - at ≡ 256 = omega arith in
    rw k (ran_part at 256 s xs h w (rw k at (d B)))

-- the same as steps in a page of the image
pub in_page : (at p : ℕ) (xs : List Step) {n r : ℕ} {s t : Image} → at ≡ p * 256 → OnPageAt at xs n r s t → Programmed (on_page p xs) n r s t
in_page at p xs e d = let f : shifted at xs ≡ on_page p xs = rw e (shifted_page p xs) in rw (← f) d

-- ---- an image of a right size

pub sized : (N B : ℕ) (s : Image) → right_size N B s ≡ true → Sized N B (length s)
unfolding right_size in_range image_length
sized N B s e =
    let range = and_left _ (eqb (length s) (N * (B + 1) * 256)) e in
    let more = and_right (leb 2 N) _ range in
    let most = and_right (leb N most_segments) _ more in
    record {
      some = omega (arith, leb-true 2 N (and_left (leb 2 N) _ range));
      segments = omega (arith, leb-true N most_segments (and_left (leb N most_segments) _ more));
      slots = leb-true B 255 (and_right (leb 2 B) (leb B 255) most);
      whole = eqb-true (length s) (N * (B + 1) * 256) (and_right (in_range N B) _ e);
    }

pub segment_inside : (N B i bytes : ℕ) → Sized N B bytes → i < N → (i * (B + 1) + (B + 1)) * 256 ≤ bytes
segment_inside N B i bytes z h = omega (arith, z.whole, mul-le-mul_right (B + 1) h, suc-mul i (B + 1))

pub index_small : (n N : ℕ) → 0 < N → N ≤ 255 → n % N < 255
index_small n N z h = omega (arith, mod-lt n {m = N} z)

-- a header's offset is small, and the page lies inside the image
pub header_small : (n N B : ℕ) → 0 < N → N ≤ 255 → B ≤ 255 → n % N * (B + 1) ≤ 65280
header_small n N B z h k =
    let l : n % N ≤ 255 = omega (arith, index_small n N z h) in
    omega (arith, mul-le-mul_right (B + 1) l)

pub header_inside : (N B n bytes : ℕ) → Sized N B bytes → header_at N B n * 256 + 256 ≤ bytes
unfolding header_at
header_inside N B n bytes h = omega (arith, h.whole, suc-mul (n % N) (B + 1), mul-le-mul_right (B + 1) (mod-lt n {m = N} h.some))
