-- Document 01, "The chip": the image and its size, the two flash steps, and what a power cut leaves.
use Rattle.std.specs.Prelude.{ℕ, ◌+◌, ◌*◌, ◌<◌, ◌≡◌, ◌⊎◌, Bool, cond, ◌&&◌, List, [], ◌∷◌, ◌++◌, length, get_or, take, drop, set, replicate, leb, eqb}
use Rattle.std.specs.Int.Bits.{bit_and}
use Rattle.model.specs.Lists.{chunk}

-- the chip's bytes
abbrev pub Image : Type 0
Image = List ℕ

-- 256 bytes of it
abbrev pub Page : Type 0
Page = List ℕ

abbrev pub Bytes : List ℕ → Type 0
Bytes [] = Unit {0}
Bytes (x ∷ xs) = (x < 256) × Bytes xs

-- ---- size: N segments of B + 1 pages, a header and B slots

abbrev pub least_segments : ℕ
least_segments = 2

abbrev pub most_segments : ℕ
most_segments = 255

abbrev pub least_slots : ℕ
least_slots = 2

abbrev pub most_slots : ℕ
most_slots = 255

-- the bytes of the largest image
abbrev pub largest_image : ℕ
largest_image = most_segments * (most_slots + 1) * 256

-- the erases of one segment that a chip is good for
abbrev pub erase_limit : ℕ
erase_limit = 100000

-- segment numbers stay below this
unfoldable pub number_limit : ℕ → ℕ
number_limit N = erase_limit * N

unfoldable pub image_length : ℕ → ℕ → ℕ
image_length N B = N * (B + 1) * 256

-- N and B as above
unfoldable pub in_range : ℕ → ℕ → Bool
in_range N B = leb least_segments N && (leb N most_segments && (leb least_slots B && leb B most_slots))

-- N, B and the image's length as above
unfoldable pub right_size : ℕ → ℕ → Image → Bool
right_size N B s = in_range N B && eqb (length s) (image_length N B)

unfoldable pub pages_of : ℕ → ℕ → Image → List Page
pages_of N B s = chunk (N * (B + 1)) 256 s

-- the pages, segment by segment
unfoldable pub by_segment : ℕ → ℕ → List Page → List (List Page)
by_segment N B ps = chunk N (B + 1) ps

-- ---- steps

-- program the byte at an offset; erase the segment at an index
pub data Step : Type 0 where
  program : ℕ → ℕ → Step
  erase : ℕ → Step

-- the byte that programming v leaves where a was
unfoldable pub clear : ℕ → ℕ → ℕ
clear a v = bit_and a v

-- n erased bytes
unfoldable pub erased : ℕ → List ℕ
erased n = replicate n 255

-- the image with the bytes of segment i replaced by these
unfoldable pub with_segment : ℕ → ℕ → List ℕ → Image → Image
with_segment B i u s = take (i * (B + 1) * 256) s ++ (u ++ drop ((i * (B + 1) + (B + 1)) * 256) s)

-- the bytes of segment i
unfoldable pub segment_bytes : ℕ → ℕ → Image → List ℕ
segment_bytes B i s = take ((B + 1) * 256) (drop (i * (B + 1) * 256) s)

-- outside the image a step does nothing
unfoldable pub step : ℕ → Step → Image → Image
step B (program at v) s = set s at (clear (get_or s at 0) v)
step B (erase i) s = cond (leb ((i * (B + 1) + (B + 1)) * 256) (length s)) (with_segment B i (erased ((B + 1) * 256)) s) s

unfoldable pub run : ℕ → List Step → Image → Image
run B [] s = s
run B (x ∷ xs) s = run B xs (step B x s)

-- the first k of a list of steps done
unfoldable pub run_first : ℕ → ℕ → List Step → Image → Image
run_first B k xs s = run B (take k xs) s

-- ---- power cuts

-- every bit of lo is in x, and every bit of x is in hi
abbrev pub Between : ℕ → ℕ → ℕ → Type 0
Between lo x hi = (clear lo x ≡ lo) × (clear x hi ≡ x)

-- each byte has every bit that it had, and perhaps more of its eight
abbrev pub Raised : List ℕ → List ℕ → Type 0
Raised [] t = t ≡ []
Raised (a ∷ s) [] = ⊥
Raised (a ∷ s) (x ∷ t) = (Between a x 255) × Raised s t

-- what a cut inside a step can leave. Programming: each bit that was to be cleared is cleared or not. Erasing: each bit of that segment is what it was, or 1
abbrev pub Inside : ℕ → Step → Image → Image → Type 0
Inside B (program at v) s t = (x : ℕ) × (Between (clear (get_or s at 0) v) x (get_or s at 0)) × (t ≡ set s at x)
Inside B (erase i) s t = (u : List ℕ) × Raised (segment_bytes B i s) u × (t ≡ with_segment B i u s)

-- what a cut can leave of a list of steps: nothing done; inside the first; or the first done and a cut of the rest
abbrev pub Cut : ℕ → List Step → Image → Image → Type 0
Cut B [] s t = t ≡ s
Cut B (x ∷ xs) s t = (t ≡ s) ⊎ (Inside B x s t ⊎ Cut B xs (step B x s) t)
