-- Pages in an image: steps done in one of them, and an image of whole segments.
use Rattle.std.specs.Prelude.{ℕ, ◌+◌, ◌*◌, ◌≤◌, ◌<◌, ◌≡◌, List}
use Rattle.model.specs.Chip.{Image, Step, most_segments, most_slots}
use Rattle.flash.specs.Ran.{Programmed, shifted}

-- steps within a page that were done where it begins, at an offset of the image
abbrev pub OnPageAt : ℕ → List Step → ℕ → ℕ → Image → Image → Type 0
OnPageAt at steps budget left from to = Programmed (shifted at steps) budget left from to

-- N and B fit a byte each, and the image has N segments
pub record Sized (N B bytes : ℕ) : Type 0 where
  pub some : 0 < N
  pub segments : N ≤ most_segments
  pub slots : B ≤ most_slots
  pub whole : bytes ≡ N * (B + 1) * 256
