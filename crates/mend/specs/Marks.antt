-- A page at an offset, and a slot marked in it.
use Rattle.std.specs.Prelude.{ℕ, ◌*◌, ◌<◌, ◌≡◌, []}
use Rattle.model.specs.Chip.{Image}
use Rattle.model.specs.Steps.{on_page, mark_dead}
use Rattle.model.specs.declared.Performed.{Performed}
use Rattle.request.specs.Request.{Carried}

-- the offset of a page inside the image
pub record PageAt (at bytes : ℕ) : Type 0 where
  pub page : ℕ
  pub whole : at ≡ page * 256
  pub inside : at < bytes

-- a slot was marked, in the page at an offset
abbrev pub MarkedAt : ℕ → ℕ → Performed → Image → Image → Type 0
MarkedAt at budget p from to = (q B : ℕ) → at ≡ q * 256 → Carried [] (on_page q mark_dead) B budget p from to
