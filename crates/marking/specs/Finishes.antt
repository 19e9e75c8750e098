-- A text of many pieces, on its way into a buffer.
use Rattle.std.specs.Prelude.{ℕ, ◌≡◌, List, length}
use Rattle.text.specs.Buffer.{Wrote}

-- the text so far ends at an offset, and whatever adds the rest to it finishes the whole
pub record Finishes (rest whole start : List ℕ) (at : ℕ) (buffer : List ℕ) (end : ℕ) : Type 0 where
  pub finish : (later : List ℕ) (last : ℕ) → Wrote rest buffer end later last → Wrote whole start at later last
  pub kept : length buffer ≡ length start
