-- A line that is being put together.
use Rattle.std.specs.Prelude.{ℕ, ◌+◌, ◌≡◌, List, ◌++◌, length, take}
use Rattle.qbx_lines.specs.declared.Line.{Line}

-- the most bytes of a line
abbrev pub most_line : ℕ
most_line = 240

-- what a line says so far
abbrev pub said : Line → List ℕ
said l = take l.count l.bytes

-- a line with some bytes more
pub record Added (line : Line) (bytes : List ℕ) (r : Line) : Type 0 where
  pub says : said r ≡ said line ++ bytes
  pub counts : r.count ≡ line.count + length bytes
