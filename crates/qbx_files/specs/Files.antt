-- The name beside a file's, and the larger of two counts.
use Rattle.std.specs.Prelude.{ℕ, ◌+◌, max, cond, List, [], ◌++◌, length, ℤ, pos, negsuc, leb}
use Rattle.text.specs.Text.{text}

-- the name under which a file's successor is written, if it is no longer than so many bytes
unfoldable pub beside_of : ℕ → List ℕ → List ℕ
beside_of most path = cond (leb (length path + 4) most) (path ++ text ".new") []

-- the larger of an offset and a count; a negative offset is none
unfoldable pub larger_of : ℤ → ℕ → ℕ
larger_of (pos n) k = max n k
larger_of (negsuc n) k = k
