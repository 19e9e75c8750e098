-- A script's words.
use Rattle.std.specs.Prelude.{ℕ, zero, suc, ◌+◌, List, take, drop}
use Rattle.byte_search.specs.Bytes.{index_of}

-- what stands before the first space, or after so many spaces and before the next
unfoldable pub word_at : ℕ → List ℕ → List ℕ
word_at zero s = take (index_of 32 s) s
word_at (suc k) s = word_at k (drop (index_of 32 s + 1) s)
