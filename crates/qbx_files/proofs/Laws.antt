-- The name beside a path, and the larger of two counts.
use Prim.Native.Nat.{ℕ, ◌+◌, ◌<◌, ◌≤◌}
use mathlib.Core.Path.{◌≡◌}
use mathlib.Core.List.{List, [], ◌∷◌, ◌++◌}
use native.Mathlib.Omega.{arith}
use lib.ListN.{length, take}
use lib.Seq.{take-append_seam, take-append-add}
use lib.IntN.{ℤ, pos, negsuc}
use borrow.Author.Tests.{le-leb, lt-leb}
use Rattle.text.specs.Text.{text}
use Rattle.qbx_files.specs.Files.{beside_of, larger_of}

pub beside_none : (most : ℕ) (path : List ℕ) → most < length path + 4 → beside_of most path ≡ []
unfolding beside_of
beside_none most path h = rw (lt-leb (length path + 4) most h)

abbrev pub ending : List ℕ
ending = 46 ∷ 110 ∷ 101 ∷ 119 ∷ []

module _ (path name one two kept rest : List ℕ) (fits : length path + 4 ≤ length name) (copied : one ≡ path) (ended : two ≡ ending) where
  begins : take (length path) (one ++ kept) ≡ path
  begins = rw (copied, take-append_seam path kept)

  pub beside_made : take (length path + 4) (take (length path) (one ++ kept) ++ (two ++ rest)) ≡ beside_of (length name) path
  unfolding beside_of text
  beside_made = rw (begins, take-append-add path (two ++ rest) 4, ended, le-leb (length path + 4) (length name) fits)

pub larger_count : (z : ℤ) (k : ℕ) → k ≤ larger_of z k
unfolding larger_of
larger_count (pos n) k = omega arith
larger_count (negsuc n) k = omega arith
