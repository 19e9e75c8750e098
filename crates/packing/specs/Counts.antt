-- The counts that a packed number can tell.
use Rattle.std.specs.Prelude.{ℕ}

-- how many counts 64 bits can tell above the lowest eight: 2 to the 56th
unfoldable pub counts : ℕ
counts = 72057594037927936
