-- The offsets that a packed number can tell.
use Rattle.std.specs.Prelude.{ℕ}

-- how many offsets 64 bits can tell above the lowest sixteen: 2 to the 48th
unfoldable pub offsets : ℕ
offsets = 281474976710656
