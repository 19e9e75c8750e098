-- An image's file that is not there.
use Rattle.std.specs.Prelude.{ℕ, Bool, true, false, List, ◌++◌, drop, replicate, Option, Some, None}
use Rattle.qbx_images.specs.declared.ImageFile.{ImageFile}

-- what is told of it: where it may be made, it has so many bytes
unfoldable pub made : Bool → ℕ → Option ImageFile
made true size = Some (record { count = size; there = 0 })
made false size = None

-- what the buffer then holds: a chip from the factory of so many bytes
unfoldable pub factory : Bool → ℕ → List ℕ → List ℕ
factory true size s = replicate size 255 ++ drop size s
factory false size s = s
