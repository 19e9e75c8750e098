-- `blank::rest_blank` is the test of the definition. The invariant: the bytes joined so far are 255 just if those before are blank. Assumes nothing.
use Prim.Native.Nat.{◌≤◌, ◌<◌}
use mathlib.Core.Path.{◌≡◌}
use lib.Dec.{eqb}
use lib.ListN.{length, take}
use Rattle.model.specs.Header.{is_blank}
use Rattle.blank.proofs.rest_blank.Given as goal

abbrev pub invariant-loop-byte : goal.invariant-loop-byte
invariant-loop-byte l = (l.byte-index ≤ length l.rest) × (l.joined < 256) × (eqb l.joined 255 ≡ is_blank (take l.byte-index l.rest))
