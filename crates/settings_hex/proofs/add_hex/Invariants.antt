-- `settings_hex::add_hex`. The invariant: the first `b-index` bytes are there, two digits each. Assumes nothing.
use Prim.Native.Nat.{◌+◌, ◌*◌}
use mathlib.Core.Path.{◌≡◌}
use lib.ListN.{take}
use Rattle.text.specs.Buffer.{Wrote}
use Rattle.settings_hex.specs.Hex.{hex}
use Rattle.settings_hex.proofs.add_hex.Given as goal

abbrev pub invariant-loop-b : goal.invariant-loop-b
invariant-loop-b l = Wrote (hex (take l.b-index l.bytes)) l.initial.text l.at l.text l.end × (l.end ≡ l.at + 2 * l.b-index)
