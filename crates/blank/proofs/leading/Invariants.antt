-- `blank::leading` counts the whole groups before the first that differs. The invariant: those looked at are blank. Assumes nothing.
use Prim.Native.Nat.{◌*◌, ◌/◌, ◌≤◌}
use mathlib.Core.Path.{◌≡◌}
use mathlib.Core.Bool.{true}
use lib.ListN.{length, take}
use Rattle.model.specs.Header.{is_blank}
use Rattle.blank.proofs.leading.Given as goal

abbrev pub invariant-loop-groups : goal.invariant-loop-groups
invariant-loop-groups l = (l.groups ≤ length l.bytes / 8) × (is_blank (take (l.groups * 8) l.bytes) ≡ true)
