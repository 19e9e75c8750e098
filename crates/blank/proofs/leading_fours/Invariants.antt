-- `blank::leading_fours` counts the groups before the first that differs, four to a turn. The invariant: those looked at are blank. Assumes nothing.
use Prim.Native.Nat.{◌*◌, ◌/◌, ◌≤◌}
use mathlib.Core.Path.{◌≡◌}
use mathlib.Core.Bool.{true}
use lib.ListN.{length, take}
use Rattle.model.specs.Header.{is_blank}
use Rattle.blank.proofs.leading_fours.Given as goal

abbrev pub invariant-loop-i : goal.invariant-loop-i
invariant-loop-i l = (l.i ≤ length l.bytes / 32) × (is_blank (take (l.i * 32) l.bytes) ≡ true)
