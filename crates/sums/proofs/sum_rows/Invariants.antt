-- `sums::sum_rows` adds rows up as the definition does. Assumes nothing.
use Prim.Native.Nat.{◌≤◌}
use mathlib.Core.Path.{◌≡◌}
use mathlib.Core.List.{map}
use lib.ListN.{take}
use Rattle.judge.specs.Tally.{row_of, add_rows, no_sum, Few}
use Rattle.sums.proofs.Laws.{rows_left}
use Rattle.sums.proofs.sum_rows.Given as goal

abbrev pub invariant-loop-i : goal.invariant-loop-i
invariant-loop-i l = (add_rows (rows_left l.ring l.used l.i) l.sum ≡ add_rows (map row_of (take l.used l.ring)) no_sum) × (l.i ≤ l.used) × Few l.sum l.i
