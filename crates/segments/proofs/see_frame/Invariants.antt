-- `segments::see_frame` is the frame of the definition. Assumes nothing.
use Prim.Native.Nat.{◌+◌, ◌-◌, ◌≤◌}
use mathlib.Core.Path.{◌≡◌}
use lib.ListN.{drop}
use Rattle.model.specs.State.{numbers_from}
use Rattle.judge.specs.Heads.{heads, counts_of}
use Rattle.segments.proofs.Laws.Tables.{counted}
use Rattle.segments.proofs.see_frame.Given as goal

abbrev pub invariant-loop-i : goal.invariant-loop-i
invariant-loop-i l = (counted l.counts (drop l.i (heads l.segments l.table)) ≡ counts_of (heads l.segments l.table)) × (l.counts.used ≤ l.i) × (l.counts.next ≤ 4294967296) × (l.i ≤ l.segments)

abbrev pub invariant-loop-k : goal.invariant-loop-k
invariant-loop-k l = (numbers_from l.segments (heads l.segments l.table) (l.used - l.k) (l.first + l.k) ≡ numbers_from l.segments (heads l.segments l.table) l.used l.first) × (l.k ≤ l.used)
