-- `rows::scan_row` is the definition's pass over a row. Invariant: what is left of the row, behind what was seen, gives the whole. Assumes nothing.
use Prim.Native.Nat.{◌+◌, ◌-◌, ◌*◌, ◌≤◌}
use mathlib.Core.Path.{◌≡◌}
use Rattle.judge.specs.Rows.{pass, see_all, no_row, kinds_at, Small}
use Rattle.rows.proofs.scan_row.Given as goal

abbrev pub invariant-loop-i : goal.invariant-loop-i
invariant-loop-i l =
    (see_all (kinds_at l.image (l.at + l.i * 256) (l.slots - l.i)) (pass l.row l.seen) ≡ see_all (kinds_at l.image l.at l.slots) (pass no_row l.initial.seen)) × (l.i ≤ l.slots) × Small l.row l.i
