-- `mapping::map_rows`. The invariant: whatever adds the rows that are left finishes them all. Assumes nothing.
use Prim.Native.Nat.{◌+◌, ◌*◌, ◌≤◌}
use lib.ListN.{drop}
use Rattle.model.specs.State.{segments_of}
use Rattle.account_text.specs.Account.{shown}
use Rattle.account_text.specs.Map.{map_rows}
use Rattle.marking.specs.Finishes.{Finishes}
use Rattle.mapping.proofs.map_rows.Given as goal

abbrev pub invariant-loop-i : goal.invariant-loop-i
invariant-loop-i l =
    Finishes (map_rows l.next l.i (drop l.i (shown l.geometry.segments l.geometry.slots (segments_of l.geometry.segments l.geometry.slots l.image)))) (map_rows l.next 0 (shown l.geometry.segments l.geometry.slots (segments_of l.geometry.segments l.geometry.slots l.image))) l.initial.text l.at l.text l.end
    × (l.i ≤ l.geometry.segments)
    × (l.end ≤ l.at + 6000 * l.i)
