-- `meeting::pages_differ`. The invariant: whether the bytes so far differ. Assumes nothing.
use mathlib.Core.Path.{◌≡◌}
use mathlib.Core.Bool.{not}
use lib.ListN.{take}
use Rattle.model.specs.Lists.{same}
use Rattle.meeting.proofs.pages_differ.Given as goal

abbrev pub invariant-loop-i : goal.invariant-loop-i
invariant-loop-i l = l.differ ≡ not (same (take l.i l.a) (take l.i l.b))
