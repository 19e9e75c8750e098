-- `text::add_number`. The invariant: what is there, with the digits that are left written over it, is the whole. Assumes nothing.
use Prim.Native.Nat.{◌-◌, ◌≤◌}
use mathlib.Core.Path.{◌≡◌}
use lib.ListN.{length}
use Rattle.text.specs.Decimal.{decimal}
use Rattle.text.specs.Buffer.{over}
use Rattle.text.proofs.Laws.{last_digits}
use Rattle.text.proofs.add_number.Given as goal

abbrev pub invariant-loop-i : goal.invariant-loop-i
invariant-loop-i l =
    (l.at ≤ l.i) × (l.i ≤ length l.initial.text) × (length l.text ≡ length l.initial.text) × (over l.text l.at (last_digits (l.i - l.at) l.rest) ≡ over l.initial.text l.at (decimal l.n))
