-- `qbx_script_words::word`. The invariant: the word is as far behind in what is left as there are spaces still to pass. Assumes nothing.
use Prim.Native.Nat.{◌-◌, ◌≤◌}
use mathlib.Core.Path.{◌≡◌}
use lib.ListN.{length, drop}
use Rattle.qbx_script_words.specs.Script.{word_at}
use Rattle.qbx_script_words.proofs.word.Given as goal

abbrev pub invariant-loop-i : goal.invariant-loop-i
invariant-loop-i l = (l.at ≤ length l.line) × (l._i ≤ l.k) × (word_at (l.k - l._i) (drop l.at l.line) ≡ word_at l.k l.line)
