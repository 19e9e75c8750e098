-- `qbx_share_file::word`. The invariant: the word is behind `left` others from `at` on. Assumes nothing.
use mathlib.Core.List.{[]}
use Prim.Native.Nat.{◌-◌, ◌≤◌}
use mathlib.Core.Path.{◌≡◌}
use lib.ListN.{length, drop, get_or}
use Rattle.qbx_share_file.specs.ShareFile.{words_of}
use Rattle.qbx_share_file.proofs.word.Given as goal

abbrev pub invariant-loop-at : goal.invariant-loop-at
invariant-loop-at l = (l.at ≤ length l.line) × (get_or (words_of (drop l.at l.line)) l.left [] ≡ get_or (words_of l.line) l.k [])

abbrev pub decreases-loop-at : goal.decreases-loop-at
decreases-loop-at l = length l.line - l.at
