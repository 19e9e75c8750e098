-- `qbx_share_file::blank_from`. The invariant: from `i` on the next blank is where it is from `at` on. Assumes nothing.
use Prim.Native.Nat.{◌+◌}
use mathlib.Core.Path.{◌≡◌}
use lib.ListN.{drop}
use Rattle.qbx_share_file.specs.ShareFile.{is_blank}
use Rattle.qbx_share_file.specs.Steps.{reach}
use Rattle.qbx_share_file.proofs.blank_from.Given as goal

abbrev pub invariant-loop-i : goal.invariant-loop-i
invariant-loop-i l = l.i + reach is_blank (drop l.i l.line) ≡ l.at + reach is_blank (drop l.at l.line)
