-- `settings_says::add_reason`: each word is the definition's. Assumes nothing.
use native.Mathlib.Omega.{arith}
use Rattle.text.specs.Text.{text}
use Rattle.settings_says.specs.Said.{reason}
use Rattle.settings_says.proofs.add_reason.Goals as goal

pub returns-in-Done : goal.returns-in-Done
unfolding text reason
returns-in-Done c = rw c.in-Done.is (c.add.ensures, omega arith)

pub returns-in-Partitions : goal.returns-in-Partitions
unfolding text reason
returns-in-Partitions c = rw c.in-Partitions.is (c.add-in-Partitions.ensures, omega arith)

pub returns-in-Layout : goal.returns-in-Layout
unfolding text reason
returns-in-Layout c = rw c.in-Layout.is (c.add-in-Layout.ensures, omega arith)

pub returns-in-Mismatch : goal.returns-in-Mismatch
unfolding text reason
returns-in-Mismatch c = rw c.in-Mismatch.is (c.add-in-Mismatch.ensures, omega arith)

pub returns-in-Statuses : goal.returns-in-Statuses
unfolding text reason
returns-in-Statuses c = rw c.in-Statuses.is (c.add-in-Statuses.ensures, omega arith)

pub returns-in-Unwritten : goal.returns-in-Unwritten
unfolding text reason
returns-in-Unwritten c = rw c.in-Unwritten.is (c.add-in-Unwritten.ensures, omega arith)

pub returns-in-Cut : goal.returns-in-Cut
unfolding text reason
returns-in-Cut c = rw c.in-Cut.is (c.add-in-Cut.ensures, omega arith)
