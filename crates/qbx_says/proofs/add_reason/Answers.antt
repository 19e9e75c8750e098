-- `qbx_says::add_reason`: each word is the definition's. Assumes nothing.
use native.Mathlib.Omega.{arith}
use Rattle.text.specs.Text.{text}
use Rattle.qbx_says.specs.Said.{reason}
use Rattle.qbx_says.proofs.add_reason.Goals as goal

pub returns-in-Done : goal.returns-in-Done
unfolding text reason
returns-in-Done c = rw c.in-Done.is (c.add.ensures, omega arith)

pub returns-in-Size : goal.returns-in-Size
unfolding text reason
returns-in-Size c = rw c.in-Size.is (c.add-in-Size.ensures, omega arith)

pub returns-in-Number : goal.returns-in-Number
unfolding text reason
returns-in-Number c = rw c.in-Number.is (c.add-in-Number.ensures, omega arith)

pub returns-in-Length : goal.returns-in-Length
unfolding text reason
returns-in-Length c = rw c.in-Length.is (c.add-in-Length.ensures, omega arith)

pub returns-in-Damaged : goal.returns-in-Damaged
unfolding text reason
returns-in-Damaged c = rw c.in-Damaged.is (c.add-in-Damaged.ensures, omega arith)

pub returns-in-Unfinished : goal.returns-in-Unfinished
unfolding text reason
returns-in-Unfinished c = rw c.in-Unfinished.is (c.add-in-Unfinished.ensures, omega arith)

pub returns-in-Absent : goal.returns-in-Absent
unfolding text reason
returns-in-Absent c = rw c.in-Absent.is (c.add-in-Absent.ensures, omega arith)

pub returns-in-Full : goal.returns-in-Full
unfolding text reason
returns-in-Full c = rw c.in-Full.is (c.add-in-Full.ensures, omega arith)

pub returns-in-Worn : goal.returns-in-Worn
unfolding text reason
returns-in-Worn c = rw c.in-Worn.is (c.add-in-Worn.ensures, omega arith)

pub returns-in-Cut : goal.returns-in-Cut
unfolding text reason
returns-in-Cut c = rw c.in-Cut.is (c.add-in-Cut.ensures, omega arith)

pub returns-in-ShortTable : goal.returns-in-ShortTable
unfolding text reason
returns-in-ShortTable c = rw c.in-ShortTable.is (c.add-in-ShortTable.ensures, omega arith)

pub returns-in-FormerVersion : goal.returns-in-FormerVersion
unfolding text reason
returns-in-FormerVersion c = rw c.in-FormerVersion.is (c.add-in-FormerVersion.ensures, omega arith)

pub returns-in-Foreign : goal.returns-in-Foreign
unfolding text reason
returns-in-Foreign c = rw c.in-Foreign.is (c.add-in-Foreign.ensures, omega arith)

pub returns-in-Shares : goal.returns-in-Shares
unfolding text reason
returns-in-Shares c = rw c.in-Shares.is (c.add-in-Shares.ensures, omega arith)

pub returns-in-ShortBuffer : goal.returns-in-ShortBuffer
unfolding text reason
returns-in-ShortBuffer c = rw c.in-ShortBuffer.is (c.add-in-ShortBuffer.ensures, omega arith)
