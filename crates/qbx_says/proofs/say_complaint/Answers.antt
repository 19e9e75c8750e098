-- `qbx_says::say_complaint`: each text is the definition's. Assumes nothing.
use native.Mathlib.Omega.{arith}
use Rattle.text.specs.Text.{text}
use Rattle.qbx_says.specs.Said.{complaint_text}
use Rattle.qbx_lines.proofs.Laws.Lines.{more}
use Rattle.qbx_says.proofs.say_complaint.Goals as goal

pub returns-in-Segments : goal.returns-in-Segments
unfolding text complaint_text
returns-in-Segments c = rw c.in-Segments.is (more c.add.ensures c.empty-line.ensures.0, omega arith)

pub returns-in-Slots : goal.returns-in-Slots
unfolding text complaint_text
returns-in-Slots c = rw c.in-Slots.is (more c.add-in-Slots.ensures c.empty-line.ensures.0, omega arith)

pub returns-in-NoVerb : goal.returns-in-NoVerb
unfolding text complaint_text
returns-in-NoVerb c = rw c.in-NoVerb.is (more c.add-in-NoVerb.ensures c.empty-line.ensures.0, omega arith)

pub returns-in-Block : goal.returns-in-Block
unfolding text complaint_text
returns-in-Block c = rw c.in-Block.is (more c.add-in-Block.ensures c.empty-line.ensures.0, omega arith)

pub returns-in-NoTarget : goal.returns-in-NoTarget
unfolding text complaint_text
returns-in-NoTarget c = rw c.in-NoTarget.is (more c.add-in-NoTarget.ensures c.empty-line.ensures.0, omega arith)

pub returns-in-TargetSegments : goal.returns-in-TargetSegments
unfolding text complaint_text
returns-in-TargetSegments c = rw c.in-TargetSegments.is (more c.add-in-TargetSegments.ensures c.empty-line.ensures.0, omega arith)

pub returns-in-TargetSlots : goal.returns-in-TargetSlots
unfolding text complaint_text
returns-in-TargetSlots c = rw c.in-TargetSlots.is (more c.add-in-TargetSlots.ensures c.empty-line.ensures.0, omega arith)

pub returns-in-NoShares : goal.returns-in-NoShares
unfolding text complaint_text
returns-in-NoShares c = rw c.in-NoShares.is (more c.add-in-NoShares.ensures c.empty-line.ensures.0, omega arith)

pub returns-in-Tenant : goal.returns-in-Tenant
unfolding text complaint_text
returns-in-Tenant c = rw c.in-Tenant.is (more c.add-in-Tenant.ensures c.empty-line.ensures.0, omega arith)

pub returns-in-NoOption : goal.returns-in-NoOption
unfolding text complaint_text
returns-in-NoOption c = rw c.in-NoOption.is (more c.add-in-NoOption.ensures c.empty-line.ensures.0, omega arith)

pub returns-in-Budget : goal.returns-in-Budget
unfolding text complaint_text
returns-in-Budget c = rw c.in-Budget.is (more c.add-in-Budget.ensures c.empty-line.ensures.0, omega arith)
