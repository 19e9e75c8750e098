-- `settings_says::say_complaint`: each text is the definition's. Assumes nothing.
use native.Mathlib.Omega.{arith}
use Rattle.text.specs.Text.{text}
use Rattle.qbx_lines.proofs.Laws.Lines.{more}
use Rattle.settings_says.specs.Said.{complaint_text}
use Rattle.settings_says.proofs.say_complaint.Goals as goal

pub returns-in-Partitions : goal.returns-in-Partitions
unfolding text complaint_text
returns-in-Partitions c = rw c.in-Partitions.is (more c.add.ensures c.empty-line.ensures.0, omega arith)

pub returns-in-NoLayout : goal.returns-in-NoLayout
unfolding text complaint_text
returns-in-NoLayout c = rw c.in-NoLayout.is (more c.add-in-NoLayout.ensures c.empty-line.ensures.0, omega arith)

pub returns-in-NoVerb : goal.returns-in-NoVerb
unfolding text complaint_text
returns-in-NoVerb c = rw c.in-NoVerb.is (more c.add-in-NoVerb.ensures c.empty-line.ensures.0, omega arith)

pub returns-in-Item : goal.returns-in-Item
unfolding text complaint_text
returns-in-Item c = rw c.in-Item.is (more c.add-in-Item.ensures c.empty-line.ensures.0, omega arith)

pub returns-in-NoOption : goal.returns-in-NoOption
unfolding text complaint_text
returns-in-NoOption c = rw c.in-NoOption.is (more c.add-in-NoOption.ensures c.empty-line.ensures.0, omega arith)

pub returns-in-Budget : goal.returns-in-Budget
unfolding text complaint_text
returns-in-Budget c = rw c.in-Budget.is (more c.add-in-Budget.ensures c.empty-line.ensures.0, omega arith)
