-- `qbx_report::condition_of`: the state that the survey says. Assumes nothing.
use Rattle.scan.specs.Surveys.{state_in}
use Rattle.qbx_report.specs.Report.{condition_of}
use Rattle.qbx_report.proofs.Laws.{condition_told}
use Rattle.qbx_report.proofs.condition_of.Goals as goal

pub returns-in-Clean : goal.returns-in-Clean
unfolding condition_of state_in
returns-in-Clean c = condition_told _ _ _ _ _ c.survey-surveyed.ensures c.in-Clean.is

pub returns-in-TornSegment : goal.returns-in-TornSegment
unfolding condition_of state_in
returns-in-TornSegment c = condition_told _ _ _ _ _ c.survey-surveyed.ensures c.in-TornSegment.is

pub returns-in-ErasePending : goal.returns-in-ErasePending
unfolding condition_of state_in
returns-in-ErasePending c = condition_told _ _ _ _ _ c.survey-surveyed.ensures c.in-ErasePending.is

pub returns-in-TornSlot : goal.returns-in-TornSlot
unfolding condition_of state_in
returns-in-TornSlot c = condition_told _ _ _ _ _ c.survey-surveyed.ensures c.in-TornSlot.is

pub returns-in-OldSlot : goal.returns-in-OldSlot
unfolding condition_of state_in
returns-in-OldSlot c = condition_told _ _ _ _ _ c.survey-surveyed.ensures c.in-OldSlot.is

pub returns-in-Damaged : goal.returns-in-Damaged
unfolding condition_of state_in
returns-in-Damaged c = condition_told _ _ _ _ _ c.survey-surveyed.ensures c.in-Damaged.is
