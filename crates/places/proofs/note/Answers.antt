-- `places::note` notes what the definition notes. Assumes nothing.
use Rattle.places.proofs.Laws.Noted.{noted_done, noted_cut_lem, noted_refused}
use Rattle.places.proofs.note.Goals as goal

-- what makes the table unusable stands before what leaves it: an edit is refused for that
pub returns-in-Cut : goal.returns-in-Cut
returns-in-Cut c = noted_cut_lem _ _ _ _ c.in-Cut.is

pub returns-in_default : goal.returns-in_default
returns-in_default c = noted_refused _ _ _ _ c.in_default.not-Done c.in_default.not-Cut

pub returns-in-Done : goal.returns-in-Done
returns-in-Done c = noted_done _ _ _ _ c.in-Done.is
