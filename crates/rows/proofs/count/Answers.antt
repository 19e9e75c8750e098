-- `rows::count` is one slot more of the definition's pass. Assumes nothing.
use Rattle.judge.specs.Rows.{see}
use Rattle.rows.proofs.count.Goals as goal

pub returns-in-Empty : goal.returns-in-Empty
unfolding see
returns-in-Empty c = rw (c.leave_room.ensures, c.in-Empty.is)

pub returns-in-Torn : goal.returns-in-Torn
unfolding see
returns-in-Torn c = rw (c.behind.ensures, c.in-Torn.is)

pub returns-in-Live : goal.returns-in-Live
unfolding see
returns-in-Live c = rw (c.behind-in-Live.ensures, c.live_ending-then.ensures, c.meet.ensures.0, c.meet.ensures.1, c.in-Live.is)

pub returns-in-Dead : goal.returns-in-Dead
unfolding see
returns-in-Dead c = rw (c.behind-in-Dead.ensures, c.in-Dead.is)

pub returns-in-Cut : goal.returns-in-Cut
unfolding see
returns-in-Cut c = rw (c.behind-in-Cut.ensures, c.in-Cut.is)

pub returns-in-Wrong : goal.returns-in-Wrong
unfolding see
returns-in-Wrong c = rw (c.in-Wrong.is)
