-- `segments::tell` tells what the definition does. Assumes nothing.
use Rattle.judge.specs.Heads.{headers_by}
use Rattle.segments.proofs.tell.Goals as goal

pub returns : goal.returns
unfolding headers_by
returns c = rw (c.is_owing-owing.ensures, c.is_invalid-torn.ensures, c.shows_blank-blank.ensures)
