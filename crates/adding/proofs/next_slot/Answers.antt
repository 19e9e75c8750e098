-- `adding::next_slot` opens the next segment where the top has no empty slot. Assumes nothing.
use native.Mathlib.Omega.{arith}
use Rattle.adding.proofs.Laws.{still_free, next_opened}
use Rattle.adding.proofs.next_slot.Goals as goal

-- an edit of the test is refused where it opens a segment, and not here for its words
pub returns-then-at-gt0 : goal.returns-then-at-gt0
returns-then-at-gt0 c =
    still_free c.args.geometry.segments c.args.geometry.slots c.args.at c.args.target.now c.requires (omega (arith, c.if-at-gt0.true))

pub returns : goal.returns
returns c =
    next_opened c.args.geometry.segments c.args.geometry.slots c.args.at c.args.target.now c.requires (omega (arith, c.if-at-gt0.false)) c.open_header-left.ensures
