-- `meeting::meet`. Assumes nothing.
use Rattle.meeting.proofs.Laws.{met_first, met_other, met_same}
use Rattle.meeting.proofs.meet.Goals as goal

pub returns-then-given-eq0 : goal.returns-then-given-eq0
returns-then-given-eq0 c =
    let a = c.args in
    met_first a.image.now a.place a.block.0 a.size c.from-b.result a.sheet.now c.from-b.ensures c.if-given-eq0.true

pub returns-then-pages_differ : goal.returns-then-pages_differ
returns-then-pages_differ c =
    let a = c.args in
    met_other a.image.now a.place a.block.0 a.size c.from-b.result a.sheet.now c.from-b.ensures c.if-given-eq0.false c.pages_differ.result c.pages_differ.ensures c.if-pages_differ.true

pub returns-else-pages_differ : goal.returns-else-pages_differ
returns-else-pages_differ c =
    let a = c.args in
    met_same a.image.now a.place a.block.0 a.size c.from-b.result a.sheet.now c.from-b.ensures c.if-given-eq0.false c.pages_differ.result c.pages_differ.ensures c.if-pages_differ.false
