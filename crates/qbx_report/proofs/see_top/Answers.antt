-- `qbx_report::see_top`: the header of the number before the next is the top's. Assumes nothing.
use Rattle.scan.proofs.Laws.Surveys.{right_size_lem}
use Rattle.qbx_report.proofs.Laws.{top_missing, top_told_lem}
use Rattle.qbx_report.proofs.see_top.Goals as goal

pub see_headers-seen-requires : goal.see_headers-seen-requires
see_headers-seen-requires c =
    let r = right_size_lem _ _ _ c.requires in
    (r.0, r.1)

pub returns-then-seen-eq0 : goal.returns-then-seen-eq0
returns-then-seen-eq0 c =
    let a = c.args in
    top_missing a.geometry.segments a.geometry.slots a.image.now (right_size_lem _ _ _ c.requires).0.some _ c.see_headers-seen.ensures.0 c.if-seen-eq0.true

pub tally_in-told-requires : goal.tally_in-told-requires
tally_in-told-requires c = (right_size_lem _ _ _ c.requires).0

pub returns-then-told : goal.returns-then-told
returns-then-told c =
    let a = c.args in
    let t = c.tally_in-told in
    let k = top_told_lem a.geometry.segments a.geometry.slots a.image.now (right_size_lem _ _ _ c.requires).0.some _ c.see_headers-seen.ensures.0 c.if-seen-eq0.false t.result t.ensures.0 in
    rw c.if-told.true at k

pub returns : goal.returns
returns c =
    let a = c.args in
    let t = c.tally_in-told in
    let k = top_told_lem a.geometry.segments a.geometry.slots a.image.now (right_size_lem _ _ _ c.requires).0.some _ c.see_headers-seen.ensures.0 c.if-seen-eq0.false t.result t.ensures.0 in
    rw c.if-told.false at k
