-- `qbx_report::report_on`: the state, the census and the top. Assumes nothing.
use Rattle.model.specs.State.{segments_of}
use Rattle.model.proofs.Laws.Segments.{segments_length}
use Rattle.flash.proofs.Pages.{sized}
use Rattle.qbx_report.specs.Report.{report_of}
use Rattle.qbx_report.proofs.Laws.{census_shown}
use Rattle.qbx_report.proofs.report_on.Goals as goal

pub take_census-census-requires : goal.take_census-census-requires
take_census-census-requires c = sized _ _ _ c.requires

pub returns : goal.returns
unfolding report_of
returns c =
    let k = c.condition_of-condition in
    let a = c.args in
    let l = segments_of a.geometry.segments a.geometry.slots a.image.now in
    let t = census_shown a.geometry.segments l a.geometry.slots (segments_length a.geometry.segments a.geometry.slots a.image.now) k.result k.ensures c.left_aside-aside.result c.left_aside-aside.ensures c.take_census-census.result c.take_census-census.ensures in
    rw (k.ensures, t, c.see_top-top.ensures)
