-- `qbx_report::left_aside`: in (b) the segment after the top. Assumes nothing.
use mathlib.Core.Path.{sym}
use native.Mathlib.Omega.{arith}
use Rattle.model.specs.State.{segments_of}
use Rattle.scan.proofs.Laws.Surveys.{right_size_lem}
use Rattle.qbx_report.proofs.Laws.{aside_none, aside_next}
use Rattle.qbx_report.proofs.left_aside.Goals as goal

pub see_headers-seen-requires : goal.see_headers-seen-requires
see_headers-seen-requires c =
    let r = right_size_lem _ _ _ c.requires in
    (r.0, r.1)

pub nonzero_rem-result : goal.nonzero_rem-result
nonzero_rem-result c = let r = right_size_lem _ _ _ c.requires in omega (arith, r.1)

pub returns-in_default : goal.returns-in_default
returns-in_default c =
    let a = c.args in
    sym (aside_none a.geometry.segments (segments_of a.geometry.segments a.geometry.slots a.image.now) a.condition c.in_default.not-UnfinishedB)

pub returns : goal.returns
returns c =
    let a = c.args in
    aside_next a.geometry.segments a.geometry.slots a.image.now (right_size_lem _ _ _ c.requires).0.some _ c.see_headers-seen.ensures.0 a.condition c.in-UnfinishedB.is
