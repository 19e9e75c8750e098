-- `listing::see`. Assumes nothing.
use mathlib.Core.Path.{◌≡◌, ap, ◌∙◌}
use lib.ListN.{take}
use Rattle.model.specs.State.{segments_of}
use Rattle.model.proofs.Laws.Segments.{segments_length}
use Rattle.scan.proofs.Laws.Surveys.{right_size_lem}
use Rattle.scan.specs.declared.Surveyed.{Surveyed}
use Rattle.listing.specs.Walk.{hidden}
use Rattle.listing.proofs.Laws.Shows.{hidden_shown}
use Rattle.listing.proofs.see.Goals as goal

pub see_all-requires : goal.see_all-requires
see_all-requires c = (right_size_lem _ _ _ c.requires.0).0

pub hide-requires : goal.hide-requires
hide-requires c = let r = right_size_lem _ _ _ c.requires.0 in (r.0.some, r.0.segments)

pub returns : goal.returns
returns c =
    let a = c.args in
    let l = segments_of a.geometry.segments a.geometry.slots a.image.now in
    let r = right_size_lem _ _ _ c.requires.0 in
    let e : take a.geometry.segments c.hide.result ≡ take a.geometry.segments (hidden a.survey a.geometry.segments c.see_all.result) = ap (take a.geometry.segments) c.hide.ensures in
    e ∙ (ap (λ (x : Surveyed). take a.geometry.segments (hidden x a.geometry.segments c.see_all.result)) c.requires.1
    ∙ hidden_shown a.geometry.segments a.geometry.slots l c.see_all.result r.0.some (segments_length a.geometry.segments a.geometry.slots a.image.now) c.see_all.ensures)
