-- `pictures::draw`: the rows, then the legend. Assumes nothing.
use Rattle.model.specs.State.{segments_of}
use Rattle.text.proofs.Laws.{◌then◌, wrote_as}
use Rattle.pictures.proofs.Laws.{drawn}
use Rattle.pictures.proofs.draw.Goals as goal

pub returns : goal.returns
returns c =
    let a = c.args in
    let w = c.map_rows-rows.ensures.0 then c.add_legend.ensures.0 in
    wrote_as _ (drawn a.geometry.segments a.geometry.slots (segments_of a.geometry.segments a.geometry.slots a.image.now)) w
