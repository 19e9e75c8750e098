-- `settings_work::on_image`: the buffer has a byte more than an image may have. Assumes nothing.
use Rattle.qbx_rooms.proofs.Laws.{as_many}
use Rattle.settings_work.proofs.on_image.Goals as goal

pub slice_bounds-work-end : goal.slice_bounds-work-end
slice_bounds-work-end c = as_many 1048577 255
