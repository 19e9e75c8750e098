-- `qbx_images::piece`: as far as the image goes. Assumes nothing.
use Rattle.qbx_images.proofs.Laws.{piece_none, piece_rest, piece_whole}
use Rattle.qbx_images.proofs.piece.Goals as goal

pub returns-then-image-at : goal.returns-then-image-at
returns-then-image-at c = piece_none c.args.image.now c.args.at c.args.count c.if-image-at.true

pub returns-then-image-at-2 : goal.returns-then-image-at-2
returns-then-image-at-2 c = piece_rest c.args.image.now c.args.at c.args.count c.if-image-at-2.true

pub returns : goal.returns
returns c = piece_whole c.args.image.now c.args.at c.args.count
