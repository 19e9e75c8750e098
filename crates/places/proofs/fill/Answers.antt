-- `places::fill` makes the filled table of the definition. Assumes nothing.
use native.Mathlib.Omega.{arith}
use Rattle.model.proofs.Laws.Bytes.{bytes_known}
use Rattle.flash.proofs.Pages.{sized}
use Rattle.places.proofs.Laws.Filled.{filled_zero, fill_number, begun_length, fill_length, fill_made}
use Rattle.places.proofs.fill.Goals as goal

pub enter-requires : goal.enter-requires
enter-requires c = (
  sized c.args.geometry.segments c.args.geometry.slots c.args.image.now c.requires.0.size,
  fill_number c.args.geometry.segments c.args.geometry.slots c.args.image.now _ _ c.requires.0,
  omega (arith, c.requires.1, begun_length c.args.places.now c.requires.1 _ (filled_zero _ _ _ c.requires.1 (c.fill.ensures.after (λ y h. h)))),
)

pub shape_of-places : goal.shape_of-places
shape_of-places c =
    fill_length c.args.places.now c.requires.1 _ (filled_zero _ _ _ c.requires.1 (c.fill.ensures.after (λ y h. h))) _ _ _ _ _ _ c.enter.ensures

pub returns : goal.returns
returns c =
    fill_made c.args.geometry.segments c.args.geometry.slots c.args.image.now _ _ c.requires.0 (bytes_known c.args.image.now (λ i. omega (arith, c.type_inv.image i)))
    c.args.places.now c.requires.1 _ _ (filled_zero _ _ _ c.requires.1 (c.fill.ensures.after (λ y h. h))) c.enter.ensures
