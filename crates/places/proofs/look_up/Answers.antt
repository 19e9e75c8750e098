-- `places::look_up` sees what the definition sees. Assumes nothing.
use native.Mathlib.Omega.{arith}
use Rattle.places.proofs.Laws.Seen.{seen_absent, seen_uneven, seen_header, seen_outside, seen_long, seen_at}
use Rattle.places.proofs.look_up.Goals as goal

-- what is believed stands before what is not: an edit is refused for that
pub returns : goal.returns
returns c =
    seen_at _ _ _ c.if-at-eq0.false c.if-at-ne0.false c.if-at-slots-eq0.false c.if-image-place.false (omega (arith, c.from-length.ensures, c.if-length-gt-MOST_CONTENTS.false)) _ c.from-length.ensures

pub returns-then-at-eq0 : goal.returns-then-at-eq0
returns-then-at-eq0 c = seen_absent _ _ _ c.if-at-eq0.true

pub returns-then-at-ne0 : goal.returns-then-at-ne0
returns-then-at-ne0 c = seen_uneven _ _ _ c.if-at-eq0.false c.if-at-ne0.true

pub returns-then-at-slots-eq0 : goal.returns-then-at-slots-eq0
returns-then-at-slots-eq0 c = seen_header _ _ _ c.if-at-eq0.false c.if-at-ne0.false c.if-at-slots-eq0.true

pub overflow_cast-place : goal.overflow_cast-place
overflow_cast-place c = record { fits = omega (arith, c.type_inv.places c.args.block.0) }

pub overflow_add-place : goal.overflow_add-place
overflow_add-place c = record { fits = omega (arith, c.type_inv.places c.args.block.0) }

pub returns-then-image-place : goal.returns-then-image-place
returns-then-image-place c = seen_outside _ _ _ c.if-at-eq0.false c.if-at-ne0.false c.if-at-slots-eq0.false (omega (arith, c.if-image-place.true))

pub returns-then-length-gt-MOST_CONTENTS : goal.returns-then-length-gt-MOST_CONTENTS
returns-then-length-gt-MOST_CONTENTS c =
    seen_long _ _ _ c.if-at-eq0.false c.if-at-ne0.false c.if-at-slots-eq0.false c.if-image-place.false (omega (arith, c.from-length.ensures, c.if-length-gt-MOST_CONTENTS.true))
