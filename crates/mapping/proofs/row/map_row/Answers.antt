-- `mapping::row::map_row`: the row of each state. Assumes nothing.
use native.Mathlib.Omega.{arith}
use native.Mathlib.Numerals.{add-one}
use Rattle.flash.proofs.Pages.{segment_inside}
use Rattle.text.specs.Text.{text}
use Rattle.account_text.specs.Map.{state_word, map_row}
use Rattle.mapping.specs.Marks.{segment_by}
use Rattle.mapping.proofs.row.map_row.Goals as goal

pub used_row-requires : goal.used_row-requires
used_row-requires c =
    let p = segment_inside c.args.geometry.segments c.args.geometry.slots c.args.index _ c.requires.0 c.requires.1 in
    (omega arith, c.requires.0.slots, omega (arith, c.requires), c.requires.2, omega arith)

pub used_row-requires-in-Owing : goal.used_row-requires-in-Owing
used_row-requires-in-Owing c =
    let p = segment_inside c.args.geometry.segments c.args.geometry.slots c.args.index _ c.requires.0 c.requires.1 in
    (omega arith, c.requires.0.slots, omega (arith, c.requires), c.requires.2, omega arith)

pub returns-in-Blank : goal.returns-in-Blank
unfolding segment_by map_row state_word text
returns-in-Blank c =
    (rw c.in-Blank.is c.unused_row.ensures.0, omega (arith, c.unused_row.ensures.1))

pub returns-in-Invalid : goal.returns-in-Invalid
unfolding segment_by map_row state_word text
returns-in-Invalid c =
    (rw c.in-Invalid.is c.unused_row-in-Invalid.ensures.0, omega (arith, c.unused_row-in-Invalid.ensures.1))

pub returns-in-InUse : goal.returns-in-InUse
unfolding segment_by map_row state_word text
returns-in-InUse c =
    (rw (c.in-InUse.is, ← add-one c.args.shown.number.0) c.used_row.ensures.0, omega (arith, c.used_row.ensures.1))

pub returns-in-Owing : goal.returns-in-Owing
unfolding segment_by map_row state_word text
returns-in-Owing c =
    (rw (c.in-Owing.is, ← add-one c.args.shown.number.0) c.used_row-in-Owing.ensures.0, omega (arith, c.used_row-in-Owing.ensures.1))
