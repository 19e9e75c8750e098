-- `qbx_census::take_census`. The invariant: what is left of the segments, behind what was counted, gives the whole. Assumes nothing.
use Prim.Native.Nat.{◌+◌, ◌≤◌, ◌<◌}
use mathlib.Core.Path.{◌≡◌, refl, sym, ap, ◌∙◌}
use native.Mathlib.Omega.{arith}
use lib.ListN.{length, get_or, drop}
use Rattle.model.specs.State.{blank, segments_of}
use Rattle.model.proofs.Laws.Segments.{segments_length}
use Rattle.qbx_census.specs.declared.Census.{Census}
use Rattle.qbx_census.specs.Census.{total, set_aside, count_segment, count_segments, census_of}
use Rattle.qbx_census.proofs.Laws.{aside_length, aside_there, aside_other, segments_next, segments_end}
use Rattle.qbx_census.proofs.take_census.Goals as goal
use Rattle.qbx_census.proofs.take_census.Goals.{then-i-aside, else-i-aside}

pub loop-i-init : goal.loop-i-init
unfolding census_of
loop-i-init c =
    let a = c.args in
    let l = set_aside a.aside (segments_of a.geometry.segments a.geometry.slots a.image.now) in
    (omega arith, omega arith, refl)

pub count_segment-census-requires : goal.count_segment-census-requires
count_segment-census-requires c =
    (c.requires, c.loop-i-test.true, omega (arith, c.requires.segments, c.loop-i.invariant.1))

pub loop-i-preserved : goal.loop-i-preserved
loop-i-preserved c =
    let a = c.args in
    let l = segments_of a.geometry.segments a.geometry.slots a.image.now in
    let m = set_aside a.aside l in
    let n : c.loop-i.i < length m = omega (arith, aside_length a.geometry.segments a.geometry.slots a.image.now a.aside, c.loop-i-test.true) in
    let e : (c.if-i-aside.census ≡ count_segment c.loop-i.census (get_or m c.loop-i.i blank)) × (total c.if-i-aside.census ≤ total c.loop-i.census + 256) =
    elim c.if-i-aside.branch [
      | then-i-aside w ↦ (w.census-is ∙ (w.count_segment-census.ensures.0 ∙ aside_other l c.loop-i.i a.aside c.loop-i.census w.if-i-aside.true), omega (arith, ap total w.census-is, w.count_segment-census.ensures.1))
      | else-i-aside w ↦ (w.census-is ∙ aside_there l c.loop-i.i a.aside c.loop-i.census (omega (arith, segments_length a.geometry.segments a.geometry.slots a.image.now, c.loop-i-test.true)) (omega (arith, w.if-i-aside.false)), omega (arith, ap total w.census-is))
    ] in (
      omega arith,
      omega (arith, e.1, c.loop-i.invariant.1),
      ap (λ (x : Census). count_segments x (drop (c.loop-i.i + 1) m)) e.0 ∙ (sym (segments_next m c.loop-i.i c.loop-i.census n) ∙ c.loop-i.invariant.2),
    )

pub returns : goal.returns
returns c =
    let a = c.args in
    let m = set_aside a.aside (segments_of a.geometry.segments a.geometry.slots a.image.now) in
    let n : length m ≤ c.loop-i.i = omega (arith, aside_length a.geometry.segments a.geometry.slots a.image.now a.aside, c.loop-i-test.false) in
    sym (segments_end m c.loop-i.i c.loop-i.census n) ∙ c.loop-i.invariant.2
