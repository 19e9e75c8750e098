-- `rebuilding::given_count`. The invariant: those of the smaller block numbers are counted. Assumes nothing.
use mathlib.Core.Path.{◌≡◌, sym, ap, ◌∙◌}
use native.Mathlib.Omega.{arith}
use lib.ListN.{take}
use lib.Seq.{take_all}
use lib.Dec.{ltb}
use Rattle.model.specs.Lists.{count}
use Rattle.index.specs.Tables.{most_pages}
use Rattle.rebuilding.proofs.Laws.{count_none, count_more, count_few}
use Rattle.rebuilding.proofs.given_count.Goals as goal
use Rattle.rebuilding.proofs.given_count.Goals.{then-place-ne0, else-place-ne0}

pub loop-place-init : goal.loop-place-init
loop-place-init c = sym (count_none c.args.places.now)

pub overflow_add-given : goal.overflow_add-given
overflow_add-given c = let l = c.loop-place in omega (arith, l.invariant, count_few c.args.places.now l.place-index, c.loop-place-test.true)

pub overflow_cast-result : goal.overflow_cast-result
overflow_cast-result c = let l = c.loop-place in omega (arith, l.invariant, count_few c.args.places.now l.place-index)

pub returns : goal.returns
returns c =
    let l = c.loop-place in
    let e : l.place-index ≡ most_pages = omega (arith, c.loop-place-test.false) in
    l.invariant ∙ (ap (λ k. count (λ p. ltb 0 p) (take k c.args.places.now)) e ∙ ap (count (λ p. ltb 0 p)) (take_all most_pages c.args.places.now (omega (arith, c.requires))))

pub loop-place-preserved : goal.loop-place-preserved
loop-place-preserved c =
    let l = c.loop-place in
    let t = c.loop-place-test.true in
    let m = count_more c.args.places.now l.place-index l.given (omega (arith, c.requires, t)) l.invariant in
    elim c.if-place-ne0.branch [ then-place-ne0 w ↦ w.given-is ∙ m.0 w.if-place-ne0.true | else-place-ne0 w ↦ w.given-is ∙ m.1 (omega (arith, w.if-place-ne0.false)) ]
