-- `pictures::map`: what is put together twice is the text. Assumes nothing.
use Prim.Native.Nat.{ℕ}
use mathlib.Core.Path.{ap, ◌∙◌}
use mathlib.Core.List.{List}
use native.Mathlib.Omega.{arith}
use Rattle.scan.proofs.Laws.Surveys.{right_size_lem}
use Rattle.text.specs.Buffer.{print_in}
use Rattle.text.proofs.Laws.{print_short, print_done, wrote_as}
use Rattle.printing.proofs.Laws.{right}
use Rattle.pictures.proofs.Laws.{wrong_map, right_map, next_is}
use Rattle.pictures.proofs.map.Goals as goal

pub returns-then-not-right_size : goal.returns-then-not-right_size
returns-then-not-right_size c =
    let a = c.args in
    c.wrong_size.ensures.0 ∙ ap (λ (t : List ℕ). print_in t a.text.now) (wrong_map a.segments a.slots a.image.now c.right_size.result c.right_size.ensures c.if-not-right_size.true)

pub survey-survey-requires : goal.survey-survey-requires
survey-survey-requires c = right c.args.segments c.args.slots c.args.image.now c.right_size.result c.right_size.ensures c.if-not-right_size.false

pub see-table-requires : goal.see-table-requires
see-table-requires c = (right c.args.segments c.args.slots c.args.image.now c.right_size.result c.right_size.ensures c.if-not-right_size.false, c.survey-survey.ensures)

pub next_number-next-requires : goal.next_number-next-requires
next_number-next-requires c = (right_size_lem _ _ _ (right c.args.segments c.args.slots c.args.image.now c.right_size.result c.right_size.ensures c.if-not-right_size.false)).0.segments

pub draw-length-requires : goal.draw-length-requires
draw-length-requires c = ((right_size_lem _ _ _ (right c.args.segments c.args.slots c.args.image.now c.right_size.result c.right_size.ensures c.if-not-right_size.false)).0, c.see-table.ensures, next_is _ _ _ _ _ c.see-table.ensures c.next_number-next.ensures)

pub returns-then-length-text : goal.returns-then-length-text
returns-then-length-text c =
    let a = c.args in
    let e = right_map a.segments a.slots a.image.now (right c.args.segments c.args.slots c.args.image.now c.right_size.result c.right_size.ensures c.if-not-right_size.false) in
    let w = wrote_as _ e c.draw-length.ensures in
    print_short _ _ _ (omega (arith, w.ends, c.if-length-text.true)) c.short.ensures

pub draw-requires : goal.draw-requires
draw-requires c = ((right_size_lem _ _ _ (right c.args.segments c.args.slots c.args.image.now c.right_size.result c.right_size.ensures c.if-not-right_size.false)).0, c.see-table.ensures, next_is _ _ _ _ _ c.see-table.ensures c.next_number-next.ensures)

pub returns : goal.returns
returns c =
    let a = c.args in
    let e = right_map a.segments a.slots a.image.now (right c.args.segments c.args.slots c.args.image.now c.right_size.result c.right_size.ensures c.if-not-right_size.false) in
    let w = wrote_as _ e c.draw-length.ensures in
    let v = wrote_as _ e c.draw.ensures in
    print_done _ _ _ _ _ (omega (arith, w.ends, c.if-length-text.false)) v c.done.ensures
