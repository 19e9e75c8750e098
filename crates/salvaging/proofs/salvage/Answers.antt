-- `salvaging::salvage`: what is put together twice is the text. Assumes nothing.
use mathlib.Core.Path.{refl, ◌∙◌}
use native.Mathlib.Omega.{arith}
use Rattle.request.proofs.Laws.{wrong_size, right_size_lem}
use Rattle.text.specs.Buffer.{short_of, done_of}
use Rattle.text.proofs.Laws.{print_short, print_done}
use Rattle.salvaging.proofs.Laws.{size_refused, size_right}
use Rattle.salvaging.proofs.salvage.Goals as goal

pub returns-then-not-right_size : goal.returns-then-not-right_size
returns-then-not-right_size c =
    let a = c.args in
    (size_refused a.segments a.slots a.image.now a.text.now (wrong_size a.segments a.slots a.image.now _ c.right_size.ensures c.if-not-right_size.true), omega arith)

pub gather-requires : goal.gather-requires
gather-requires c =
    let a = c.args in
    (right_size_lem a.segments a.slots a.image.now _ c.right_size.ensures c.if-not-right_size.false, refl, refl, refl)

pub compose-length-requires : goal.compose-length-requires
compose-length-requires c =
    let a = c.args in
    (right_size_lem a.segments a.slots a.image.now _ c.right_size.ensures c.if-not-right_size.false, c.gather.ensures)

pub returns-then-length-text : goal.returns-then-length-text
unfolding short_of
returns-then-length-text c =
    let a = c.args in
    let w = c.compose-length.ensures.0 in
    (print_short _ _ _ (omega (arith, w.ends, c.if-length-text.true)) c.short.ensures ∙ size_right a.segments a.slots a.image.now a.text.now (right_size_lem a.segments a.slots a.image.now _ c.right_size.ensures c.if-not-right_size.false), rw c.short.ensures (omega arith))

pub compose-requires : goal.compose-requires
compose-requires c =
    let a = c.args in
    (right_size_lem a.segments a.slots a.image.now _ c.right_size.ensures c.if-not-right_size.false, c.gather.ensures)

pub returns : goal.returns
unfolding done_of
returns c =
    let a = c.args in
    let w = c.compose-length.ensures.0 in
    let v = c.compose.ensures in
    (print_done _ _ _ _ _ (omega (arith, w.ends, c.if-length-text.false)) v.0 c.done.ensures ∙ size_right a.segments a.slots a.image.now a.text.now (right_size_lem a.segments a.slots a.image.now _ c.right_size.ensures c.if-not-right_size.false), rw c.done.ensures (omega (arith, v.1)))
