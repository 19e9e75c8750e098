-- `request::size_of`: nothing overflows once the ranges are tested. Assumes nothing.
use mathlib.Core.Path.{sym, ◌∙◌}
use native.Mathlib.Omega.{arith}
use Rattle.model.specs.Chip.{image_length}
use Rattle.request.specs.Request.{size_of}
use Rattle.request.proofs.Laws.{in_bounds, most_pages_lem}
use Rattle.request.proofs.size_of.Goals as goal

pub overflow_add-result : goal.overflow_add-result
overflow_add-result c =
    let a = c.args in
    let b = in_bounds a.segments a.slots (sym c.in_range.ensures ∙ c.if-in_range.true) in
    let m = most_pages_lem a.segments a.slots b.0 b.1 in
    omega arith

pub overflow_mul-result : goal.overflow_mul-result
overflow_mul-result c =
    let a = c.args in
    let b = in_bounds a.segments a.slots (sym c.in_range.ensures ∙ c.if-in_range.true) in
    let m = most_pages_lem a.segments a.slots b.0 b.1 in
    omega arith

pub overflow_mul-result-then-in_range : goal.overflow_mul-result-then-in_range
overflow_mul-result-then-in_range c =
    let a = c.args in
    let b = in_bounds a.segments a.slots (sym c.in_range.ensures ∙ c.if-in_range.true) in
    let m = most_pages_lem a.segments a.slots b.0 b.1 in
    omega arith

pub returns-then-in_range : goal.returns-then-in_range
unfolding size_of image_length
returns-then-in_range c =
    let a = c.args in
    let b = in_bounds a.segments a.slots (sym c.in_range.ensures ∙ c.if-in_range.true) in
    let m = most_pages_lem a.segments a.slots b.0 b.1 in
    (rw (sym c.in_range.ensures ∙ c.if-in_range.true), omega arith)

pub returns : goal.returns
unfolding size_of
returns c = (rw (sym c.in_range.ensures ∙ c.if-in_range.false), omega arith)
