-- `qbx_share_file::word`. The invariant: the word is behind `left` others from `at` on. Assumes nothing.
use mathlib.Core.Path.{refl, sym, ◌∙◌}
use native.Mathlib.Omega.{arith}
use Rattle.qbx_share_file.proofs.Laws.Words.{words_blank, word_here, word_over, word_none}
use Rattle.qbx_share_file.proofs.word.Goals as goal

pub loop-at-init : goal.loop-at-init
loop-at-init c = (omega arith, refl)

pub loop-at-preserved-then-end-at : goal.loop-at-preserved-then-end-at
loop-at-preserved-then-end-at c =
    let f = c.blank_from-end in
    let e = words_blank c.args.line.now c.loop-at.at f.result f.ensures.0 c.loop-at-test.true c.if-end-at.true in
    (omega arith, rw e at c.loop-at.invariant.1)

pub slice_bounds-result-count : goal.slice_bounds-result-count
slice_bounds-result-count c = omega (arith, c.blank_from-end.ensures.0)

pub slice_bounds-result-start : goal.slice_bounds-result-start
slice_bounds-result-start c = omega (arith, c.blank_from-end.ensures.0)

pub returns-then-left-eq0 : goal.returns-then-left-eq0
returns-then-left-eq0 c =
    let f = c.blank_from-end in
    word_here c.args.line.now c.loop-at.at f.result f.ensures.0 c.loop-at.left (omega (arith, f.ensures.0, c.if-end-at.false)) c.if-left-eq0.true ∙ c.loop-at.invariant.1

pub loop-at-smaller : goal.loop-at-smaller
loop-at-smaller c = omega (arith, c.blank_from-end.ensures, c.if-end-at.false)

pub loop-at-preserved : goal.loop-at-preserved
loop-at-preserved c =
    let f = c.blank_from-end in
    let e = word_over c.args.line.now c.loop-at.at f.result f.ensures.0 c.loop-at.left (omega (arith, f.ensures.0, c.if-end-at.false)) (omega (arith, c.if-left-eq0.false)) in
    (f.ensures.1, sym e ∙ c.loop-at.invariant.1)

pub returns : goal.returns
returns c =
    word_none c.args.line.now c.loop-at.at c.loop-at.left c.loop-at-test.false ∙ c.loop-at.invariant.1
