use Rattle.std.proofs.Common.{sym, ◌∙◌, arith}
use Rattle.qbx_script_words.proofs.Laws.Words.{take_none, word_next, word_over, word_here}
use Rattle.qbx_script_words.proofs.word.Goals as goal

pub returns-then-end-line : goal.returns-then-end-line
returns-then-end-line c =
    let f = c.find-end in
    let l = c.args.line.now in
    take_none f.result l ∙ sym (word_over l c.loop-i.at f.result f.ensures.value (omega (arith, f.ensures.value)) _ c.loop-i._i c.loop-i-test.true c.if-end-line.true) ∙ c.loop-i.invariant.2

pub loop-i-preserved : goal.loop-i-preserved
loop-i-preserved c =
    let f = c.find-end in
    let l = c.args.line.now in (
      omega (arith, f.ensures.within),
      omega arith,
      sym (word_next l c.loop-i.at f.result f.ensures.value (omega (arith, f.ensures.value)) _ c.loop-i._i c.loop-i-test.true) ∙ c.loop-i.invariant.2,
    )

pub returns : goal.returns
returns c =
    let f = c.find-end-2 in
    let l = c.args.line.now in
    sym (word_here l c.loop-i.at f.result f.ensures.value (omega (arith, f.ensures.value)) _ c.loop-i._i c.loop-i-test.false) ∙ c.loop-i.invariant.2
