use Rattle.std.proofs.Common.{◌∙◌}
use Rattle.qbx_verb_words.proofs.Laws.{pointwise_same}
use Rattle.qbx_verb_words.proofs.is.Goals as goal

pub returns : goal.returns
returns c = c.eq.ensures ∙ pointwise_same c.args.word.now c.args.name.now
