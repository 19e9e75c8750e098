-- `qbx_words::commands::is_missing` is the test of the definition. Assumes nothing.
use mathlib.Core.Path.{◌∙◌}
use Rattle.qbx_words.proofs.Laws.{missing_length}
use Rattle.qbx_words.proofs.commands.is_missing.Goals as goal

pub returns : goal.returns
returns c = c.is_empty.ensures ∙ missing_length _
