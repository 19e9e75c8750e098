-- What a command does to an image.
use Rattle.std.specs.Prelude.{ℕ, List}
use Rattle.model.specs.Chip.{Image}
use Rattle.model.specs.Answers.{Outcome, outcome_of, format, put, delete, recover}
use Rattle.qbx_verbs.specs.declared.Verb.{Verb}
use Rattle.qbx_verbs.specs.declared.Verb.TheVariants.{Format, Put, Get, Delete, Recover, Check, Account, Map, Salvage}
use Rattle.qbx_words.specs.declared.Command.{Command}

abbrev pub untouched : Image → Outcome
untouched s = record { code = 0; count = 0; image = s }

-- what a command does to an image: the model's request, if its verb writes
unfoldable pub performed_by : Verb → Command → List ℕ → Image → Outcome
performed_by Format k c s = outcome_of k.segments k.slots s k.budget format
performed_by Put k c s = outcome_of k.segments k.slots s k.budget (put k.block.0 c)
performed_by Get k c s = untouched s
performed_by Delete k c s = outcome_of k.segments k.slots s k.budget (delete k.block.0)
performed_by Recover k c s = outcome_of k.segments k.slots s k.budget recover
performed_by Check k c s = untouched s
performed_by Account k c s = untouched s
performed_by Map k c s = untouched s
performed_by Salvage k c s = untouched s
