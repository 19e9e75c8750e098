-- What a move does to its target, and what a rebuild does.
use Rattle.std.specs.Prelude.{Bool, true, false}
use Rattle.model.specs.Chip.{Image}
use Rattle.model.specs.Answers.{Outcome}
use Rattle.moves.specs.Moves.{move_outcome}
use Rattle.salvage.specs.Salvage.{rebuild_outcome}
use Rattle.qbx_move_words.specs.declared.Move.{Move}

unfoldable pub built_by : Bool → Move → Image → Image → Outcome
built_by true k s t = rebuild_outcome k.source.segments k.source.slots s k.target.segments k.target.slots t k.budget
built_by false k s t = move_outcome k.source.segments k.source.slots s k.target.segments k.target.slots t k.budget
