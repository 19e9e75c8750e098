-- `settings_list::list_board`: its first line by the newest partition, and the lines of the items behind it. Assumes nothing.
use mathlib.Core.Path.{refl, sym, ap, ◌∙◌}
use Rattle.std.specs.Prelude.{Ok}
use Rattle.text.specs.Text.{text}
use Rattle.partition_status.specs.Said.{said}
use Rattle.text.proofs.Laws.{wrote_as}
use Rattle.settings_list.proofs.Laws.{not_none, may_find, may_look, lists_none, lists_nothing, lists_newest}
use Rattle.settings_list.proofs.list_board.Goals as goal

pub nonzero_div-size : goal.nonzero_div-size
nonzero_div-size c = not_none _ _ _ c.requires

pub find_newest-requires : goal.find_newest-requires
find_newest-requires c = may_find _ _ _ c.requires

pub returns-in-Ok-None : goal.returns-in-Ok-None
unfolding said text
returns-in-Ok-None c = lists_nothing _ _ _ _ _ c.list_items.ensures.0 c.list_items.ensures.1 (sym c.find_newest.ensures ∙ ap said (c.in-Ok-None.is ∙ ap Ok c.in-Ok-None.field-0-is)) c.add-begun.ensures

pub returns-in-Ok-Some : goal.returns-in-Ok-Some
unfolding said
returns-in-Ok-Some c = lists_newest _ _ _ _ _ c.list_items-in-Ok-Some.ensures.0 c.list_items-in-Ok-Some.ensures.1 _ _ (sym c.find_newest.ensures ∙ ap said (c.in-Ok-Some.is ∙ ap Ok c.in-Ok-Some.field-0-is)) c.status_of-status.ensures (wrote_as _ c.partition_line.ensures.0 c.add_line-begun.ensures.0)

pub returns-in-Err : goal.returns-in-Err
unfolding said
returns-in-Err c = lists_none _ _ _ _ _ _ (sym c.find_newest.ensures ∙ ap said c.in-Err.is) refl

pub status_of-status-requires : goal.status_of-status-requires
unfolding said
status_of-status-requires c = may_look _ _ _ c.requires _ (sym c.find_newest.ensures ∙ ap said (c.in-Ok-Some.is ∙ ap Ok c.in-Ok-Some.field-0-is))
