-- `qbx_texts::describe`: what each verb prints is the definition's. Assumes nothing.
use Rattle.qbx_texts.specs.Texts.{printed_by}
use Rattle.qbx_texts.proofs.Laws.{both, both_salvaged}
use Rattle.qbx_texts.proofs.describe.Goals as goal

pub returns-in-Account : goal.returns-in-Account
unfolding printed_by
returns-in-Account c = rw c.in-Account.is (both _ _ _ _ c.account.ensures.0)

pub returns-in-Map : goal.returns-in-Map
unfolding printed_by
returns-in-Map c = rw c.in-Map.is (both _ _ _ _ c.map.ensures)

pub returns-in-Salvage : goal.returns-in-Salvage
unfolding printed_by
returns-in-Salvage c = rw c.in-Salvage.is (both_salvaged _ _ _ _ _ _ c.salvage.ensures.0)
