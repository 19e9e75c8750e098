-- What a tenant's command asks of the layer, and what comes back from it.
use Rattle.std.specs.Prelude.{ℕ, List, length}
use Rattle.model.specs.Chip.{Image}
use Rattle.text.specs.Buffer.{Print, printed}
use Rattle.text.specs.declared.Printed.{Printed}
use Rattle.shares.specs.Layer.{Asked, puts, deletes, reads, share_outcome, gave_in}
use Rattle.qbx_share_words.specs.declared.ShareVerb.{ShareVerb}
use Rattle.qbx_share_words.specs.declared.ShareVerb.TheVariants.{Put, Get, Delete}
use Rattle.qbx_share_words.specs.declared.ShareCommand.{ShareCommand}

-- of a block, with the contents to put, or a buffer lent for those that are read
unfoldable pub asked_by : ShareVerb → ℕ → List ℕ → List ℕ → Asked
asked_by Put b contents lent = puts b contents
asked_by Get b contents lent = reads b (length lent)
asked_by Delete b contents lent = deletes b

-- what comes back: the answer with the buffer, and the image afterwards
pub record Carried : Type 0 where
  pub print : Print
  pub image : Image

unfoldable pub carried : Printed → List ℕ → Image → Carried
carried r buffer s = record { print = printed r buffer; image = s }

unfoldable pub carried_by : ShareVerb → ShareCommand → List ℕ → List ℕ → List ℕ → Image → Carried
carried_by v k ns contents lent s =
    let o = share_outcome k.segments k.slots ns s k.tenant (asked_by v k.block.0 contents lent) in
    record { print = gave_in o lent; image = o.image }
