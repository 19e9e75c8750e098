-- What a command prints of an image.
use Rattle.std.specs.Prelude.{ℕ, List, []}
use Rattle.model.specs.Chip.{Image}
use Rattle.text.specs.Buffer.{Print, print_in}
use Rattle.account_text.specs.Account.{account_text}
use Rattle.account_text.specs.Map.{map_text}
use Rattle.salvage.specs.Salvage.{salvage_outcome}
use Rattle.qbx_verbs.specs.declared.Verb.{Verb}
use Rattle.qbx_verbs.specs.declared.Verb.TheVariants.{Format, Put, Get, Delete, Recover, Check, Account, Map, Salvage}
use Rattle.qbx_words.specs.declared.Command.{Command}

-- what a command prints of an image, in a buffer; of most verbs it is nothing
unfoldable pub printed_by : Verb → Command → Image → List ℕ → Print
printed_by Account k s buffer = print_in (account_text k.segments k.slots s) buffer
printed_by Map k s buffer = print_in (map_text k.segments k.slots s) buffer
printed_by Salvage k s buffer = salvage_outcome k.segments k.slots s buffer
printed_by Format k s buffer = print_in [] buffer
printed_by Put k s buffer = print_in [] buffer
printed_by Get k s buffer = print_in [] buffer
printed_by Delete k s buffer = print_in [] buffer
printed_by Recover k s buffer = print_in [] buffer
printed_by Check k s buffer = print_in [] buffer
