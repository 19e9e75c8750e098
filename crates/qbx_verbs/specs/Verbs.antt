-- What each verb is for: whether it names a block, whether it writes, and whether it prints.
use Rattle.std.specs.Prelude.{Bool, true, false}
use Rattle.qbx_verbs.specs.declared.Verb.{Verb}
use Rattle.qbx_verbs.specs.declared.Verb.TheVariants.{Format, Put, Get, Delete, Recover, Check, Account, Map, Salvage}

unfoldable pub names_block : Verb → Bool
names_block Format = false
names_block Put = true
names_block Get = true
names_block Delete = true
names_block Recover = false
names_block Check = false
names_block Account = false
names_block Map = false
names_block Salvage = false

unfoldable pub writes : Verb → Bool
writes Format = true
writes Put = true
writes Get = false
writes Delete = true
writes Recover = true
writes Check = false
writes Account = false
writes Map = false
writes Salvage = false

-- whether what a verb says is a text of many lines
unfoldable pub prints : Verb → Bool
prints Format = false
prints Put = false
prints Get = false
prints Delete = false
prints Recover = false
prints Check = false
prints Account = true
prints Map = true
prints Salvage = true
