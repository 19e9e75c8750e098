-- The verb that a word is, if it is one.
use Rattle.std.specs.Prelude.{ℕ, cond, List, Option, Some, None}
use Rattle.model.specs.Lists.{same}
use Rattle.text.specs.Text.{text}
use Rattle.qbx_verbs.specs.declared.Verb.{Verb}
use Rattle.qbx_verbs.specs.declared.Verb.TheVariants.{Format, Put, Get, Delete, Recover, Check, Account, Map, Salvage}

unfoldable pub verb_of : List ℕ → Option Verb
verb_of w =
    cond (same w (text "format")) (Some Format)
    (cond (same w (text "put")) (Some Put)
    (cond (same w (text "get")) (Some Get)
    (cond (same w (text "delete")) (Some Delete)
    (cond (same w (text "recover")) (Some Recover)
    (cond (same w (text "check")) (Some Check)
    (cond (same w (text "account")) (Some Account)
    (cond (same w (text "map")) (Some Map)
    (cond (same w (text "salvage")) (Some Salvage)
    None))))))))
