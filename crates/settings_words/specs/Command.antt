-- A command line's words, read: P LAYOUT read ITEM, P LAYOUT write ITEM [--budget STEPS], or P LAYOUT list. A word that is missing is empty.
use Rattle.std.specs.Prelude.{ℕ, Bool, true, false, cond, ◌&&◌, List, Result, Ok, Err}
use Rattle.model.specs.Lists.{same}
use Rattle.text.specs.Text.{text}
use Rattle.qbx_numbers.specs.Number.{number_of, as_number}
use Rattle.qbx_words.specs.Command.{is_missing}
use Rattle.settings_numbers.specs.Byte.{byte_of}
use Rattle.settings_words.specs.declared.Verb.{Verb}
use Rattle.settings_words.specs.declared.Verb.TheVariants.{Read, Write, List as ListItems}
use Rattle.settings_words.specs.declared.Command.{Command}
use Rattle.settings_words.specs.declared.Complaint.{Complaint}
use Rattle.settings_words.specs.declared.Complaint.TheVariants.{Partitions, NoLayout, NoVerb, Item, NoOption, Budget}

unfoldable pub writes : Verb → Bool
writes Read = false
writes Write = true
writes ListItems = false

-- a command, or the word that is wrong
abbrev pub Reading : Type 0
Reading = Result Command Complaint

-- with as many steps as 64 bits can count
abbrev pub plain : ℕ → Verb → ℕ → Command
plain P v i = record { partitions = P; verb = v; item = i; budget = 18446744073709551615 }

abbrev pub budgeted : Command → ℕ → Command
budgeted k n = record { partitions = k.partitions; verb = k.verb; item = k.item; budget = n }

-- nothing stands in place of an option's steps
unfoldable pub ended : Command → List ℕ → Reading
ended k steps = cond (is_missing steps) (Ok k) (Err NoOption)

-- only a write has an option
unfoldable pub with_budget : Command → List ℕ → List ℕ → Reading
with_budget k option steps =
    cond (is_missing option) (ended k steps)
    (cond (same option (text "--budget") && writes k.verb) (as_number (number_of steps) Budget (λ n. Ok (budgeted k n)))
    (Err NoOption))

-- the words after a verb
unfoldable pub of_item : ℕ → Verb → List ℕ → List ℕ → List ℕ → Reading
of_item P v item option steps = as_number (byte_of item) Item (λ i. with_budget (plain P v i) option steps)

unfoldable pub of_list : ℕ → List ℕ → List ℕ → List ℕ → Reading
of_list P item option steps = cond (is_missing item) (with_budget (plain P ListItems 0) option steps) (Err NoOption)

-- the words after the image's name
unfoldable pub command_of : List ℕ → List ℕ → List ℕ → List ℕ → List ℕ → List ℕ → Reading
command_of p layout verb item option steps =
    as_number (number_of p) Partitions (λ P.
    cond (is_missing layout) (Err NoLayout)
    (cond (same verb (text "read")) (of_item P Read item option steps)
    (cond (same verb (text "write")) (of_item P Write item option steps)
    (cond (same verb (text "list")) (of_list P item option steps)
    (Err NoVerb)))))
