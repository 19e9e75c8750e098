-- A command line's words, read: N B VERB [BLOCK] [--budget STEPS]. A word that is missing is empty.
use Rattle.std.specs.Prelude.{ℕ, Bool, true, false, cond, ◌&&◌, List, [], ◌∷◌, Option, Some, None, Result, Ok, Err}
use Rattle.model.specs.Lists.{same}
use Rattle.text.specs.Text.{text}
use Rattle.qbx_numbers.specs.Number.{number_of, number16_of, as_number}
use Rattle.qbx_verbs.specs.declared.Verb.{Verb}
use Rattle.qbx_verbs.specs.Verbs.{names_block, writes}
use Rattle.qbx_verb_words.specs.Verb.{verb_of}
use Rattle.qbx_words.specs.declared.Complaint.{Complaint}
use Rattle.qbx_words.specs.declared.Complaint.TheVariants.{Segments, Slots, NoVerb, Block, NoOption, Budget}
use Rattle.qbx_words.specs.declared.Command.{Command}

-- the words are read from the last to the first

unfoldable pub is_missing : List ℕ → Bool
is_missing [] = true
is_missing (x ∷ s) = false

-- a command, or the word that is wrong
abbrev pub Reading : Type 0
Reading = Result Command Complaint

abbrev pub budgeted : Command → ℕ → Command
budgeted k n = record { segments = k.segments; slots = k.slots; verb = k.verb; block = k.block; budget = n }

abbrev pub on_block : Command → ℕ → Command
on_block k b = record { segments = k.segments; slots = k.slots; verb = k.verb; block = record { 0 = b }; budget = k.budget }

unfoldable pub with_budget : Command → List ℕ → List ℕ → Reading
with_budget k option steps =
    cond (is_missing option) (Ok k)
    (cond (same option (text "--budget") && writes k.verb) (as_number (number_of steps) Budget (λ n. Ok (budgeted k n)))
    (Err NoOption))

unfoldable pub with_block : Command → List ℕ → List ℕ → List ℕ → Reading
with_block k block option steps =
    as_number (number16_of block) Block (λ b. with_budget (on_block k b) option steps)

-- the words after a verb
unfoldable pub after_verb : Command → List ℕ → List ℕ → List ℕ → Reading
after_verb k first second third =
    cond (names_block k.verb) (with_block k first second third)
    (cond (is_missing third) (with_budget k first second) (Err NoOption))

-- with no block named, and as many steps as 64 bits can count
abbrev pub plain : ℕ → ℕ → Verb → Command
plain N B v = record { segments = N; slots = B; verb = v; block = record { 0 = 0 }; budget = 18446744073709551615 }

-- a verb: what follows from it, or that there is none
unfoldable pub as_verb : Option Verb → (Verb → Reading) → Reading
as_verb (Some v) go = go v
as_verb None go = Err NoVerb

-- the words after the image's name
unfoldable pub command_of : List ℕ → List ℕ → List ℕ → List ℕ → List ℕ → List ℕ → Reading
command_of n b v first second third =
    as_number (number_of n) Segments (λ N. as_number (number_of b) Slots (λ B.
    as_verb (verb_of v) (λ w. after_verb (plain N B w) first second third)))
