-- The words of a tenant's command, read: N B share-put SHARES TENANT BLOCK, or with share-get or share-delete. A word that is missing is empty.
use Rattle.std.specs.Prelude.{ℕ, cond, List, Option, Some, None, Result, Ok, Err}
use Rattle.model.specs.Lists.{same}
use Rattle.text.specs.Text.{text}
use Rattle.qbx_numbers.specs.Number.{number_of, number16_of, number32_of, as_number}
use Rattle.qbx_words.specs.Command.{is_missing}
use Rattle.qbx_words.specs.declared.Complaint.{Complaint}
use Rattle.qbx_words.specs.declared.Complaint.TheVariants.{Segments, Slots, Block, NoShares, Tenant}
use Rattle.qbx_share_words.specs.declared.ShareVerb.{ShareVerb}
use Rattle.qbx_share_words.specs.declared.ShareVerb.TheVariants.{Put, Get, Delete}
use Rattle.qbx_share_words.specs.declared.ShareCommand.{ShareCommand}

-- which of the three a word is, if it is one
unfoldable pub share_verb_of : List ℕ → Option ShareVerb
share_verb_of w =
    cond (same w (text "share-put")) (Some Put)
    (cond (same w (text "share-get")) (Some Get)
    (cond (same w (text "share-delete")) (Some Delete)
    None))

-- a tenant's command, or the word that is wrong
abbrev pub ShareReading : Type 0
ShareReading = Result ShareCommand Complaint

abbrev pub command : ℕ → ℕ → ShareVerb → ℕ → ℕ → ShareCommand
command N B v a b = record { segments = N; slots = B; verb = v; tenant = a; block = record { 0 = b } }

-- the words after the name of the shares' file. Tenant 0 and block 0 are numbers: the layer answers them
unfoldable pub of_tenant : ℕ → ℕ → ShareVerb → List ℕ → List ℕ → ShareReading
of_tenant N B v tenant block =
    as_number (number32_of tenant) Tenant (λ a. as_number (number16_of block) Block (λ b. Ok (command N B v a b)))

-- any other word is taken for the last of them
unfoldable pub or_delete : Option ShareVerb → ShareVerb
or_delete (Some v) = v
or_delete None = Delete

-- the words after the image's name
unfoldable pub share_of : List ℕ → List ℕ → List ℕ → List ℕ → List ℕ → List ℕ → ShareReading
share_of n b verb shares tenant block =
    as_number (number_of n) Segments (λ N. as_number (number_of b) Slots (λ B.
    cond (is_missing shares) (Err NoShares) (of_tenant N B (or_delete (share_verb_of verb)) tenant block)))
