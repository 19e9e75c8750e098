-- Boards salvaged and rebuilt, computed: what the definitions give, and so which wrong ones they are not.
use Rattle.std.specs.Prelude.{ℕ, suc, ◌+◌, ◌*◌, ◌≡◌, refl, Bool, cond, ◌&&◌, length, replicate, eqb}
use Prim.Native.String.{String}
use mathlib.Core.List.{List, [], ◌∷◌, ◌++◌, flatten}
use Rattle.model.specs.Lists.{same}
use Rattle.model.specs.Chip.{Image, Page, image_length, right_size, pages_of, with_segment, step, run}
use Rattle.model.specs.Header.{opened, erase_pending, compacted, version1}
use Rattle.model.specs.Slot.{slot_page}
use Rattle.model.specs.State.{segments_on, segments_of, State, clean, state, view}
use Rattle.model.specs.Table.{Table, table_of}
use Rattle.model.specs.Answers.{Outcome}
use Rattle.model.proofs.Laws.Bench.{evaluate}
use Rattle.text.specs.Text.{text}
use Rattle.text.specs.Decimal.{decimal_of, decimal}
use Rattle.text.specs.Buffer.{labelled}
use Rattle.account_text.specs.Account.{live_at, live_from, live_in, live_slots, insert, by_block, block_text}
use Rattle.account_text.specs.Boards.{used, status, deads, blanks, block, sample, v2, first, begun}
use Rattle.account_text.proofs.Samples.{joined}
use Rattle.moves.specs.Moves.{by_number, put_each, fresh_steps, fresh_work, insert as insert_entry}
use Rattle.salvage.specs.Salvage.{regarded, candidates, held_in, given, agreed, given_line, salvage_on, salvaged, rebuild_refusals, rebuild_work, rebuild_outcome}

-- N, B, the image's pages, and the lines of its report behind the first
pub record Wreck : Type 0 where
  pub segments : ℕ
  pub slots : ℕ
  pub pages : List Page
  pub report : List String

-- four segments of fifteen slots, and three of two
abbrev wreck : List Page → List String → Wreck
wreck pages report = record { segments = 4; slots = 15; pages = pages; report = report }

abbrev small : List Page → List String → Wreck
small pages report = record { segments = 3; slots = 2; pages = pages; report = report }

abbrev holder : ℕ → List ℕ → Page
holder b c = slot_page b c

-- the top of the small chip, owing, with these two slots
abbrev owing : List Page → List Page
owing slots = used 3 2 v2 erase_pending 2 ∷ slots

unfoldable pub wrecks : List Wreck
wrecks =
    -- the samples of the account: unfinished by (b), and the same with a slot torn, which is damaged
    wreck (sample (deads 15)) ("block 7 len 2 seg 1 slot 1 same" ∷ "block 8 len 1 seg 3 slot 2 same" ∷ "block 9 len 1 seg 3 slot 1 same" ∷ [])
    ∷ wreck (sample (deads 3 ++ (status 0x7F ∷ deads 11))) ("block 7 len 2 seg 1 slot 1 same" ∷ "block 8 len 1 seg 3 slot 2 same" ∷ "block 9 len 1 seg 3 slot 1 same" ∷ [])
    -- number 8 stands before number 7 in the image; contents of no byte and of a byte 255 differ, though their pages agree behind the fields
    ∷ wreck ((used 4 15 v2 opened 8 ∷ holder 300 (1 ∷ []) ∷ holder 7 [] ∷ blanks 13) ++ (blanks 32 ++ (used 4 15 v2 opened 7 ∷ (deads 14 ++ (holder 7 (255 ∷ []) ∷ [])))))
    ("block 7 len 0 seg 0 slot 2 differs" ∷ "block 300 len 1 seg 0 slot 1 same" ∷ [])
    -- nothing at all; a fresh format; a torn segment has no candidate
    ∷ small (blanks 9) []
    ∷ small ((first v2 0 ∷ blanks 2) ++ blanks 6) []
    ∷ small ((begun ∷ block 9 1 ∷ blanks 1) ++ blanks 6) []
    -- within a segment the last; the one given stands before a slot that is wrong
    ∷ small ((first v2 0 ∷ block 7 1 ∷ block 7 2 ∷ []) ++ blanks 6) ("block 7 len 2 seg 0 slot 2 differs" ∷ [])
    ∷ small ((first v2 0 ∷ block 7 1 ∷ status 0 ∷ []) ++ blanks 6) ("block 7 len 1 seg 0 slot 1 same" ∷ [])
    -- the highest number, wherever it stands, and numbers that are not consecutive
    ∷ small ((first v2 3 ∷ block 7 1 ∷ blanks 1) ++ ((first v2 1 ∷ block 7 1 ∷ deads 1) ++ (first v2 8 ∷ block 7 1 ∷ block 5 0 ∷ []))) ("block 5 len 0 seg 2 slot 2 same" ∷ "block 7 len 1 seg 2 slot 1 same" ∷ [])
    ∷ small ((first v2 9 ∷ block 7 1 ∷ blanks 1) ++ (blanks 3 ++ (first v2 8 ∷ block 7 2 ∷ block 7 1 ∷ []))) ("block 7 len 1 seg 0 slot 1 differs" ∷ [])
    -- two that differ from each other, and not from the one given: both versions side by side
    ∷ small ((first v2 0 ∷ holder 7 (1 ∷ 2 ∷ []) ∷ holder 7 (1 ∷ 3 ∷ []) ∷ []) ++ ((first version1 1 ∷ holder 7 (1 ∷ 2 ∷ []) ∷ blanks 1) ++ blanks 3)) ("block 7 len 2 seg 1 slot 1 differs" ∷ [])
    -- the last byte of three differs
    ∷ small ((first v2 0 ∷ holder 7 (1 ∷ 2 ∷ 3 ∷ []) ∷ holder 7 (1 ∷ 2 ∷ 4 ∷ []) ∷ []) ++ blanks 6) ("block 7 len 3 seg 0 slot 2 differs" ∷ [])
    -- an owing top leaves the segment after it aside, in a damaged image too: what is there is neither given nor disagrees
    ∷ small ((first v2 0 ∷ block 2 1 ∷ block 4 1 ∷ []) ++ ((used 3 2 v2 compacted 1 ∷ block 3 1 ∷ status 0 ∷ []) ++ owing (block 2 2 ∷ blanks 1))) ("block 2 len 2 seg 2 slot 1 same" ∷ "block 3 len 1 seg 1 slot 1 same" ∷ [])
    -- and also where fewer are in use than an erase that is owed would leave
    ∷ small ((first v2 0 ∷ block 2 1 ∷ block 4 1 ∷ []) ++ (blanks 3 ++ owing (block 2 2 ∷ blanks 1))) ("block 2 len 2 seg 2 slot 1 same" ∷ [])
    -- one that owes and is not the top leaves nothing aside
    ∷ small ((first v2 3 ∷ block 2 1 ∷ blanks 1) ++ ((first v2 1 ∷ block 3 1 ∷ deads 1) ++ owing (block 2 2 ∷ deads 1))) ("block 2 len 1 seg 0 slot 1 differs" ∷ "block 3 len 1 seg 1 slot 1 same" ∷ [])
    -- (d): the newer one, as recovery would show
    ∷ small ((first v2 3 ∷ block 7 2 ∷ blanks 1) ++ (blanks 3 ++ (first v2 2 ∷ block 7 1 ∷ deads 1))) ("block 7 len 2 seg 0 slot 1 differs" ∷ [])
    ∷ []

-- ---- the reports

unfoldable pub on_pages : Wreck → Bool
on_pages w = let l = segments_on w.segments w.slots w.pages in
    eqb (length w.pages) (w.segments * (w.slots + 1)) && same (salvage_on (candidates w.segments l)) (joined ("salvage promises nothing" ∷ w.report))

-- the places, from 0, of those that fail
unfoldable pub failing : ℕ → List Wreck → List ℕ
failing i [] = []
failing i (w ∷ r) = cond (on_pages w) (failing (suc i) r) (i ∷ failing (suc i) r)

-- every definition unfolds where this name does
unfoldable computes : ℕ
unfolding evaluate text decimal_of decimal labelled live_at live_from live_in live_slots insert by_block block_text joined regarded candidates held_in given agreed given_line salvage_on wrecks on_pages failing
computes = 0

pub reports : failing 0 wrecks ≡ []
unfolding computes
reports = refl

-- ---- rebuilt

-- four candidates of the blocks 7 and 5 in an image that is damaged
abbrev source : Image
source = flatten ((first v2 3 ∷ block 7 1 ∷ blanks 1) ++ ((first v2 1 ∷ block 7 1 ∷ deads 1) ++ (first v2 8 ∷ block 7 2 ∷ block 5 0 ∷ [])))

-- on a chip that held zeros
abbrev rebuilds : Image → ℕ → ℕ → ℕ → Outcome
rebuilds s M D allowance = rebuild_outcome 3 2 s M D (replicate (image_length M D) 0) allowance

pub record Result : Type 0 where
  pub code : ℕ
  pub count : ℕ
  pub state : State
  pub table : Table

abbrev result_of : ℕ → ℕ → Outcome → Result
result_of M D o = record { code = o.code; count = o.count; state = state M D o.image; table = table_of M D o.image }

abbrev blocks : Table
blocks = record { block = 5; contents = [] } ∷ record { block = 7; contents = 1 ∷ 1 ∷ [] } ∷ []

-- every definition unfolds where this name does
unfoldable rebuilding : ℕ
unfolding computes right_size pages_of with_segment step run segments_of state view table_of insert_entry by_number put_each fresh_steps fresh_work salvaged rebuild_refusals rebuild_work rebuild_outcome
rebuilding = 0

-- two block numbers fill C = 2, whatever the count of candidates: 2 erases, 21 and 12 steps
just_fits : result_of 2 3 (rebuilds source 2 3 35) ≡ record { code = 0; count = 35; state = clean; table = blocks }
unfolding rebuilding
just_fits = refl

-- a step less is a cut; C = 1 takes no two, and nothing is erased
refused : ((rebuilds source 2 3 34).code ≡ 9) × (rebuilds source 2 2 1000 ≡ record { code = 7; count = 0; image = replicate 1536 0 })
unfolding rebuilding
refused = (refl, refl)

-- no candidate: an empty formatted image
empty_image : result_of 2 2 (rebuilds (replicate 2304 0) 2 2 1000) ≡ record { code = 0; count = 23; state = clean; table = [] }
unfolding rebuilding
empty_image = refl

-- 1 for either image, and before 7
sizes : ((rebuild_outcome 4 2 source 2 3 (replicate 2048 0) 1000).code ≡ 1) × ((rebuild_outcome 3 2 source 2 3 (replicate 2047 0) 1000).code ≡ 1) × ((rebuild_outcome 3 2 source 2 2 (replicate 1535 0) 1000).code ≡ 1)
unfolding rebuilding
sizes = (refl, refl, refl)
