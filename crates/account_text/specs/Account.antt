-- Request #101: the account of an image, line by line. Each line ends with byte 0A.
use Rattle.std.specs.Prelude.{ℕ, zero, suc, Bool, true, cond, length, get_or, set, leb, eqb}
use mathlib.Core.List.{List, [], ◌∷◌, ◌++◌, flat_map, map}
use Rattle.model.specs.Lists.{count}
use Rattle.model.specs.Chip.{Image, right_size}
use Rattle.model.specs.Header.{erase_pending}
use Rattle.model.specs.Slot.{Slot, is_empty, is_replaced, is_cut, Entry, entry_of}
use Rattle.model.specs.State.{Segment, blank, invalid, in_use, segments_of, top_index, next_index, top_slots, used_count, entries, conditions, case_a, case_b, case_c, case_d, State, clean, unfinished, damaged, state_of}
use Rattle.model.specs.Answers.{recover, work_on}
use Rattle.text.specs.Text.{text}
use Rattle.text.specs.Buffer.{labelled}

-- ---- the segments as they are shown

-- a segment that is not looked at: torn, unless it is blank
unfoldable pub unseen : Segment → Segment
unseen blank = blank
unseen invalid = invalid
unseen (in_use ver st n ks) = invalid

-- in an image unfinished by (b), the one after the top is not looked at
unfoldable pub shown_in : ℕ → List Segment → State → List Segment
shown_in N l clean = l
shown_in N l (unfinished case_a) = l
shown_in N l (unfinished case_b) = set l (next_index N l) (unseen (get_or l (next_index N l) blank))
shown_in N l (unfinished case_c) = l
shown_in N l (unfinished case_d) = l
shown_in N l damaged = l

unfoldable pub shown : ℕ → ℕ → List Segment → List Segment
shown N B l = shown_in N l (state_of N B l)

-- ---- one line for each segment by index

unfoldable pub use_word : ℕ → List ℕ
use_word st = cond (eqb st erase_pending) (text " owing") (text " used")

-- torn and wrong slots are in no count; of the dead ones, those that a cut left are told apart (request #107)
unfoldable pub slot_counts : List Slot → List ℕ
slot_counts ks = labelled " live " (length (entries ks)) ++ (labelled " dead " (count is_replaced ks) ++ (labelled " cut " (count is_cut ks) ++ labelled " empty " (count is_empty ks)))

-- as "seg 0 used num 0 live 0 dead 0 cut 0 empty 15"
unfoldable pub segment_line : ℕ → Segment → List ℕ
segment_line i blank = labelled "seg " i ++ text " blank\n"
segment_line i invalid = labelled "seg " i ++ text " torn\n"
segment_line i (in_use ver st n ks) = labelled "seg " i ++ (use_word st ++ (labelled " num " n ++ (slot_counts ks ++ text "\n")))

unfoldable pub segment_lines : ℕ → List Segment → List ℕ
segment_lines i [] = []
segment_lines i (x ∷ l) = segment_line i x ++ segment_lines (suc i) l

-- ---- one line for each live slot by rising block number

-- a live slot: its block and contents, its segment's index and its place there, from 1
pub record LiveSlot : Type 0 where
  pub block : ℕ
  pub contents : List ℕ
  pub segment : ℕ
  pub slot : ℕ

unfoldable pub live_at : ℕ → ℕ → Entry → LiveSlot
live_at i j e = record { block = e.block; contents = e.contents; segment = i; slot = j }

-- the live slots of segment i, from place j on
unfoldable pub live_from : ℕ → ℕ → List Slot → List LiveSlot
live_from i j [] = []
live_from i j (k ∷ ks) = map (live_at i j) (entry_of k) ++ live_from i (suc j) ks

-- those of u segments in use by rising segment number: the top's come last
unfoldable pub live_in : ℕ → ℕ → List Segment → List LiveSlot
live_in N zero l = []
live_in N (suc u) l = live_in N u (set l (top_index N l) blank) ++ live_from (top_index N l) 1 (top_slots N l)

unfoldable pub live_slots : ℕ → List Segment → List LiveSlot
live_slots N l = live_in N (used_count l) l

-- sorted by block number; equal ones keep their order, which is by segment number, then slot
unfoldable pub insert : LiveSlot → List LiveSlot → List LiveSlot
insert e [] = e ∷ []
insert e (x ∷ r) = cond (leb e.block x.block) (e ∷ x ∷ r) (x ∷ insert e r)

unfoldable pub by_block : List LiveSlot → List LiveSlot
by_block [] = []
by_block (e ∷ r) = insert e (by_block r)

-- as "block 7 len 2 seg 0 slot 1"
unfoldable pub block_text : ℕ → ℕ → ℕ → ℕ → List ℕ
block_text b n i j = labelled "block " b ++ (labelled " len " n ++ (labelled " seg " i ++ labelled " slot " j))

unfoldable pub block_line : LiveSlot → List ℕ
block_line e = block_text e.block (length e.contents) e.segment e.slot ++ text "\n"

unfoldable pub block_lines : List LiveSlot → List ℕ
block_lines r = flat_map block_line r

-- ---- recovery's answer and step count; of a damaged image the first condition of Clean that fails

-- the place, from k on, of the first that does not hold
unfoldable pub first_failing : ℕ → List Bool → ℕ
first_failing k [] = 0
first_failing k (t ∷ r) = cond t (first_failing (suc k) r) k

-- of an image of a right size
unfoldable pub last_line : ℕ → ℕ → List Segment → List ℕ
last_line N B l =
    let w = work_on N B true l recover in
    cond (eqb w.code 0)
    (labelled "recover " w.code ++ (labelled " steps " (length w.steps) ++ text "\n"))
    (labelled "fails " (first_failing 1 (conditions N B l)) ++ text "\n")

-- ---- the account

unfoldable pub account_on : ℕ → ℕ → List Segment → List ℕ
account_on N B l = let x = shown N B l in segment_lines 0 x ++ (block_lines (by_block (live_slots N x)) ++ last_line N B l)

-- another size gives only this
unfoldable pub wrong_size : List ℕ
wrong_size = text "fails 0\n"

unfoldable pub account_text : ℕ → ℕ → Image → List ℕ
account_text N B s = cond (right_size N B s) (account_on N B (segments_of N B s)) wrong_size
