-- Document 01, "The step lists". The order of steps is fixed, and one byte is one step even if it changes nothing.
use Rattle.std.specs.Prelude.{ℕ, zero, suc, ◌+◌, ◌-◌, ◌*◌, ◌/◌, ◌%◌, Bool, cond, ◌||◌, ◌&&◌, not, List, [], ◌∷◌, ◌++◌, map, length, get_or, take, drop, replicate, ltb, leb, eqb}
use Rattle.model.specs.Lists.{all}
use Rattle.model.specs.Chip.{Page, Step, program, erase, erase_limit}
use Rattle.model.specs.Header.{opening_begun, opened, compaction_begun, erase_pending, compacted, Version, version1, version2, new_version, bit_values, tally_of, no_bit_left, no_old_segment, header_page}
use Rattle.model.specs.Slot.{Slot, empty, slot_page, write_begun, written, is_empty, is_dead, Entry, holding}
use Rattle.model.specs.State.{Segment, blank, is_in_use, is_invalid, next_number, next_index, top_version, View, entries, entries_in, holds, last_slot, Place, place_of, older, Exception, case_a, case_b, case_c, case_d, State, clean, unfinished, damaged}

-- ---- steps within one page

-- program these bytes from an offset on
unfoldable pub programs : ℕ → List ℕ → List Step
programs at [] = []
programs at (v ∷ vs) = program at v ∷ programs (suc at) vs

-- program k bytes of a page, from an offset on
unfoldable pub program_part : Page → ℕ → ℕ → List Step
program_part p at k = programs at (take k (drop at p))

-- the same steps in page p of the image
unfoldable pub on_page : ℕ → List Step → List Step
on_page p [] = []
on_page p (program at v ∷ xs) = program (p * 256 + at) v ∷ on_page p xs
on_page p (erase i ∷ xs) = erase i ∷ on_page p xs

-- the pages of the segment with number n: its header, and its slot j, from 0
unfoldable pub header_at : ℕ → ℕ → ℕ → ℕ
header_at N B n = n % N * (B + 1)

unfoldable pub slot_at : ℕ → ℕ → ℕ → ℕ → ℕ
slot_at N B n j = n % N * (B + 1) + suc j

-- slot written: status 7F, length, two number bytes, the contents, status 3F
unfoldable pub write_slot : ℕ → List ℕ → List Step
write_slot b c = let p = slot_page b c in
    program 0 write_begun ∷ (program_part p 1 3 ++ (program_part p 8 (length c) ++ (program 0 written ∷ [])))

-- bit 5 of a slot's status cleared: live becomes dead, and torn cut
unfoldable pub mark_dead : List Step
mark_dead = program 0 0xDF ∷ []

unfoldable pub mark_place : ℕ → ℕ → Place → List Step
mark_place N B p = on_page (slot_at N B p.number p.slot) mark_dead

-- ---- a segment taken into use

-- opening, with number n: status 7F; bytes 0-4, 6, 7; 17-20; 8-15; status 3F
unfoldable pub open_segment : ℕ → ℕ → Version → ℕ → List Step
open_segment N B ver n = let h = header_page N B ver opened n no_old_segment in
    on_page (header_at N B n)
    (program 5 opening_begun ∷ (program_part h 0 5 ++ (program_part h 6 2 ++ (program_part h 17 4 ++ (program_part h 8 8 ++ (program 5 opened ∷ []))))))

-- entries written to the slots of the segment with number n, from slot j on
unfoldable pub copy_entries : ℕ → ℕ → ℕ → ℕ → List Entry → List Step
copy_entries N B n j [] = []
copy_entries N B n j (e ∷ es) = on_page (slot_at N B n j) (write_slot e.block e.contents) ++ copy_entries N B n (suc j) es

-- tidying of the segment with number o, which holds these entries, to a target that gets number n.
-- Status DF; bytes 0-4, 6, 7; 16; each live slot; bytes 17-20; 8-15; status 9F; then the old segment is erased; status 8F
unfoldable pub copy_out : ℕ → ℕ → Version → ℕ → ℕ → List Entry → List Step
copy_out N B ver o n es = let h = header_page N B ver erase_pending n (o % N) in
    on_page (header_at N B n) (program 5 compaction_begun ∷ (program_part h 0 5 ++ (program_part h 6 2 ++ program_part h 16 1)))
    ++ (copy_entries N B n 0 es
    ++ on_page (header_at N B n) (program_part h 17 4 ++ (program_part h 8 8 ++ (program 5 erase_pending ∷ []))))

unfoldable pub settle : ℕ → ℕ → ℕ → List Step
settle N B n = on_page (header_at N B n) (program 5 compacted ∷ [])

unfoldable pub compact : ℕ → ℕ → Version → ℕ → ℕ → List Entry → List Step
compact N B ver o n es = copy_out N B ver o n es ++ (erase (o % N) ∷ settle N B n)

-- ---- room for a put

unfoldable pub top_row : List (List Slot) → List Slot
top_row [] = []
top_row (t ∷ []) = t
top_row (s ∷ t ∷ r) = top_row (t ∷ r)

unfoldable pub top_number : View → ℕ
top_number v = v.first + length v.slots - 1

-- the top has an empty slot, and the place of its first
unfoldable pub has_room : View → Bool
has_room v = not (all (λ k. not (is_empty k)) (top_row v.slots))

unfoldable pub first_empty : List Slot → ℕ
first_empty [] = 0
first_empty (k ∷ ks) = cond (is_empty k) 0 (suc (first_empty ks))

-- the slots of a segment that these entries were copied to
unfoldable pub copied : ℕ → List Entry → List Slot
copied B es = map holding es ++ replicate (B - length es) empty

-- steps, and what the segments in use hold after them
pub record Room : Type 0 where
  pub steps : List Step
  pub result : View

-- the version of each new header: it carries the tally on
unfoldable pub next_version : View → Version
next_version v = new_version (tally_of v.version)

unfoldable pub open_next : ℕ → ℕ → View → Room
open_next N B v = record {
  steps = open_segment N B (next_version v) (suc (top_number v));
  result = record { first = v.first; slots = v.slots ++ (replicate B empty ∷ []); version = next_version v };
}

-- the old segment is the in-use one with the smallest number, the target is the blank one after the top
unfoldable pub compact_oldest : ℕ → ℕ → View → Room
compact_oldest N B v = let es = entries (get_or v.slots 0 []) in record {
  steps = compact N B (next_version v) v.first (suc (top_number v)) es;
  result = record { first = suc v.first; slots = drop 1 v.slots ++ (copied B es ∷ []); version = next_version v };
}

-- tidy until the top has an empty slot, at most k times
unfoldable pub compact_until_room : ℕ → ℕ → ℕ → View → Room
compact_until_room N B zero v = record { steps = []; result = v }
compact_until_room N B (suc k) v =
    let one = compact_oldest N B v in
    let more = compact_until_room N B k one.result in
    cond (has_room v) (record { steps = []; result = v }) (record { steps = one.steps ++ more.steps; result = more.result })

-- at most N-1 tidyings make room: then every segment in use has been tidied
unfoldable pub room_for : ℕ → ℕ → View → Room
room_for N B v =
    let opening = open_next N B v in
    let compaction = compact_until_room N B (N - 1) v in
    cond (has_room v) (record { steps = []; result = v }) (cond (ltb (length v.slots) (N - 1)) opening compaction)

-- ---- the requests

-- the old slot of a block, if it has one, marked dead
unfoldable pub mark_old : ℕ → ℕ → ℕ → View → List Step
mark_old N B b v = cond (holds b (entries_in v)) (mark_place N B (place_of b v)) []

-- put: the slot at the top's first empty place; then, if the block was live before, its old slot, where tidying has left it
unfoldable pub write_at_top : ℕ → ℕ → ℕ → List ℕ → View → List Step
write_at_top N B b c v = on_page (slot_at N B (top_number v) (first_empty (top_row v.slots))) (write_slot b c)

unfoldable pub put_steps : ℕ → ℕ → ℕ → List ℕ → View → List Step
put_steps N B b c v = let r = room_for N B v in r.steps ++ (write_at_top N B b c r.result ++ mark_old N B b r.result)

unfoldable pub delete_steps : ℕ → ℕ → ℕ → View → List Step
delete_steps N B b v = mark_place N B (place_of b v)

-- segments 0 to k-1, in order
unfoldable pub erase_first : ℕ → List Step
erase_first zero = []
erase_first (suc k) = erase_first k ++ (erase k ∷ [])

unfoldable pub format_steps : ℕ → ℕ → List Step
format_steps N B = erase_first N ++ open_segment N B (new_version 0) 0

-- the highest set bit of a byte that is not 0
unfoldable pub highest_of : List ℕ → ℕ → ℕ
highest_of [] x = 0
highest_of (m ∷ ms) x = cond (leb m x) m (highest_of ms x)

unfoldable pub highest_bit : ℕ → ℕ
highest_bit x = highest_of bit_values x

-- of bytes from an offset on: the highest set bit of the first that is not 0 is cleared; none, if all are 0
unfoldable pub clear_next : ℕ → List ℕ → List Step
clear_next at [] = []
clear_next at (x ∷ xs) = cond (eqb x 0) (clear_next (suc at) xs) (program at (x - highest_bit x) ∷ [])

-- one more erase of a recovery: a bit of bytes 32-255 is cleared, if one is left
unfoldable pub count_erase : Version → List Step
count_erase version1 = []
count_erase (version2 total bits) = clear_next 32 bits

-- the segment after the top erased by a recovery, which counts that in the top's header before
unfoldable pub erase_next : ℕ → ℕ → List Segment → List Step
erase_next N B l = on_page (header_at N B (next_number l - 1)) (count_erase (top_version N l)) ++ (erase (next_index N l) ∷ [])

unfoldable pub unless_blank : Segment → List Step → List Step
unless_blank x xs = cond (is_in_use x || is_invalid x) xs []

unfoldable pub mend_steps : ℕ → ℕ → List Segment → Exception → List Step
mend_steps N B l case_a = erase_next N B l
mend_steps N B l case_b = unless_blank (get_or l (next_index N l) blank) (erase_next N B l) ++ settle N B (next_number l - 1)
mend_steps N B l case_c = mark_place N B (record { number = next_number l - 1; slot = last_slot N l })
mend_steps N B l case_d = mark_place N B (older N l)

-- a clean image takes no step
unfoldable pub recover_steps : ℕ → ℕ → List Segment → State → List Step
recover_steps N B l clean = []
recover_steps N B l (unfinished x) = mend_steps N B l x
recover_steps N B l damaged = []

-- ---- wear, reckoned from segment numbers and the tally

-- the count of tidyings: the place, from 1, of the first in-use segment by number that has a dead slot
unfoldable pub compactions : List (List Slot) → ℕ
compactions [] = 0
compactions (s ∷ r) = cond (all (λ k. not (is_dead k)) s) (suc (compactions r)) 1

-- how many segments a put gives a number
unfoldable pub new_numbers : ℕ → View → ℕ
new_numbers N v = cond (has_room v) 0 (cond (ltb (length v.slots) (N - 1)) 1 (compactions v.slots))

-- a put needs a new header, and no bit is left or the whole part of the number that it would give divided by N, plus the tally, reaches the limit
unfoldable pub is_worn : ℕ → View → Bool
is_worn N v = not (has_room v) && (no_bit_left v.version || leb erase_limit ((top_number v + new_numbers N v) / N + tally_of v.version))
