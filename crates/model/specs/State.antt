-- Document 01, "When an image is clean, unfinished or damaged".
use Rattle.std.specs.Prelude.{ℕ, zero, suc, ◌-◌, ◌*◌, ◌%◌, max, Bool, true, false, cond, ◌||◌, ◌&&◌, not, length, get_or, drop, set, ltb, leb, eqb}
use mathlib.Core.List.{List, [], ◌∷◌, flat_map, flatten, map}
use Rattle.model.specs.Lists.{all, count}
use Rattle.model.specs.Chip.{Image, Page, pages_of, by_segment}
use Rattle.model.specs.Header.{erase_pending, compacted, Version, version1, version_number, header_version, header_status, header_number, header_in_use, all_blank}
use Rattle.model.specs.Slot.{Slot, empty, dead, cut, slot_of, is_empty, is_torn, is_wrong, Entry, entry_of}

-- ---- segments

-- blank; in use, with its version, status, number and slots; or neither
pub data Segment : Type 0 where
  blank invalid : Segment
  in_use : Version → ℕ → ℕ → List Slot → Segment

-- the segment at index i, of its pages
unfoldable pub segment_of : ℕ → ℕ → ℕ → List Page → Segment
segment_of N B i ps = let h = get_or ps 0 [] in
    cond (header_in_use N B i h) (in_use (header_version h) (header_status h) (header_number h) (map slot_of (drop 1 ps)))
    (cond (all_blank ps) blank invalid)

unfoldable pub segments_from : ℕ → ℕ → ℕ → List (List Page) → List Segment
segments_from N B i [] = []
segments_from N B i (ps ∷ r) = segment_of N B i ps ∷ segments_from N B (suc i) r

-- the segments by index, of the image's pages and of the image
unfoldable pub segments_on : ℕ → ℕ → List Page → List Segment
segments_on N B ps = segments_from N B 0 (by_segment N B ps)

unfoldable pub segments_of : ℕ → ℕ → Image → List Segment
segments_of N B s = segments_on N B (pages_of N B s)

unfoldable pub is_in_use : Segment → Bool
is_in_use blank = false
is_in_use invalid = false
is_in_use (in_use ver st n ks) = true

unfoldable pub is_invalid : Segment → Bool
is_invalid blank = false
is_invalid invalid = true
is_invalid (in_use ver st n ks) = false

unfoldable pub is_owing : Segment → Bool
is_owing blank = false
is_owing invalid = false
is_owing (in_use ver st n ks) = eqb st erase_pending

-- one more than its number, or 0 if not in use
unfoldable pub number_after : Segment → ℕ
number_after blank = 0
number_after invalid = 0
number_after (in_use ver st n ks) = suc n

unfoldable pub slots_in : Segment → List Slot
slots_in blank = []
slots_in invalid = []
slots_in (in_use ver st n ks) = ks

-- its version; one that is not in use has none, and nothing asks for it
unfoldable pub version_in : Segment → Version
version_in blank = version1
version_in invalid = version1
version_in (in_use ver st n ks) = ver

-- not in use, or of this version
unfoldable pub of_version : ℕ → Segment → Bool
of_version k blank = true
of_version k invalid = true
of_version k (in_use ver st n ks) = eqb (version_number ver) k

-- ---- the top: the one in use with the largest number

-- the number after the top's, or 0 if none is in use
unfoldable pub next_number : List Segment → ℕ
next_number [] = 0
next_number (x ∷ l) = max (number_after x) (next_number l)

unfoldable pub top_index : ℕ → List Segment → ℕ
top_index N l = (next_number l - 1) % N

-- (top's index + 1) modulo N, which is the index of the next number
unfoldable pub next_index : ℕ → List Segment → ℕ
next_index N l = next_number l % N

unfoldable pub top_slots : ℕ → List Segment → List Slot
top_slots N l = slots_in (get_or l (top_index N l) blank)

unfoldable pub top_version : ℕ → List Segment → Version
top_version N l = version_in (get_or l (top_index N l) blank)

-- ---- the segments in use, oldest first

unfoldable pub used_count : List Segment → ℕ
used_count l = count is_in_use l

-- the smallest number in use, if they are consecutive
unfoldable pub first_number : List Segment → ℕ
first_number l = next_number l - used_count l

-- the slots of u segments, by number from n
unfoldable pub slots_from : ℕ → List Segment → ℕ → ℕ → List (List Slot)
slots_from N l zero n = []
slots_from N l (suc u) n = slots_in (get_or l (n % N) blank) ∷ slots_from N l u (suc n)

-- what the segments in use hold: the smallest number; their slots, oldest first, so that the top's come last; and the top's version, with the image's tally
pub record View : Type 0 where
  pub first : ℕ
  pub slots : List (List Slot)
  pub version : Version

unfoldable pub view_of : ℕ → List Segment → View
view_of N l = record { first = first_number l; slots = slots_from N l (used_count l) (first_number l); version = top_version N l }

-- what their live slots hold
unfoldable pub entries : List Slot → List Entry
entries ks = flat_map entry_of ks

unfoldable pub entries_in : View → List Entry
entries_in v = entries (flatten v.slots)

-- ---- the eight conditions of Clean, in the paper's order

-- 1. at least one and at most N-1 segments in use
unfoldable pub some_in_use : ℕ → List Segment → Bool
some_in_use N l = leb 1 (used_count l) && leb (used_count l) (N - 1)

-- 2. their numbers consecutive: u numbers from n are each in use; and (request #104) one version
unfoldable pub numbers_from : ℕ → List Segment → ℕ → ℕ → Bool
numbers_from N l zero n = true
numbers_from N l (suc u) n = eqb (number_after (get_or l (n % N) blank)) (suc n) && numbers_from N l u (suc n)

unfoldable pub consecutive : ℕ → List Segment → Bool
consecutive N l = numbers_from N l (used_count l) (first_number l)

unfoldable pub one_version : List Segment → Bool
one_version l = all (λ x. of_version 1 x) l || all (λ x. of_version 2 x) l

-- 3. none owing
unfoldable pub none_owing : List Segment → Bool
none_owing l = all (λ x. not (is_owing x)) l

-- 4. all others blank
unfoldable pub others_blank : List Segment → Bool
others_blank l = all (λ x. not (is_invalid x)) l

-- 5. no wrong or torn slot
unfoldable pub none_wrong_or_torn : View → Bool
none_wrong_or_torn v = all (λ k. not (is_wrong k || is_torn k)) (flatten v.slots)

-- 6. no two live slots with one block number
unfoldable pub holds : ℕ → List Entry → Bool
holds b [] = false
holds b (e ∷ t) = eqb b e.block || holds b t

unfoldable pub distinct : List Entry → Bool
distinct [] = true
distinct (e ∷ t) = not (holds e.block t) && distinct t

unfoldable pub blocks_distinct : View → Bool
blocks_distinct v = distinct (entries_in v)

-- 7. in each segment empty slots come last, and only the top has any
unfoldable pub empty_last : List Slot → Bool
empty_last [] = true
empty_last (k ∷ ks) = cond (is_empty k) (all is_empty ks) (empty_last ks)

unfoldable pub only_top_empty : List (List Slot) → Bool
only_top_empty [] = true
only_top_empty (t ∷ []) = empty_last t
only_top_empty (s ∷ t ∷ r) = all (λ k. not (is_empty k)) s && only_top_empty (t ∷ r)

unfoldable pub empty_slots_last : View → Bool
empty_slots_last v = only_top_empty v.slots

-- 8. at most C live slots
unfoldable pub capacity : ℕ → ℕ → ℕ
capacity N B = (N - 1) * B - 1

unfoldable pub within_capacity : ℕ → ℕ → View → Bool
within_capacity N B v = leb (length (entries_in v)) (capacity N B)

-- conditions 5 to 8 look at the slots of the segments in use only
unfoldable pub conditions : ℕ → ℕ → List Segment → List Bool
conditions N B l = let v = view_of N l in
    some_in_use N l ∷ (consecutive N l && one_version l) ∷ none_owing l ∷ others_blank l
    ∷ none_wrong_or_torn v ∷ blocks_distinct v ∷ empty_slots_last v ∷ within_capacity N B v ∷ []

unfoldable pub is_clean : ℕ → ℕ → List Segment → Bool
is_clean N B l = all (λ t. t) (conditions N B l)

-- ---- unfinished: clean but for one exception, that is, clean once that one is mended

-- (a) the segment after the top is neither in use nor blank. Clean with it blank; so the top isn't owing
unfoldable pub next_blanked : ℕ → List Segment → List Segment
next_blanked N l = set l (next_index N l) blank

unfoldable pub is_a : ℕ → ℕ → List Segment → Bool
is_a N B l = is_invalid (get_or l (next_index N l) blank) && is_clean N B (next_blanked N l)

-- (b) the top is owing. Clean with its old segment erased, which is the one after the top and is not looked at; and then N-1 are in use
unfoldable pub settled : Segment → Segment
settled blank = blank
settled invalid = invalid
settled (in_use ver st n ks) = in_use ver compacted n ks

unfoldable pub top_settled : ℕ → List Segment → List Segment
top_settled N l = set (next_blanked N l) (top_index N l) (settled (get_or l (top_index N l) blank))

unfoldable pub is_b : ℕ → ℕ → List Segment → Bool
is_b N B l = is_owing (get_or l (top_index N l) blank) && (eqb (used_count (top_settled N l)) (N - 1) && is_clean N B (top_settled N l))

-- a slot of a segment in use changed
unfoldable pub with_slot : ℕ → Slot → Segment → Segment
with_slot j k blank = blank
with_slot j k invalid = invalid
with_slot j k (in_use ver st n ks) = in_use ver st n (set ks j k)

-- how many slots there are up to the last that is not empty, and that slot's place
unfoldable pub filled : List Slot → ℕ
filled [] = 0
filled (k ∷ ks) = cond (all is_empty (k ∷ ks)) 0 (suc (filled ks))

unfoldable pub last_slot : ℕ → List Segment → ℕ
last_slot N l = filled (top_slots N l) - 1

unfoldable pub last_kind : ℕ → List Segment → Slot
last_kind N l = get_or (top_slots N l) (last_slot N l) empty

-- (c) the last non-empty slot of the top is torn. Clean with it cut, which is dead
unfoldable pub torn_marked : ℕ → List Segment → List Segment
torn_marked N l = set l (top_index N l) (with_slot (last_slot N l) cut (get_or l (top_index N l) blank))

unfoldable pub is_c : ℕ → ℕ → List Segment → Bool
is_c N B l = is_torn (last_kind N l) && is_clean N B (torn_marked N l)

-- where the first live slot of a block is: its segment's number, and its place among the slots there, from 0
pub record Place : Type 0 where
  pub number : ℕ
  pub slot : ℕ

unfoldable pub slot_from : ℕ → ℕ → List Slot → ℕ
slot_from b j [] = j
slot_from b j (k ∷ ks) = cond (holds b (entry_of k)) j (slot_from b (suc j) ks)

unfoldable pub place_from : ℕ → ℕ → List (List Slot) → Place
place_from b n [] = record { number = n; slot = 0 }
place_from b n (s ∷ r) = let later = place_from b (suc n) r in cond (holds b (entries s)) (record { number = n; slot = slot_from b 0 s }) later

unfoldable pub place_of : ℕ → View → Place
place_of b v = place_from b v.first v.slots

-- (d) the last non-empty slot of the top is live and one other live slot has its block number. Clean with the other, older one dead, so that C counts that block once

-- the block of the last non-empty slot of the top, or 0 if that is not live
unfoldable pub block_in : List Entry → ℕ
block_in [] = 0
block_in (e ∷ t) = e.block

unfoldable pub last_block : ℕ → List Segment → ℕ
last_block N l = block_in (entry_of (last_kind N l))

unfoldable pub copies : ℕ → List Entry → ℕ
copies b t = count (λ e. eqb b e.block) t

unfoldable pub older : ℕ → List Segment → Place
older N l = place_of (last_block N l) (view_of N l)

unfoldable pub older_marked : ℕ → List Segment → List Segment
older_marked N l = let i = (older N l).number % N in set l i (with_slot (older N l).slot dead (get_or l i blank))

unfoldable pub is_d : ℕ → ℕ → List Segment → Bool
is_d N B l = ltb 0 (last_block N l) && (eqb (copies (last_block N l) (entries_in (view_of N l))) 2 && is_clean N B (older_marked N l))

-- ---- the state

pub data Exception : Type 0 where
  case_a case_b case_c case_d : Exception

pub data State : Type 0 where
  clean : State
  unfinished : Exception → State
  damaged : State

unfoldable pub state_of : ℕ → ℕ → List Segment → State
state_of N B l =
    cond (is_clean N B l) clean
    (cond (is_a N B l) (unfinished case_a)
    (cond (is_b N B l) (unfinished case_b)
    (cond (is_c N B l) (unfinished case_c)
    (cond (is_d N B l) (unfinished case_d) damaged))))

-- ---- of an image

unfoldable pub state : ℕ → ℕ → Image → State
state N B s = state_of N B (segments_of N B s)

unfoldable pub view : ℕ → ℕ → Image → View
view N B s = view_of N (segments_of N B s)
