-- How long step lists are, and how long they can be: so short that a count of steps fits the packed answers of the library's exports with room to spare.
use Rattle.std.specs.Prelude.{ℕ, zero, suc, ◌+◌, ◌-◌, ◌*◌, ◌%◌, ◌≤◌, ◌<◌, ◌≡◌, refl, Bool, cond, ◌||◌, length, get_or, take, drop, ltb, eqb}
use Rattle.std.proofs.Common.{ap, ◌∙◌, mul-le-mul, mod-lt, length-take, take_at, eqb-true}
use Rattle.std.proofs.Math.Bool.{true, false}
use mathlib.Core.List.{List, [], ◌∷◌, ◌++◌, map, flat_map, flatten}
use native.Mathlib.Omega.{arith}
use Rattle.std.proofs.Math.Decide.{dec_lt}
use Rattle.std.proofs.Math.ListN.{length-append, length-drop, get_or-eq_default}
use Rattle.model.specs.Chip.{Image, Page, Step, program, erase, erased, most_segments, largest_image, right_size}
use Rattle.model.specs.Header.{number_bytes, inverted, Version, version1, version2, new_version, tally_of, tally_bytes, header_page, header_version, header_status, header_number, header_in_use, all_blank}
use Rattle.model.specs.Slot.{Slot, empty, torn, dead, cut, wrong, live, slot_page, slot_of, most_contents, Entry, entry_of}
use Rattle.model.specs.State.{Segment, blank, invalid, in_use, is_in_use, is_invalid, slots_in, segment_of, segments_of, next_number, next_index, top_version, used_count, first_number, slots_from, View, view_of, entries, entries_in, holds, last_slot, Place, place_of, place_from, view, older, Exception, case_a, case_b, case_c, case_d, State, clean, unfinished, damaged, state_of}
use Rattle.model.specs.Steps.{top_row, top_number, first_empty, programs, program_part, on_page, header_at, slot_at, write_slot, mark_dead, mark_place, open_segment, copy_entries, copy_out, settle, compact, copied, Room, has_room, next_version, open_next, compact_oldest, compact_until_room, room_for, mark_old, write_at_top, put_steps, delete_steps, erase_first, format_steps, highest_bit, clear_next, count_erase, erase_next, unless_blank, mend_steps, recover_steps}
use Rattle.model.specs.Table.{present, lookup, contents_found}
use Rattle.model.specs.Answers.{Request, format, put, delete, read, read_or, recover, steps_for, work_of, outcome_of, ReadOutcome, read_outcome, contents_at}
use Rattle.model.specs.Laws.Lists.{map_length}
use Rattle.model.proofs.Laws.Chip.{size_facts}
use Rattle.model.proofs.Laws.SlotPage.{live_facts}
use Rattle.model.proofs.Laws.Segments.{part_of, part_size, segment_at, segments_length}
use Rattle.bridge.specs.Accepted.{refused_none, accepted, put_passed, read_passed, size_passed}
use Rattle.bridge.specs.Views.Slots.{entries_append, entries_length, copied_entries, copied_length}
use Rattle.bridge.specs.Views.Places.{first_live}

-- ---- steps within a page

pub page_length : (p : ℕ) (xs : List Step) → length (on_page p xs) ≡ length xs
unfolding on_page
page_length p [] = refl
page_length p (program at v ∷ xs) = ap suc (page_length p xs)
page_length p (erase i ∷ xs) = ap suc (page_length p xs)

programs_length : (at : ℕ) (vs : List ℕ) → length (programs at vs) ≡ length vs
unfolding programs
programs_length at [] = refl
programs_length at (v ∷ vs) = ap suc (programs_length (suc at) vs)

part_length : (p : Page) (at k : ℕ) → length (program_part p at k) ≤ k
unfolding program_part
part_length p at k = omega (arith, programs_length at (take k (drop at p)), length-take k (drop at p))

pub write_length : (b : ℕ) (c : List ℕ) → length (write_slot b c) ≡ 5 + length c
unfolding write_slot slot_page program_part programs
write_length b c =
    let contents : take (length c) (c ++ erased (most_contents - length c)) ≡ c = take_at c (erased (most_contents - length c)) (length c) refl in
    rw contents (omega (arith, length-append (programs 8 c) (program 0 0x3F ∷ []), programs_length 8 c))

pub mark_length : (p : ℕ) → length (on_page p mark_dead) ≡ 1
unfolding mark_dead
mark_length p = page_length p mark_dead

pub open_length : (N B t n : ℕ) → length (open_segment N B (new_version t) n) ≡ 21
unfolding open_segment header_page number_bytes inverted new_version tally_bytes program_part programs
open_length N B t n = page_length _ _ ∙ refl

pub settle_length : (N B n : ℕ) → length (settle N B n) ≡ 1
unfolding settle
settle_length N B n = page_length _ _

-- ---- rows of at most B slots, with short contents

abbrev Short : List Entry → Type 0
Short [] = Unit {0}
Short (e ∷ es) = (length e.contents ≤ 248) × Short es

abbrev RowsOk : ℕ → List (List Slot) → Type 0
RowsOk B [] = Unit {0}
RowsOk B (s ∷ r) = Short (entries s) × (length s ≤ B) × RowsOk B r

copy_length : (N B n j : ℕ) (es : List Entry) → Short es → length (copy_entries N B n j es) ≤ 253 * length es
unfolding copy_entries
copy_length N B n j [] s = omega arith
copy_length N B n j (e ∷ es) s =
    let xs = on_page (slot_at N B n j) (write_slot e.block e.contents) in
    omega (arith, length-append xs (copy_entries N B n (suc j) es), page_length (slot_at N B n j) (write_slot e.block e.contents), write_length e.block e.contents, s.0, copy_length N B n (suc j) es s.1)

compact_length : (N B : ℕ) (ver : Version) (o n : ℕ) (es : List Entry) → Short es → length (compact N B ver o n es) ≤ 24 + 253 * length es
unfolding compact copy_out
compact_length N B ver o n es s =
    let h = header_page N B ver 0x9F n (o % N) in
    let first = program 5 0xDF ∷ (program_part h 0 5 ++ (program_part h 6 2 ++ program_part h 16 1)) in
    let last = program_part h 17 4 ++ (program_part h 8 8 ++ (program 5 0x9F ∷ [])) in
    let a = on_page (header_at N B n) first in
    let b = copy_entries N B n 0 es in
    let c = on_page (header_at N B n) last in
    let d = erase (o % N) ∷ settle N B n in
    omega (
      arith,
      length-append (a ++ (b ++ c)) d,
      length-append a (b ++ c),
      length-append b c,
      page_length (header_at N B n) first,
      page_length (header_at N B n) last,
      settle_length N B n,
      length-append (program_part h 0 5) (program_part h 6 2 ++ program_part h 16 1),
      length-append (program_part h 6 2) (program_part h 16 1),
      length-append (program_part h 17 4) (program_part h 8 8 ++ (program 5 0x9F ∷ [])),
      length-append (program_part h 8 8) (program 5 0x9F ∷ []),
      part_length h 0 5,
      part_length h 6 2,
      part_length h 16 1,
      part_length h 17 4,
      part_length h 8 8,
      copy_length N B n 0 es s,
    )

-- ---- the rows of an image

short_pages : (ps : List Page) → Short (entries (map slot_of ps))
unfolding entries flat_map most_contents
short_pages [] = tt
short_pages (p ∷ ps) = go (slot_of p) refl (short_pages ps)
  where
    go : (k : Slot) → slot_of p ≡ k → Short (flat_map entry_of (map slot_of ps)) → Short (entry_of k ++ flat_map entry_of (map slot_of ps))
    go empty e r = unfold entry_of in r
    go torn e r = unfold entry_of in r
    go dead e r = unfold entry_of in r
    go cut e r = unfold entry_of in r
    go wrong e r = unfold entry_of in r
    go (live b c) e r = unfold entry_of in ((live_facts p b c e).short, r)

segment_row : (N B i : ℕ) (ps : List Page) → length ps ≡ B + 1 → Short (entries (slots_in (segment_of N B i ps))) × (length (slots_in (segment_of N B i ps)) ≤ B)
unfolding segment_of
segment_row N B i ps h = go (header_in_use N B i (get_or ps 0 [])) (all_blank ps)
  where
    used : Segment
    used = in_use (header_version (get_or ps 0 [])) (header_status (get_or ps 0 [])) (header_number (get_or ps 0 [])) (map slot_of (drop 1 ps))

    go : (t u : Bool) → Short (entries (slots_in (cond t used (cond u blank invalid)))) × (length (slots_in (cond t used (cond u blank invalid))) ≤ B)
    go true u = unfold slots_in in (short_pages (drop 1 ps), omega (arith, map_length slot_of (drop 1 ps), length-drop 1 ps))
    go false true = unfold slots_in entries flat_map in (tt, omega arith)
    go false false = unfold slots_in entries flat_map in (tt, omega arith)

pub image_row : (N B i : ℕ) (s : Image) → Short (entries (slots_in (get_or (segments_of N B s) i blank))) × (length (slots_in (get_or (segments_of N B s) i blank)) ≤ B)
unfolding slots_in entries flat_map
image_row N B i s = elim (dec_lt i N) [
  | yes h ↦ rw (segment_at N B i s h) (segment_row N B i (part_of N B i s) (part_size N B i s h))
  | no h ↦ rw (get_or-eq_default (segments_of N B s) blank (beyond h)) (tt, omega arith)
]
  where
    beyond : ¬ (i < N) → length (segments_of N B s) ≤ i
    beyond h = omega (arith, segments_length N B s)

pub image_rows : (N B : ℕ) (s : Image) (u n : ℕ) → RowsOk B (slots_from N (segments_of N B s) u n)
unfolding slots_from
image_rows N B s zero n = tt
image_rows N B s (suc u) n = let r = image_row N B (n % N) s in (r.0, r.1, image_rows N B s u (suc n))

-- ---- making room

rows_added : (B : ℕ) (l : List (List Slot)) (x : List Slot) → RowsOk B l → Short (entries x) → length x ≤ B → RowsOk B (l ++ (x ∷ []))
rows_added B [] x r s h = (s, h, tt)
rows_added B (y ∷ l) x r s h = (r.0, r.1, rows_added B l x r.2 s h)

rows_rest : (B : ℕ) (l : List (List Slot)) → RowsOk B l → RowsOk B (drop 1 l)
rows_rest B [] r = tt
rows_rest B (y ∷ l) r = r.2

oldest_row : (B : ℕ) (l : List (List Slot)) → RowsOk B l → Short (entries (get_or l 0 [])) × (length (get_or l 0 []) ≤ B)
oldest_row B [] r = unfold entries flat_map in (tt, omega arith)
oldest_row B (y ∷ l) r = (r.0, r.1)

-- one compaction
abbrev most : ℕ → ℕ
most B = 24 + 253 * B

one_length : (N B : ℕ) (v : View) → RowsOk B v.slots → (length (compact_oldest N B v).steps ≤ most B) × RowsOk B (compact_oldest N B v).result.slots
unfolding compact_oldest
one_length N B v r =
    let o = oldest_row B v.slots r in
    let es = entries (get_or v.slots 0 []) in
    let e = entries_length (get_or v.slots 0 []) in
    let o1 = o.1 in
    (omega (arith, compact_length N B (next_version v) v.first (suc (top_number v)) es o.0), rows_added B (drop 1 v.slots) (copied B es) (rows_rest B v.slots r) (rw (copied_entries B es) o.0) (omega (arith, copied_length B es (omega arith))))

until_length : (N B k : ℕ) (v : View) → RowsOk B v.slots → length (compact_until_room N B k v).steps ≤ k * most B
unfolding compact_until_room
until_length N B zero v r = omega arith
until_length N B (suc k) v r = go (has_room v) (until_length N B k (compact_oldest N B v).result (one_length N B v r).1)
  where
    w : View
    w = (compact_oldest N B v).result

    steps : Bool → List Step
    steps t = (cond {A = Room} t (record { steps = []; result = v }) (record { steps = (compact_oldest N B v).steps ++ (compact_until_room N B k w).steps; result = (compact_until_room N B k w).result })).steps

    go : (t : Bool) → length (compact_until_room N B k w).steps ≤ k * most B → length (steps t) ≤ suc k * most B
    go true h = omega arith
    go false h = omega (arith, length-append (compact_oldest N B v).steps (compact_until_room N B k w).steps, (one_length N B v r).0)

room_length : (N B : ℕ) (v : View) → RowsOk B v.slots → length (room_for N B v).steps ≤ 21 + (N - 1) * most B
unfolding room_for open_next next_version
room_length N B v r = go (has_room v) (ltb (length v.slots) (N - 1))
  where
    steps : Bool → Bool → List Step
    steps t u = (cond {A = Room} t (record { steps = []; result = v }) (cond u (open_next N B v) (compact_until_room N B (N - 1) v))).steps

    go : (t u : Bool) → length (steps t u) ≤ 21 + (N - 1) * most B
    go true u = omega arith
    go false true = omega (arith, open_length N B (tally_of v.version) (suc (top_number v)))
    go false false = omega (arith, until_length N B (N - 1) v r)

-- ---- the requests

place_length : (N B : ℕ) (p : Place) → length (mark_place N B p) ≡ 1
unfolding mark_place
place_length N B p = mark_length (slot_at N B p.number p.slot)

put_length : (N B b : ℕ) (c : List ℕ) (v : View) → RowsOk B v.slots → length c ≤ 248 → length (put_steps N B b c v) ≤ 275 + (N - 1) * most B
unfolding put_steps write_at_top mark_old
put_length N B b c v r h =
    let w = (room_for N B v).result in
    let place = slot_at N B (top_number w) (first_empty (top_row w.slots)) in
    let write = on_page place (write_slot b c) in
    let old = cond (holds b (entries_in w)) (mark_place N B (place_of b w)) [] in
    omega (arith, length-append (room_for N B v).steps (write ++ old), length-append write old, page_length place (write_slot b c), write_length b c, room_length N B v r, last (holds b (entries_in w)) (place_of b w))
  where
    last : (t : Bool) (p : Place) → length (cond t (mark_place N B p) []) ≤ 1
    last true p = omega (arith, place_length N B p)
    last false p = omega arith

pub erase_length : (k : ℕ) → length (erase_first k) ≡ k
unfolding erase_first
erase_length zero = refl
erase_length (suc k) = length-append (erase_first k) (erase k ∷ []) ∙ omega (arith, erase_length k)

-- a recovery counts in one step, if at all
clear_length : (at : ℕ) (bits : List ℕ) → length (clear_next at bits) ≤ 1
unfolding clear_next
clear_length at [] = omega arith
clear_length at (x ∷ xs) = go (eqb x 0) (clear_length (suc at) xs)
  where
    go : (t : Bool) → length (clear_next (suc at) xs) ≤ 1 → length (cond t (clear_next (suc at) xs) (program at (x - highest_bit x) ∷ [])) ≤ 1
    go true h = h
    go false h = omega arith

count_length : (ver : Version) → length (count_erase ver) ≤ 1
unfolding count_erase
count_length version1 = omega arith
count_length (version2 total bits) = clear_length 32 bits

next_length : (N B : ℕ) (l : List Segment) → length (erase_next N B l) ≤ 2
unfolding erase_next
next_length N B l =
    let p = header_at N B (next_number l - 1) in
    let xs = count_erase (top_version N l) in
    omega (arith, length-append (on_page p xs) (erase (next_index N l) ∷ []), page_length p xs, count_length (top_version N l))

mend_length : (N B : ℕ) (l : List Segment) (x : Exception) → length (mend_steps N B l x) ≤ 3
unfolding mend_steps unless_blank
mend_length N B l case_a = omega (arith, next_length N B l)
mend_length N B l case_b =
    let x = get_or l (next_index N l) blank in
    omega (
      arith,
      length-append (cond (is_in_use x || is_invalid x) (erase_next N B l) []) (settle N B (next_number l - 1)),
      settle_length N B (next_number l - 1),
      first (is_in_use x || is_invalid x),
    )
  where
    first : (t : Bool) → length (cond t (erase_next N B l) []) ≤ 2
    first true = next_length N B l
    first false = omega arith
mend_length N B l case_c = omega (arith, place_length N B (record { number = next_number l - 1; slot = last_slot N l }))
mend_length N B l case_d = omega (arith, place_length N B (older N l))

recover_length : (N B : ℕ) (l : List Segment) (st : State) → length (recover_steps N B l st) ≤ 3
unfolding recover_steps
recover_length N B l clean = omega arith
recover_length N B l (unfinished x) = mend_length N B l x
recover_length N B l damaged = omega arith

-- every list of an accepted request on an image of a right size
module _ (N B : ℕ) (s : Image) (z : right_size N B s ≡ true) where
  room_bound : (N - 1) * most B ≤ (most_segments - 1) * 64539
  room_bound =
      let f = size_facts N B s z in
      let n = f.most in
      let b = f.most_b in
      let x : N - 1 ≤ most_segments - 1 = omega arith in
      let y : most B ≤ 64539 = omega arith in
      mul-le-mul x y

  accepted_length : (r : Request) → (work_of N B s r).code ≡ 0 → length (steps_for N B (segments_of N B s) r) ≤ largest_image
  unfolding steps_for format_steps delete_steps most_contents view_of
  accepted_length format e = let n = (size_facts N B s z).most in omega (arith, length-append (erase_first N) (open_segment N B (new_version 0) 0), erase_length N, open_length N B 0 0)
  accepted_length (put b c) e =
      let l = segments_of N B s in
      omega (arith, room_bound, put_length N B b c (view_of N l) (image_rows N B s (used_count l) (first_number l)) (put_passed N B s b c (accepted N B s (put b c) e).1).short)
  accepted_length (delete b) e = omega (arith, place_length N B (place_of b (view_of N (segments_of N B s))))
  accepted_length (read b) e = omega arith
  accepted_length (read_or b f) e = omega arith
  accepted_length recover e = omega (arith, recover_length N B (segments_of N B s) (state_of N B (segments_of N B s)))

-- every request's list has at most as many steps as the largest image has bytes
pub few_steps : (N B : ℕ) (s : Image) (r : Request) → length (work_of N B s r).steps ≤ largest_image
few_steps N B s r = go (eqb (work_of N B s r).code 0) refl
  where
    go : (t : Bool) → eqb (work_of N B s r).code 0 ≡ t → length (work_of N B s r).steps ≤ largest_image
    go true e =
        let c = eqb-true (work_of N B s r).code 0 e in
        let a = accepted N B s r c in
        rw a.0 (accepted_length N B s (size_passed N B s r a.1) r c)
    go false e = rw (refused_none N B s r e) (omega arith)

-- and so has what is done of it
pub few_done : (N B : ℕ) (s : Image) (allowance : ℕ) (r : Request) → (outcome_of N B s allowance r).count ≤ largest_image
unfolding outcome_of
few_done N B s allowance r = omega (arith, few_steps N B s r, length-take allowance (work_of N B s r).steps)

-- ---- reading

found_short : (b : ℕ) (es : List Entry) → Short es → length (contents_found (lookup b es)) ≤ 248
unfolding lookup contents_found
found_short b [] s = omega arith
found_short b (e ∷ es) s = go (eqb b e.block) (found_short b es s.1)
  where
    go : (t : Bool) → length (contents_found (lookup b es)) ≤ 248 → length (contents_found (cond t (present e.contents) (lookup b es))) ≤ 248
    go true h = s.0
    go false h = h

short_join : (es fs : List Entry) → Short es → Short fs → Short (es ++ fs)
short_join [] fs p q = q
short_join (e ∷ es) fs p q = (p.0, short_join es fs p.1 q)

rows_short : (B : ℕ) (l : List (List Slot)) → RowsOk B l → Short (entries (flatten l))
unfolding flatten
rows_short B [] r = unfold entries flat_map in tt
rows_short B (x ∷ l) r = rw (entries_append x (flatten l)) (short_join (entries x) (entries (flatten l)) r.0 (rows_short B l r.2))

-- the slot of a block found in rows of at most B slots
pub slot_short : (B b n : ℕ) (l : List (List Slot)) → RowsOk B l → holds b (entries (flatten l)) ≡ true → (place_from b n l).slot < B
slot_short B b n l r h =
    let f = first_live b n l h in
    let g = f.gap in
    let row = g.before ++ (live b f.contents ∷ g.after) in
    rw f.place (omega (arith, length-append g.before (live b f.contents ∷ g.after), row_in g.rows_before row g.rows_after (rw f.split at r)))
  where
    row_in : (x : List (List Slot)) (y : List Slot) (z : List (List Slot)) → RowsOk B (x ++ (y ∷ z)) → length y ≤ B
    row_in [] y z q = q.1
    row_in (w ∷ x) y z q = row_in x y z q.2

-- a read's offset and length are small
pub read_small : (N B : ℕ) (s : Image) (b : ℕ) → ((read_outcome N B s b).offset ≤ largest_image) × ((read_outcome N B s b).length ≤ 248)
unfolding read_outcome contents_at slot_at view view_of entries_in place_of
read_small N B s b = go (eqb (work_of N B s (read b)).code 0) refl
  where
    l : List Segment
    l = segments_of N B s

    rows : List (List Slot)
    rows = slots_from N l (used_count l) (first_number l)

    out : Bool → ReadOutcome
    out t = cond t (record { code = 0; offset = ((place_from b (first_number l) rows).number % N * (B + 1) + suc (place_from b (first_number l) rows).slot) * 256 + 8; length = length (contents_found (lookup b (entries (flatten rows)))) })
        (record { code = (work_of N B s (read b)).code; offset = 0; length = 0 })

    go : (t : Bool) → eqb (work_of N B s (read b)).code 0 ≡ t → ((out t).offset ≤ largest_image) × ((out t).length ≤ 248)
    go true e =
        let a = accepted N B s (read b) (eqb-true (work_of N B s (read b)).code 0 e) in
        let z = size_facts N B s (size_passed N B s (read b) a.1) in
        let ok = image_rows N B s (used_count l) (first_number l) in
        let two = z.two in
        let most = z.most in
        let few = z.most_b in
        let n = (place_from b (first_number l) rows).number in
        let p : 0 < N = omega arith in
        let i : n % N ≤ most_segments - 1 = omega (arith, mod-lt n p) in
        let m : n % N * (B + 1) ≤ (most_segments - 1) * 256 = mul-le-mul i (le_suc few) in
        let j = slot_short B b (first_number l) rows ok (read_passed N B s b a.1) in
        (omega arith, found_short b (entries (flatten rows)) (rows_short B rows ok))
      where
        le_suc : B < 256 → B + 1 ≤ 256
        le_suc h = omega arith
    go false e = (omega arith, omega arith)
