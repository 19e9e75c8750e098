-- Any byte of a header changed, or its place, and it is not in use; any byte of a live slot but its contents and number, and it is not live. Computed on one page of each.
use Rattle.std.specs.Prelude.{ℕ, ◌-◌, ◌≡◌, refl, Bool, true, false, cond, ◌||◌, ◌&&◌, not, [], ◌∷◌, get_or, set, leb, eqb}
use Rattle.model.specs.Lists.{same}
use Rattle.model.specs.Chip.{Page, erased, number_limit}
use Rattle.model.specs.Header.{compacted, number_bytes, inverted, value, status_in_use, Version, version1, new_version, version_number, total_fits, tally_bytes, header_page, header_status, header_number, header_version, old_index, header_in_use, is_blank}
use Rattle.model.specs.Slot.{Slot, empty, torn, dead, cut, wrong, live, most_contents, number_ok, slot_page, page_block, page_contents, slot_fits, slot_of}
use Rattle.model.proofs.Laws.Bytes.{all_below}

-- every bit of byte k inverted
flipped : Page → ℕ → Page
flipped p k = set p k (255 - get_or p k 0)

-- the header of example 3's segment 3, as its first tidying leaves it, in either version
header : Version → Page
header e = header_page 4 15 e compacted 3 0

eq_bool : Bool → Bool → Bool
eq_bool a b = cond a b (not b)

-- version 1: each of them
header_bytes_count : header_in_use 4 15 3 (header version1) && all_below (λ k. not (header_in_use 4 15 3 (flipped (header version1) k))) 256 ≡ true
unfolding all_below flipped header same erased number_limit number_bytes inverted value status_in_use version_number total_fits tally_bytes header_page header_status header_number header_version old_index header_in_use
header_bytes_count = refl

-- version 2: each of them, but for the bits and a total that is still below the limit, as with its first or second byte 255
free_byte : ℕ → Bool
free_byte k = leb 32 k || (eqb k 17 || eqb k 18)

tally_bytes_free : header_in_use 4 15 3 (header (new_version 0)) && all_below (λ k. eq_bool (header_in_use 4 15 3 (flipped (header (new_version 0)) k)) (free_byte k)) 256 ≡ true
unfolding all_below flipped header free_byte eq_bool same erased number_limit number_bytes inverted value status_in_use new_version version_number total_fits tally_bytes header_page header_status header_number header_version old_index header_in_use
tally_bytes_free = refl

header_place_counts : all_below (λ i. header_in_use 4 15 i (header (new_version 0)) || not (eqb i 3)) 4 && not (header_in_use 4 15 2 (header (new_version 0))) ≡ true
unfolding all_below header same erased number_limit number_bytes inverted value status_in_use new_version version_number total_fits tally_bytes header_page header_status header_number header_version old_index header_in_use
header_place_counts = refl

is_live : Slot → Bool
is_live empty = false
is_live torn = false
is_live dead = false
is_live cut = false
is_live wrong = false
is_live (live b c) = true

-- the slot of example 4. Of its contents any byte is right
slot : Page
slot = slot_page 7 (0x41 ∷ 0x31 ∷ [])

slot_bytes_count : is_live (slot_of slot) && all_below (λ k. not (is_live (slot_of (flipped slot k))) || (eqb k 8 || (eqb k 9 || (eqb k 2 || eqb k 3)))) 256 ≡ true
unfolding all_below flipped is_live slot same erased is_blank most_contents number_ok slot_page page_block page_contents slot_fits slot_of
slot_bytes_count = refl
