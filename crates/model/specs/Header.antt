-- Document 01, "Header page", in both versions (request #104): the page that given fields encode, and when a segment is in use or blank.
use Rattle.std.specs.Prelude.{ℕ, ◌+◌, ◌-◌, ◌*◌, ◌/◌, ◌%◌, Bool, true, false, cond, ◌||◌, ◌&&◌, List, [], ◌∷◌, ◌++◌, get_or, take, drop, ltb, eqb}
use Rattle.model.specs.Lists.{same, all, count}
use Rattle.model.specs.Chip.{Page, erased, erase_limit, number_limit}

-- a segment's number takes four bytes, low byte first
unfoldable pub number_bytes : ℕ → List ℕ
number_bytes n = n % 256 ∷ n / 256 % 256 ∷ n / 256 / 256 % 256 ∷ n / 256 / 256 / 256 % 256 ∷ []

-- every bit inverted
unfoldable pub inverted : List ℕ → List ℕ
inverted [] = []
inverted (x ∷ xs) = (255 - x) ∷ inverted xs

-- the number in bytes, low byte first
unfoldable pub value : List ℕ → ℕ
value [] = 0
value (x ∷ xs) = x + 256 * value xs

-- ---- status

-- opening begun
abbrev pub opening_begun : ℕ
opening_begun = 0x7F

-- in use (opened)
abbrev pub opened : ℕ
opened = 0x3F

-- tidying begun
abbrev pub compaction_begun : ℕ
compaction_begun = 0xDF

-- in use, with the old segment still to be erased ("owing")
abbrev pub erase_pending : ℕ
erase_pending = 0x9F

-- in use, old segment erased
abbrev pub compacted : ℕ
compacted = 0x8F

unfoldable pub status_in_use : ℕ → Bool
status_in_use st = eqb st opened || (eqb st erase_pending || eqb st compacted)

-- ---- version

-- Version 2 keeps a tally of the erases that recoveries set about: the total so far, and bytes 32-255, with one bit cleared for each such erase since
pub data Version : Type 0 where
  version1 : Version
  version2 : ℕ → List ℕ → Version

-- a new header: this total, and every bit set
unfoldable pub new_version : ℕ → Version
new_version total = version2 total (erased 224)

unfoldable pub version_number : Version → ℕ
version_number version1 = 1
version_number (version2 total bits) = 2

unfoldable pub is_former : Version → Bool
is_former version1 = true
is_former (version2 total bits) = false

unfoldable pub total_fits : Version → Bool
total_fits version1 = true
total_fits (version2 total bits) = ltb total erase_limit

-- the values of a byte's bits, highest first
unfoldable pub bit_values : List ℕ
bit_values = 128 ∷ 64 ∷ 32 ∷ 16 ∷ 8 ∷ 4 ∷ 2 ∷ 1 ∷ []

unfoldable pub cleared_in : ℕ → ℕ
cleared_in x = count (λ m. eqb (x / m % 2) 0) bit_values

unfoldable pub cleared_bits : List ℕ → ℕ
cleared_bits [] = 0
cleared_bits (x ∷ xs) = cleared_in x + cleared_bits xs

-- the tally: total and cleared bits
unfoldable pub tally_of : Version → ℕ
tally_of version1 = 0
tally_of (version2 total bits) = total + cleared_bits bits

unfoldable pub no_bit_left : Version → Bool
no_bit_left version1 = false
no_bit_left (version2 total bits) = all (λ x. eqb x 0) bits

-- ---- the page

-- byte 16 where there is no old segment
abbrev pub no_old_segment : ℕ
no_old_segment = 255

-- bytes 17-255: version 1 leaves them at 255
unfoldable pub tally_bytes : Version → List ℕ
tally_bytes version1 = erased 239
tally_bytes (version2 total bits) = number_bytes total ++ (erased 11 ++ bits)

-- the letters SLT, version, status, B, N, number, the same inverted, index of the old segment, tally
unfoldable pub header_page : ℕ → ℕ → Version → ℕ → ℕ → ℕ → Page
header_page N B ver st n old =
    0x53 ∷ 0x4C ∷ 0x54 ∷ version_number ver ∷ 0 ∷ st ∷ B ∷ N ∷ (number_bytes n ++ (inverted (number_bytes n) ++ (old ∷ tally_bytes ver)))

unfoldable pub header_status : Page → ℕ
header_status h = get_or h 5 0

unfoldable pub header_number : Page → ℕ
header_number h = value (take 4 (drop 8 h))

unfoldable pub header_version : Page → Version
header_version h = cond (eqb (get_or h 3 0) 2) (version2 (value (take 4 (drop 17 h))) (drop 32 h)) version1

-- what byte 16 of segment i must be: 255 if it was opened, otherwise the index after its own
unfoldable pub old_index : ℕ → ℕ → ℕ → ℕ
old_index N i st = cond (eqb st opened) no_old_segment ((i + 1) % N)

-- the header of a segment in use at index i
unfoldable pub header_in_use : ℕ → ℕ → ℕ → Page → Bool
header_in_use N B i h = let ver = header_version h in let st = header_status h in let n = header_number h in
    status_in_use st && (total_fits ver && (ltb n (number_limit N) && (eqb (n % N) i && same h (header_page N B ver st n (old_index N i st)))))

-- ---- blank

unfoldable pub is_blank : List ℕ → Bool
is_blank [] = true
is_blank (x ∷ xs) = eqb x 255 && is_blank xs

-- a blank segment: every byte of it is 255
unfoldable pub all_blank : List Page → Bool
all_blank ps = all is_blank ps
