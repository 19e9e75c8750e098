-- Layouts, statuses and writes on small boards, computed: what the definitions give, and so which wrong ones they are not.
use Rattle.std.specs.Prelude.{ℕ, ◌≡◌, refl, true, false, List, [], ◌∷◌, ◌++◌, map, replicate}
use Rattle.model.specs.Lists.{all}
use Rattle.model.specs.Chip.{Image, Step, program, erase, clear, erased}
use Rattle.model.specs.Sequences.{among}
use Rattle.model.specs.Header.{is_blank}
use Rattle.model.specs.Steps.{programs}
use Rattle.model.specs.Answers.{first_of, code_under}
use Rattle.flash.specs.Units.{with_unit, step_in, run_in}
use Rattle.partitions.specs.Layout.{items_from, items_of, distinct, bytes_used, layout_ok, has_item, item_of}
use Rattle.partitions.specs.Partitions.{partitions_ok, image_ok, partition_size, next_status, status_of, next_partition, ends_run, indices, kept, only_one, Newest, nothing, newest, no_run, newest_in, newest_of}
use Rattle.partitions.specs.Items.{identifier_at, data_at, data_in, is_written, is_erased}
use Rattle.partitions.specs.Writes.{write_item, write_items, fill, carried, write_steps}
use Rattle.partitions.specs.Answers.{is_no_run, refusals, item_fits, write_work, worked_in, write_outcome, is_stored, offset_of, read_outcome, piece_read}

-- every definition unfolds where this name does
unfoldable pub computes : ℕ
unfolding all clear erased among is_blank programs first_of code_under with_unit step_in run_in items_from items_of distinct bytes_used layout_ok has_item item_of partitions_ok image_ok partition_size next_status status_of next_partition ends_run indices kept only_one newest_in newest_of identifier_at data_at data_in is_written is_erased write_item write_items fill carried write_steps is_no_run refusals item_fits write_work worked_in write_outcome is_stored offset_of read_outcome piece_read
computes = 0

-- ---- the layout table

-- identifier 1 with two bytes, at 1 to 3, and identifier 7 with one byte, at 4 and 5
abbrev pub two : List ℕ
two = 1 ∷ 2 ∷ 7 ∷ 1 ∷ []

items : items_of two ≡ record { identifier = 1; size = 2; at = 1 } ∷ record { identifier = 7; size = 1; at = 4 } ∷ []
unfolding computes
items = refl

-- in partitions of six bytes. No item at all, the smallest and the largest identifier, and lengths up to what fits are right
right_taken : map (layout_ok 6) ([] ∷ two ∷ (7 ∷ 1 ∷ 1 ∷ 2 ∷ []) ∷ (0 ∷ 1 ∷ 254 ∷ 1 ∷ []) ∷ (9 ∷ 4 ∷ []) ∷ []) ≡ replicate 5 true
unfolding computes
right_taken = refl

-- a byte left over; identifier 255; one that comes twice, not next to each other too; length 0; one byte too many
wrong_refused : map (layout_ok 6) ((1 ∷ 2 ∷ 7 ∷ []) ∷ (255 ∷ 1 ∷ []) ∷ (1 ∷ 1 ∷ 1 ∷ 1 ∷ []) ∷ (3 ∷ 0 ∷ []) ∷ (9 ∷ 5 ∷ []) ∷ (1 ∷ 2 ∷ 7 ∷ 2 ∷ []) ∷ []) ≡ replicate 6 false
    × (layout_ok 9 (1 ∷ 1 ∷ 2 ∷ 1 ∷ 1 ∷ 1 ∷ []) ≡ false) × (layout_ok 0 [] ≡ false) × (layout_ok 1 [] ≡ true)
unfolding computes
wrong_refused = (refl, refl, refl, refl)

-- ---- the partitions

-- all of them up to 300
powers : kept partitions_ok (indices 300) ≡ 2 ∷ 4 ∷ 8 ∷ 16 ∷ 32 ∷ 64 ∷ 128 ∷ []
unfolding computes
powers = refl

-- partitions of one byte, which are their statuses
abbrev ring : ℕ → List ℕ → Newest
ring P s = newest_in P 1 s

-- two partitions: the later one, whichever it is; one alone; equal, or one that is two ahead
pairs : map (ring 2) ((255 ∷ 255 ∷ []) ∷ (3 ∷ 4 ∷ []) ∷ (4 ∷ 3 ∷ []) ∷ (3 ∷ 255 ∷ []) ∷ (255 ∷ 3 ∷ []) ∷ (254 ∷ 0 ∷ []) ∷ (0 ∷ 254 ∷ []) ∷ (3 ∷ 3 ∷ []) ∷ (3 ∷ 5 ∷ []) ∷ [])
    ≡ nothing ∷ newest 1 ∷ newest 0 ∷ newest 0 ∷ newest 1 ∷ newest 1 ∷ newest 0 ∷ no_run ∷ no_run ∷ []
unfolding computes
pairs = refl

-- four: a run anywhere, over the end and over 254; two runs, a gap inside, and one that does not follow
fours : map (ring 4) (
    (0 ∷ 255 ∷ 255 ∷ 255 ∷ []) ∷ (255 ∷ 9 ∷ 10 ∷ 255 ∷ []) ∷ (8 ∷ 255 ∷ 6 ∷ 7 ∷ []) ∷ (253 ∷ 254 ∷ 0 ∷ 1 ∷ []) ∷ (0 ∷ 1 ∷ 253 ∷ 254 ∷ [])
    ∷ (4 ∷ 5 ∷ 2 ∷ 3 ∷ []) ∷ (255 ∷ 255 ∷ 255 ∷ 200 ∷ [])
    ∷ (3 ∷ 255 ∷ 7 ∷ 255 ∷ []) ∷ (3 ∷ 255 ∷ 5 ∷ 6 ∷ []) ∷ (1 ∷ 2 ∷ 4 ∷ 5 ∷ []) ∷ (4 ∷ 3 ∷ 2 ∷ 1 ∷ []) ∷ (5 ∷ 5 ∷ 255 ∷ 255 ∷ []) ∷ (254 ∷ 255 ∷ 0 ∷ 255 ∷ []) ∷ [])
    ≡ newest 0 ∷ newest 2 ∷ newest 0 ∷ newest 3 ∷ newest 1 ∷ newest 1 ∷ newest 3 ∷ replicate 6 no_run
unfolding computes
fours = refl

-- ---- writing, on two partitions of seven bytes: the last belongs to no item

blank : Image
blank = erased 14

-- both items in partition 0, with status 254; the one before it is full of other bytes
full : Image
full = (254 ∷ 1 ∷ 10 ∷ 11 ∷ 7 ∷ 20 ∷ 99 ∷ []) ++ (253 ∷ 0 ∷ 0 ∷ 0 ∷ 0 ∷ 0 ∷ 0 ∷ [])

-- the same in partition 1, with item 7 half written, and an identifier that is not item 1's
halved : Image
halved = erased 7 ++ (254 ∷ 2 ∷ 10 ∷ 11 ∷ 255 ∷ 20 ∷ 99 ∷ [])

writes : Image → ℕ → List ℕ → List Step
writes s i d = (write_work 2 two s i d).steps

-- the first write: erase, data, identifier, status 0
first_steps : writes blank 1 (30 ∷ 31 ∷ []) ≡ erase 0 ∷ program 2 30 ∷ program 3 31 ∷ program 1 1 ∷ program 0 0 ∷ []
unfolding computes blank writes
first_steps = refl

-- in place
place_steps : writes ((3 ∷ 1 ∷ 10 ∷ 11 ∷ 255 ∷ 255 ∷ 99 ∷ []) ++ erased 7) 7 (21 ∷ []) ≡ program 5 21 ∷ program 4 7 ∷ []
unfolding computes blank writes
place_steps = refl

-- to the next partition, in table order whichever is written, and 0 after 254
move_steps : (writes full 1 (30 ∷ 31 ∷ []) ≡ erase 1 ∷ program 9 30 ∷ program 10 31 ∷ program 8 1 ∷ program 12 20 ∷ program 11 7 ∷ program 7 0 ∷ [])
    × (writes full 7 (20 ∷ []) ≡ erase 1 ∷ program 9 10 ∷ program 10 11 ∷ program 8 1 ∷ program 12 20 ∷ program 11 7 ∷ program 7 0 ∷ [])
unfolding computes full writes
move_steps = (refl, refl)

-- what is not written is not copied, and forces a move: half an item, and a byte that is neither 255 nor the identifier; partition 0 comes after 1
halved_steps : (writes halved 7 (21 ∷ []) ≡ erase 0 ∷ program 5 21 ∷ program 4 7 ∷ program 0 0 ∷ [])
    × (writes halved 1 (30 ∷ 31 ∷ []) ≡ erase 0 ∷ program 2 30 ∷ program 3 31 ∷ program 1 1 ∷ program 0 0 ∷ [])
unfolding computes halved writes
halved_steps = (refl, refl)

-- the newest is partition 1: item 1's identifier byte is 0, which is not its own, and item 7 is written
zeroed : Image
zeroed = erased 7 ++ (3 ∷ 0 ∷ 10 ∷ 11 ∷ 7 ∷ 20 ∷ 99 ∷ [])

zeroed_so : (read_outcome 2 two zeroed 1 ≡ record { code = 5; offset = 0; length = 0 }) × (read_outcome 2 two zeroed 7 ≡ record { code = 0; offset = 12; length = 1 })
    × (writes zeroed 1 (30 ∷ 31 ∷ []) ≡ erase 0 ∷ program 2 30 ∷ program 3 31 ∷ program 1 1 ∷ program 5 20 ∷ program 4 7 ∷ program 0 4 ∷ [])
    × (writes zeroed 7 (21 ∷ []) ≡ erase 0 ∷ program 5 21 ∷ program 4 7 ∷ program 0 4 ∷ [])
unfolding computes zeroed writes
zeroed_so = (refl, refl, refl, refl)

-- in place in partition 1; data 255 that is written is not blank; an identifier that is not in the table, with no data
place_later : (writes (erased 7 ++ (3 ∷ 1 ∷ 10 ∷ 11 ∷ 255 ∷ 255 ∷ 99 ∷ [])) 7 (21 ∷ []) ≡ program 12 21 ∷ program 11 7 ∷ [])
    × (writes (erased 7 ++ (3 ∷ 255 ∷ 255 ∷ 255 ∷ 7 ∷ 255 ∷ 99 ∷ [])) 7 (21 ∷ []) ≡ erase 0 ∷ program 5 21 ∷ program 4 7 ∷ program 0 4 ∷ [])
    × ((write_work 2 two blank 2 []).code ≡ 3)
unfolding computes blank writes
place_later = (refl, refl, refl)

-- under an allowance: 9 and as many steps, or all
allowed : map {A = ℕ} {B = List ℕ} (λ k. let o = write_outcome 2 two blank 7 (5 ∷ []) k in o.code ∷ o.count ∷ []) (0 ∷ 1 ∷ 3 ∷ 4 ∷ 9 ∷ [])
    ≡ (9 ∷ 0 ∷ []) ∷ (9 ∷ 1 ∷ []) ∷ (9 ∷ 3 ∷ []) ∷ (0 ∷ 4 ∷ []) ∷ (0 ∷ 4 ∷ []) ∷ []
unfolding computes blank
allowed = refl

moved : write_outcome 2 two full 1 (30 ∷ 31 ∷ []) 7 ≡ record { code = 0; count = 7; image = (254 ∷ 1 ∷ 10 ∷ 11 ∷ 7 ∷ 20 ∷ 99 ∷ []) ++ (0 ∷ 1 ∷ 30 ∷ 31 ∷ 7 ∷ 20 ∷ 255 ∷ []) }
unfolding computes full
moved = refl

-- ---- answers

codes : ℕ → List ℕ → Image → List (List ℕ) → List ℕ
codes P layout s ds = map (λ d. (write_work P layout s 7 d).code) ds

abbrev mixed : Image
mixed = 3 ∷ 255 ∷ 255 ∷ 255 ∷ 255 ∷ 255 ∷ 3 ∷ 255 ∷ 255 ∷ 255 ∷ 255 ∷ 255 ∷ []

-- 1, 2, 3, 4 in this order, and each alone; data of 257 bytes is not data of one
refused : codes 3 (1 ∷ []) mixed ((1 ∷ 2 ∷ []) ∷ []) ++ (codes 2 (1 ∷ []) (0 ∷ []) ((1 ∷ 2 ∷ []) ∷ []) ++ (codes 2 (1 ∷ []) mixed ((1 ∷ 2 ∷ []) ∷ []) ++ (codes 2 two mixed ((1 ∷ 2 ∷ []) ∷ [] ∷ (1 ∷ []) ∷ []) ++ (codes 2 (1 ∷ 1 ∷ []) mixed ((1 ∷ []) ∷ []) ++ (codes 2 [] [] ([] ∷ []) ++ codes 2 two blank (replicate 257 0 ∷ (0 ∷ []) ∷ []))))))
    ≡ 1 ∷ 1 ∷ 2 ∷ 3 ∷ 3 ∷ 4 ∷ 3 ∷ 2 ∷ 3 ∷ 0 ∷ []
unfolding computes blank codes
refused = refl

-- reading: the data's place; 5 if it is not written, or nothing is; 3 before 4, and 4 before 5
read_full : (read_outcome 2 two full 1 ≡ record { code = 0; offset = 2; length = 2 }) × (read_outcome 2 two full 7 ≡ record { code = 0; offset = 5; length = 1 })
    × (piece_read 2 two full 1 ≡ 10 ∷ 11 ∷ []) × (map (λ i. (read_outcome 2 two halved i).code) (1 ∷ 7 ∷ 2 ∷ 255 ∷ []) ≡ 5 ∷ 5 ∷ 3 ∷ 3 ∷ [])
    × (map (λ i. (read_outcome 2 two blank i).code) (1 ∷ 7 ∷ 2 ∷ []) ≡ 5 ∷ 5 ∷ 3 ∷ []) × (map (λ i. (read_outcome 2 two mixed i).code) (1 ∷ 2 ∷ []) ≡ 4 ∷ 3 ∷ [])
unfolding computes full halved blank
read_full = (refl, refl, refl, refl, refl, refl)

-- a refusal gives no place and changes no byte
refused_whole : (read_outcome 2 two mixed 7 ≡ record { code = 4; offset = 0; length = 0 }) × (write_outcome 2 two mixed 7 (1 ∷ []) 9 ≡ record { code = 4; count = 0; image = mixed })
unfolding computes
refused_whole = (refl, refl)
