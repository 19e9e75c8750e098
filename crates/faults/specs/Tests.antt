-- What the walks over an image test: its headers one by one, then its slots one by one.
use Rattle.std.specs.Prelude.{ℕ, ◌+◌, ◌-◌, Bool, true, false, ◌||◌, ◌&&◌, not, List, [], ◌∷◌, map, leb}
use Rattle.model.specs.Slot.{Slot, kind_of}
use Rattle.model.specs.State.{Segment, is_invalid, is_owing, used_count, first_number, some_in_use, consecutive, one_version, none_owing, others_blank}
use Rattle.model.specs.declared.SlotKind.{SlotKind}
use Rattle.model.specs.declared.SlotKind.TheVariants.{Empty, Torn, Live, Dead, Cut, Wrong}
use Rattle.judge.specs.Bitmap.{in_bits, put_bit}
use Rattle.judge.specs.Heads.{counts_of, count_one}
use Rattle.judge.specs.Tally.{none_met}
use Rattle.faults.specs.declared.HeadTests.{HeadTests}
use Rattle.faults.specs.declared.HeadsTold.{HeadsTold}
use Rattle.faults.specs.declared.SlotTests.{SlotTests}
use Rattle.account_text.specs.Account.{first_failing}

-- ---- headers

-- one segment more
unfoldable pub test_head : HeadTests → Segment → HeadTests
test_head t x = record { counts = count_one t.counts x; none_owing = t.none_owing && not (is_owing x); others_blank = t.others_blank && not (is_invalid x) }

unfoldable pub head_tests : List Segment → HeadTests
head_tests l = record { counts = counts_of l; none_owing = none_owing l; others_blank = others_blank l }

-- the first of conditions 1 to 4 that fails, by the tests and whether the numbers follow each other
unfoldable pub head_place : ℕ → HeadTests → Bool → ℕ
head_place N t follow = let c = t.counts in
    first_failing 1 ((leb 1 c.used && leb c.used (N - 1)) ∷ (follow && (c.all_version_1 || c.all_version_2)) ∷ t.none_owing ∷ t.others_blank ∷ [])

unfoldable pub heads_told : ℕ → List Segment → HeadsTold
heads_told N l = record { first = first_number l; used = used_count l; place = first_failing 1 (some_in_use N l ∷ (consecutive N l && one_version l) ∷ none_owing l ∷ others_blank l ∷ []) }

-- ---- slots

-- the slots so far, and the set of block numbers met
pub record Look : Type 0 where
  pub tests : SlotTests
  pub seen : List ℕ

abbrev pub look : SlotTests → List ℕ → Look
look t s = record { tests = t; seen = s }

unfoldable pub no_tests : SlotTests
no_tests = record { sound = true; distinct = true; in_order = true; room = false; live = 0 }

-- a slot that is not empty follows
unfoldable pub wrote : SlotTests → Bool → Bool → ℕ → SlotTests
wrote t s d n = record { sound = s; distinct = d; in_order = t.in_order && not t.room; room = t.room; live = n }

unfoldable pub test_slot : SlotKind → Look → Look
test_slot Empty p = look (record { sound = p.tests.sound; distinct = p.tests.distinct; in_order = p.tests.in_order; room = true; live = p.tests.live }) p.seen
test_slot Torn p = look (wrote p.tests false p.tests.distinct p.tests.live) p.seen
test_slot (Live n b) p = look (wrote p.tests p.tests.sound (p.tests.distinct && not (in_bits 64 p.seen b.0)) (p.tests.live + 1)) (put_bit 64 p.seen b.0)
test_slot Dead p = look (wrote p.tests p.tests.sound p.tests.distinct p.tests.live) p.seen
test_slot Cut p = look (wrote p.tests p.tests.sound p.tests.distinct p.tests.live) p.seen
test_slot Wrong p = look (wrote p.tests false p.tests.distinct p.tests.live) p.seen

unfoldable pub test_slots : List SlotKind → Look → Look
test_slots [] p = p
test_slots (k ∷ ks) p = test_slots ks (test_slot k p)

-- a segment follows: those before may have no empty slot
unfoldable pub next_row : SlotTests → SlotTests
next_row t = record { sound = t.sound; distinct = t.distinct; in_order = t.in_order && not t.room; room = false; live = t.live }

unfoldable pub test_rows : List (List Slot) → Look → Look
test_rows [] p = p
test_rows (x ∷ r) p = test_rows r (test_slots (map kind_of x) (look (next_row p.tests) p.seen))

unfoldable pub rows_tested : List (List Slot) → SlotTests
rows_tested r = (test_rows r (look no_tests none_met)).tests

-- the first of conditions 5 to 8 that fails
unfoldable pub slot_place : ℕ → SlotTests → ℕ
slot_place most t = first_failing 5 (t.sound ∷ t.distinct ∷ t.in_order ∷ leb t.live most ∷ [])
