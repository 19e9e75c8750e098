-- Document 01, "Bench examples": those marked "Proved", 1 to 8, the lengths of 10 with what request #105 keeps, the sizes of 11 with what request #108 takes, and what requests #104 and #107 add: entries of one table under one statement (Laws.Bench).
use Rattle.std.specs.Prelude.{ℕ, zero, suc, ◌+◌, ◌*◌, Bool, true, cond, ◌||◌, ◌&&◌, not, List, [], ◌∷◌, ◌++◌, length, get_or, take, replicate, eqb}
use Rattle.model.specs.Lists.{same}
use Rattle.model.specs.Chip.{Image, Page, Step, image_length, pages_of, run}
use Rattle.model.specs.Header
use Rattle.model.specs.Header.{erase_pending, header_page, Version, version1, version2, new_version, old_index}
use Rattle.model.specs.Slot.{Entry}
use Rattle.model.specs.State.{segments_on, view_of, entries_in, capacity, state_of}
use Rattle.model.specs.Steps.{programs, on_page, header_at, open_segment, copy_entries, copy_out, erase_first}
use Rattle.model.specs.Answers.{Request, format, put, delete, recover, Work, work_of, code_under, is_damaged, is_unfinished, ReadOutcome, read_outcome}
use Rattle.model.specs.Table.{lookup, contents_found}
use Rattle.model.specs.Sequences.{Call, play, observed, Observed, erases_in, start, ledger, erase_count}

-- ---- where an example begins

abbrev pub call : Request → ℕ → Call
call r allowance = record { request = r; allowance = allowance }

-- with steps enough
abbrev pub whole : Request → Call
whole r = call r 1000

-- N, B, the steps that made the image of an erased chip, and the calls after that. By steps there stands what no call can make any more
pub record Setup : Type 0 where
  pub segments : ℕ
  pub slots : ℕ
  pub made : List Step
  pub calls : List Call

-- after a format
abbrev pub after : ℕ → ℕ → List Call → Setup
after N B xs = record { segments = N; slots = B; made = open_segment N B (new_version 0) 0; calls = xs }

abbrev pub and_then : Setup → List Call → Setup
and_then u xs = record { segments = u.segments; slots = u.slots; made = u.made; calls = u.calls ++ xs }

unfoldable pub recording : Setup → List Step
recording u = erase_first u.segments ++ u.made

-- on a chip full of zero bytes
unfoldable pub recorded : Setup → Image
recorded u = run u.slots (recording u) (replicate (image_length u.segments u.slots) 0)

unfoldable pub left : Setup → Image
left u = play u.segments u.slots (recorded u) u.calls

-- what an example looks at: the image's pages, the work of the next request, a read, and what was observed of the calls
pub record Bench : Type 0 where
  pub pages : Setup → List Page
  pub work : Setup → Request → Work
  pub found : Setup → ℕ → ReadOutcome
  pub seen : Setup → List Observed

unfoldable pub bench : Bench
bench = record {
  pages = λ u. pages_of u.segments u.slots (left u);
  work = λ u r. work_of u.segments u.slots (left u) r;
  found = λ u b. read_outcome u.segments u.slots (left u) b;
  seen = λ u. observed u.segments u.slots (recorded u) u.calls;
}

-- ---- what an example can say

pub data Example : Type 0 where
  -- N, B: the image's length and the capacity
  sizes : ℕ → ℕ → ℕ → ℕ → Example
  -- byte 16 in the header of the segment at an index, of N, that a tidying made
  olds : ℕ → ℕ → ℕ → Example
  -- the first bytes of a page
  begins : Setup → ℕ → List ℕ → Example
  -- the next request: its answer, its steps, its erases
  answers : Setup → Request → ℕ → ℕ → ℕ → Example
  -- a read of a block: its answer, the offset of the contents, their length
  reads : Setup → ℕ → ℕ → ℕ → ℕ → Example
  -- E, R and L
  counts : Setup → ℕ → ℕ → ℕ → Example
  -- the next request cut after each of these numbers of steps: it answers 9, recovery takes so many steps, and then the block has these contents
  cuts : Setup → Request → List ℕ → ℕ → ℕ → List ℕ → Example

unfoldable pub contents_in : ℕ → ℕ → ℕ → List Page → List ℕ
contents_in N B b ps = contents_found (lookup b (entries_in (view_of N (segments_on N B ps))))

unfoldable pub is_clean_in : ℕ → ℕ → List Page → Bool
is_clean_in N B ps = let st = state_of N B (segments_on N B ps) in not (is_damaged st || is_unfinished st)

unfoldable pub cut_holds : Bench → Setup → Request → ℕ → ℕ → List ℕ → List ℕ → Bool
cut_holds m u r count b bytes [] = true
cut_holds m u r count b bytes (k ∷ ks) =
    let cut_off = and_then u (call r k ∷ []) in
    let mended = m.pages (and_then cut_off (whole recover ∷ [])) in
    eqb (code_under k (m.work u r)) 9
    && (eqb (length (m.work cut_off recover).steps) count
    && (is_clean_in u.segments u.slots mended
    && (same (contents_in u.segments u.slots b mended) bytes
    && cut_holds m u r count b bytes ks)))

unfoldable pub example_holds : Bench → Example → Bool
example_holds m (sizes N B len cap) = eqb (image_length N B) len && eqb (capacity N B) cap
example_holds m (olds N i old) = eqb (old_index N i erase_pending) old && eqb (old_index N i Header.compacted) old
example_holds m (begins u p bytes) = same (take (length bytes) (get_or (m.pages u) p [])) bytes
example_holds m (answers u r code count erases) = let w = m.work u r in
    eqb w.code code && (eqb (length w.steps) count && eqb (length (erases_in w.steps)) erases)
example_holds m (reads u b code offset len) = let o = m.found u b in
    eqb o.code code && (eqb o.offset offset && eqb o.length len)
example_holds m (counts u e r l) = let t = ledger (m.seen u) start in
    eqb (erase_count t) e && (eqb t.replaced r && eqb t.largest l)
example_holds m (cuts u r ks count b bytes) = cut_holds m u r count b bytes ks

-- the places, from 0, of the examples that fail
unfoldable pub failing : Bench → ℕ → List Example → List ℕ
failing m i [] = []
failing m i (x ∷ xs) = cond (example_holds m x) (failing m (suc i) xs) (i ∷ failing m (suc i) xs)

-- ---- the table

-- k numbers from n
unfoldable pub up_from : ℕ → ℕ → List ℕ
up_from n zero = []
up_from n (suc k) = n ∷ up_from (suc n) k

-- each of these blocks put with one-byte contents
unfoldable pub put_each : List ℕ → List Call
put_each [] = []
put_each (b ∷ bs) = whole (put b (1 ∷ [])) ∷ put_each bs

-- block 7 put with one-byte contents
abbrev seven : ℕ → Request
seven v = put 7 (v ∷ [])

abbrev sevens : List ℕ → List Call
sevens [] = []
sevens (v ∷ vs) = whole (seven v) ∷ sevens vs

abbrev entry : ℕ → List ℕ → Entry
entry b c = record { block = b; contents = c }

-- blocks 1 and 4, both empty, as a store from before request #105 may have left them, and 2 between them fill the first of three segments
abbrev shelf : List Call → Setup
shelf xs = record {
  segments = 3;
  slots = 3;
  made = open_segment 3 3 (new_version 0) 0 ++ copy_entries 3 3 0 0 (entry 1 [] ∷ entry 2 (1 ∷ []) ∷ entry 4 [] ∷ []);
  calls = xs;
}

-- blocks 2 and 3 fill the next one, so that one more put of 3 tidies the first, to segment 2
abbrev filling : List Call
filling = put_each (3 ∷ 2 ∷ 3 ∷ [])

abbrev compacting : Request
compacting = put 3 (2 ∷ [])

abbrev compacted : Setup
compacted = shelf (filling ++ (whole compacting ∷ []))

-- request #104: the first segment of two, with block 7, in this version, and these steps after that
abbrev board : ℕ → ℕ → Version → List Step → Setup
board N B ver xs = record { segments = N; slots = B; made = open_segment N B ver 0 ++ (copy_entries N B 0 0 (entry 7 (1 ∷ []) ∷ []) ++ xs); calls = [] }

-- the tidying of it, to the owing mark, in this version
abbrev owing : Version → List Step
owing ver = copy_out 2 2 ver 0 1 (entry 7 (1 ∷ []) ∷ [])

-- two of three segments in use, the first full, in these versions
abbrev pair : Version → Version → Setup
pair ver other = board 3 2 ver (copy_entries 3 2 0 1 (entry 8 [] ∷ []) ++ open_segment 3 2 other 1)

-- a chip of segments with two slots, whose first header has this number, total and bits
abbrev aged : ℕ → ℕ → ℕ → List ℕ → List Call → Setup
aged N n total bits xs = record { segments = N; slots = 2; made = open_segment N 2 (new_version total) n ++ on_page (header_at N 2 n) (programs 32 bits); calls = xs }

-- of two segments, the first filled by block 7
abbrev filled : ℕ → ℕ → List ℕ → List Call → Setup
filled n total bits xs = aged 2 n total bits (sevens (1 ∷ 2 ∷ []) ++ xs)

-- 21 bits cleared, so that one is left in each of three bytes; and all but one
abbrev few_bits : List ℕ
few_bits = 0x10 ∷ 0x01 ∷ 0x80 ∷ []

abbrev last_bit : List ℕ
last_bit = 0x01 ∷ replicate 223 0

-- the third put, cut before the owing mark, and recoveries that are cut before they erase
abbrev torn : List Call
torn = call (seven 3) 20 ∷ []

abbrev counting : ℕ → List Call
counting zero = []
counting (suc k) = call recover 1 ∷ counting k

-- no bit
abbrev no_bits : List ℕ
no_bits = replicate 224 0

-- three segments of two slots, where a put of block 4 tidies twice; it is cut, three recoveries are counted, and it is done
abbrev fours : List Call
fours = put_each (1 ∷ 2 ∷ 4 ∷ 4 ∷ [])

-- a put whose writing is cut, and recovered
abbrev cut_put : Request → ℕ → List Call
cut_put r k = call r k ∷ whole recover ∷ []

abbrev twice : Setup
twice = after 3 2 (fours ++ (call (put 4 (2 ∷ [])) 20 ∷ (counting 2 ++ (whole recover ∷ whole (put 4 (2 ∷ [])) ∷ []))))

unfoldable pub examples : List Example
examples =
    -- 1
    sizes 2 2 1536 1
    ∷ sizes 16 255 1048576 3824
    -- request #108: the largest image
    ∷ sizes 255 255 16711680 64769
    -- 2
    ∷ begins (and_then (board 4 15 version1 []) (whole format ∷ [])) 0
    (0x53 ∷ 0x4C ∷ 0x54 ∷ 0x02 ∷ 0x00 ∷ 0x3F ∷ 0x0F ∷ 0x04 ∷ 0x00 ∷ 0x00 ∷ 0x00 ∷ 0x00 ∷ 0xFF ∷ 0xFF ∷ 0xFF ∷ 0xFF ∷ 0xFF ∷ 0x00 ∷ 0x00 ∷ 0x00 ∷ 0x00 ∷ replicate 235 0xFF)
    -- 3: three full segments of fifteen slots, and the put that tidies the first to segment 3
    ∷ begins (after 4 15 (put_each (up_from 1 44 ++ (1 ∷ 1 ∷ [])))) (3 * 16)
    (0x53 ∷ 0x4C ∷ 0x54 ∷ 0x02 ∷ 0x00 ∷ 0x8F ∷ 0x0F ∷ 0x04 ∷ 0x03 ∷ 0x00 ∷ 0x00 ∷ 0x00 ∷ 0xFC ∷ 0xFF ∷ 0xFF ∷ 0xFF ∷ 0x00 ∷ 0x00 ∷ 0x00 ∷ 0x00 ∷ 0x00 ∷ replicate 235 0xFF)
    -- 4
    ∷ begins (after 4 15 (whole (put 7 (0x41 ∷ 0x31 ∷ [])) ∷ [])) 1 (0x3F ∷ 0x02 ∷ 0x07 ∷ 0x00 ∷ 0xFF ∷ 0xFF ∷ 0xFF ∷ 0xFF ∷ 0x41 ∷ 0x31 ∷ replicate 246 0xFF)
    ∷ answers (after 4 15 []) (put 7 (0x41 ∷ 0x31 ∷ [])) 0 7 0
    ∷ answers (after 4 15 (sevens (1 ∷ []))) (put 7 (0x41 ∷ 0x31 ∷ [])) 0 8 0
    -- 5
    ∷ answers (after 2 2 (sevens [])) (seven 1) 0 6 0
    ∷ answers (after 2 2 (sevens (1 ∷ []))) (seven 2) 0 7 0
    ∷ answers (after 2 2 (sevens (1 ∷ 2 ∷ []))) (seven 3) 0 37 1
    ∷ counts (after 2 2 (sevens (1 ∷ 2 ∷ 3 ∷ []))) 1 2 1
    -- 6
    ∷ answers (after 2 2 (sevens (1 ∷ 2 ∷ 3 ∷ []))) (put 8 (1 ∷ [])) 7 0 0
    -- 7: the second put, cut after each number of steps: a torn slot, and then the new one beside the old
    ∷ cuts (after 2 2 (sevens (1 ∷ []))) (seven 2) (0 ∷ []) 0 7 (1 ∷ [])
    ∷ cuts (after 2 2 (sevens (1 ∷ []))) (seven 2) (up_from 1 5) 1 7 (1 ∷ [])
    ∷ cuts (after 2 2 (sevens (1 ∷ []))) (seven 2) (6 ∷ []) 1 7 (2 ∷ [])
    -- 8: the third put, cut after each number of steps: before the owing mark; at it; after the erase; with the tidying done; then as in 7
    ∷ cuts (after 2 2 (sevens (1 ∷ 2 ∷ []))) (seven 3) (0 ∷ []) 0 7 (2 ∷ [])
    ∷ cuts (after 2 2 (sevens (1 ∷ 2 ∷ []))) (seven 3) (up_from 1 27) 2 7 (2 ∷ [])
    ∷ cuts (after 2 2 (sevens (1 ∷ 2 ∷ []))) (seven 3) (28 ∷ []) 3 7 (2 ∷ [])
    ∷ cuts (after 2 2 (sevens (1 ∷ 2 ∷ []))) (seven 3) (29 ∷ []) 1 7 (2 ∷ [])
    ∷ cuts (after 2 2 (sevens (1 ∷ 2 ∷ []))) (seven 3) (30 ∷ []) 0 7 (2 ∷ [])
    ∷ cuts (after 2 2 (sevens (1 ∷ 2 ∷ []))) (seven 3) (up_from 31 5) 1 7 (2 ∷ [])
    ∷ cuts (after 2 2 (sevens (1 ∷ 2 ∷ []))) (seven 3) (36 ∷ []) 1 7 (3 ∷ [])
    -- 10: contents of 1 and 248 bytes are taken, 0 (request #105) and 249 answer 3
    ∷ answers (after 4 15 []) (put 1 (1 ∷ [])) 0 6 0
    ∷ answers (after 4 15 []) (put 65534 (replicate 248 1)) 0 253 0
    ∷ answers (after 4 15 []) (put 1 []) 3 0 0
    ∷ answers (after 4 15 []) (put 1 (replicate 249 1)) 3 0 0
    -- the smallest number that applies: 2 for block 0; 3 on a damaged image, an unfinished one and a full store
    ∷ answers (after 4 15 []) (put 0 []) 2 0 0
    ∷ answers (after 2 2 (call format 1 ∷ [])) (put 7 []) 3 0 0
    ∷ answers (after 2 2 (call (seven 1) 3 ∷ [])) (put 7 []) 3 0 0
    ∷ answers (after 2 2 (sevens (1 ∷ []))) (put 8 []) 3 0 0
    -- 11: B=1, N=1 and (request #108) N=256 answer 1, 65 and 255 are taken
    ∷ answers (after 4 1 []) format 1 0 0
    ∷ answers (after 1 15 []) format 1 0 0
    ∷ answers (after 256 2 []) format 1 0 0
    ∷ answers (after 65 2 []) format 0 86 65
    ∷ answers (after 255 2 []) format 0 276 255
    -- of 255 segments byte 7 is 255, as erased; byte 16 names the last index at the last but one, and at the last the first
    ∷ begins (after 255 2 []) 0 (0x53 ∷ 0x4C ∷ 0x54 ∷ 0x02 ∷ 0x00 ∷ 0x3F ∷ 0x02 ∷ 0xFF ∷ 0x00 ∷ 0x00 ∷ 0x00 ∷ 0x00 ∷ 0xFF ∷ 0xFF ∷ 0xFF ∷ 0xFF ∷ 0xFF ∷ [])
    ∷ olds 255 253 254
    ∷ olds 255 254 0
    -- request #104: 17-20 are programmed just before 8-15: an opening and a tidying, each cut after byte 18
    ∷ begins (after 2 2 (call format 12 ∷ [])) 0
    (0x53 ∷ 0x4C ∷ 0x54 ∷ 0x02 ∷ 0x00 ∷ 0x7F ∷ 0x02 ∷ 0x02 ∷ 0xFF ∷ 0xFF ∷ 0xFF ∷ 0xFF ∷ 0xFF ∷ 0xFF ∷ 0xFF ∷ 0xFF ∷ 0xFF ∷ 0x00 ∷ 0x00 ∷ 0xFF ∷ 0xFF ∷ [])
    ∷ begins (filled 0 0 [] (call (seven 3) 17 ∷ [])) 3
    (0x53 ∷ 0x4C ∷ 0x54 ∷ 0x02 ∷ 0x00 ∷ 0xDF ∷ 0x02 ∷ 0x02 ∷ 0xFF ∷ 0xFF ∷ 0xFF ∷ 0xFF ∷ 0xFF ∷ 0xFF ∷ 0xFF ∷ 0xFF ∷ 0x00 ∷ 0x00 ∷ 0x00 ∷ 0xFF ∷ 0xFF ∷ [])
    -- a put on a board of version 1 answers 11, before 7; the rest is as before, and a format makes version 2
    ∷ answers (board 2 2 version1 []) (seven 2) 11 0 0
    ∷ answers (board 2 2 version1 []) (put 8 (1 ∷ [])) 11 0 0
    ∷ answers (board 2 2 version1 []) (put 8 []) 3 0 0
    ∷ reads (board 2 2 version1 []) 7 0 (1 * 256 + 8) 1
    ∷ answers (board 2 2 version1 []) (delete 7) 0 1 0
    ∷ answers (and_then (board 2 2 version1 []) (whole format ∷ [])) (seven 2) 0 6 0
    -- after 4 and 5: damaged, and unfinished in (a) to (d), where recovery is as before
    ∷ answers (board 2 2 version1 (open_segment 2 2 version1 1)) (seven 2) 4 0 0
    ∷ answers (board 2 2 version1 (on_page 3 (programs 5 (0xDF ∷ [])))) (seven 2) 5 0 0
    ∷ answers (board 2 2 version1 (on_page 3 (programs 5 (0xDF ∷ [])))) recover 0 1 1
    ∷ answers (board 2 2 version1 (owing version1)) (seven 2) 5 0 0
    ∷ answers (board 2 2 version1 (owing version1)) recover 0 2 1
    ∷ answers (board 2 2 version1 (on_page 2 (programs 0 (0x7F ∷ [])))) recover 0 1 0
    ∷ answers (board 2 2 version1 (copy_entries 2 2 0 1 (entry 7 (2 ∷ []) ∷ []))) recover 0 1 0
    -- both versions are damaged, but for the one after the top in (b): the count is by the top's
    ∷ answers (pair version1 version1) (delete 7) 0 1 0
    ∷ answers (pair (new_version 0) (new_version 0)) (delete 7) 0 1 0
    ∷ answers (pair version1 (new_version 0)) (delete 7) 4 0 0
    ∷ answers (pair (new_version 0) version1) (delete 7) 4 0 0
    ∷ answers (board 2 2 version1 (owing (new_version 0))) recover 0 3 1
    ∷ answers (board 2 2 (new_version 0) (owing version1)) recover 0 2 1
    -- a recovery clears a bit of the top's header before it erases: the first byte's highest one; after five such, byte 32 is 07
    ∷ begins (filled 0 0 [] (torn ++ (whole recover ∷ []))) 0 (header_page 2 2 (version2 0 (0x7F ∷ replicate 223 0xFF)) 0x3F 0 0xFF)
    ∷ begins (filled 0 0 [] (torn ++ counting 5)) 0 (header_page 2 2 (version2 0 (0x07 ∷ replicate 223 0xFF)) 0x3F 0 0xFF)
    ∷ begins (filled 0 0 few_bits (torn ++ counting 2)) 0 (header_page 2 2 (version2 0 (0x00 ∷ 0x00 ∷ 0x80 ∷ replicate 221 0xFF)) 0x3F 0 0xFF)
    -- a new header carries total and bits on, with every bit set: of an opening, and of tidyings, the second of which does not add the bits again
    ∷ begins (aged 3 0 300 few_bits (sevens (1 ∷ 2 ∷ 3 ∷ []))) 3 (header_page 3 2 (new_version 321) 0x3F 1 0xFF)
    ∷ begins (filled 0 300 few_bits (whole (seven 3) ∷ [])) 3 (header_page 2 2 (new_version 321) 0x8F 1 0)
    ∷ begins twice 6 (header_page 3 2 (new_version 3) 0x8F 2 0)
    ∷ begins twice 0 (header_page 3 2 (new_version 3) 0x8F 3 1)
    -- with no bit left recovery does not count, and a put that needs a new header answers 8
    ∷ answers (filled 0 0 last_bit torn) recover 0 2 1
    ∷ answers (filled 0 0 last_bit (torn ++ counting 1)) recover 0 1 1
    ∷ answers (filled 0 0 last_bit (torn ++ (whole recover ∷ []))) (seven 3) 8 0 0
    ∷ answers (aged 3 0 0 no_bits (sevens (1 ∷ 2 ∷ []))) (seven 3) 8 0 0
    -- worn by the total, by total and bits, and by the number: the whole part of 199,999 by 2 is one less than the limit
    ∷ answers (filled 0 99999 [] []) (seven 3) 0 37 1
    ∷ answers (filled 0 99999 (0x7F ∷ []) []) (seven 3) 8 0 0
    ∷ answers (filled 0 99978 few_bits []) (seven 3) 0 37 1
    ∷ answers (filled 0 99979 few_bits []) (seven 3) 8 0 0
    ∷ answers (filled 199998 0 [] []) (seven 3) 0 37 1
    ∷ answers (filled 199998 1 [] []) (seven 3) 8 0 0
    ∷ answers (filled 199999 0 [] []) (seven 3) 8 0 0
    -- by the last of two numbers
    ∷ answers (aged 3 0 99998 [] fours) (put 4 (2 ∷ [])) 0 73 2
    ∷ answers (aged 3 0 99999 [] fours) (put 4 (2 ∷ [])) 8 0 0
    -- request #107: recovery leaves 5F in (c), of the torn slot, and 1F in (d), of the older one
    ∷ begins (after 2 2 (sevens (1 ∷ []) ++ cut_put (seven 2) 3)) 2 (0x5F ∷ 0x01 ∷ 0x07 ∷ 0xFF ∷ [])
    ∷ begins (after 2 2 (sevens (1 ∷ []) ++ cut_put (seven 2) 6)) 1 (0x1F ∷ 0x01 ∷ 0x07 ∷ 0x00 ∷ [])
    -- 5F counts for 8: the oldest segment has no other dead slot, and one more number would be one too many
    ∷ answers (aged 3 0 99999 [] (put_each (1 ∷ []) ++ (cut_put (put 2 (1 ∷ [])) 3 ++ put_each (2 ∷ 3 ∷ [])))) (put 3 (2 ∷ [])) 0 37 1
    -- a put with room is never worn
    ∷ answers (aged 2 0 0 no_bits (sevens (1 ∷ []))) (seven 2) 0 7 0
    ∷ answers (aged 2 0 99999 (0x7F ∷ []) (sevens (1 ∷ []))) (seven 2) 0 7 0
    -- request #105: an empty record from before is read, deleted, and rewritten, which opens a segment here
    ∷ reads (shelf []) 1 0 (1 * 256 + 8) 0
    ∷ reads (shelf []) 4 0 (3 * 256 + 8) 0
    ∷ answers (shelf []) (delete 1) 0 1 0
    ∷ answers (shelf []) (put 1 (2 ∷ [])) 0 (21 + 6 + 1) 0
    -- a tidying copies two in 5 steps each, to the first slots of the target, where they are read
    ∷ answers (shelf filling) compacting 0 (24 + 5 + 5 + 6 + 1) 1
    ∷ begins compacted 9 (0x3F ∷ 0x00 ∷ 0x01 ∷ 0x00 ∷ replicate 252 0xFF)
    ∷ begins compacted 10 (0x3F ∷ 0x00 ∷ 0x04 ∷ 0x00 ∷ replicate 252 0xFF)
    ∷ reads compacted 1 0 (9 * 256 + 8) 0
    ∷ reads compacted 4 0 (10 * 256 + 8) 0
    -- so they are if that put is cut and recovered: before the owing mark the old slots stand, from it on the copies
    ∷ reads (shelf (filling ++ (call compacting 31 ∷ whole recover ∷ []))) 4 0 (3 * 256 + 8) 0
    ∷ reads (shelf (filling ++ (call compacting 32 ∷ whole recover ∷ []))) 4 0 (10 * 256 + 8) 0
    ∷ []
