-- Boards with their accounts and their pictures: the sample texts, a fresh format, each unfinished case, and damage in each condition of Clean. Entries of one table (Samples).
use Rattle.std.specs.Prelude.{ℕ, ◌%◌, List, [], ◌∷◌, ◌++◌, replicate}
use Prim.Native.String.{String}
use Rattle.model.specs.Chip.{Page, erased}
use Rattle.model.specs.Header.{opening_begun, opened, erase_pending, compacted, Version, version1, version2, new_version, header_page, old_index}
use Rattle.model.specs.Slot.{slot_page}

-- N, B, the image's pages, the lines of its account, and the rows of its picture without the legend
pub record Board : Type 0 where
  pub segments : ℕ
  pub slots : ℕ
  pub pages : List Page
  pub account : List String
  pub picture : List String

-- ---- pages

-- the header of a segment in use
abbrev pub used : ℕ → ℕ → Version → ℕ → ℕ → Page
used N B ver st n = header_page N B ver st n (old_index N (n % N) st)

abbrev pub status : ℕ → Page
status st = st ∷ erased 255

abbrev pub deads : ℕ → List Page
deads k = replicate k (status 0x1F)

abbrev pub blanks : ℕ → List Page
blanks k = replicate k (erased 256)

-- a block with contents of so many bytes
abbrev pub block : ℕ → ℕ → Page
block b n = slot_page b (replicate n 1)

-- ---- four segments of fifteen slots

abbrev board : List Page → List String → List String → Board
board pages account picture = record { segments = 4; slots = 15; pages = pages; account = account; picture = picture }

-- segments 0, 1 and 3 of the sample, of version 1, with these slots in segment 2
abbrev pub sample : List Page → List Page
sample third =
    (used 4 15 version1 opened 4 ∷ slot_page 7 (0x41 ∷ 0x30 ∷ []) ∷ slot_page 9 (0x6E ∷ []) ∷ deads 13)
    ++ ((used 4 15 version1 opened 5 ∷ slot_page 7 (0x41 ∷ 0x31 ∷ []) ∷ deads 14)
    ++ ((used 4 15 version1 compacted 6 ∷ third)
    ++ (used 4 15 version1 erase_pending 7 ∷ slot_page 9 (0x6E ∷ []) ∷ slot_page 8 (0x6D ∷ []) ∷ blanks 13)))

-- ---- three segments of two slots: two lists of pages for those in use first, and what the third is

abbrev small : List Page → List String → List String → Board
small pages account picture = record { segments = 3; slots = 2; pages = pages; account = account; picture = picture }

abbrev pub v2 : Version
v2 = new_version 0

-- the one bit that is left, and none
abbrev last_bit : Version
last_bit = version2 0 (replicate 223 0 ++ (1 ∷ []))

abbrev no_bits : Version
no_bits = version2 0 (replicate 224 0)

-- opened, with this number
abbrev pub first : Version → ℕ → Page
first ver n = used 3 2 ver opened n

-- a header of which only the mark that opening begun is there
abbrev pub begun : Page
begun = erased 5 ++ (opening_begun ∷ erased 250)

-- before the erase of (b): the old segment, and the others
abbrev old : List Page
old = used 3 2 v2 compacted 0 ∷ block 2 0 ∷ deads 1

abbrev second : List Page
second = (used 3 2 v2 compacted 1 ∷ block 2 0 ∷ deads 1) ++ (used 3 2 last_bit erase_pending 2 ∷ blanks 2)

unfoldable pub boards : List Board
boards =
    -- a fresh format
    board (used 4 15 v2 opened 0 ∷ blanks 63)
    ("seg 0 used num 0 live 0 dead 0 cut 0 empty 15" ∷ "seg 1 blank" ∷ "seg 2 blank" ∷ "seg 3 blank" ∷ "recover 0 steps 0" ∷ [])
    (">  0 used         0 ..............." ∷ "   1 blank" ∷ "   2 blank" ∷ "   3 blank" ∷ [])
    -- a block line reads
    ∷ board ((used 4 15 v2 opened 0 ∷ slot_page 7 (0x41 ∷ 0x31 ∷ []) ∷ blanks 14) ++ blanks 48)
    ("seg 0 used num 0 live 1 dead 0 cut 0 empty 14" ∷ "seg 1 blank" ∷ "seg 2 blank" ∷ "seg 3 blank" ∷ "block 7 len 2 seg 0 slot 1" ∷ "recover 0 steps 0" ∷ [])
    (">  0 used         0 #.............." ∷ "   1 blank" ∷ "   2 blank" ∷ "   3 blank" ∷ [])
    -- the sample, unfinished by (b)
    ∷ board (sample (deads 15))
    ("seg 0 torn"
    ∷ "seg 1 used num 5 live 1 dead 14 cut 0 empty 0"
    ∷ "seg 2 used num 6 live 0 dead 15 cut 0 empty 0"
    ∷ "seg 3 owing num 7 live 2 dead 0 cut 0 empty 13"
    ∷ "block 7 len 2 seg 1 slot 1"
    ∷ "block 8 len 1 seg 3 slot 2"
    ∷ "block 9 len 1 seg 3 slot 1"
    ∷ "recover 0 steps 2"
    ∷ [])
    ("   0 torn" ∷ "   1 used         5 #xxxxxxxxxxxxxx" ∷ "   2 used         6 xxxxxxxxxxxxxxx" ∷ ">  3 owing        7 ##............." ∷ [])
    -- the same with slot 4 of index 2 torn: damaged
    ∷ board (sample (deads 3 ++ (status 0x7F ∷ deads 11)))
    ("seg 0 used num 4 live 2 dead 13 cut 0 empty 0"
    ∷ "seg 1 used num 5 live 1 dead 14 cut 0 empty 0"
    ∷ "seg 2 used num 6 live 0 dead 14 cut 0 empty 0"
    ∷ "seg 3 owing num 7 live 2 dead 0 cut 0 empty 13"
    ∷ "block 7 len 2 seg 0 slot 1"
    ∷ "block 7 len 2 seg 1 slot 1"
    ∷ "block 8 len 1 seg 3 slot 2"
    ∷ "block 9 len 1 seg 0 slot 2"
    ∷ "block 9 len 1 seg 3 slot 1"
    ∷ "fails 1"
    ∷ [])
    ("   0 used         4 ##xxxxxxxxxxxxx" ∷ "   1 used         5 #xxxxxxxxxxxxxx" ∷ "   2 used         6 xxx~xxxxxxxxxxx" ∷ ">  3 owing        7 ##............." ∷ [])
    -- (a), with a bit left and without
    ∷ small ((first v2 0 ∷ block 5 3 ∷ blanks 1) ++ ((begun ∷ blanks 2) ++ blanks 3))
    ("seg 0 used num 0 live 1 dead 0 cut 0 empty 1" ∷ "seg 1 torn" ∷ "seg 2 blank" ∷ "block 5 len 3 seg 0 slot 1" ∷ "recover 0 steps 2" ∷ [])
    (">  0 used         0 #." ∷ "   1 torn" ∷ "   2 blank" ∷ [])
    ∷ small ((first no_bits 0 ∷ block 5 3 ∷ blanks 1) ++ ((begun ∷ blanks 2) ++ blanks 3))
    ("seg 0 used num 0 live 1 dead 0 cut 0 empty 1" ∷ "seg 1 torn" ∷ "seg 2 blank" ∷ "block 5 len 3 seg 0 slot 1" ∷ "recover 0 steps 1" ∷ [])
    (">  0 used         0 #." ∷ "   1 torn" ∷ "   2 blank" ∷ [])
    -- (b) of version 2, with the last bit; and where the old segment is blank already
    ∷ small (old ++ second)
    ("seg 0 torn" ∷ "seg 1 used num 1 live 1 dead 1 cut 0 empty 0" ∷ "seg 2 owing num 2 live 0 dead 0 cut 0 empty 2" ∷ "block 2 len 0 seg 1 slot 1" ∷ "recover 0 steps 3" ∷ [])
    ("   0 torn" ∷ "   1 used         1 #x" ∷ ">  2 owing        2 .." ∷ [])
    ∷ small (blanks 3 ++ second)
    ("seg 0 blank" ∷ "seg 1 used num 1 live 1 dead 1 cut 0 empty 0" ∷ "seg 2 owing num 2 live 0 dead 0 cut 0 empty 2" ∷ "block 2 len 0 seg 1 slot 1" ∷ "recover 0 steps 1" ∷ [])
    ("   0 blank" ∷ "   1 used         1 #x" ∷ ">  2 owing        2 .." ∷ [])
    -- and where it is erased in part
    ∷ small ((begun ∷ block 9 1 ∷ blanks 1) ++ second)
    ("seg 0 torn" ∷ "seg 1 used num 1 live 1 dead 1 cut 0 empty 0" ∷ "seg 2 owing num 2 live 0 dead 0 cut 0 empty 2" ∷ "block 2 len 0 seg 1 slot 1" ∷ "recover 0 steps 3" ∷ [])
    ("   0 torn" ∷ "   1 used         1 #x" ∷ ">  2 owing        2 .." ∷ [])
    -- (c): a torn slot is in no count
    ∷ small ((first v2 0 ∷ status 0x7F ∷ blanks 1) ++ blanks 6)
    ("seg 0 used num 0 live 0 dead 0 cut 0 empty 1" ∷ "seg 1 blank" ∷ "seg 2 blank" ∷ "recover 0 steps 1" ∷ [])
    (">  0 used         0 ~." ∷ "   1 blank" ∷ "   2 blank" ∷ [])
    -- recovered, it is cut; and dead and cut slots side by side
    ∷ small ((first v2 0 ∷ status 0x5F ∷ blanks 1) ++ blanks 6)
    ("seg 0 used num 0 live 0 dead 0 cut 1 empty 1" ∷ "seg 1 blank" ∷ "seg 2 blank" ∷ "recover 0 steps 0" ∷ [])
    (">  0 used         0 /." ∷ "   1 blank" ∷ "   2 blank" ∷ [])
    ∷ small ((first v2 0 ∷ status 0x5F ∷ deads 1) ++ ((first v2 1 ∷ block 7 1 ∷ status 0x5F ∷ []) ++ blanks 3))
    ("seg 0 used num 0 live 0 dead 1 cut 1 empty 0" ∷ "seg 1 used num 1 live 1 dead 0 cut 1 empty 0" ∷ "seg 2 blank" ∷ "block 7 len 1 seg 1 slot 1" ∷ "recover 0 steps 0" ∷ [])
    ("   0 used         0 /x" ∷ ">  1 used         1 #/" ∷ "   2 blank" ∷ [])
    -- (d): equal block numbers by segment number, and not by index
    ∷ small ((first v2 3 ∷ block 7 2 ∷ blanks 1) ++ (blanks 3 ++ (first v2 2 ∷ block 7 1 ∷ deads 1)))
    ("seg 0 used num 3 live 1 dead 0 cut 0 empty 1" ∷ "seg 1 blank" ∷ "seg 2 used num 2 live 1 dead 1 cut 0 empty 0" ∷ "block 7 len 1 seg 2 slot 1" ∷ "block 7 len 2 seg 0 slot 1" ∷ "recover 0 steps 1" ∷ [])
    (">  0 used         3 #." ∷ "   1 blank" ∷ "   2 used         2 #x" ∷ [])
    -- damaged: 1, none in use
    ∷ small (blanks 9)
    ("seg 0 blank" ∷ "seg 1 blank" ∷ "seg 2 blank" ∷ "fails 1" ∷ [])
    ("   0 blank" ∷ "   1 blank" ∷ "   2 blank" ∷ [])
    -- 2, by the numbers and by the versions
    ∷ small ((first v2 0 ∷ block 300 248 ∷ block 65534 1 ∷ []) ++ (blanks 3 ++ (first v2 5 ∷ blanks 2)))
    ("seg 0 used num 0 live 2 dead 0 cut 0 empty 0" ∷ "seg 1 blank" ∷ "seg 2 used num 5 live 0 dead 0 cut 0 empty 2" ∷ "block 300 len 248 seg 0 slot 1" ∷ "block 65534 len 1 seg 0 slot 2" ∷ "fails 2" ∷ [])
    ("   0 used         0 ##" ∷ "   1 blank" ∷ ">  2 used         5 .." ∷ [])
    ∷ small ((first v2 0 ∷ deads 2) ++ ((first version1 1 ∷ blanks 2) ++ blanks 3))
    ("seg 0 used num 0 live 0 dead 2 cut 0 empty 0" ∷ "seg 1 used num 1 live 0 dead 0 cut 0 empty 2" ∷ "seg 2 blank" ∷ "fails 2" ∷ [])
    ("   0 used         0 xx" ∷ ">  1 used         1 .." ∷ "   2 blank" ∷ [])
    -- 3, one that is not the top owing
    ∷ small ((used 3 2 v2 erase_pending 0 ∷ deads 2) ++ ((first v2 1 ∷ blanks 2) ++ blanks 3))
    ("seg 0 owing num 0 live 0 dead 2 cut 0 empty 0" ∷ "seg 1 used num 1 live 0 dead 0 cut 0 empty 2" ∷ "seg 2 blank" ∷ "fails 3" ∷ [])
    ("   0 owing        0 xx" ∷ ">  1 used         1 .." ∷ "   2 blank" ∷ [])
    -- 4, a segment torn that is not the one after the top
    ∷ small ((first v2 0 ∷ blanks 2) ++ (blanks 3 ++ (begun ∷ block 9 1 ∷ blanks 1)))
    ("seg 0 used num 0 live 0 dead 0 cut 0 empty 2" ∷ "seg 1 blank" ∷ "seg 2 torn" ∷ "fails 4" ∷ [])
    (">  0 used         0 .." ∷ "   1 blank" ∷ "   2 torn" ∷ [])
    -- 5, a wrong slot, which is in no count
    ∷ small ((first v2 0 ∷ status 0 ∷ blanks 1) ++ blanks 6)
    ("seg 0 used num 0 live 0 dead 0 cut 0 empty 1" ∷ "seg 1 blank" ∷ "seg 2 blank" ∷ "fails 5" ∷ [])
    (">  0 used         0 !." ∷ "   1 blank" ∷ "   2 blank" ∷ [])
    -- 6, a block in three slots
    ∷ small ((first v2 0 ∷ block 7 1 ∷ block 7 2 ∷ []) ++ ((first v2 1 ∷ block 7 3 ∷ blanks 1) ++ blanks 3))
    ("seg 0 used num 0 live 2 dead 0 cut 0 empty 0" ∷ "seg 1 used num 1 live 1 dead 0 cut 0 empty 1" ∷ "seg 2 blank" ∷ "block 7 len 1 seg 0 slot 1" ∷ "block 7 len 2 seg 0 slot 2" ∷ "block 7 len 3 seg 1 slot 1" ∷ "fails 6" ∷ [])
    ("   0 used         0 ##" ∷ ">  1 used         1 #." ∷ "   2 blank" ∷ [])
    -- 7, an empty slot before a written one
    ∷ small ((first v2 0 ∷ erased 256 ∷ block 3 1 ∷ []) ++ blanks 6)
    ("seg 0 used num 0 live 1 dead 0 cut 0 empty 1" ∷ "seg 1 blank" ∷ "seg 2 blank" ∷ "block 3 len 1 seg 0 slot 2" ∷ "fails 7" ∷ [])
    (">  0 used         0 .#" ∷ "   1 blank" ∷ "   2 blank" ∷ [])
    -- 8, more live slots than C
    ∷ small ((first v2 0 ∷ block 1 1 ∷ block 258 1 ∷ []) ++ ((first v2 1 ∷ block 2 1 ∷ block 4 1 ∷ []) ++ blanks 3))
    ("seg 0 used num 0 live 2 dead 0 cut 0 empty 0"
    ∷ "seg 1 used num 1 live 2 dead 0 cut 0 empty 0"
    ∷ "seg 2 blank"
    ∷ "block 1 len 1 seg 0 slot 1"
    ∷ "block 2 len 1 seg 1 slot 1"
    ∷ "block 4 len 1 seg 1 slot 2"
    ∷ "block 258 len 1 seg 0 slot 2"
    ∷ "fails 8"
    ∷ [])
    ("   0 used         0 ##" ∷ ">  1 used         1 ##" ∷ "   2 blank" ∷ [])
    -- damaged beside (a), (b), (c) or (d): nothing is excused
    ∷ small ((first v2 0 ∷ status 0 ∷ blanks 1) ++ ((begun ∷ blanks 2) ++ blanks 3))
    ("seg 0 used num 0 live 0 dead 0 cut 0 empty 1" ∷ "seg 1 torn" ∷ "seg 2 blank" ∷ "fails 4" ∷ [])
    (">  0 used         0 !." ∷ "   1 torn" ∷ "   2 blank" ∷ [])
    ∷ small (blanks 3 ++ ((used 3 2 v2 compacted 1 ∷ status 0 ∷ deads 1) ++ (used 3 2 v2 erase_pending 2 ∷ blanks 2)))
    ("seg 0 blank" ∷ "seg 1 used num 1 live 0 dead 1 cut 0 empty 0" ∷ "seg 2 owing num 2 live 0 dead 0 cut 0 empty 2" ∷ "fails 3" ∷ [])
    ("   0 blank" ∷ "   1 used         1 !x" ∷ ">  2 owing        2 .." ∷ [])
    ∷ small ((first v2 0 ∷ block 7 1 ∷ block 7 2 ∷ []) ++ ((first v2 1 ∷ status 0x7F ∷ blanks 1) ++ blanks 3))
    ("seg 0 used num 0 live 2 dead 0 cut 0 empty 0" ∷ "seg 1 used num 1 live 0 dead 0 cut 0 empty 1" ∷ "seg 2 blank" ∷ "block 7 len 1 seg 0 slot 1" ∷ "block 7 len 2 seg 0 slot 2" ∷ "fails 5" ∷ [])
    ("   0 used         0 ##" ∷ ">  1 used         1 ~." ∷ "   2 blank" ∷ [])
    ∷ small ((first v2 0 ∷ block 7 1 ∷ deads 1) ++ ((first v2 1 ∷ erased 256 ∷ block 7 2 ∷ []) ++ blanks 3))
    ("seg 0 used num 0 live 1 dead 1 cut 0 empty 0" ∷ "seg 1 used num 1 live 1 dead 0 cut 0 empty 1" ∷ "seg 2 blank" ∷ "block 7 len 1 seg 0 slot 1" ∷ "block 7 len 2 seg 1 slot 2" ∷ "fails 6" ∷ [])
    ("   0 used         0 #x" ∷ ">  1 used         1 .#" ∷ "   2 blank" ∷ [])
    -- indices of two digits
    ∷ record {
      segments = 11;
      slots = 2;
      pages = blanks 30 ++ (used 11 2 v2 opened 10 ∷ blanks 2);
      account =
          "seg 0 blank"
          ∷ "seg 1 blank"
          ∷ "seg 2 blank"
          ∷ "seg 3 blank"
          ∷ "seg 4 blank"
          ∷ "seg 5 blank"
          ∷ "seg 6 blank"
          ∷ "seg 7 blank"
          ∷ "seg 8 blank"
          ∷ "seg 9 blank"
          ∷ "seg 10 used num 10 live 0 dead 0 cut 0 empty 2"
          ∷ "recover 0 steps 0"
          ∷ [];
      picture = "   0 blank" ∷ "   1 blank" ∷ "   2 blank" ∷ "   3 blank" ∷ "   4 blank" ∷ "   5 blank" ∷ "   6 blank" ∷ "   7 blank" ∷ "   8 blank" ∷ "   9 blank" ∷ "> 10 used        10 .." ∷ [];
    }
    -- a wide segment is wrapped in the picture; a number takes up to nine characters
    ∷ record {
      segments = 2;
      slots = 130;
      pages = blanks 131 ++ (used 2 130 v2 opened 199999 ∷ block 1 1 ∷ (deads 62 ++ (status 0 ∷ block 2 1 ∷ blanks 65)));
      account = "seg 0 blank" ∷ "seg 1 used num 199999 live 2 dead 62 cut 0 empty 65" ∷ "block 1 len 1 seg 1 slot 1" ∷ "block 2 len 1 seg 1 slot 65" ∷ "fails 5" ∷ [];
      picture = "   0 blank" ∷ ">  1 used    199999 #xxxxxxxxxxxxxxxxxxxxxxxxxxxxxxxxxxxxxxxxxxxxxxxxxxxxxxxxxxxxxx!" ∷ "                    #..............................................................." ∷ "                    .." ∷ [];
    }
    ∷ []
