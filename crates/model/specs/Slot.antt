-- Document 01, "Slot page": the page that a block and its contents encode, and the kinds of slot; request #107 tells the two of dead apart.
use Rattle.std.specs.Prelude.{ℕ, ◌+◌, ◌-◌, ◌*◌, ◌/◌, ◌%◌, Bool, true, false, cond, ◌&&◌, not, List, [], ◌∷◌, ◌++◌, length, get_or, take, drop, ltb, leb, eqb}
use Rattle.model.specs.Lists.{same}
use Rattle.model.specs.Chip.{Page, erased}
use Rattle.model.specs.Header.{is_blank}
use Rattle.model.specs.declared.SlotKind.{SlotKind}
use Rattle.model.specs.declared.SlotKind.TheVariants.{Empty, Torn, Live, Dead, Cut, Wrong}

-- ---- the page

-- the most bytes of contents
unfoldable pub most_contents : ℕ
most_contents = 248

-- block numbers are 1 to 65,534
unfoldable pub number_ok : ℕ → Bool
number_ok b = ltb 0 b && ltb b 65535

-- status
abbrev pub write_begun : ℕ
write_begun = 0x7F

abbrev pub written : ℕ
written = 0x3F

-- status, length, block number low byte first, four bytes 255, the contents, 255 to the end
unfoldable pub slot_page : ℕ → List ℕ → Page
slot_page b c = written ∷ length c ∷ b % 256 ∷ b / 256 ∷ 255 ∷ 255 ∷ 255 ∷ 255 ∷ (c ++ erased (most_contents - length c))

unfoldable pub page_block : Page → ℕ
page_block p = get_or p 2 0 + 256 * get_or p 3 0

unfoldable pub page_contents : Page → List ℕ
page_contents p = take (get_or p 1 0) (drop 8 p)

-- the other bytes of a live slot fit
unfoldable pub slot_fits : Page → Bool
slot_fits p = leb (get_or p 1 0) most_contents && (number_ok (page_block p) && same p (slot_page (page_block p) (page_contents p)))

-- ---- kinds

-- a live slot holds a block's contents; a dead one was replaced or deleted; the writing of a cut one was cut, and recovery has marked it
pub data Slot : Type 0 where
  empty torn dead cut wrong : Slot
  live : ℕ → List ℕ → Slot

unfoldable pub slot_of : Page → Slot
slot_of p = let st = get_or p 0 0 in
    cond (eqb st written) (cond (slot_fits p) (live (page_block p) (page_contents p)) wrong)
    (cond (eqb st write_begun) torn
    (cond (eqb st 0x1F) dead
    (cond (eqb st 0x5F) cut
    (cond (is_blank p) empty wrong))))

-- what the code says of a slot: the kind, with the length and number of a live one
unfoldable pub kind_of : Slot → SlotKind
kind_of empty = Empty
kind_of torn = Torn
kind_of dead = Dead
kind_of cut = Cut
kind_of wrong = Wrong
kind_of (live b c) = Live (length c) (record { 0 = b })

-- ---- the tests on kinds that everything else goes by

unfoldable pub is_empty : Slot → Bool
is_empty empty = true
is_empty torn = false
is_empty dead = false
is_empty cut = false
is_empty wrong = false
is_empty (live b c) = false

unfoldable pub is_torn : Slot → Bool
is_torn empty = false
is_torn torn = true
is_torn dead = false
is_torn cut = false
is_torn wrong = false
is_torn (live b c) = false

-- the papers' dead: replaced, deleted, or cut
unfoldable pub is_dead : Slot → Bool
is_dead empty = false
is_dead torn = false
is_dead dead = true
is_dead cut = true
is_dead wrong = false
is_dead (live b c) = false

unfoldable pub is_cut : Slot → Bool
is_cut empty = false
is_cut torn = false
is_cut dead = false
is_cut cut = true
is_cut wrong = false
is_cut (live b c) = false

-- replaced or deleted
unfoldable pub is_replaced : Slot → Bool
is_replaced k = is_dead k && not (is_cut k)

unfoldable pub is_wrong : Slot → Bool
is_wrong empty = false
is_wrong torn = false
is_wrong dead = false
is_wrong cut = false
is_wrong wrong = true
is_wrong (live b c) = false

-- a block number and its contents
pub record Entry : Type 0 where
  pub block : ℕ
  pub contents : List ℕ

-- what a live slot holds; other slots hold nothing
unfoldable pub entry_of : Slot → List Entry
entry_of empty = []
entry_of torn = []
entry_of dead = []
entry_of cut = []
entry_of wrong = []
entry_of (live b c) = record { block = b; contents = c } ∷ []

-- the live slot that holds an entry
unfoldable pub holding : Entry → Slot
holding e = live e.block e.contents
