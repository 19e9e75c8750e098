-- The live slots of an image by block number, in three tables: the first page of each block number, and of each page the next of its block, where 0 is none, and the length of its contents.
use Rattle.std.specs.Prelude.{ℕ, zero, suc, ◌+◌, ◌*◌, ◌≤◌, ◌<◌, ◌≡◌, cond, List, [], ◌∷◌, ◌++◌, length, get_or, set, eqb}
use Rattle.model.specs.declared.SlotKind.{SlotKind}
use Rattle.model.specs.declared.SlotKind.TheVariants.{Empty, Torn, Live, Dead, Cut, Wrong}
use Rattle.model.specs.Chip.{Image}
use Rattle.model.specs.State.{segments_of}
use Rattle.account_text.specs.Account.{LiveSlot, shown, live_slots}
use Rattle.index.specs.declared.Tables.{Tables}

abbrev pub tables : List ℕ → List ℕ → List ℕ → Tables
tables f n l = record { firsts = f; nexts = n; lengths = l }

-- as many as there are block numbers, and more than an image has pages
abbrev pub most_pages : ℕ
most_pages = 65536

-- ---- filled

-- a page put before those of its block
unfoldable pub link : ℕ → ℕ → ℕ → Tables → Tables
link p b n t = tables (set t.firsts b p) (set t.nexts p (get_or t.firsts b 0)) (set t.lengths p n)

unfoldable pub link_kind : ℕ → SlotKind → Tables → Tables
link_kind p Empty t = t
link_kind p Torn t = t
link_kind p (Live n b) t = link p b.0 n t
link_kind p Dead t = t
link_kind p Cut t = t
link_kind p Wrong t = t

-- contents that a byte tells the length of
abbrev pub Brief : SlotKind → Type 0
Brief Empty = Unit {0}
Brief Torn = Unit {0}
Brief (Live n b) = n < 256
Brief Dead = Unit {0}
Brief Cut = Unit {0}
Brief Wrong = Unit {0}

-- the slots on the pages from p on, the last one first
unfoldable pub link_row : ℕ → List SlotKind → Tables → Tables
link_row p [] t = t
link_row p (k ∷ ks) t = link_kind p k (link_row (suc p) ks t)

-- the page of a live slot
unfoldable pub page_of : ℕ → LiveSlot → ℕ
page_of B e = e.segment * (B + 1) + e.slot

-- live slots, the last one first
unfoldable pub linked : ℕ → List LiveSlot → Tables → Tables
linked B [] t = t
linked B (e ∷ r) t = link (page_of B e) e.block (length e.contents) (linked B r t)

-- ---- what they say

-- those of a block
unfoldable pub of_block : ℕ → List LiveSlot → List LiveSlot
of_block b [] = []
of_block b (e ∷ r) = cond (eqb b e.block) (e ∷ of_block b r) (of_block b r)

-- from page p on, by the next of each
abbrev pub Chain : ℕ → List ℕ → List ℕ → ℕ → List LiveSlot → Type 0
Chain B nexts lengths p [] = p ≡ 0
Chain B nexts lengths p (e ∷ r) = (p ≡ page_of B e) × (0 < p) × Chain B nexts lengths (get_or nexts p 0) r × (get_or lengths p 0 ≡ length e.contents)

abbrev pub Listed : ℕ → Tables → List LiveSlot → Type 0
Listed B t r = (b : ℕ) → Chain B t.nexts t.lengths (get_or t.firsts b 0) (of_block b r)

-- a live slot stands at a place of one of N segments of B slots, with a block number and a length that fit the tables
pub record Stands (N B : ℕ) (e : LiveSlot) : Type 0 where
  pub block : e.block < most_pages
  pub segment : e.segment < N
  pub first : 1 ≤ e.slot
  pub slot : e.slot ≤ B
  pub length : length e.contents < 256

abbrev pub AllStand : ℕ → ℕ → List LiveSlot → Type 0
AllStand N B [] = Unit {0}
AllStand N B (e ∷ r) = Stands N B e × AllStand N B r

-- ---- in order

-- those of each block number below k, in turn
unfoldable pub blocks_below : ℕ → List LiveSlot → List LiveSlot
blocks_below zero r = []
blocks_below (suc k) r = blocks_below k r ++ of_block k r

-- ---- of an image

-- the live slots that an account of it has lines for, by segment number, then slot
unfoldable pub list_of : ℕ → ℕ → Image → List LiveSlot
list_of N B s = live_slots N (shown N B (segments_of N B s))

-- tables that list them
pub record Indexed (N B : ℕ) (s : Image) (t : Tables) : Type 0 where
  pub listed : Listed B t (list_of N B s)
  pub stands : AllStand N B (list_of N B s)
  pub few : length (list_of N B s) < most_pages
