-- What the tables tell of an image's candidates.
use Rattle.std.specs.Prelude.{ℕ, ◌+◌, ◌*◌, ◌≤◌, ◌<◌, ◌≡◌, ◌⊎◌, false, not, List, [], ◌∷◌, length, get_or}
use Rattle.model.specs.Chip.{Image}
use Rattle.model.specs.Slot.{live, slot_of}
use Rattle.model.specs.State.{segments_of}
use Rattle.account_text.specs.Account.{LiveSlot}
use Rattle.index.specs.Tables.{most_pages, page_of, of_block, Stands}
use Rattle.salvage.specs.Salvage.{candidates, given, agreed}
use Rattle.meeting.specs.declared.Sheet.{Sheet}
use Rattle.meeting.specs.Sheet.{page_at, met}

-- candidates met, the last one first
unfoldable pub met_all : Image → ℕ → List LiveSlot → Sheet → Sheet
met_all s B [] t = t
met_all s B (e ∷ r) t = met s (page_of B e * 256) e.block (length e.contents) (met_all s B r t)

-- a candidate stands in the image: its page is in it, and is that of a live slot with its block and contents
pub record Lies (N B : ℕ) (s : Image) (e : LiveSlot) : Type 0 where
  pub stands : Stands N B e
  pub inside : page_of B e * 256 + 256 ≤ length s
  pub page : slot_of (page_at s (page_of B e * 256)) ≡ live e.block e.contents

-- of a block without a candidate there is no place
pub record NoneOf (t : Sheet) (r : List LiveSlot) (b : ℕ) : Type 0 where
  pub none : of_block b (given r) ≡ []
  pub place : get_or t.places b 0 ≡ 0
  pub differs : get_or t.differs b false ≡ false

-- of one with some, those of the one given
pub record OneOf (N B : ℕ) (s : Image) (t : Sheet) (r : List LiveSlot) (b : ℕ) : Type 0 where
  pub slot : LiveSlot
  pub one : of_block b (given r) ≡ slot ∷ []
  pub block : slot.block ≡ b
  pub lies : Lies N B s slot
  pub place : get_or t.places b 0 ≡ page_of B slot * 256
  pub length : get_or t.lengths b 0 ≡ length slot.contents
  pub differs : get_or t.differs b false ≡ not (agreed r slot)

abbrev pub Tells : ℕ → ℕ → Image → Sheet → List LiveSlot → ℕ → Type 0
Tells N B s t r b = NoneOf t r b ⊎ OneOf N B s t r b

pub record Gathered (N B : ℕ) (s : Image) (t : Sheet) : Type 0 where
  pub tells : (b : ℕ) → b < most_pages → Tells N B s t (candidates N (segments_of N B s)) b
  pub long : length t.places ≡ most_pages
