-- The slots of one segment looked at in order: counts, how they end, and the set of block numbers met so far.
use Rattle.std.specs.Prelude.{ℕ, ◌+◌, ◌≤◌, cond, List, [], ◌∷◌, map, drop}
use Rattle.model.specs.Lists.{chunk}
use Rattle.model.specs.Chip.{Image}
use Rattle.model.specs.Slot.{Slot, slot_of, kind_of}
use Rattle.model.specs.declared.SlotKind.{SlotKind}
use Rattle.model.specs.declared.SlotKind.TheVariants.{Empty, Torn, Live, Dead, Cut, Wrong}
use Rattle.judge.specs.declared.Ending.TheVariants.{Full, TornLast, TwinLast, Bad}
use Rattle.judge.specs.declared.Row.{Row}
use Rattle.judge.specs.Endings.{behind, leave_room}
use Rattle.judge.specs.Bitmap.{in_bits, put_bit}

-- a row so far, and the block numbers met so far, in this row and in those before
pub record Pass : Type 0 where
  pub row : Row
  pub seen : List ℕ

abbrev pub pass : Row → List ℕ → Pass
pass r s = record { row = r; seen = s }

unfoldable pub no_row : Row
no_row = record { live = 0; dead = 0; cut = 0; ending = Full; block = record { 0 = 0 } }

-- the next slot: it is counted and its number is met whatever came before
unfoldable pub see : SlotKind → Pass → Pass
see Empty p = pass (record { live = p.row.live; dead = p.row.dead; cut = p.row.cut; ending = leave_room p.row.ending; block = p.row.block }) p.seen
see Torn p = pass (record { live = p.row.live; dead = p.row.dead; cut = p.row.cut; ending = behind p.row.ending TornLast; block = p.row.block }) p.seen
see (Live n b) p = pass
    (record { live = p.row.live + 1; dead = p.row.dead; cut = p.row.cut; ending = behind p.row.ending (cond (in_bits 64 p.seen b.0) TwinLast Full); block = b })
    (put_bit 64 p.seen b.0)
see Dead p = pass (record { live = p.row.live; dead = p.row.dead + 1; cut = p.row.cut; ending = behind p.row.ending Full; block = p.row.block }) p.seen
see Cut p = pass (record { live = p.row.live; dead = p.row.dead; cut = p.row.cut + 1; ending = behind p.row.ending Full; block = p.row.block }) p.seen
see Wrong p = pass (record { live = p.row.live; dead = p.row.dead; cut = p.row.cut; ending = Bad; block = p.row.block }) p.seen

unfoldable pub see_all : List SlotKind → Pass → Pass
see_all [] p = p
see_all (k ∷ ks) p = see_all ks (see k p)

-- counts of at most i slots
pub record Small (r : Row) (i : ℕ) : Type 0 where
  pub live : r.live ≤ i
  pub dead : r.dead ≤ i
  pub cut : r.cut ≤ i

-- the slots on c pages from an offset on, and their kinds
unfoldable pub slots_at : Image → ℕ → ℕ → List Slot
slots_at s o c = map slot_of (chunk c 256 (drop o s))

unfoldable pub kinds_at : Image → ℕ → ℕ → List SlotKind
kinds_at s o c = map kind_of (slots_at s o c)
