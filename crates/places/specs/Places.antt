-- What the code makes of a table of places: what one entry says of an image, and the entries that a walk over slots makes.
use Rattle.std.specs.Prelude.{ℕ, zero, suc, ◌+◌, ◌*◌, ◌/◌, ◌%◌, ◌≡◌, Bool, true, cond, ◌&&◌, not, List, [], ◌∷◌, ◌++◌, length, get_or, drop, set, replicate, leb, eqb, Option, None, Result, Ok, Err}
use Rattle.model.specs.Chip.{Image, Page, right_size}
use Rattle.model.specs.Slot.{written, most_contents, page_block}
use Rattle.model.specs.State.{clean, state, view}
use Rattle.model.specs.Steps.{slot_at}
use Rattle.model.specs.Mounted.{Places, unusable}
use Rattle.model.proofs.Laws.Segments.{part_of}
use Rattle.find.specs.declared.FoundSlot.{FoundSlot}
use Rattle.find.specs.Search.{slot_found}
use Rattle.places.specs.declared.Stale.{Stale}

-- ---- one entry

-- what an entry says of an image: of a live slot, of none, or that the table is not that of the image
abbrev pub Entry : Type 0
Entry = Result (Option FoundSlot) Stale

abbrev pub absent : Entry
absent = Ok None

abbrev pub stale : Entry
stale = Err (record {})

-- a slot's page, and no header's, begins at offset e of so many bytes
unfoldable pub is_slot_place : ℕ → ℕ → ℕ → Bool
is_slot_place B bytes e = eqb (e % 256) 0 && (not (eqb (e / 256 % (B + 1)) 0) && leb (e + 256) bytes)

-- 0 says that the block is not stored. Any other entry is a slot's place, with a length there that fits a slot; or the table is not that of the image
unfoldable pub entry_seen : ℕ → Image → ℕ → Entry
entry_seen B s e = let l = get_or s (e + 1) 0 in
    cond (eqb e 0) absent
    (cond (is_slot_place B (length s) e && leb l most_contents) (Ok (slot_found e l)) stale)

-- ---- the walk

-- the live slots of one segment entered, its slots' pages beginning at an offset: they end with the first whose status is 255
unfoldable pub entered : ℕ → List Page → Places → Places
entered at [] t = t
entered at (p ∷ ps) t = cond (eqb (get_or p 0 0) 255) t (entered (at + 256) ps (cond (eqb (get_or p 0 0) written) (set t (page_block p) at) t))

-- those of the segments with the u numbers from n on
unfoldable pub entered_from : ℕ → ℕ → Image → ℕ → ℕ → Places → Places
entered_from N B s zero n t = t
entered_from N B s (suc u) n t = entered_from N B s u (suc n) (entered (slot_at N B n 0 * 256) (drop 1 (part_of N B (n % N) s)) t)

-- ---- a table filled

-- its first n entries 0
unfoldable pub emptied : ℕ → Places → Places
emptied n t = replicate n 0 ++ drop n t

-- a clean image of a right size, with the numbers of its segments in use: the smallest and their count
pub record Fillable (N B : ℕ) (s : Image) (first used : ℕ) : Type 0 where
  pub size : right_size N B s ≡ true
  pub fine : state N B s ≡ clean
  pub oldest : first ≡ (view N B s).first
  pub count : used ≡ length (view N B s).slots

-- ---- after a call

-- answered 0, the entry of block b is a place; cut, the table is not usable; refused, it stays
unfoldable pub noted : Places → ℕ → ℕ → ℕ → Places
noted t b place code = cond (eqb code 0) (set t b place) (cond (eqb code 9) (unusable t) t)
