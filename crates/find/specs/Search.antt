-- What a search for a block finds: in rows of slots, and in the segments of an image with given numbers, whatever their headers say. For an image with a view
-- the rows are the view's.
use Rattle.std.specs.Prelude.{ℕ, zero, suc, ◌+◌, ◌*◌, ◌/◌, ◌%◌, ◌<◌, ◌≡◌, refl, Bool, cond, ◌&&◌, length, get_or, drop, eqb, Option, None, Some}
use Rattle.std.proofs.Common.{sym, ap₂, ◌∙◌, mod-lt, arith}
use mathlib.Core.List.{List, [], ◌∷◌, map, flatten}
use Rattle.model.specs.Chip.{Image, Page}
use Rattle.model.specs.Slot.{Slot, slot_of, written}
use Rattle.model.specs.State.{View, entries, entries_in, holds, place_from, place_of}
use Rattle.model.specs.Steps.{slot_at}
use Rattle.model.specs.Table.{lookup, contents_found}
use Rattle.model.proofs.Laws.Segments.{part_of, segment_at}
use Rattle.model.proofs.Laws.Effects.{in_use_parts}
use Rattle.bridge.specs.Held.{Held, held_row}
use Rattle.model.proofs.Laws.Chip.{size_facts}
use Rattle.find.specs.declared.FoundSlot.{FoundSlot}

-- the status and the number in a slot are those of a live slot of block b
unfoldable pub may_hold : Page → ℕ → Bool
may_hold p b = eqb (get_or p 0 0) written && (eqb (get_or p 2 0) (b % 256) && eqb (get_or p 3 0) (b / 256))

-- the slots of the segments with the u numbers from n on, as they stand
unfoldable pub rows_at : ℕ → ℕ → Image → ℕ → ℕ → List (List Slot)
rows_at N B s zero n = []
rows_at N B s (suc u) n = map slot_of (drop 1 (part_of N B (n % N) s)) ∷ rows_at N B s u (suc n)

-- a live slot at an offset of the image, with so many bytes of contents
abbrev pub slot_found : ℕ → ℕ → Option FoundSlot
slot_found at l = Some (record { place = record { 0 = at }; length = l })

-- the first live slot of block b in rows whose numbers start at n: its offset in the image, and the length of its contents
unfoldable pub found_in : ℕ → ℕ → ℕ → List (List Slot) → ℕ → Option FoundSlot
found_in N B n rows b = let place = place_from b n rows in
    cond (holds b (entries (flatten rows)))
    (slot_found (slot_at N B place.number place.slot * 256) (length (contents_found (lookup b (entries (flatten rows))))))
    None

-- ---- an image with a view

-- the rows, if each is that of its number
rows_same : (N B : ℕ) (s : Image) (rows : List (List Slot)) (n : ℕ)
    → ((k : ℕ) → k < length rows → map slot_of (drop 1 (part_of N B ((n + k) % N) s)) ≡ get_or rows k []) → rows_at N B s (length rows) n ≡ rows
unfolding rows_at
rows_same N B s [] n f = refl
rows_same N B s (r ∷ rows) n f =
    let e : n + 0 ≡ n = omega arith in
    ap₂ (λ x y. x ∷ y) (rw e at (f 0 (omega arith))) (rows_same N B s rows (suc n) (λ k h. let g : n + suc k ≡ suc n + k = omega arith in rw g at (f (suc k) (omega arith))))

pub held_rows_at : (N B : ℕ) (s : Image) (v : View) → Held N B s v → rows_at N B s (length v.slots) v.first ≡ v.slots
held_rows_at N B s v h = rows_same N B s v.slots v.first row
  where
    row : (k : ℕ) → k < length v.slots → map slot_of (drop 1 (part_of N B ((v.first + k) % N) s)) ≡ get_or v.slots k []
    row k b =
        let n = v.first + k in
        let r = held_row N B s v h k b in
        let i : n % N < N = mod-lt n {m = N} (omega (arith, (size_facts N B s h.size).two)) in
        (in_use_parts N B (n % N) (part_of N B (n % N) s) r.0 r.1 n (get_or v.slots k []) (sym (segment_at N B (n % N) s i) ∙ r.2)).slots

-- what the search finds is by the view's entries and places
pub held_found : (N B : ℕ) (s : Image) (v : View) (b : ℕ) → Held N B s v
    → found_in N B v.first (rows_at N B s (length v.slots) v.first) b
    ≡ cond (holds b (entries_in v)) (slot_found (slot_at N B (place_of b v).number (place_of b v).slot * 256) (length (contents_found (lookup b (entries_in v))))) None
unfolding entries_in place_of found_in
held_found N B s v b h = rw (held_rows_at N B s v h)
