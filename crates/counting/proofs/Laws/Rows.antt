-- On a clean image the numbers that the walk sees are those of the blocks that it holds.
use Prim.Native.Nat.{ℕ, zero, suc, ◌+◌, ◌%◌, ◌≤◌}
use mathlib.Core.Path.{◌≡◌, refl, sym, ap, ap₂, ◌∙◌}
use mathlib.Core.Bool.{Bool, true, false, cond, ◌&&◌, false≢true}
use mathlib.Core.List.{List, [], ◌∷◌, ◌++◌, map, flat_map, flatten}
use native.Mathlib.Omega.{arith}
use lib.ListN.{length, get_or, drop}
use lib.Dec.{eqb}
use borrow.Author.Tests.{ne_eqb}
use Rattle.model.specs.Lists.{all}
use Rattle.model.specs.Chip.{Image, Page, most_segments}
use Rattle.model.specs.Slot.{written, page_block, Slot, empty, torn, dead, cut, wrong, live, slot_of, is_empty, is_torn, is_wrong, entry_of}
use Rattle.model.specs.State.{entries, entries_in, empty_last, holds, view}
use Rattle.model.specs.Table.{Table, blocks, live_between, table_of}
use Rattle.model.proofs.Laws.Segments.{part_of}
use Rattle.model.proofs.Laws.SlotPage.{kind_facts, live_status}
use Rattle.bridge.specs.Held.{held_of_clean, clean_view}
use Rattle.bridge.specs.Views.Slots.{sound, all_empty_entries}
use Rattle.flash.specs.Pages.{Sized}
use Rattle.flash.proofs.Pages.{sized}
use Rattle.find.specs.Search.{rows_at, held_rows_at}
use Rattle.places.specs.Places.{Fillable}
use Rattle.places.proofs.Laws.Rows.{empty_status, live_block, FineRows, row_joined, row_fine, rows_fine}
use Rattle.places.proofs.Laws.Entered.{fine_rows}
use Rattle.places.proofs.Laws.Filled.{fill_number}
use Rattle.counting.specs.declared.Sought.{Sought}
use Rattle.counting.specs.declared.Met.{Met}
use Rattle.counting.specs.Count.{numbers_in, numbers_at, meet_all}
use Rattle.counting.proofs.Laws.Meet.{meet_table}
use Rattle.counting.proofs.Laws.Walk.{none}

blocks_append : (x y : Table) → blocks (x ++ y) ≡ blocks x ++ blocks y
unfolding blocks
blocks_append [] y = refl
blocks_append (e ∷ x) y = ap {B = List ℕ} (λ l. e.block ∷ l) (blocks_append x y)

-- ---- one row

-- empty slots show none, up to a status 255 or past them all
empties_numbers : (ps : List Page) → all is_empty (map slot_of ps) ≡ true → numbers_in ps ≡ []
unfolding numbers_in all is_empty
empties_numbers [] h = refl
empties_numbers (p ∷ ps) h = go (slot_of p) refl h (empties_numbers ps)
  where
    stop : (x : Bool) → slot_of p ≡ empty → numbers_in ps ≡ [] → cond x [] (cond (eqb (get_or p 0 0) written) (page_block p ∷ numbers_in ps) (numbers_in ps)) ≡ []
    stop true e ih = refl
    stop false e ih = rw (ne_eqb (get_or p 0 0) written (empty_status p e)) ih

    go : (k : Slot) → slot_of p ≡ k → (is_empty k && all is_empty (map slot_of ps)) ≡ true → (all is_empty (map slot_of ps) ≡ true → numbers_in ps ≡ []) → numbers_in (p ∷ ps) ≡ []
    go empty e q ih = stop (eqb (get_or p 0 0) 255) e (ih q)
    go torn e q ih = absurd (false≢true q)
    go dead e q ih = absurd (false≢true q)
    go cut e q ih = absurd (false≢true q)
    go wrong e q ih = absurd (false≢true q)
    go (live b c) e q ih = absurd (false≢true q)

row_numbers : (ps : List Page) → sound (map slot_of ps) ≡ true → empty_last (map slot_of ps) ≡ true → numbers_in ps ≡ blocks (entries (map slot_of ps))
unfolding numbers_in entries flat_map entry_of blocks all is_empty is_wrong is_torn empty_last
row_numbers [] s l = refl
row_numbers (p ∷ ps) s l = go (slot_of p) refl s l (row_numbers ps)
  where
    ks : List Slot
    ks = map slot_of ps

    go : (k : Slot) → slot_of p ≡ k → sound (k ∷ ks) ≡ true → empty_last (k ∷ ks) ≡ true → (sound ks ≡ true → empty_last ks ≡ true → numbers_in ps ≡ blocks (entries ks))
        → numbers_in (p ∷ ps) ≡ blocks (entries (k ∷ ks))
    go empty e s l ih = empties_numbers (p ∷ ps) (rw e l) ∙ sym (ap blocks (all_empty_entries ks l))
    go torn e s l ih = absurd (false≢true s)
    go dead e s l ih = let st : get_or p 0 0 ≡ 0x1F = rw e at (kind_facts p) in rw st (ih s l)
    go cut e s l ih = let st : get_or p 0 0 ≡ 0x5F = rw e at (kind_facts p) in rw st (ih s l)
    go wrong e s l ih = absurd (false≢true s)
    go (live b c) e s l ih = rw (live_status p b c e, live_block p b c e, ih s l)

-- ---- rows

rows_numbers : (N B : ℕ) (s : Image) (u n : ℕ) → FineRows (rows_at N B s u n) → numbers_at N B s u n ≡ blocks (entries (flatten (rows_at N B s u n)))
unfolding numbers_at rows_at
rows_numbers N B s zero n f = unfold flatten entries flat_map blocks in refl
rows_numbers N B s (suc u) n f =
    let ps = drop 1 (part_of N B (n % N) s) in
    let rows = rows_at N B s u (suc n) in
    let g = row_fine (map slot_of ps) rows f in
    ap₂ (λ (x y : List ℕ). x ++ y) (row_numbers ps g.sound g.last) (rows_numbers N B s u (suc n) (rows_fine (map slot_of ps) rows f))
    ∙ sym (ap blocks (row_joined (map slot_of ps) rows) ∙ blocks_append (entries (map slot_of ps)) (entries (flatten rows)))

-- ---- a clean image

module _ (N B : ℕ) (s : Image) (first used : ℕ) (f : Fillable N B s first used) where
  image_numbers : numbers_at N B s used first ≡ blocks (table_of N B s)
  unfolding table_of entries_in
  image_numbers =
      let v = view N B s in
      let rows = held_rows_at N B s v (held_of_clean N B s f.size f.fine) in
      rw (f.oldest, f.count) (rows_numbers N B s (length v.slots) v.first (rw rows (fine_rows N B v (clean_view N B s f.size f.fine))) ∙ rw rows)

  -- the image is of a right size, the numbers stay small, and so does their count
  pub image_fits : Sized N B (length s) × (first + used ≤ 4294967296) × (used ≤ most_segments)
  image_fits = let z = sized N B s f.size in (z, fill_number N B s first used f, omega (arith, f.count, (clean_view N B s f.size f.fine).spare, z.segments))

  pub image_met : (q : Sought) (m : Met) → m ≡ meet_all q none (numbers_at N B s used first)
      → (m.blocks ≡ live_between q.first.0 q.last.0 (table_of N B s)) × (m.stored ≡ holds q.block.0 (table_of N B s))
  image_met q m e =
      let n : m ≡ record { blocks = 0 + live_between q.first.0 q.last.0 (table_of N B s); stored = holds q.block.0 (table_of N B s) } = e ∙ ap (meet_all q none) image_numbers ∙ meet_table q none (table_of N B s) in
      (omega (arith, ap (λ (y : Met). y.blocks) n), ap (λ (y : Met). y.stored) n)
