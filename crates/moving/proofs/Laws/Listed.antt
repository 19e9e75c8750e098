-- A table filled from a clean image lists what the image holds, by rising number.
use Prim.Native.Nat.{ℕ, zero, suc, ◌+◌, ◌*◌, ◌%◌, ◌≤◌, ◌<◌}
use mathlib.Core.Path.{◌≡◌, refl, sym, ap, ◌∙◌, subst}
use mathlib.Core.Logic.{◌≢◌}
use mathlib.Core.Bool.{Bool, true, false, cond}
use mathlib.Core.List.{[], ◌++◌}
use native.Mathlib.Omega.{arith}
use native.Mathlib.Nat.{mod-lt}
use lib.ListN.{length, get_or, replicate, length-replicate}
use lib.Dec.{eqb}
use borrow.Author.Tests.{eq-eqb, ne_eqb}
use Rattle.model.specs.Chip.{Image, Bytes, right_size, pages_of, image_length}
use Rattle.model.specs.Slot.{live, slot_of, entry_of}
use Rattle.model.specs.State.{View, entries, entries_in, holds, place_of, clean, state, view}
use Rattle.model.specs.Steps.{slot_at}
use Rattle.model.specs.Table.{present, lookup, table_of}
use Rattle.model.specs.Mounted.{Places, least_places, place_entry, filled_places}
use Rattle.model.proofs.Laws.Chip.{size_facts}
use Rattle.model.specs.Laws.Chunk.{chunk_part}
use Rattle.model.proofs.Laws.Segments.{part_page, page_in}
use Rattle.model.proofs.Laws.Tables.{lookup_append, lookup_absent}
use Rattle.bridge.specs.Views.Places.{FirstLive, first_live, fill_entries, earlier, later, in_view}
use Rattle.bridge.specs.Held.{Held, held_of_clean, held_lengths}
use Rattle.bridge.specs.Mounting.{filled_entry, filled_length, live_page}
use Rattle.moves.proofs.Sorted.{found_at, rising, sorted_rising}
use Rattle.moves.specs.Moves.{by_number}
use Rattle.moves.proofs.Facts.{table_distinct, table_valid}
use Rattle.adding.specs.Adding.{LivePage}
use Rattle.fresh.specs.Fresh.{page_at, listed, Pointing}

-- an array of so many
pub as_many : (n v : ℕ) → n ≤ length (replicate n v)
as_many n v = omega (arith, length-replicate n v)

module _ (N B : ℕ) (s : Image) (z : right_size N B s ≡ true) (c : state N B s ≡ clean) where
  abbrev v : View
  v = view N B s

  held : Held N B s v
  held = held_of_clean N B s z c

  -- ---- one block that is stored

  module _ (k : ℕ) (h : holds k (entries_in v) ≡ true) where
    found : FirstLive k v.first v.slots
    unfolding entries_in
    found = first_live k v.first v.slots h

    abbrev number : ℕ
    number = v.first + length found.gap.rows_before

    abbrev slot : ℕ
    slot = length found.gap.before

    abbrev place : ℕ
    place = slot_at N B number slot * 256

    short : slot < B
    short = (in_view B v found.gap (live k found.contents) found.split (held_lengths N B s v held)).short

    turned : number % N < N
    turned = mod-lt number (omega (arith, (size_facts N B s z).two))

    is_entry : place_entry N B v k ≡ place
    unfolding place_entry place_of
    is_entry = rw (h, found.place)

    some : 0 < place
    unfolding slot_at
    some = omega arith

    inside : place + 256 ≤ length s
    unfolding slot_at image_length
    inside = omega (arith, (size_facts N B s z).whole, page_in N B (number % N) (suc slot) turned (omega (arith, short)))

    page : slot_of (page_at s place) ≡ live k found.contents
    unfolding slot_at pages_of
    page =
        let q : suc slot < B + 1 = omega (arith, short) in
        let e = part_page N B (number % N) (suc slot) s turned q ∙ chunk_part 256 (N * (B + 1)) (number % N * (B + 1) + suc slot) s (page_in N B (number % N) (suc slot) turned q) in
        ap slot_of (sym e) ∙ live_page N B k s v held found

    contents : lookup k (table_of N B s) ≡ present found.contents
    unfolding table_of entries_in entry_of lookup
    contents =
        let g = found.gap in
        rw (found.split, fill_entries g (live k found.contents), lookup_append k (entries (earlier g)) (entry_of (live k found.contents) ++ entries (later g)), found.first, eq-eqb k k refl)

  -- one that is not
  none : (k : ℕ) → holds k (entries_in v) ≡ false → place_entry N B v k ≡ 0
  unfolding place_entry
  none k h = rw h

  -- ---- a filled table

  module _ (t : Places) (l : least_places ≤ length t) where
    abbrev filled : Places
    filled = filled_places N B v t

    -- what an entry tells is what the table of blocks has
    entry_tells : (k : ℕ) → 0 < k → k < least_places → cond (eqb (get_or filled k 0) 0) [] (entry_of (slot_of (page_at s (get_or filled k 0)))) ≡ found_at k (lookup k (table_of N B s))
    unfolding table_of found_at
    entry_tells k a b = rw (filled_entry N B v t k a b) (go (holds k (entries_in v)) refl)
      where
        go : (u : Bool) → holds k (entries_in v) ≡ u → cond (eqb (place_entry N B v k) 0) [] (entry_of (slot_of (page_at s (place_entry N B v k)))) ≡ found_at k (lookup k (table_of N B s))
        go true h = rw (is_entry k h, ne_eqb (place k h) 0 (λ q. omega (arith, some k h)), page k h, contents k h) (unfold entry_of in refl)
        go false h = rw (none k h, lookup_absent k (entries_in v) h)

    filled_points : Pointing s filled
    filled_points = record {
      long = omega (arith, filled_length N B v t l);
      points = λ k a b n. go k a b n (holds k (entries_in v)) refl;
    }
      where
        go : (k : ℕ) → 0 < k → k < least_places → get_or filled k 0 ≢ 0 → (u : Bool) → holds k (entries_in v) ≡ u → (get_or filled k 0 + 256 ≤ length s) × LivePage (page_at s (get_or filled k 0))
        go k a b n true h = rw (filled_entry N B v t k a b, is_entry k h) (inside k h, (k, (found k h).contents, page k h))
        go k a b n false h = absurd (n (filled_entry N B v t k a b ∙ none k h))

    -- x is the table that was filled
    pub points : (x : Places) → x ≡ filled_places N B (view N B s) t → Pointing s x
    points x e = subst (λ (y : Places). Pointing s y) (sym e) filled_points

    -- number by number
    listed_rising : (k n : ℕ) → 0 < k → k + n ≤ least_places → listed s filled k n ≡ rising k n (table_of N B s)
    unfolding listed rising
    listed_rising k zero a b = refl
    listed_rising k (suc n) a b = rw (entry_tells k a (omega arith), listed_rising (suc k) n (omega arith) (omega arith))

    pub listed_table : Bytes s → listed s (filled_places N B (view N B s) t) 1 65535 ≡ by_number (table_of N B s)
    listed_table b = listed_rising 1 65535 (omega arith) (omega arith) ∙ sym (sorted_rising (table_of N B s) (table_valid N B s z c b) (table_distinct N B s z c))
