-- What callers know of a table into which segments were entered: on any image its length and the entries past the block numbers stay; on an image with a
-- clean view each entry is by the view's rows.
use Prim.Native.Nat.{ℕ, zero, suc, ◌+◌, ◌*◌, ◌%◌, ◌≤◌, ◌<◌}
use mathlib.Core.Path.{◌≡◌, refl, sym, ap, ◌∙◌, subst}
use mathlib.Core.Bool.{Bool, true, false, cond, ◌||◌, false≢true}
use mathlib.Core.List.{List, [], ◌∷◌, ◌++◌, map, flat_map, flatten}
use native.Mathlib.Omega.{arith}
use native.Mathlib.Decide.{dec_lt}
use lib.ListN.{length, get_or, drop, set, get_or-eq_default}
use lib.Seq.{drop-set-lt, get_or-drop}
use lib.Dec.{eqb}
use borrow.Author.Tests.{eqb-true}
use Rattle.model.specs.Chip.{Image, Page, Bytes, pages_of}
use Rattle.model.specs.Slot.{written, page_block, number_ok, Slot, empty, torn, dead, cut, wrong, live, slot_of, entry_of}
use Rattle.model.specs.State.{View, entries, entries_in, holds, none_wrong_or_torn, blocks_distinct, empty_slots_last}
use Rattle.model.specs.Steps.{slot_at}
use Rattle.model.specs.Mounted.{Places, least_places}
use Rattle.model.proofs.Laws.Bytes.{bytes_get, chunk_bytes}
use Rattle.model.proofs.Laws.Segments.{parts, part_of, parts_length, part_page, part_size}
use Rattle.model.proofs.Laws.SlotPage.{live_facts}
use Rattle.bridge.specs.Held.{Held}
use Rattle.bridge.specs.Predicted.{CleanView}
use Rattle.bridge.specs.Views.Entries.{rows_entry}
use Rattle.find.specs.Search.{rows_at, held_rows_at}
use Rattle.places.specs.Places.{entered, entered_from}
use Rattle.places.proofs.Laws.Rows.{FineRows, rows_fine, row_holds, rows_entered}
pub use Rattle.places.proofs.Laws.Walk.{entered_from_length}

-- ---- any image of bytes

-- a number of two bytes
block_below : (p : Page) → Bytes p → page_block p < least_places
unfolding page_block
block_below p b = omega (arith, bytes_get p 2 b, bytes_get p 3 b)

slots_past : (m at : ℕ) (ps : List Page) (t : Places) → ((q : ℕ) → page_block (get_or ps q []) < m) → drop m (entered at ps t) ≡ drop m t
unfolding entered
slots_past m at [] t f = refl
slots_past m at (p ∷ ps) t f =
    go (eqb (get_or p 0 0) 255) (eqb (get_or p 0 0) written) (slots_past m (at + 256) ps t (λ q. f (suc q))) (slots_past m (at + 256) ps (set t (page_block p) at) (λ q. f (suc q)))
  where
    go : (x y : Bool) → drop m (entered (at + 256) ps t) ≡ drop m t → drop m (entered (at + 256) ps (set t (page_block p) at)) ≡ drop m (set t (page_block p) at)
        → drop m (cond x t (entered (at + 256) ps (cond y (set t (page_block p) at) t))) ≡ drop m t
    go true y a b = refl
    go false true a b = b ∙ drop-set-lt m t (page_block p) at (f 0)
    go false false a b = a

module _ (N B : ℕ) (s : Image) (bytes : Bytes s) where
  part_bytes : (i q : ℕ) → Bytes (get_or (part_of N B i s) q [])
  unfolding pages_of
  part_bytes i q = elim (dec_lt i N) [
    | yes h ↦ elim (dec_lt q (B + 1)) [
      | yes k ↦ rw (part_page N B i q s h k) (chunk_bytes (N * (B + 1)) 256 (i * (B + 1) + q) s bytes)
      | no k ↦ subst Bytes (sym (get_or-eq_default (part_of N B i s) [] {n = q} (omega (arith, part_size N B i s h)))) tt
    ]
    | no h ↦ subst (λ (ps : List Page). Bytes (get_or ps q [])) (sym (get_or-eq_default (parts N B s) [] {n = i} (omega (arith, parts_length N B s)))) tt
  ]

  -- the entries past the block numbers stay
  pub entered_from_past : (u n : ℕ) (t : Places) → drop least_places (entered_from N B s u n t) ≡ drop least_places t
  unfolding entered_from
  entered_from_past zero n t = refl
  entered_from_past (suc u) n t =
      let from = slot_at N B n 0 * 256 in
      let ps = drop 1 (part_of N B (n % N) s) in
      entered_from_past u (suc n) (entered from ps t)
      ∙ slots_past least_places from ps t (λ q. block_below (get_or ps q []) (rw (get_or-drop 1 (part_of N B (n % N) s) q []) (part_bytes (n % N) (1 + q))))

-- ---- the rows of an image with a view

module _ (N B : ℕ) (s : Image) where
  rows_drop : (j u n : ℕ) → rows_at N B s u (n + j) ≡ drop j (rows_at N B s (j + u) n)
  unfolding rows_at
  rows_drop zero u n =
      let e : n + 0 ≡ n = omega arith in
      let f : 0 + u ≡ u = omega arith in
      rw (e, f)
  rows_drop (suc j) u n =
      let e : n + suc j ≡ suc n + j = omega arith in
      let f : suc j + u ≡ suc (j + u) = omega arith in
      rw (e, f) (rows_drop j u (suc n))

  -- a live slot's block number is one
  slots_number : (k : ℕ) (ps : List Page) → holds k (entries (map slot_of ps)) ≡ true → number_ok k ≡ true
  unfolding entries flat_map holds entry_of
  slots_number k [] h = absurd (false≢true h)
  slots_number k (p ∷ ps) h = go (slot_of p) refl h (slots_number k ps)
    where
      one : (b : ℕ) (c : List ℕ) → slot_of p ≡ live b c → (x : Bool) → eqb k b ≡ x → (x || holds k (entries (map slot_of ps))) ≡ true
          → (holds k (entries (map slot_of ps)) ≡ true → number_ok k ≡ true) → number_ok k ≡ true
      one b c e true q h ih = rw (eqb-true k b q) (live_facts p b c e).number
      one b c e false q h ih = ih h

      go : (x : Slot) → slot_of p ≡ x → holds k (entry_of x ++ entries (map slot_of ps)) ≡ true → (holds k (entries (map slot_of ps)) ≡ true → number_ok k ≡ true) → number_ok k ≡ true
      go empty e h ih = ih h
      go torn e h ih = ih h
      go dead e h ih = ih h
      go cut e h ih = ih h
      go wrong e h ih = ih h
      go (live b c) e h ih = one b c e (eqb k b) refl h ih

  rows_number : (k u n : ℕ) → holds k (entries (flatten (rows_at N B s u n))) ≡ true → number_ok k ≡ true
  unfolding rows_at
  rows_number k zero n h = absurd (false≢true (unfold flatten entries flat_map holds in h))
  rows_number k (suc u) n h =
      let ps = drop 1 (part_of N B (n % N) s) in
      let rows = rows_at N B s u (suc n) in
      go (holds k (entries (map slot_of ps))) refl (sym (row_holds (map slot_of ps) rows k) ∙ h) (rows_number k u (suc n))
    where
      go : (x : Bool) → holds k (entries (map slot_of (drop 1 (part_of N B (n % N) s)))) ≡ x → (holds k (entries (map slot_of (drop 1 (part_of N B (n % N) s)))) || holds k (entries (flatten (rows_at N B s u (suc n))))) ≡ true
          → (holds k (entries (flatten (rows_at N B s u (suc n)))) ≡ true → number_ok k ≡ true) → number_ok k ≡ true
      go true e q ih = slots_number k (drop 1 (part_of N B (n % N) s)) e
      go false e q ih = ih (rw e at q)

pub fine_rows : (N B : ℕ) (v : View) → CleanView N B v → FineRows v.slots
unfolding none_wrong_or_torn blocks_distinct empty_slots_last entries_in
fine_rows N B v c = record { sound = c.sound; once = c.once; last = c.last }

fine_drop : (j : ℕ) (rows : List (List Slot)) → FineRows rows → FineRows (drop j rows)
fine_drop zero rows f = f
fine_drop (suc j) [] f = f
fine_drop (suc j) (r ∷ rows) f = fine_drop j rows (rows_fine r rows f)

module _ (N B : ℕ) (s : Image) (v : View) (h : Held N B s v) where
  module _ (j u : ℕ) (e : j + u ≡ length v.slots) where
    rows_left : rows_at N B s u (v.first + j) ≡ drop j v.slots
    rows_left = rows_drop N B s j u v.first ∙ (rw e (ap (drop j) (held_rows_at N B s v h)))

    pub left_number : (k : ℕ) → holds k (entries (flatten (drop j v.slots))) ≡ true → number_ok k ≡ true
    left_number k q = rows_number N B s k u (v.first + j) (rw rows_left q)

    module _ (c : CleanView N B v) (t : Places) (l : least_places ≤ length t) where
      -- each entry, once the rows from row j on are entered
      pub entered_entry : (k : ℕ) → k < least_places
          → get_or (entered_from N B s u (v.first + j) t) k 0 ≡ cond (holds k (entries (flatten (drop j v.slots)))) (rows_entry N B (v.first + j) (drop j v.slots) k) (get_or t k 0)
      entered_entry k b = rw rows_left at (rows_entered N B s k u (v.first + j) t (omega arith) (rw rows_left (fine_drop j v.slots (fine_rows N B v c))))

      -- entry 0 stays
      pub entered_zero : get_or (entered_from N B s u (v.first + j) t) 0 0 ≡ get_or t 0 0
      entered_zero = go (holds 0 (entries (flatten (drop j v.slots)))) refl (entered_entry 0 (omega arith))
        where
          go : (x : Bool) → holds 0 (entries (flatten (drop j v.slots))) ≡ x
              → get_or (entered_from N B s u (v.first + j) t) 0 0 ≡ cond (holds 0 (entries (flatten (drop j v.slots)))) (rows_entry N B (v.first + j) (drop j v.slots) 0) (get_or t 0 0)
              → get_or (entered_from N B s u (v.first + j) t) 0 0 ≡ get_or t 0 0
          go true x q = absurd (false≢true (unfold number_ok in left_number 0 x))
          go false x q = rw x at q
