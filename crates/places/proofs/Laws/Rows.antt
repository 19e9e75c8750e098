-- What the walk enters, entry by entry: of one row of slots, and of rows.
use Prim.Native.Nat.{ℕ, zero, suc, ◌+◌, ◌*◌, ◌%◌, ◌≤◌, ◌<◌}
use mathlib.Core.Path.{◌≡◌, refl, ap, ◌∙◌}
use mathlib.Core.Bool.{Bool, true, false, cond, ◌||◌, ◌&&◌, not, false≢true}
use mathlib.Core.List.{List, [], ◌∷◌, ◌++◌, map, flat_map, flatten}
use native.Mathlib.Omega.{arith}
use lib.ListN.{length, get_or, drop, set, length-set}
use lib.Seq.{get_or-set_same, get_or-set_other}
use lib.Dec.{eqb}
use borrow.Author.Tests.{eqb-true, eqb-false, ne_eqb, not-true}
use Rattle.model.specs.Lists.{all}
use Rattle.model.specs.Chip.{Image, Page}
use Rattle.model.specs.Slot.{written, slot_page, page_block, slot_fits, page_contents, Slot, empty, torn, dead, cut, wrong, live, slot_of, is_empty, is_torn, is_wrong, entry_of}
use Rattle.model.specs.State.{entries, holds, distinct, copies, slot_from, place_from, empty_last, only_top_empty}
use Rattle.model.specs.Steps.{slot_at}
use Rattle.model.specs.Mounted.{Places}
use Rattle.model.specs.Laws.Lists.{and_left, and_right, all_parts}
use Rattle.model.proofs.Laws.Segments.{part_of}
use Rattle.model.proofs.Laws.SlotPage.{kind_facts, live_facts, live_status}
use Rattle.model.proofs.Laws.Tables.{holds_append, copies_append, held_copies, copies_absent, distinct_copies, copies_distinct}
use Rattle.bridge.specs.Views.Slots.{full, sound, entries_append, all_empty_entries}
use Rattle.bridge.specs.Views.Entries.{rows_entry}
use Rattle.find.specs.Search.{rows_at}
use Rattle.places.specs.Places.{entered, entered_from}
use Rattle.places.proofs.Laws.Walk.{entered_live, entered_over, entered_length}

-- ---- what a kind says of the status

-- an empty slot is not written
pub empty_status : (p : Page) → slot_of p ≡ empty → get_or p 0 0 ≡ written → ⊥
unfolding slot_of
empty_status p e h = go (slot_fits p) (rw h at e)
  where
    go : (t : Bool) → cond t (live (page_block p) (page_contents p)) wrong ≡ empty → ⊥
    go true q = let z : ◌≡◌ {A = ℕ} 0 1 = cc in omega arith
    go false q = let z : ◌≡◌ {A = ℕ} 0 1 = cc in omega arith

pub live_block : (p : Page) (b : ℕ) (c : List ℕ) → slot_of p ≡ live b c → page_block p ≡ b
unfolding page_block slot_page
live_block p b c e = rw (live_facts p b c e).page (omega arith)

-- ---- one row

-- nothing is entered of empty slots
empties_entered : (at : ℕ) (ps : List Page) (t : Places) → all is_empty (map slot_of ps) ≡ true → entered at ps t ≡ t
unfolding entered all is_empty
empties_entered at [] t h = refl
empties_entered at (p ∷ ps) t h = go (slot_of p) refl h (empties_entered (at + 256) ps t)
  where
    stop : (x : Bool) → slot_of p ≡ empty → entered (at + 256) ps t ≡ t → cond x t (entered (at + 256) ps (cond (eqb (get_or p 0 0) written) (set t (page_block p) at) t)) ≡ t
    stop true e ih = refl
    stop false e ih = rw (ne_eqb (get_or p 0 0) written (empty_status p e)) ih

    go : (k : Slot) → slot_of p ≡ k → (is_empty k && all is_empty (map slot_of ps)) ≡ true → (all is_empty (map slot_of ps) ≡ true → entered (at + 256) ps t ≡ t) → entered at (p ∷ ps) t ≡ t
    go empty e q ih = stop (eqb (get_or p 0 0) 255) e (ih q)
    go torn e q ih = absurd (false≢true q)
    go dead e q ih = absurd (false≢true q)
    go cut e q ih = absurd (false≢true q)
    go wrong e q ih = absurd (false≢true q)
    go (live b c) e q ih = absurd (false≢true q)

-- conditions 5 to 7 of Clean, of one row
pub record FineRow (ks : List Slot) : Type 0 where
  pub sound : sound ks ≡ true
  pub once : distinct (entries ks) ≡ true
  pub last : empty_last ks ≡ true

module _ (k from : ℕ) where
  -- entry k once slots are entered, from slot j on, where e was before
  abbrev row_says : ℕ → List Slot → ℕ → ℕ
  row_says j ks e = cond (holds k (entries ks)) (from + slot_from k j ks * 256) e

  pub row_entered : (j : ℕ) (ps : List Page) (t : Places) → k < length t → FineRow (map slot_of ps) → get_or (entered (from + j * 256) ps t) k 0 ≡ row_says j (map slot_of ps) (get_or t k 0)
  unfolding entered entries flat_map entry_of holds slot_from all is_empty is_wrong is_torn empty_last distinct
  row_entered j [] t l f = refl
  row_entered j (p ∷ ps) t l f = go (slot_of p) refl f.sound f.once f.last (λ u m g. row_entered (suc j) ps u m g)
    where
      ks : List Slot
      ks = map slot_of ps

      at : ℕ
      at = from + j * 256

      step : from + suc j * 256 ≡ at + 256
      step = omega arith

      -- a slot passed over
      over : (x : Slot) → entry_of x ≡ [] → (get_or p 0 0 ≡ 255 → ⊥) → (get_or p 0 0 ≡ written → ⊥) → get_or (entered (from + suc j * 256) ps t) k 0 ≡ row_says (suc j) ks (get_or t k 0)
          → get_or (entered at (p ∷ ps) t) k 0 ≡ row_says j (x ∷ ks) (get_or t k 0)
      over x n a b ih = ap (λ (y : Places). get_or y k 0) (entered_over at p ps t a b) ∙ (rw step at ih) ∙ rw n

      put : (b : ℕ) (c : List ℕ) → get_or (entered (from + suc j * 256) ps (set t b at)) k 0 ≡ row_says (suc j) ks (get_or (set t b at) k 0) → (not (holds b (entries ks)) && distinct (entries ks)) ≡ true
          → (x : Bool) → eqb k b ≡ x → row_says (suc j) ks (get_or (set t b at) k 0) ≡ row_says j (live b c ∷ ks) (get_or t k 0)
      put b c ih d true e =
          let q = eqb-true k b e in
          let n : holds k (entries ks) ≡ false = rw q (not-true (holds b (entries ks)) (and_left (not (holds b (entries ks))) (distinct (entries ks)) d)) in
          let m : get_or (set t b at) k 0 ≡ at = rw (← q) (get_or-set_same t k at 0 l) in
          rw (n, e, m)
      put b c ih d false e = rw (e, get_or-set_other t b k at 0 (eqb-false k b e))

      go : (x : Slot) → slot_of p ≡ x → sound (x ∷ ks) ≡ true → distinct (entries (x ∷ ks)) ≡ true → empty_last (x ∷ ks) ≡ true
          → ((u : Places) → k < length u → FineRow ks → get_or (entered (from + suc j * 256) ps u) k 0 ≡ row_says (suc j) ks (get_or u k 0))
          → get_or (entered at (p ∷ ps) t) k 0 ≡ row_says j (x ∷ ks) (get_or t k 0)
      go empty e s d m ih =
          let n : all is_empty (map slot_of (p ∷ ps)) ≡ true = rw e m in
          let z : entries ks ≡ [] = all_empty_entries ks m in
          ap (λ (y : Places). get_or y k 0) (empties_entered at (p ∷ ps) t n) ∙ rw z
      go torn e s d m ih = absurd (false≢true s)
      go dead e s d m ih = let st : get_or p 0 0 ≡ 0x1F = rw e at (kind_facts p) in
          over dead refl (λ q. omega arith) (λ q. omega arith) (ih t l (record { sound = s; once = d; last = m }))
      go cut e s d m ih = let st : get_or p 0 0 ≡ 0x5F = rw e at (kind_facts p) in
          over cut refl (λ q. omega arith) (λ q. omega arith) (ih t l (record { sound = s; once = d; last = m }))
      go wrong e s d m ih = absurd (false≢true s)
      go (live b c) e s d m ih =
          let f : FineRow ks = record { sound = s; once = and_right (not (holds b (entries ks))) (distinct (entries ks)) d; last = m } in
          let h = ih (set t b at) (omega (arith, length-set t b at)) f in
          let g : entered at (p ∷ ps) t ≡ entered (at + 256) ps (set t b at) =
          entered_live at p ps t (live_status p b c e) ∙ ap (λ (y : ℕ). entered (at + 256) ps (set t y at)) (live_block p b c e) in
          ap (λ (y : Places). get_or y k 0) g ∙ (rw step at h) ∙ put b c h d (eqb k b) refl

-- ---- rows

pub record FineRows (rows : List (List Slot)) : Type 0 where
  pub sound : sound (flatten rows) ≡ true
  pub once : distinct (entries (flatten rows)) ≡ true
  pub last : only_top_empty rows ≡ true

full_last : (ks : List Slot) → full ks ≡ true → empty_last ks ≡ true
unfolding all empty_last is_empty
full_last [] h = refl
full_last (k ∷ ks) h = go (is_empty k) h (full_last ks)
  where
    go : (t : Bool) → (not t && full ks) ≡ true → (full ks ≡ true → empty_last ks ≡ true) → cond t (all is_empty ks) (empty_last ks) ≡ true
    go true q ih = absurd (false≢true q)
    go false q ih = ih q

first_last : (r : List Slot) (rows : List (List Slot)) → only_top_empty (r ∷ rows) ≡ true → (empty_last r ≡ true) × (only_top_empty rows ≡ true)
unfolding only_top_empty
first_last r [] h = (h, refl)
first_last r (s ∷ rows) h = (full_last r (and_left (full r) (only_top_empty (s ∷ rows)) h), and_right (full r) (only_top_empty (s ∷ rows)) h)

module _ (r : List Slot) (rows : List (List Slot)) where
  pub row_joined : entries (flatten (r ∷ rows)) ≡ entries r ++ entries (flatten rows)
  unfolding flatten
  row_joined = entries_append r (flatten rows)

  pub row_holds : (b : ℕ) → holds b (entries (flatten (r ∷ rows))) ≡ (holds b (entries r) || holds b (entries (flatten rows)))
  row_holds b = ap (holds b) row_joined ∙ holds_append b (entries r) (entries (flatten rows))

  module _ (f : FineRows (r ∷ rows)) where
    few : (b : ℕ) → copies b (entries r) + copies b (entries (flatten rows)) ≤ 1
    few b = omega (arith, copies_append b (entries r) (entries (flatten rows)), distinct_copies (entries r ++ entries (flatten rows)) (rw row_joined at f.once) b)

    pub row_fine : FineRow r
    unfolding flatten
    row_fine = record {
      sound = (all_parts (λ k. not (is_wrong k || is_torn k)) r (flatten rows) f.sound).0;
      once = copies_distinct (entries r) (λ b. omega (arith, few b));
      last = (first_last r rows f.last).0;
    }

    pub rows_fine : FineRows rows
    unfolding flatten
    rows_fine = record {
      sound = (all_parts (λ k. not (is_wrong k || is_torn k)) r (flatten rows) f.sound).1;
      once = copies_distinct (entries (flatten rows)) (λ b. omega (arith, few b));
      last = (first_last r rows f.last).1;
    }

    -- a block of the first row is in no other
    pub row_alone : (b : ℕ) → holds b (entries r) ≡ true → holds b (entries (flatten rows)) ≡ false
    row_alone b h = copies_absent b (entries (flatten rows)) (omega (arith, few b, held_copies b (entries r) h))

module _ (N B : ℕ) (s : Image) (k : ℕ) where
  -- entry k once rows are entered, the first of them with number n, where e was before
  abbrev rows_say : ℕ → List (List Slot) → ℕ → ℕ
  rows_say n rows e = cond (holds k (entries (flatten rows))) (rows_entry N B n rows k) e

  -- one row, and then the others
  row_then : (n e : ℕ) (r : List Slot) (rows : List (List Slot)) → FineRows (r ∷ rows)
      → rows_say (suc n) rows (row_says k (slot_at N B n 0 * 256) 0 r e) ≡ rows_say n (r ∷ rows) e
  unfolding rows_entry place_from slot_at
  row_then n e r rows f = go (holds k (entries r)) refl
    where
      go : (x : Bool) → holds k (entries r) ≡ x → rows_say (suc n) rows (row_says k (slot_at N B n 0 * 256) 0 r e) ≡ rows_say n (r ∷ rows) e
      go true h = let a : (n % N * (B + 1) + 1) * 256 + slot_from k 0 r * 256 ≡ (n % N * (B + 1) + suc (slot_from k 0 r)) * 256 = omega arith in
          rw (row_holds r rows k, h, row_alone r rows f k h, a)
      go false h = rw (row_holds r rows k, h)

  pub rows_entered : (u n : ℕ) (t : Places) → k < length t → FineRows (rows_at N B s u n) → get_or (entered_from N B s u n t) k 0 ≡ rows_say n (rows_at N B s u n) (get_or t k 0)
  unfolding entered_from rows_at
  rows_entered zero n t l f = unfold flatten entries flat_map holds in refl
  rows_entered (suc u) n t l f =
      let from = slot_at N B n 0 * 256 in
      let ps = drop 1 (part_of N B (n % N) s) in
      let rows = rows_at N B s u (suc n) in
      let z : from + 0 * 256 ≡ from = omega arith in
      let row : get_or (entered from ps t) k 0 ≡ row_says k from 0 (map slot_of ps) (get_or t k 0) = rw z at (row_entered k from 0 ps t l (row_fine (map slot_of ps) rows f)) in
      rows_entered u (suc n) (entered from ps t) (omega (arith, entered_length from ps t)) (rows_fine (map slot_of ps) rows f)
      ∙ ap (λ (e : ℕ). rows_say (suc n) rows e) row
      ∙ row_then n (get_or t k 0) (map slot_of ps) rows f
