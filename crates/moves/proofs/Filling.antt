-- A fresh image filled entry by entry: the step lists of the puts are the slots written one after the other, and the view holds the entries in their order.
use Prim.Native.Nat.{ℕ, suc, ◌+◌, ◌-◌, ◌*◌, ◌≤◌, ◌<◌}
use Rattle.std.specs.Prelude.{◌≡◌, Bool, true, false, cond, get_or, replicate, ltb}
use Rattle.std.proofs.Math.Path.{refl, sym, ap, subst}
use Rattle.std.proofs.Common.{◌∙◌, mul-le-mul_right, suc-mul}
use mathlib.Core.List.{List, [], ◌∷◌, ◌++◌, map, flatten, append-nil, append_assoc}
use native.Mathlib.Omega.{arith}
use Rattle.std.proofs.Math.Decide.{dec_lt}
use Rattle.std.proofs.Math.Nat.{zero-add}
use Rattle.std.proofs.Math.ListN.{length, set, length-append}
use Rattle.std.proofs.Math.Seq.{set-append_seam, get_or-append_seam}
use Rattle.std.proofs.lemmas.List.{set_at, get_or_at}
use borrow.Author.Tests.{ltb-true, ltb-false, lt-ltb, le-ltb}
use Rattle.model.specs.Lists.{all, count}
use Rattle.model.specs.Chip.{Image, Step, number_limit, erase_limit, erased, run}
use Rattle.model.specs.Header.{new_version, is_former, tally_of, bit_values, cleared_in, cleared_bits}
use Rattle.model.specs.Slot.{Slot, empty, live, holding, is_empty, Entry}
use Rattle.model.specs.State.{View, view, entries, entries_in, holds, distinct, capacity}
use Rattle.model.specs.Steps.{on_page, slot_at, write_slot, open_segment, top_row, top_number, has_room, first_empty, copied, next_version, open_next, room_for, mark_old, write_at_top, put_steps}
use Rattle.model.specs.Table.{Table}
use Rattle.model.specs.Laws.Lists.{all_join, flatten_last, map_length}
use Rattle.model.proofs.Laws.Chip.{run_append}
use Rattle.model.proofs.Laws.SlotPage.{Valid}
use Rattle.model.proofs.Laws.CopyOut.{Valids}
use Rattle.model.proofs.Laws.View.{slot_changed}
use Rattle.model.proofs.Laws.Tables.{copies_append, copies_cons_same, copies_absent, distinct_copies}
use Rattle.bridge.specs.Predicted.{Rows, CleanView, Carries}
use Rattle.bridge.specs.Views.Slots.{full, sound, entries_append, rows_append, top_row_lem, copied_entries, copied_length, copied_sound, copied_full}
use Rattle.bridge.specs.Views.Shape.{shape_clean, row_added, added_shape, added_entries, added_room, added_top, opened_view}
use Rattle.bridge.specs.Held.{Held}
use Rattle.bridge.specs.Done.{write_held, open_held}
use Rattle.moves.specs.Moves.{put_each}
use Rattle.moves.specs.Placed.{placed}

-- ---- the view on the way

-- rows that are full, and the top with these entries
abbrev pub filling : ℕ → List (List Slot) → Table → View
filling B rows top = row_added (new_version 0) B 0 rows top

pub record Filled (N B : ℕ) (rows : List (List Slot)) (top : Table) : Type 0 where
  pub sizes : Rows B rows
  pub sound : sound (flatten rows) ≡ true
  pub full : all (λ s. full s) rows ≡ true
  pub live : length (entries (flatten rows)) ≡ length rows * B
  pub short : length top ≤ B
  pub spare : suc (length rows) ≤ N - 1

pub filled_clean : (N B : ℕ) (rows : List (List Slot)) (top : Table) → Filled N B rows top → distinct (entries (flatten rows) ++ top) ≡ true → length (entries (flatten rows) ++ top) ≤ capacity N B
    → CleanView N B (filling B rows top)
filled_clean N B rows top f d h =
    let e = added_entries (new_version 0) B 0 rows top in
    shape_clean (added_shape (new_version 0) N B 0 rows top f.spare f.sizes f.sound f.full f.short) (rw e d) (rw e h)

-- a slot written behind the top's entries

first_free : (top : Table) (k : ℕ) → first_empty (map holding top ++ replicate (suc k) empty) ≡ length top
unfolding first_empty is_empty holding
first_free [] k = refl
first_free (e ∷ top) k = ap suc (first_free top k)

module _ (B : ℕ) (rows : List (List Slot)) (top : Table) (h : length top < B) where
  -- the row before and behind its first empty slot
  abbrev behind : ℕ
  behind = B - suc (length top)

  row_parts : copied B top ≡ map holding top ++ replicate (suc behind) empty
  unfolding copied
  row_parts = let e : B - length top ≡ suc behind = omega arith in rw e

  row_free : first_empty (copied B top) ≡ length top
  row_free = ap first_empty row_parts ∙ first_free top behind

  row_written : (e : Entry) → set (copied B top) (length top) (holding e) ≡ copied B (top ++ (e ∷ []))
  unfolding copied
  row_written e =
      let l : B - length (top ++ (e ∷ [])) ≡ behind = omega (arith, length-append top (e ∷ [])) in
      ap (λ (y : List Slot). set y (length top) (holding e)) row_parts
      ∙ (set_at (map holding top) empty (replicate behind empty) (holding e) (length top) (map_length holding top)
      ∙ (sym (append_assoc (map holding top) (holding e ∷ []) (replicate behind empty)) ∙ rw (l, mapped top)))
    where
      mapped : (t : Table) → map holding (t ++ (e ∷ [])) ≡ map holding t ++ (holding e ∷ [])
      mapped [] = refl
      mapped (x ∷ t) = ap {B = List Slot} (λ y. holding x ∷ y) (mapped t)

  top_is : get_or (filling B rows top).slots (length rows) [] ≡ copied B top
  unfolding row_added
  top_is = get_or-append_seam rows (copied B top) [] []

  pub slot_free : get_or (get_or (filling B rows top).slots (length rows) []) (length top) empty ≡ empty
  slot_free = ap (λ (y : List Slot). get_or y (length top) empty) (top_is ∙ row_parts) ∙ get_or_at (map holding top) empty (replicate behind empty) empty (length top) (map_length holding top)

  pub slot_written : (e : Entry) → slot_changed (length rows) (length top) (holding e) (filling B rows top) ≡ filling B rows (top ++ (e ∷ []))
  unfolding slot_changed row_added
  slot_written e =
      let z : length rows - 0 ≡ length rows = omega arith in
      rw (z, get_or-append_seam rows (copied B top) [] [], row_written e, set-append_seam rows (copied B top) [] (copied B (top ++ (e ∷ []))))

-- ---- one put

fresh_carries : (B : ℕ) (rows : List (List Slot)) (top : Table) → Carries (filling B rows top)
unfolding row_added new_version is_former tally_of cleared_bits cleared_in bit_values count erased
fresh_carries B rows top = record { second = refl; fits = omega arith }

-- new headers have nothing to carry on
fresh_next : (B : ℕ) (rows : List (List Slot)) (top : Table) → next_version (filling B rows top) ≡ new_version 0
unfolding next_version row_added new_version tally_of cleared_bits cleared_in bit_values count erased
fresh_next B rows top = refl

module _ (N B : ℕ) (rows : List (List Slot)) (top : Table) (e : Entry) where
  abbrev v : View
  v = filling B rows top

  -- the slot that the top's entries leave next
  abbrev here : List Step
  here = on_page (slot_at N B (length rows) (length top)) (write_slot e.block e.contents)

  module _ (h : length top < B) where
    room_here : has_room v ≡ true
    room_here = added_room (new_version 0) B 0 rows top ∙ lt-ltb (length top) B h

    roomed_here : room_for N B v ≡ record { steps = []; result = v }
    unfolding room_for
    roomed_here = rw room_here

    top_here : write_at_top N B e.block e.contents v ≡ here
    unfolding write_at_top
    top_here =
        let n : top_number v ≡ length rows = added_top (new_version 0) B 0 rows top ∙ zero-add (length rows) in
        let t : top_row v.slots ≡ copied B top = unfold row_added in top_row_lem rows (copied B top) in
        let j : first_empty (top_row v.slots) ≡ length top = ap first_empty t ∙ row_free B rows top h in
        rw (n, j)

    pub put_here : holds e.block (entries_in (filling B rows top)) ≡ false
        → put_steps N B e.block e.contents (filling B rows top) ≡ on_page (slot_at N B (length rows) (length top)) (write_slot e.block e.contents)
    unfolding put_steps mark_old
    put_here a = rw (roomed_here, top_here, a) (append-nil here)

    pub held_here : (s : Image) → Valid e.block e.contents → Held N B s (filling B rows top)
        → Held N B (run B (on_page (slot_at N B (length rows) (length top)) (write_slot e.block e.contents)) s) (filling B rows (top ++ (e ∷ [])))
    unfolding holding
    held_here s w held =
        let row : length rows < length v.slots = unfold row_added in omega (arith, length-append rows (copied B top ∷ [])) in
        let first : v.first + length rows ≡ length rows = unfold row_added in zero-add (length rows) in
        subst (λ (y : View). Held N B (run B here s) y) (slot_written B rows top h e)
        (subst (λ (n : ℕ). Held N B (run B (on_page (slot_at N B n (length top)) (write_slot e.block e.contents)) s) (slot_changed n (length top) (live e.block e.contents) v)) first
        (write_held N B s v held (length rows) (length top) row h e.block e.contents w (slot_free B rows top h)))

-- the top is full: its row joins the others, and the next segment is opened

abbrev pub joined : ℕ → List (List Slot) → Table → List (List Slot)
joined B rows top = rows ++ (copied B top ∷ [])

pub joined_length : (B : ℕ) (rows : List (List Slot)) (top : Table) → length (joined B rows top) ≡ suc (length rows)
joined_length B rows top = omega (arith, length-append rows (copied B top ∷ []))

pub joined_entries : (B : ℕ) (rows : List (List Slot)) (top : Table) → entries (flatten (joined B rows top)) ≡ entries (flatten rows) ++ top
joined_entries B rows top = rw (flatten_last rows (copied B top), entries_append (flatten rows) (copied B top), copied_entries B top)

pub joined_filled : (N B : ℕ) (rows : List (List Slot)) (top : Table) → Filled N B rows top → length top ≡ B → suc (length rows) < N - 1 → Filled N B (joined B rows top) []
unfolding all
joined_filled N B rows top f h few =
    let row : full (copied B top) ≡ true = copied_full B top ∙ rw (le-ltb (length top) B (omega arith)) in
    record {
      sizes = rows_append B rows (copied B top ∷ []) f.sizes (copied_length B top f.short, tt);
      sound = rw (flatten_last rows (copied B top)) (all_join _ (flatten rows) (copied B top) f.sound (copied_sound B top));
      full = all_join (λ s. full s) rows (copied B top ∷ []) f.full (rw row);
      live = rw (joined_entries B rows top, joined_length B rows top) (omega (arith, length-append (entries (flatten rows)) top, f.live, h, suc-mul (length rows) B));
      short = omega arith;
      spare = omega (arith, joined_length B rows top);
    }

module _ (N B : ℕ) (rows : List (List Slot)) (top : Table) (e : Entry) (h : length top ≡ B) (few : suc (length rows) < N - 1) (some : 0 < B) where
  abbrev w : View
  w = filling B rows top

  abbrev opening : List Step
  opening = open_segment N B (new_version 0) (suc (length rows))

  abbrev there : List Step
  there = on_page (slot_at N B (suc (length rows)) 0) (write_slot e.block e.contents)

  rows_count : length w.slots ≡ suc (length rows)
  unfolding row_added
  rows_count = joined_length B rows top

  number : top_number w ≡ length rows
  number = added_top (new_version 0) B 0 rows top ∙ zero-add (length rows)

  no_room : has_room w ≡ false
  no_room = added_room (new_version 0) B 0 rows top ∙ le-ltb (length top) B (omega arith)

  opens : room_for N B w ≡ open_next N B w
  unfolding room_for
  opens = rw (no_room, lt-ltb (length w.slots) (N - 1) (omega (arith, rows_count)))

  opened_steps : (open_next N B w).steps ≡ opening
  unfolding open_next
  opened_steps = rw (fresh_next B rows top, number)

  opened_result : (open_next N B w).result ≡ filling B (joined B rows top) []
  unfolding row_added
  opened_result = opened_view N B w ∙ rw (fresh_next B rows top)

  top_there : write_at_top N B e.block e.contents (filling B (joined B rows top) []) ≡ there
  top_there = top_here N B (joined B rows top) [] e some ∙ rw (joined_length B rows top)

  pub put_next : holds e.block (entries_in (filling B (joined B rows top) [])) ≡ false
      → put_steps N B e.block e.contents (filling B rows top) ≡ open_segment N B (new_version 0) (suc (length rows)) ++ on_page (slot_at N B (suc (length rows)) 0) (write_slot e.block e.contents)
  unfolding put_steps mark_old
  put_next a = rw (opens, opened_steps, opened_result, top_there, a, append-nil there)

  pub held_next : (s : Image) → Valid e.block e.contents → Held N B s (filling B rows top)
      → Held N B (run B (open_segment N B (new_version 0) (suc (length rows)) ++ on_page (slot_at N B (suc (length rows)) 0) (write_slot e.block e.contents)) s) (filling B (joined B rows top) (e ∷ []))
  unfolding number_limit
  held_next s valid held =
      let below : suc (top_number w) < erase_limit * N = omega (arith, number) in
      let o = open_held N B s w held (fresh_carries B rows top) below (omega (arith, rows_count)) in
      let p : Held N B (run B opening s) (filling B (joined B rows top) []) = rw (opened_steps, opened_result) at o in
      rw (run_append B opening there s) (rw (joined_length B rows top) at (held_here N B (joined B rows top) [] e some (run B opening s) valid p))

-- ---- all of them

-- the image holds these entries, row by row
pub record Built (N B : ℕ) (s : Image) (t : Table) : Type 0 where
  pub rows : List (List Slot)
  pub top : Table
  pub filled : Filled N B rows top
  pub held : Held N B s (filling B rows top)
  pub entries : entries (flatten rows) ++ top ≡ t

absent_before : (x : Table) (e : Entry) (y : Table) → distinct (x ++ (e ∷ y)) ≡ true → holds e.block x ≡ false
absent_before x e y d =
    copies_absent e.block x (omega (arith, distinct_copies (x ++ (e ∷ y)) d e.block, copies_append e.block x (e ∷ y), copies_cons_same e.block e y refl))

-- so many full rows leave a segment for one entry more
segment_left : (N B r k : ℕ) → r * B + B + suc k ≤ capacity N B → suc r < N - 1
unfolding capacity
segment_left N B r k h = elim (dec_lt (suc r) (N - 1)) [
  | yes g ↦ g
  | no g ↦ let q : (N - 1) * B ≤ suc r * B = mul-le-mul_right B (omega arith) in absurd (omega (arith, suc-mul r B))
]

module _ (N B : ℕ) (some : 0 < B) (every : Table) (once : distinct every ≡ true) (fits : length every ≤ capacity N B) where
  -- the list of steps, and what it leaves
  abbrev Builds : ℕ → ℕ → Table → Image → Type 0
  Builds n j t s = (put_each N B t s ≡ placed N B n j t) × Built N B (run B (put_each N B t s) s) every

  pub builds : (t : Table) (rows : List (List Slot)) (top : Table) (s : Image) → Filled N B rows top → Held N B s (filling B rows top) → every ≡ (entries (flatten rows) ++ top) ++ t → Valids t
      → Builds (length rows) (length top) t s
  unfolding put_each placed run
  builds [] rows top s f h q valid = (refl, record { rows = rows; top = top; filled = f; held = h; entries = sym (q ∙ append-nil (entries (flatten rows) ++ top)) })
  builds (e ∷ t) rows top s f h q valid = go (λ r p u a b c. builds t r p u a b c valid.1) (ltb (length top) B) refl
    where
      b : ℕ
      b = e.block

      c : List ℕ
      c = e.contents

      before : Table
      before = entries (flatten rows) ++ top

      free : holds b before ≡ false
      free = absent_before before e t (rw q at once)

      -- one entry's steps, and the rest
      one : (xs : List Step) (n j : ℕ) → put_steps N B b c (filling B rows top) ≡ xs → Builds n j t (run B xs s)
          → (put_each N B (e ∷ t) s ≡ xs ++ placed N B n j t) × Built N B (run B (put_each N B (e ∷ t) s) s) every
      one xs n j z r =
          let x : put_steps N B b c (view N B s) ≡ xs = ap (put_steps N B b c) h.view ∙ z in
          rw (x, run_append B xs (put_each N B t (run B xs s)) s, ← r.0) (refl, r.1)

      -- behind the top's entries
      here : length top < B → ((rows top : _) (u : Image) → Filled N B rows top → Held N B u (filling B rows top) → every ≡ (entries (flatten rows) ++ top) ++ t → Builds (length rows) (length top) t u)
          → (put_each N B (e ∷ t) s ≡ on_page (slot_at N B (length rows) (length top)) (write_slot b c) ++ placed N B (length rows) (suc (length top)) t) × Built N B (run B (put_each N B (e ∷ t) s) s) every
      here k ih =
          let xs = on_page (slot_at N B (length rows) (length top)) (write_slot b c) in
          let l : length (top ++ (e ∷ [])) ≡ suc (length top) = omega (arith, length-append top (e ∷ [])) in
          let g : Filled N B rows (top ++ (e ∷ [])) = record { sizes = f.sizes; sound = f.sound; full = f.full; live = f.live; short = omega arith; spare = f.spare } in
          let a : every ≡ (entries (flatten rows) ++ (top ++ (e ∷ []))) ++ t = q ∙ moved (entries (flatten rows)) top in
          one xs (length rows) (suc (length top)) (put_here N B rows top e k (rw (added_entries (new_version 0) B 0 rows top) free))
          (rw l at (ih rows (top ++ (e ∷ [])) (run B xs s) g (held_here N B rows top e k s valid.0 h) a))
        where
          moved : (x y : Table) → (x ++ y) ++ (e ∷ t) ≡ (x ++ (y ++ (e ∷ []))) ++ t
          moved x y = sym (append_assoc (x ++ y) (e ∷ []) t) ∙ ap (λ (z : Table). z ++ t) (append_assoc x y (e ∷ []))

      -- in the next segment
      next : length top ≡ B → ((rows top : _) (u : Image) → Filled N B rows top → Held N B u (filling B rows top) → every ≡ (entries (flatten rows) ++ top) ++ t → Builds (length rows) (length top) t u)
          → (put_each N B (e ∷ t) s ≡ (open_segment N B (new_version 0) (suc (length rows)) ++ on_page (slot_at N B (suc (length rows)) 0) (write_slot b c)) ++ placed N B (suc (length rows)) 1 t)
          × Built N B (run B (put_each N B (e ∷ t) s) s) every
      next k ih =
          let xs = open_segment N B (new_version 0) (suc (length rows)) ++ on_page (slot_at N B (suc (length rows)) 0) (write_slot b c) in
          let rows2 = joined B rows top in
          let few : suc (length rows) < N - 1 =
          segment_left N B (length rows) (length t) (omega (arith, fits, ap length q, length-append before (e ∷ t), length-append (entries (flatten rows)) top, f.live)) in
          let g = joined_filled N B rows top f k few in
          let g1 : Filled N B rows2 (e ∷ []) = record { sizes = g.sizes; sound = g.sound; full = g.full; live = g.live; short = omega arith; spare = g.spare } in
          let p = joined_entries B rows top in
          let a : every ≡ (entries (flatten rows2) ++ (e ∷ [])) ++ t = q ∙ (sym (append_assoc before (e ∷ []) t) ∙ rw p) in
          let absent : holds b (entries_in (filling B rows2 [])) ≡ false = rw (added_entries (new_version 0) B 0 rows2 [], append-nil (entries (flatten rows2)), p) free in
          one xs (suc (length rows)) 1 (put_next N B rows top e k few some absent)
          (rw (joined_length B rows top) at (ih rows2 (e ∷ []) (run B xs s) g1 (held_next N B rows top e k few some s valid.0 h) a))

      go : ((rows top : _) (u : Image) → Filled N B rows top → Held N B u (filling B rows top) → every ≡ (entries (flatten rows) ++ top) ++ t → Builds (length rows) (length top) t u)
          → (u : Bool) → ltb (length top) B ≡ u
          → (put_each N B (e ∷ t) s
          ≡ cond u (on_page (slot_at N B (length rows) (length top)) (write_slot b c) ++ placed N B (length rows) (suc (length top)) t)
          (open_segment N B (new_version 0) (suc (length rows)) ++ (on_page (slot_at N B (suc (length rows)) 0) (write_slot b c) ++ placed N B (suc (length rows)) 1 t)))
          × Built N B (run B (put_each N B (e ∷ t) s) s) every
      go ih true u = here (ltb-true (length top) B u) ih
      go ih false u =
          let n = next (omega (arith, ltb-false (length top) B u, f.short)) ih in
          (n.0 ∙ append_assoc (open_segment N B (new_version 0) (suc (length rows))) (on_page (slot_at N B (suc (length rows)) 0) (write_slot b c)) (placed N B (suc (length rows)) 1 t), n.1)
