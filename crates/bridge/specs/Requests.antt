-- Accepted puts and deletes, done whole: a clean image with the predicted view.
use Prim.Native.Nat.{ℕ, zero, suc, ◌+◌, ◌-◌, ◌%◌, ◌≤◌, ◌<◌}
use Rattle.std.specs.Prelude.{◌≡◌, Bool, cond, List, [], ◌∷◌, ◌++◌, get_or, ltb}
use Rattle.std.proofs.Math.Path.{refl, subst}
use Rattle.std.proofs.Common.{sym, ◌∙◌, mod-lt}
use Rattle.std.proofs.Math.Bool.{true, false}
use native.Mathlib.Omega.{arith}
use Rattle.std.proofs.Math.ListN.{length}
use borrow.Author.Tests.{ltb-true, ltb-false}
use Rattle.model.specs.Lists.{count}
use Rattle.model.specs.Chip.{Image, Bytes, erased, number_limit, right_size, run}
use Rattle.model.specs.Header.{new_version, is_former, bit_values, cleared_in, cleared_bits, tally_of}
use Rattle.model.specs.Slot.{Slot, empty, live}
use Rattle.model.specs.State.{segments_of, View, view, entries, entries_in, holds, Place, place_of, none_wrong_or_torn, state, clean}
use Rattle.model.specs.Steps.{mark_place, top_number, has_room, Room, open_next, compact_oldest, compact_until_room, room_for, new_numbers, next_version, write_at_top, mark_old, put_steps, delete_steps}
use Rattle.model.specs.Table.{Agree, store}
use Rattle.model.specs.Answers.{put, delete, steps_for, work_of}
use Rattle.model.specs.Laws.Lists.{all_row}
use Rattle.model.proofs.Laws.Chip.{run_append, size_facts}
use Rattle.model.proofs.Laws.Bytes.{run_bytes}
use Rattle.model.proofs.Laws.SlotPage.{Valid}
use Rattle.model.proofs.Laws.Effects.{numbered_at}
use Rattle.model.proofs.Laws.Clean.{numbered}
use Rattle.bridge.specs.Predicted.{slot_changed, written, marked, put_into, after_put, after_delete, CleanView, Carries, Rows}
use Rattle.bridge.specs.Views.Slots.{same_rows, slots_counted, sound}
use Rattle.bridge.specs.Views.Places.{in_view, TopGap, written_place, written_holds}
use Rattle.bridge.specs.Views.Shape.{clean_shape, shape_gap, first_live_in, opened_top}
use Rattle.bridge.specs.Views.Room.{tidied, Made, room_made}
use Rattle.bridge.specs.Views.Requests.{room_numbered, worn_carries, put_keeps_clean, put_stores, delete_keeps_clean}
use Rattle.bridge.specs.Held.{Held, held_first, held_of_clean, clean_view, clean_of_held, held_lengths, row_valid, held_next}
use Rattle.bridge.specs.Done.{mark_held, write_held, open_held, compact_held}
use Rattle.bridge.specs.Accepted.{PutPassed, put_passed, delete_passed, accepted}

-- ---- one slot marked or written

module _ (N B : ℕ) (s : Image) (v : View) (h : Held N B s v) where
  -- the first live slot of a block marked
  pub mark_place_held : (b : ℕ) → holds b (entries_in v) ≡ true → Held N B (run B (mark_place N B (place_of b v)) s) (marked (place_of b v) v)
  unfolding mark_place marked place_of
  mark_place_held b e =
      let f = first_live_in b v e in
      let i = in_view B v f.gap (live b f.contents) f.split (held_lengths N B s v h) in
      rw f.place (mark_held N B s v h (length f.gap.rows_before) (length f.gap.before) i.row i.short b f.contents i.kind)

  -- a slot written at the top's first empty place
  pub write_top_held : (b : ℕ) (c : List ℕ) → Valid b c → TopGap v → Held N B (run B (write_at_top N B b c v) s) (written b c v)
  unfolding write_at_top written
  write_top_held b c w t =
      let i = in_view B v t.gap empty t.split (held_lengths N B s v h) in
      rw (t.number, t.slot) (write_held N B s v h (length t.gap.rows_before) (length t.gap.before) i.row i.short b c w i.kind)

  -- the top's number is below the limit
  pub held_below : CleanView N B v → top_number v < number_limit N
  unfolding top_number
  held_below c =
      let n = v.first + length v.slots - 1 in
      let p : 0 < N = omega (arith, (size_facts N B s h.size).two) in
      (numbered_at N B s (n % N) n (mod-lt n p) (numbered N (segments_of N B s) h.ring n (omega (arith, held_first N B s v h, c.some)) (omega (arith, held_next N B s v h, c.some)))).1

-- a slot written, and then the old one marked, where it was
module _ (N B : ℕ) (s : Image) (v : View) (h : Held N B s v) (b : ℕ) (c : List ℕ) (valid : Valid b c) (gap : TopGap v) where
  abbrev wrote : Image
  wrote = run B (write_at_top N B b c v) s

  pub put_held : Held N B (run B (mark_old N B b v) (run B (write_at_top N B b c v) s)) (put_into b c v)
  unfolding mark_old
  put_held = go (holds b (entries_in v)) refl
    where
      written_held : Held N B wrote (written b c v)
      written_held = write_top_held N B s v h b c valid gap

      go : (t : Bool) → holds b (entries_in v) ≡ t → Held N B (run B (cond t (mark_place N B (place_of b v)) []) wrote) (cond t (marked (place_of b v) (written b c v)) (written b c v))
      go false q = unfold run in written_held
      go true q = subst (λ (p : Place). Held N B (run B (mark_place N B p) wrote) (marked p (written b c v))) (written_place b b c v gap q)
          (mark_place_held N B wrote (written b c v) written_held b (written_holds b c v gap q))

-- ---- making room

-- one step of the loop: nothing where there is room, else a compaction and the rest
pub until_room : (N B k : ℕ) (v : View) → has_room v ≡ true → compact_until_room N B (suc k) v ≡ record { steps = []; result = v }
unfolding compact_until_room
until_room N B k v e = rw e

pub until_more : (N B k : ℕ) (v : View) → has_room v ≡ false → compact_until_room N B (suc k) v
    ≡ record { steps = (compact_oldest N B v).steps ++ (compact_until_room N B k (compact_oldest N B v).result).steps; result = (compact_until_room N B k (compact_oldest N B v).result).result }
unfolding compact_until_room
until_more N B k v e = rw e

pub top_rises : (N B k : ℕ) (v : View) → CleanView N B v → top_number v ≤ top_number (compact_until_room N B k v).result
top_rises N B zero v c = unfold compact_until_room in omega arith
top_rises N B (suc k) v c = go (has_room v) refl (λ d. top_rises N B k (compact_oldest N B v).result d)
  where
    go : (t : Bool) → has_room v ≡ t → (CleanView N B (compact_oldest N B v).result → top_number (compact_oldest N B v).result ≤ top_number (compact_until_room N B k (compact_oldest N B v).result).result)
        → top_number v ≤ top_number (compact_until_room N B (suc k) v).result
    go true e ih = rw (until_room N B k v e) (omega arith)
    go false e ih = let t = tidied N B v c e in rw (until_more N B k v e) (omega (arith, ih t.clean, t.number))

-- the entries of a row fit in a row
pub row_fits : (B : ℕ) (v : View) → Rows B v.slots → none_wrong_or_torn v ≡ true → 1 ≤ length v.slots → length (entries (get_or v.slots 0 [])) ≤ B
unfolding none_wrong_or_torn
row_fits B v r w h = go v.slots r h (all_row _ v.slots 0 w)
  where
    go : (l : List (List Slot)) → Rows B l → 1 ≤ length l → sound (get_or l 0 []) ≡ true → length (entries (get_or l 0 [])) ≤ B
    go [] q k p = absurd (omega arith)
    go (x ∷ l) q k p = omega (arith, slots_counted x p, q.0)

pub carries_next : (N B : ℕ) (v : View) → Carries v → Carries (compact_oldest N B v).result
unfolding compact_oldest next_version new_version is_former tally_of cleared_bits cleared_in bit_values count erased
carries_next N B v c = record { second = refl; fits = omega (arith, c.fits) }

pub one_compaction : (N B : ℕ) (s : Image) (v : View) → Held N B s v → Bytes s → CleanView N B v → length v.slots ≡ N - 1 → Carries v → suc (top_number v) < number_limit N
    → Held N B (run B (compact_oldest N B v).steps s) (compact_oldest N B v).result
unfolding compact_oldest
one_compaction N B s v h bs c full carries below =
    compact_held N B s v h carries below full (entries (get_or v.slots 0 [])) (row_valid N B s v h bs 0 c.some) (row_fits B v (held_lengths N B s v h) c.sound c.some)

pub compacted_rows : (N B : ℕ) (v : View) → 1 ≤ length v.slots → length (compact_oldest N B v).result.slots ≡ length v.slots
unfolding compact_oldest
compacted_rows N B v h = same_rows v.slots _ h

compactions_held : (N B k : ℕ) (s : Image) (v : View) → Held N B s v → Bytes s → CleanView N B v → length v.slots ≡ N - 1 → Carries v
    → top_number (compact_until_room N B k v).result < number_limit N → Held N B (run B (compact_until_room N B k v).steps s) (compact_until_room N B k v).result
compactions_held N B zero s v h bs c full carries below = unfold compact_until_room run in h
compactions_held N B (suc k) s v h bs c full carries below =
    go (has_room v) refl below (λ t ht bt ct ft bl. compactions_held N B k t (compact_oldest N B v).result ht bt ct ft (carries_next N B v carries) bl)
  where
    go : (t : Bool) → has_room v ≡ t → top_number (compact_until_room N B (suc k) v).result < number_limit N
        → ((t : Image) → Held N B t (compact_oldest N B v).result → Bytes t → CleanView N B (compact_oldest N B v).result → length (compact_oldest N B v).result.slots ≡ N - 1
        → top_number (compact_until_room N B k (compact_oldest N B v).result).result < number_limit N
        → Held N B (run B (compact_until_room N B k (compact_oldest N B v).result).steps t) (compact_until_room N B k (compact_oldest N B v).result).result)
        → Held N B (run B (compact_until_room N B (suc k) v).steps s) (compact_until_room N B (suc k) v).result
    go true e bl ih = rw (until_room N B k v e) (unfold run in h)
    go false e bl ih =
        let t = tidied N B v c e in
        let bl2 : top_number (compact_until_room N B k (compact_oldest N B v).result).result < number_limit N = rw (until_more N B k v e) at bl in
        let low : suc (top_number v) < number_limit N = omega (arith, top_rises N B k (compact_oldest N B v).result t.clean, t.number, bl2) in
        let xs = (compact_oldest N B v).steps in
        rw (until_more N B k v e, run_append B xs (compact_until_room N B k (compact_oldest N B v).result).steps s)
        (ih (run B xs s) (one_compaction N B s v h bs c full carries low) (run_bytes B xs s bs) t.clean (compacted_rows N B v c.some ∙ full) bl2)

until_former : (N B k : ℕ) (v : View) → is_former v.version ≡ false → is_former (compact_until_room N B k v).result.version ≡ false
unfolding compact_until_room
until_former N B zero v e = e
until_former N B (suc k) v e = go (has_room v) (until_former N B k (compact_oldest N B v).result (unfold compact_oldest next_version new_version is_former in refl))
  where
    w : Room
    w = compact_until_room N B k (compact_oldest N B v).result

    go : (t : Bool) → is_former w.result.version ≡ false
        → is_former (cond {A = Room} t (record { steps = []; result = v }) (record { steps = (compact_oldest N B v).steps ++ w.steps; result = w.result })).result.version ≡ false
    go true h = e
    go false h = h

-- new headers have version 2
room_former : (N B : ℕ) (v : View) → is_former v.version ≡ false → is_former (room_for N B v).result.version ≡ is_former v.version
unfolding room_for
room_former N B v e = go (has_room v) (ltb (length v.slots) (N - 1)) ∙ sym e
  where
    go : (t u : Bool) → is_former (cond {A = Room} t (record { steps = []; result = v }) (cond u (open_next N B v) (compact_until_room N B (N - 1) v))).result.version ≡ false
    go true u = e
    go false true = unfold open_next next_version new_version is_former in refl
    go false false = until_former N B (N - 1) v e

pub put_version : (b : ℕ) (c : List ℕ) (v : View) → is_former (put_into b c v).version ≡ is_former v.version
put_version b c v = go (holds b (entries_in v))
  where
    go : (t : Bool) → is_former (cond {A = View} t (marked (place_of b v) (written b c v)) (written b c v)).version ≡ is_former v.version
    go true = unfold written marked slot_changed in refl
    go false = unfold written slot_changed in refl

pub room_held : (N B : ℕ) (s : Image) (v : View) → Held N B s v → Bytes s → CleanView N B v → (has_room v ≡ false → Carries v) → top_number (room_for N B v).result < number_limit N
    → Held N B (run B (room_for N B v).steps s) (room_for N B v).result
unfolding room_for
room_held N B s v h bs c carries below = go (has_room v) (ltb (length v.slots) (N - 1)) refl refl below
  where
    chosen : Bool → Bool → Room
    chosen t u = cond t (record { steps = []; result = v }) (cond u (open_next N B v) (compact_until_room N B (N - 1) v))

    go : (t u : Bool) → has_room v ≡ t → ltb (length v.slots) (N - 1) ≡ u → top_number (chosen t u).result < number_limit N → Held N B (run B (chosen t u).steps s) (chosen t u).result
    go true u q e bl = unfold run in h
    go false true q e bl = open_held N B s v h (carries q) (omega (arith, bl, opened_top N B v c.some)) (ltb-true (length v.slots) (N - 1) e)
    go false false q e bl = compactions_held N B (N - 1) s v h bs c (omega (arith, ltb-false (length v.slots) (N - 1) e, c.spare)) (carries q) bl

-- ---- the requests

module _ (N B : ℕ) (s : Image) (z : right_size N B s ≡ true) (cl : state N B s ≡ clean) where
  abbrev v : View
  v = view N B s

  h : Held N B s v
  h = held_of_clean N B s z cl

  cv : CleanView N B v
  cv = clean_view N B s z cl

  two : 2 ≤ N
  two = (size_facts N B s z).two

  slots : 2 ≤ B
  slots = (size_facts N B s z).slots

  pub delete_done : (b : ℕ) → (work_of N B s (delete b)).code ≡ 0
      → (state N B (run B (work_of N B s (delete b)).steps s) ≡ clean) × (view N B (run B (work_of N B s (delete b)).steps s) ≡ after_delete b v)
  unfolding steps_for delete_steps after_delete view
  delete_done b e =
      let a = accepted N B s (delete b) e in
      let held = delete_passed N B s b a.1 in
      let m = mark_place_held N B s v h b held in
      rw a.0 (clean_of_held N B _ (marked (place_of b v) v) m (delete_keeps_clean N B v b cv held), m.view)

  module _ (b : ℕ) (c : List ℕ) (bs : Bytes s) (bc : Bytes c) (e : (work_of N B s (put b c)).code ≡ 0) where
    passes : PutPassed N B b c v
    passes = put_passed N B s b c (accepted N B s (put b c) e).1

    pub put_valid : Valid b c
    put_valid = record { number = passes.number; short = passes.short; bytes = bc }

    abbrev r : View
    r = (room_for N B v).result

    made : Made N B v r (new_numbers N v)
    made = room_made N B two slots v cv

    -- room made
    abbrev pub roomed : Image
    roomed = run B (room_for N B v).steps s

    pub roomed_below : top_number (room_for N B (view N B s)).result < number_limit N
    roomed_below = room_numbered N B two slots v cv passes.fresh (held_below N B s v h cv)

    pub room_carries : has_room (view N B s) ≡ false → Carries (view N B s)
    room_carries e = worn_carries N B two slots v passes.second passes.fresh e

    pub roomed_held : Held N B roomed r
    roomed_held = room_held N B s v h bs cv room_carries roomed_below

    pub roomed_clean : CleanView N B r
    roomed_clean = made.clean

    pub roomed_gap : TopGap r
    roomed_gap = shape_gap (clean_shape roomed_clean) made.room

    pub roomed_table : Agree (entries_in (room_for N B (view N B s)).result) (entries_in (view N B s))
    roomed_table = made.table

    pub roomed_size : length (entries_in (room_for N B (view N B s)).result) ≡ length (entries_in (view N B s))
    roomed_size = made.size

    -- it is of version 2 as before
    pub roomed_former : is_former (room_for N B (view N B s)).result.version ≡ is_former (view N B s).version
    roomed_former = room_former N B v passes.second

    pub after_former : is_former (after_put N B b c (view N B s)).version ≡ is_former (view N B s).version
    unfolding after_put
    after_former = put_version b c r ∙ roomed_former

    pub after_clean : CleanView N B (after_put N B b c (view N B s))
    after_clean = put_keeps_clean N B two slots v b c cv passes.fit

    pub after_table : Agree (entries_in (after_put N B b c (view N B s))) (store b c (entries_in (view N B s)))
    after_table = put_stores N B two slots v b c cv

    pub put_steps_lem : (work_of N B s (put b c)).steps ≡ (room_for N B v).steps ++ (write_at_top N B b c r ++ mark_old N B b r)
    unfolding steps_for put_steps view
    put_steps_lem = (accepted N B s (put b c) e).0

    after_held : Held N B (run B (work_of N B s (put b c)).steps s) (after_put N B b c v)
    unfolding after_put
    after_held = rw (put_steps_lem, run_append B (room_for N B v).steps (write_at_top N B b c r ++ mark_old N B b r) s, run_append B (write_at_top N B b c r) (mark_old N B b r) roomed)
        (put_held N B roomed r roomed_held b c put_valid roomed_gap)

    pub put_done : (state N B (run B (work_of N B s (put b c)).steps s) ≡ clean) × (view N B (run B (work_of N B s (put b c)).steps s) ≡ after_put N B b c v)
    put_done = (clean_of_held N B _ (after_put N B b c v) after_held after_clean, after_held.view)
