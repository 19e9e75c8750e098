-- A put and a delete keep a view clean and make the table that they should.
use Prim.Native.Nat.{ℕ, suc, ◌+◌, ◌*◌, ◌/◌, ◌≤◌, ◌<◌}
use Rattle.std.specs.Prelude.{◌≡◌, Bool, cond, ◌||◌, List, [], ◌∷◌, ◌++◌, ltb, leb}
use Rattle.std.proofs.Math.Path.{refl, ap}
use Rattle.std.proofs.Common.{◌∙◌, true≢false, div-lt_iff_lt-mul, ltb-true, leb-false}
use Rattle.std.proofs.Math.Bool.{true, false}
use native.Mathlib.Omega.{arith}
use Rattle.std.proofs.Math.ListN.{length}
use Rattle.model.specs.Chip.{erase_limit, number_limit}
use Rattle.model.specs.Header.{is_former, tally_of, no_bit_left}
use Rattle.model.specs.State.{View, entries_in, holds, distinct, capacity, place_of}
use Rattle.model.specs.Steps.{top_number, has_room, room_for, new_numbers, is_worn}
use Rattle.model.specs.Table.{lookup, without, store, Agree}
use Rattle.model.proofs.Laws.Tables.{agree_holds, agree_store, without_absent, distinct_without, without_length, without_first_lem, without_first_append, stored_last, stored_last_agree, stored_last_distinct, stored_last_length}
use Rattle.bridge.specs.Predicted.{written, marked, put_into, after_put, after_delete, CleanView, Carries, Fits}
use Rattle.bridge.specs.Views.Places.{FirstLive, TopGap, marked_entries, written_entries, written_place, written_holds}
use Rattle.bridge.specs.Views.Shape.{Shape, clean_shape, shape_clean, clean_distinct, clean_within, written_shape, marked_shape, shape_gap, first_live_in}
use Rattle.bridge.specs.Views.Room.{Made, room_made}

-- ---- a slot written where there is room, and the older one marked

pub record Stored (N B b : ℕ) (c : List ℕ) (r w : View) : Type 0 where
  pub shape : Shape N B w
  pub entries : entries_in w ≡ stored_last b c (entries_in r)

pub stored : (N B b : ℕ) (c : List ℕ) (r : View) → CleanView N B r → has_room r ≡ true
    → Stored N B b c r (put_into b c r)
unfolding stored_last
stored N B b c r k h = go (holds b (entries_in r)) refl
  where
    g : TopGap r
    g = shape_gap (clean_shape k) h

    s : Shape N B (written b c r)
    s = written_shape b c (clean_shape k) g

    e : entries_in (written b c r) ≡ entries_in r ++ (record { block = b; contents = c } ∷ [])
    e = written_entries b c r g

    go : (t : Bool) → holds b (entries_in r) ≡ t → Stored N B b c r (cond t (marked (place_of b r) (written b c r)) (written b c r))
    go true p =
        let q : holds b (entries_in (written b c r)) ≡ true = written_holds b c r g p in
        let f : FirstLive b (written b c r).first (written b c r).slots = first_live_in b (written b c r) q in
        rw (← (written_place b b c r g p)) (record {
          shape = marked_shape b s f;
          entries = marked_entries b (written b c r) f
              ∙ rw (e, without_first_append b (entries_in r) (record { block = b; contents = c } ∷ []) p, without_first_lem b (entries_in r) (clean_distinct k));
        })
    go false p = record { shape = s; entries = e ∙ rw (without_absent b (entries_in r) p) }

-- ---- the requests

module _ (N B : ℕ) (n : 2 ≤ N) (m : 2 ≤ B) where
  pub put_stored : (v : View) (b : ℕ) (c : List ℕ) → CleanView N B v → Stored N B b c (room_for N B v).result (after_put N B b c v)
  unfolding after_put
  put_stored v b c k = let r = room_made N B n m v k in stored N B b c (room_for N B v).result r.clean r.room

  pub put_keeps_clean : (v : View) (b : ℕ) (c : List ℕ) → CleanView N B v → Fits N B b v → CleanView N B (after_put N B b c v)
  put_keeps_clean v b c k f =
      let r = room_made N B n m v k in
      let s = put_stored v b c k in
      let d = clean_distinct r.clean in
      shape_clean s.shape (ap distinct s.entries ∙ stored_last_distinct b c (entries_in (room_for N B v).result) d)
      (within (room_for N B v).result r (holds b (entries_in v)) refl f (ap length s.entries ∙ stored_last_length b c (entries_in (room_for N B v).result) d))
    where
      within : (w : View) → Made N B v w (new_numbers N v) → (t : Bool) → holds b (entries_in v) ≡ t → (t || ltb (length (entries_in v)) (capacity N B)) ≡ true
          → length (entries_in (after_put N B b c v)) ≡ cond (holds b (entries_in w)) (length (entries_in w)) (suc (length (entries_in w))) → length (entries_in (after_put N B b c v)) ≤ capacity N B
      within w r true e p q = let z = rw (agree_holds (entries_in w) (entries_in v) r.table b, e) at q in omega (arith, r.size, clean_within k)
      within w r false e p q = let z = rw (agree_holds (entries_in w) (entries_in v) r.table b, e) at q in omega (arith, r.size, ltb-true (length (entries_in v)) (capacity N B) p)

  pub put_stores : (v : View) (b : ℕ) (c : List ℕ) → CleanView N B v → Agree (entries_in (after_put N B b c v)) (store b c (entries_in v))
  put_stores v b c k a =
      let r = room_made N B n m v k in
      ap (lookup a) (put_stored v b c k).entries ∙ (stored_last_agree b c (entries_in (room_for N B v).result) a ∙ agree_store b c (entries_in (room_for N B v).result) (entries_in v) r.table a)

  -- the number that the last new header gets, and the tally
  worn_reckoned : (v : View) → has_room v ≡ false → is_worn N v ≡ false → (top_number v + new_numbers N v) / N + tally_of v.version < erase_limit
  unfolding is_worn
  worn_reckoned v e w = go (no_bit_left v.version) (rw e at w)
    where
      reckoned : ℕ
      reckoned = (top_number v + new_numbers N v) / N + tally_of v.version

      go : (t : Bool) → (t || leb erase_limit reckoned) ≡ false → reckoned < erase_limit
      go true p = absurd (true≢false p)
      go false p = leb-false erase_limit reckoned p

  pub room_numbered : (v : View) → CleanView N B v → is_worn N v ≡ false → top_number v < number_limit N → top_number (room_for N B v).result < number_limit N
  unfolding new_numbers number_limit
  room_numbered v k w l = go (has_room v) refl (room_made N B n m v k).number
    where
      go : (t : Bool) → has_room v ≡ t → top_number (room_for N B v).result ≡ top_number v + new_numbers N v → top_number (room_for N B v).result < erase_limit * N
      go true e q = let z = rw e at q in omega arith
      go false e q =
          let p : 0 < N = omega arith in
          let d : (top_number v + new_numbers N v) / N < erase_limit = omega (arith, worn_reckoned v e w) in
          omega (arith, q, (div-lt_iff_lt-mul p).0 d)

  pub worn_carries : (v : View) → is_former v.version ≡ false → is_worn N v ≡ false → has_room v ≡ false → Carries v
  worn_carries v o w e = record { second = o; fits = omega (arith, worn_reckoned v e w) }

module _ (N B : ℕ) where
  pub deleted_entries : (v : View) (b : ℕ) → CleanView N B v → holds b (entries_in v) ≡ true → entries_in (after_delete b v) ≡ without b (entries_in v)
  unfolding after_delete
  deleted_entries v b k h = marked_entries b v (first_live_in b v h) ∙ without_first_lem b (entries_in v) (clean_distinct k)

  pub delete_keeps_clean : (v : View) (b : ℕ) → CleanView N B v → holds b (entries_in v) ≡ true → CleanView N B (after_delete b v)
  unfolding after_delete
  delete_keeps_clean v b k h =
      let e = deleted_entries v b k h in
      let d = clean_distinct k in
      shape_clean (marked_shape b (clean_shape k) (first_live_in b v h)) (ap distinct e ∙ distinct_without b (entries_in v) d)
      (omega (arith, ap length e, without_length b (entries_in v) d h, clean_within k))

  pub delete_removes : (v : View) (b : ℕ) → CleanView N B v → holds b (entries_in v) ≡ true → Agree (entries_in (after_delete b v)) (without b (entries_in v))
  delete_removes v b k h a = ap (lookup a) (deleted_entries v b k h)
