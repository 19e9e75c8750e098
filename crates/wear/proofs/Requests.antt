-- What is counted follows the view: through a put, a delete, and a request that writes nothing.
use Prim.Native.Nat.{ℕ, ◌+◌, ◌-◌, ◌*◌, max, ◌≤◌}
use Rattle.std.specs.Prelude.{◌≡◌, Bool, cond, length, replicate, eqb}
use Rattle.std.proofs.Math.Path.{refl}
use Rattle.std.proofs.Common.{ap, ◌∙◌, arith}
use Rattle.std.proofs.Math.Bool.{true, false}
use mathlib.Core.List.{List, [], ◌++◌, append-nil}
use Rattle.model.specs.Slot.{Slot, empty, dead, live, is_dead}
use Rattle.model.specs.State.{View, entries_in, holds, distinct, blocks_distinct, Place, place_of}
use Rattle.model.specs.Steps.{top_row, top_number, first_empty, room_for, put_steps, write_at_top, mark_old, delete_steps}
use Rattle.model.specs.Table.{Table, blocks, Agree}
use Rattle.model.specs.Answers.{put, delete}
use Rattle.model.specs.Sequences.{Observed, erases_in, among, removed, inserted, stored_after, replaces, Ledger, start, noted, erase_count, erases_of}
use Rattle.model.specs.Laws.Lists.{one}
use Rattle.model.proofs.Laws.Tables.{agree_holds}
use Rattle.bridge.specs.Predicted.{slot_changed, written, marked, put_into, after_put, after_delete, fresh, CleanView}
use Rattle.bridge.specs.Views.Slots.{copied_none}
use Rattle.bridge.specs.Views.Room.{room_made}
use Rattle.bridge.specs.Views.Requests.{put_stores, delete_removes}
use Rattle.bridge.specs.Format.{fresh_table}
use Rattle.wear.specs.Demand3.{stocked, ErasesPaid, Balanced}
use Rattle.wear.specs.Counting.{deads, deads_behind, drop_behind, set_slot, copied_dead}
use Rattle.wear.specs.Erases.{erases_append, written_none, delete_none, turns, turns_length, balanced}
use Rattle.wear.specs.Room.{Paid, paid_after, paid_bound, room_few, Moved, room_moved}
use Rattle.wear.specs.Stored.{Stored, blocks_length, stored_blocks, stored_length, stored_put, stored_delete}

-- the count belongs to the view
pub record Tracks (N B : ℕ) (v : View) (t : Ledger) : Type 0 where
  pub in_turn : t.erased ≡ turns N v.first
  pub stored : Stored t.stored (entries_in v)
  pub most : length t.stored ≤ t.largest
  pub paid : Paid (N - 1) ((N - 1) * B - t.largest) v.first v.slots t.replaced

-- ---- what demand 3 says follows

pub tracks_paid : (N B : ℕ) (v : View) (t : Ledger) → Tracks N B v t → ErasesPaid N B t
unfolding erase_count
tracks_paid N B v t h = let e : length t.erased ≡ v.first = ap length h.in_turn ∙ turns_length N v.first in rw e (paid_bound h.paid)

pub tracks_balanced : (N B : ℕ) (v : View) (t : Ledger) → Tracks N B v t → Balanced N t
unfolding erases_of
tracks_balanced N B v t h = λ i j hi hj. rw h.in_turn (omega (arith, balanced N v.first i j hi hj))

-- ---- one request

module _ (N B : ℕ) where
  -- no segment was erased yet, and no slot is dead
  pub tracks_stocked : 2 ≤ N → (v : View) (t : Table) → v.first ≡ 0 → distinct t ≡ true → Agree (entries_in v) t → deads v.slots ≡ 0 → Tracks N B v (stocked t)
  unfolding stocked turns
  tracks_stocked h v t f d a n = record {
    in_turn = rw f refl;
    stored = stored_blocks t (entries_in v) d a;
    most = omega (arith, blocks_length t);
    paid = record { k = 0; p = 0; boundary = rw f (omega arith); part = omega arith; paid = omega (arith, n) };
  }

  pub tracks_start : 2 ≤ N → Tracks N B (fresh B) start
  unfolding start stocked blocks fresh distinct
  tracks_start h = tracks_stocked h (fresh B) [] refl refl (λ b. rw (fresh_table B)) (omega (arith, drop_behind 0 [] (replicate B empty) (rw (copied_none B) (copied_dead B [])), deads_behind []))

  -- the blocks stored, m replaced more, these erases
  counted : List ℕ → ℕ → List ℕ → Ledger → Ledger
  counted xs m es t = record { stored = xs; largest = max t.largest (length xs); replaced = t.replaced + m; erased = t.erased ++ es }

  tracks_counted : (v : View) (t : Ledger) (xs : List ℕ) (m : ℕ) (es : List ℕ) → t.erased ++ es ≡ turns N v.first → Stored xs (entries_in v)
      → Paid (N - 1) ((N - 1) * B - t.largest) v.first v.slots (t.replaced + m) → Tracks N B v (counted xs m es t)
  unfolding counted
  tracks_counted v t xs m es e s p = record {
    in_turn = e;
    stored = s;
    most = omega arith;
    paid = paid_after ((N - 1) * B - max t.largest (length xs)) (t.replaced + m) 0 v.slots (omega arith) (omega arith) (λ p. omega arith) p;
  }

  -- a request that erases nothing and neither stores nor removes a block
  pub tracks_still : (v : View) (t : Ledger) (o : Observed) → Tracks N B v t → o.erases ≡ []
      → cond (eqb o.code 0) (stored_after o.request t.stored) t.stored ≡ t.stored
      → cond (eqb o.code 0) (replaces o.request t.stored) 0 ≡ 0
      → Tracks N B v (noted o t)
  unfolding noted counted
  tracks_still v t o h e s r =
      let p = h.paid in
      rw (e, s, r) (tracks_counted v t t.stored 0 [] (append-nil t.erased ∙ h.in_turn) h.stored
      (paid_after ((N - 1) * B - t.largest) (t.replaced + 0) 0 v.slots (omega arith) (omega arith) (λ q. omega arith) p))

  -- a slot changed: one that becomes dead is to be paid for
  pub paid_changed : {X E R : ℕ} (S n j : ℕ) (k : Slot) (v : View) → R + one (is_dead k) ≤ S → Paid (N - 1) X E v.slots R → Paid (N - 1) X E (slot_changed n j k v).slots S
  unfolding slot_changed
  paid_changed {X} S n j k v r h = paid_after X S (one (is_dead k)) _ (omega arith) r (λ q. set_slot q v.slots (n - v.first) j k) h

  pub paid_marked : {X E R : ℕ} (p : Place) (v : View) → Paid (N - 1) X E v.slots R → Paid (N - 1) X E (marked p v).slots (R + 1)
  unfolding marked is_dead one
  paid_marked {R = R} p v h = paid_changed (R + 1) p.number p.slot dead v (omega arith) h

  paid_written : {X E R : ℕ} (b : ℕ) (c : List ℕ) (v : View) → Paid (N - 1) X E v.slots R → Paid (N - 1) X E (written b c v).slots R
  unfolding written is_dead one
  paid_written {R = R} b c v h = paid_changed R (top_number v) (first_empty (top_row v.slots)) (live b c) v (omega arith) h

  -- the view after a put where there is room: no segment is erased
  pub put_first : (r : View) (b : ℕ) (c : List ℕ) → (put_into b c r).first ≡ r.first
  unfolding marked written slot_changed
  put_first r b c = go (holds b (entries_in r))
    where
      go : (u : Bool) → (cond u (marked (place_of b r) (written b c r)) (written b c r)).first ≡ r.first
      go true = refl
      go false = refl

  pub put_paid : {X R : ℕ} (r : View) (b : ℕ) (c : List ℕ) → Paid (N - 1) X r.first r.slots R
      → Paid (N - 1) X (put_into b c r).first (put_into b c r).slots (R + cond (holds b (entries_in r)) 1 0)
  put_paid {X} {R} r b c h = rw (put_first r b c) (go (holds b (entries_in r)))
    where
      go : (u : Bool) → Paid (N - 1) X r.first (cond u (marked (place_of b r) (written b c r)) (written b c r)).slots (R + cond u 1 0)
      go true = paid_marked (place_of b r) (written b c r) (paid_written b c r h)
      go false = let e : R + 0 ≡ R = omega arith in rw e (paid_written b c r h)

  few_live : (v : View) (t : Ledger) → CleanView N B v → Tracks N B v t → length (entries_in v) ≤ t.largest
  unfolding blocks_distinct
  few_live v t c h = omega (arith, stored_length t.stored (entries_in v) h.stored c.once, h.most)

  put_moved : (v : View) (t : Ledger) → CleanView N B v → Tracks N B v t → Moved N B t.largest t.replaced v (room_for N B v)
  put_moved v t c h = room_moved N B t.largest t.replaced v c (few_live v t c h) h.paid

  put_erases : (v : View) (b : ℕ) (c : List ℕ) → erases_in (put_steps N B b c v) ≡ erases_in (room_for N B v).steps
  unfolding put_steps
  put_erases v b c =
      let r = room_for N B v in
      rw (erases_append r.steps (write_at_top N B b c r.result ++ mark_old N B b r.result), written_none N B b c r.result) (append-nil (erases_in r.steps))

  pub put_few : (v : View) (b : ℕ) (c : List ℕ) → length (erases_in (put_steps N B b c v)) ≤ N - 1
  put_few v b c = rw (put_erases v b c) (room_few N B v)

  pub tracks_put : 2 ≤ N → 2 ≤ B → (v : View) (t : Ledger) (b : ℕ) (c : List ℕ) → CleanView N B v → Tracks N B v t
      → Tracks N B (after_put N B b c v) (noted (record { request = put b c; code = 0; erases = erases_in (put_steps N B b c v) }) t)
  unfolding noted stored_after replaces counted after_put
  tracks_put two slots v t b c cv h = tracks_counted (after_put N B b c v) t (inserted b t.stored) (cond (among b t.stored) 1 0) (erases_in (put_steps N B b c v))
      (rw (h.in_turn, put_erases v b c, put_first (room_for N B v).result b c) (put_moved v t cv h).in_turn)
      (stored_put t.stored (entries_in v) (entries_in (after_put N B b c v)) b c h.stored (put_stores N B two slots v b c cv))
      (rw (h.stored.same b, ← agree_holds _ _ (room_made N B two slots v cv).table b) (put_paid (room_for N B v).result b c (put_moved v t cv h).paid))

  pub tracks_delete : (v : View) (t : Ledger) (b : ℕ) → CleanView N B v → holds b (entries_in v) ≡ true → Tracks N B v t
      → Tracks N B (after_delete b v) (noted (record { request = delete b; code = 0; erases = erases_in (delete_steps N B b v) }) t)
  unfolding noted stored_after replaces counted after_delete marked slot_changed
  tracks_delete v t b cv held h = tracks_counted (after_delete b v) t (removed b t.stored) 1 (erases_in (delete_steps N B b v))
      (rw (delete_none N B b v) (append-nil t.erased ∙ h.in_turn))
      (stored_delete t.stored (entries_in v) (entries_in (after_delete b v)) b h.stored (delete_removes N B v b cv held))
      (paid_marked (place_of b v) v h.paid)
