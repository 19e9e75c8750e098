-- A put and a delete on a clean image, whole or cut: a put makes slots torn and live and, if its block is stored, one dead; a delete makes one dead; neither makes one cut.
use Rattle.std.specs.Prelude.{ℕ, ◌%◌, ◌≡◌, ◌⊎◌, ◌≢◌, true, false, List, ◌++◌}
use Rattle.std.proofs.Common.{sym, ap, ◌∙◌, inl, inr, ⊎_elim, true≢false}
use Rattle.model.specs.Chip.{Image, Bytes, right_size, run, Cut}
use Rattle.model.specs.Slot.{Slot, empty, torn, dead, cut, live, is_dead, is_cut}
use Rattle.model.specs.State.{segments_of, top_index, View, view, entries_in, holds, place_of}
use Rattle.model.specs.Steps.{top_number, top_row, first_empty, room_for, write_at_top, mark_old}
use Rattle.model.specs.Table.{table_of}
use Rattle.model.specs.Answers.{put, delete}
use Rattle.model.proofs.Laws.Chip.{cut_append, whole_cut}
use Rattle.model.proofs.Laws.SlotPage.{Valid}
use Rattle.model.proofs.Laws.Tables.{agree_holds}
use Rattle.bridge.specs.Predicted.{put_into, after_put, CleanView}
use Rattle.bridge.specs.Views.Places.{TopGap}
use Rattle.bridge.specs.Held.{Held, held_of_clean, clean_view}
use Rattle.bridge.specs.Requests.{write_top_held, put_valid, room_carries, roomed_below, roomed_held, roomed_clean, roomed_gap, roomed_table, after_clean, put_steps_lem}
use Rattle.crash.specs.Sound.{Clean, Accepted, CutOf}
use Rattle.crash.proofs.WriteTop.{write_left, mark_left}
use Rattle.crash.proofs.Delete.{delete_left}
use Rattle.origins.proofs.Readings.{Telling, not_telling}
use Rattle.origins.proofs.Fewer.{ring_paid, NoNew, no_new_image, no_new_trans, no_new_slot}
use Rattle.origins.proofs.Torn.{clean_top}
use Rattle.origins.proofs.Room.{making_room}

-- ---- written where there is room, and the old slot marked

torn_cut : torn ≢ cut
unfolding is_cut
torn_cut e = true≢false (sym (ap is_cut e))

pub dead_not : dead ≢ cut
unfolding is_cut
dead_not e = true≢false (sym (ap is_cut e))

torn_dead : torn ≢ dead
unfolding is_dead
torn_dead e = true≢false (sym (ap is_dead e))

module _ (k : Slot) (told : Telling k) (other : torn ≢ k) (N B : ℕ) (s : Image) (v : View) (h : Held N B s v) (fine : CleanView N B v) (gap : TopGap v) (b : ℕ) (c : List ℕ) (valid : Valid b c) (after : CleanView N B (put_into b c v)) where
  abbrev wrote : Image
  wrote = run B (write_at_top N B b c v) s

  writing : (u : Image) → Cut B (write_at_top N B b c v) s u → NoNew k N B s u
  writing u d =
      let (x, kind, e) = write_left N B s v h fine gap b c valid after u d in
      let new : x ≢ k = λ q. ⊎_elim (λ a. not_telling empty k told (λ t. t) (sym a ∙ q)) (λ r. ⊎_elim (λ a. other (sym a ∙ q)) (λ a. not_telling (live b c) k told (λ t. t) (sym a ∙ q)) r) kind in
      no_new_slot k N B s u (top_number v % N) (first_empty (top_row v.slots)) x new e (ring_paid N (segments_of N B s) (top_index N (segments_of N B s)) h.ring)

  unmarked : holds b (entries_in v) ≡ false → (u : Image) → Cut B (mark_old N B b v) wrote u → u ≡ wrote
  unfolding mark_old
  unmarked absent u d = rw absent at d

  -- only a block that is stored has a slot to mark
  marking : (dead ≢ k) ⊎ (holds b (entries_in v) ≡ false) → (u : Image) → Cut B (mark_old N B b v) wrote u → NoNew k N B wrote u
  marking (inr absent) u d = no_new_image k N B wrote u (unmarked absent u d)
  marking (inl n) u d = ⊎_elim (λ q. no_new_image k N B wrote u q)
      (λ q. no_new_slot k N B wrote u ((place_of b v).number % N) (place_of b v).slot dead n q (ring_paid N (segments_of N B wrote) (top_index N (segments_of N B wrote)) (write_top_held N B s v h b c valid gap).ring))
      (mark_left N B s v h fine gap b c valid after u d)

  putting : (dead ≢ k) ⊎ (holds b (entries_in v) ≡ false) → (u : Image) → Cut B (write_at_top N B b c v ++ mark_old N B b v) s u → NoNew k N B s u
  putting m u d = ⊎_elim (λ x. writing u x) (λ x. no_new_trans k N B s wrote u (writing wrote (whole_cut B (write_at_top N B b c v) s)) (marking m u x)) (cut_append B (write_at_top N B b c v) (mark_old N B b v) s u d)

-- ---- the requests

put_no_new : (k : Slot) → Telling k → torn ≢ k → (N B : ℕ) (s : Image) (z : right_size N B s ≡ true) (e : Clean N B s) (b : ℕ) (c : List ℕ) (bs : Bytes s) (bc : Bytes c) → Accepted N B s (put b c)
    → (dead ≢ k) ⊎ (holds b (table_of N B s) ≡ false) → (u : Image) → CutOf N B s (put b c) u → NoNew k N B s u
unfolding after_put table_of
put_no_new k told other N B s z e b c bs bc a m u d =
    let v = view N B s in
    let r = (room_for N B v).result in
    let xs = (room_for N B v).steps in
    let stored : holds b (entries_in r) ≡ holds b (entries_in v) = agree_holds (entries_in r) (entries_in v) (roomed_table N B s z e b c bs bc a) b in
    let room = making_room k told N B s v (held_of_clean N B s z e) bs (clean_view N B s z e) (room_carries N B s z e b c bs bc a) (roomed_below N B s z e b c bs bc a) in
    ⊎_elim (λ q. room u q)
    (λ q. no_new_trans k N B s (run B xs s) u (room (run B xs s) (whole_cut B xs s))
    (putting k told other N B (run B xs s) r (roomed_held N B s z e b c bs bc a) (roomed_clean N B s z e b c bs bc a) (roomed_gap N B s z e b c bs bc a) b c (put_valid N B s z e b c bs bc a) (after_clean N B s z e b c bs bc a) (⊎_elim (λ n. inl n) (λ n. inr (stored ∙ n)) m) u q))
    (cut_append B xs (write_at_top N B b c r ++ mark_old N B b r) s u (rw (put_steps_lem N B s z e b c bs bc a) at d))

module _ (N B : ℕ) (s : Image) (z : right_size N B s ≡ true) (e : Clean N B s) (b : ℕ) (c : List ℕ) (bs : Bytes s) (bc : Bytes c) (a : Accepted N B s (put b c)) (u : Image) (d : CutOf N B s (put b c) u) where
  pub put_uncut : NoNew cut N B s u
  put_uncut = put_no_new cut tt torn_cut N B s z e b c bs bc a (inl dead_not) u d

  -- a put of a block that is not stored
  pub put_undead : holds b (table_of N B s) ≡ false → NoNew dead N B s u
  put_undead n = put_no_new dead tt torn_dead N B s z e b c bs bc a (inr n) u d

pub delete_no_new : (k : Slot) → dead ≢ k → (N B : ℕ) (s : Image) (z : right_size N B s ≡ true) (e : Clean N B s) (b : ℕ) → Accepted N B s (delete b) → (u : Image) → CutOf N B s (delete b) u → NoNew k N B s u
delete_no_new k n N B s z e b a u d = ⊎_elim (λ q. no_new_image k N B s u q)
    (λ q. no_new_slot k N B s u ((place_of b (view N B s)).number % N) (place_of b (view N B s)).slot dead n q (clean_top N B s e))
    (delete_left N B s b z e a u d)
