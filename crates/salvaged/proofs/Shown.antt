-- What salvage gives on a clean image is its table, and on an unfinished one what recovery shows.
use Prim.Native.Nat.{ℕ, suc, ◌+◌, ◌-◌, ◌%◌, ◌≤◌, ◌<◌}
use Rattle.std.specs.Prelude.{◌≡◌, ◌≢◌, Bool, false, ◌&&◌, set, ltb, eqb}
use Rattle.std.proofs.Math.Path.{refl, sym, ap}
use Rattle.std.proofs.Common.{◌∙◌, arith, mod-lt, length-set, get_or-set_other}
use Rattle.std.proofs.Math.Bool.{true}
use Rattle.std.proofs.lemmas.Bool.{false≢true}
use mathlib.Core.List.{List, map}
use Rattle.std.proofs.Math.ListN.{length, get_or}
use borrow.Author.Tests.{eqb-true, lt-ltb}
use Rattle.model.specs.Chip.{Image, right_size}
use Rattle.model.specs.Slot.{Slot, empty, torn, dead, cut, wrong, live, is_torn, entry_of}
use Rattle.model.specs.State.{Segment, blank, invalid, in_use, is_in_use, is_invalid, is_owing, number_after, slots_in, segments_of, next_number, top_index, next_index, top_slots, used_count, first_number, view_of, entries, entries_in, holds, distinct, blocks_distinct, is_clean, next_blanked, is_a, settled, top_settled, is_b, with_slot, last_slot, last_kind, torn_marked, is_c, Place, place_of, last_block, copies, older, older_marked, is_d, Exception, case_a, case_b, case_c, case_d, State, clean, unfinished, damaged, state}
use Rattle.model.specs.Table.{Table}
use Rattle.model.specs.Histories.{shown}
use Rattle.model.specs.Laws.Lists.{and_left, and_right}
use Rattle.model.proofs.Laws.Chip.{size_facts}
use Rattle.model.proofs.Laws.Segments.{segments_length}
use Rattle.model.proofs.Laws.Tables.{holds_copies, without_first}
use Rattle.model.proofs.Laws.Ring.{owing_number, next_ge, slots_length}
use Rattle.model.proofs.Laws.Clean.{RingFacts, clean_ring, clean_slots, state_clean, used_next}
use Rattle.model.proofs.Laws.View.{with_slot_number, with_slot_use, with_slot_owing, with_slot_invalid, with_slot_of, slot_view}
use Rattle.model.proofs.Laws.Exclusive.{invalid_paid, no_owing}
use Rattle.bridge.specs.Predicted.{marked}
use Rattle.bridge.specs.Views.Places.{first_live, fill_length, marked_entries}
use Rattle.crash.specs.Alike.{index_apart}
use Rattle.crash.proofs.Requests.{shown_clean}
use Rattle.crash.proofs.States.{is_case, mended, case_of, mended_shown, table_in}
use Rattle.crash.proofs.Recover.{recovery_mends}
use Rattle.account_text.specs.Account.{live_slots}
use Rattle.salvage.specs.Salvage.{regarded, candidates, held_in, salvaged}
use Rattle.salvage.proofs.Given.{lasts, lasts_distinct, lasts_twice, given_lasts}
use Rattle.salvage.proofs.Ring.{chained_view, ring_chained, clean_lives}
use Rattle.salvaged.specs.Law.{SalvagedTable}
use Rattle.salvaged.specs.Kept.{entries_set, with_slots, ring_kept, clean_kept, none_owing_lem}

-- ---- what is looked at

regarded_all : (N : ℕ) (l : List Segment) → is_owing (get_or l (top_index N l) blank) ≡ false → regarded N l ≡ l
unfolding regarded
regarded_all N l e = rw e

regarded_rest : (N : ℕ) (l : List Segment) → is_owing (get_or l (top_index N l) blank) ≡ true → regarded N l ≡ next_blanked N l
unfolding regarded
regarded_rest N l e = rw e

-- what is given of these segments
abbrev pub lasts_of : ℕ → List Segment → Table
lasts_of N l = lasts (map held_in (live_slots N (regarded N l)))

pub salvaged_lasts : (N B : ℕ) (s : Image) → salvaged N B s ≡ lasts_of N (segments_of N B s)
unfolding salvaged candidates
salvaged_lasts N B s = given_lasts (live_slots N (regarded N (segments_of N B s)))

module _ (N B : ℕ) (l : List Segment) (size : length l ≡ N) (two : 2 ≤ N) where
  index_below : (n : ℕ) → n % N < length l
  index_below n = let p : 0 < N = omega arith in omega (arith, mod-lt n p)

  -- ---- clean

  pub clean_regarded : is_clean N B l ≡ true → regarded N l ≡ l
  clean_regarded h = regarded_all N l (go (is_owing (get_or l (top_index N l) blank)) refl)
    where
      go : (t : Bool) → is_owing (get_or l (top_index N l) blank) ≡ t → t ≡ false
      go true e = absurd (no_owing N B l size h (top_index N l) e)
      go false e = refl

  pub clean_given : is_clean N B l ≡ true → lasts_of N l ≡ entries_in (view_of N l)
  unfolding blocks_distinct
  clean_given h = rw (clean_regarded h, clean_lives N B l size h) (lasts_distinct (entries_in (view_of N l)) (clean_slots N B l h).once)

  -- ---- (a): the segment after the top is none in use, so that it may as well be blank

  alike_invalid : (x : Segment) → is_invalid x ≡ true → (number_after blank ≡ number_after x) × (is_in_use blank ≡ is_in_use x) × (entries (slots_in blank) ≡ entries (slots_in x))
  unfolding is_invalid number_after is_in_use slots_in
  alike_invalid blank h = absurd (false≢true h)
  alike_invalid invalid h = (refl, refl, refl)
  alike_invalid (in_use ver st n ks) h = absurd (false≢true h)

  a_given : is_a N B l ≡ true → lasts_of N l ≡ entries_in (view_of N (next_blanked N l))
  unfolding is_a next_blanked next_index
  a_given h =
      let i = next_number l % N in
      let bad = and_left (is_invalid (get_or l i blank)) (is_clean N B (set l i blank)) h in
      let fine = and_right (is_invalid (get_or l i blank)) (is_clean N B (set l i blank)) h in
      let same = alike_invalid (get_or l i blank) bad in
      rw (regarded_all N l (none_owing_lem N B l i blank (top_index N l) size (invalid_paid (get_or l i blank) bad) fine))
      (clean_kept N l i blank (index_below (next_number l)) same.0 same.1 B size fine same.2)

  -- ---- (b): the old segment is left aside, and the top has the same slots when it is settled

  alike_settled : (x : Segment) → (number_after (settled x) ≡ number_after x) × (is_in_use (settled x) ≡ is_in_use x) × (entries (slots_in (settled x)) ≡ entries (slots_in x))
  unfolding settled number_after is_in_use slots_in
  alike_settled blank = (refl, refl, refl)
  alike_settled invalid = (refl, refl, refl)
  alike_settled (in_use ver st n ks) = (refl, refl, refl)

  b_given : is_b N B l ≡ true → lasts_of N l ≡ entries_in (view_of N (top_settled N l))
  unfolding is_b top_settled
  b_given h =
      let top = top_index N l in
      let x = get_or l top blank in
      let owing = and_left (is_owing x) (eqb (used_count (top_settled N l)) (N - 1) && is_clean N B (top_settled N l)) h in
      let fine = and_right (eqb (used_count (top_settled N l)) (N - 1)) (is_clean N B (top_settled N l)) (and_right (is_owing x) (eqb (used_count (top_settled N l)) (N - 1) && is_clean N B (top_settled N l)) h) in
      let same = alike_settled x in
      let here = stays owing in
      rw (regarded_rest N l owing)
      (clean_kept N (next_blanked N l) top (settled x) inside (same.0 ∙ ap number_after (sym here)) (same.1 ∙ ap is_in_use (sym here)) B blanked fine (same.2 ∙ ap (λ (y : Segment). entries (slots_in y)) (sym here)))
    where
      blanked : length (next_blanked N l) ≡ N
      blanked = unfold next_blanked in (length-set l (next_index N l) blank ∙ size)

      inside : top_index N l < length (next_blanked N l)
      inside = unfold top_index in (omega (arith, blanked, size, index_below (next_number l - 1)))

      stays : is_owing (get_or l (top_index N l) blank) ≡ true → get_or (next_blanked N l) (top_index N l) blank ≡ get_or l (top_index N l) blank
      stays o = unfold next_blanked top_index next_index in
          (get_or-set_other l (next_number l % N) ((next_number l - 1) % N) blank blank (index_apart N (next_number l) two (omega (arith, owing_number (get_or l ((next_number l - 1) % N) blank) (unfold top_index in o), next_ge l ((next_number l - 1) % N)))))

  -- ---- (c): a torn slot holds nothing, as one that a cut left

  torn_none : (k : Slot) → is_torn k ≡ true → entry_of cut ≡ entry_of k
  unfolding is_torn entry_of
  torn_none empty h = absurd (false≢true h)
  torn_none torn h = refl
  torn_none dead h = absurd (false≢true h)
  torn_none cut h = absurd (false≢true h)
  torn_none wrong h = absurd (false≢true h)
  torn_none (live b c) h = absurd (false≢true h)

  c_given : is_c N B l ≡ true → lasts_of N l ≡ entries_in (view_of N (torn_marked N l))
  unfolding is_c torn_marked last_kind top_slots top_index
  c_given h =
      let i = (next_number l - 1) % N in
      let x = get_or l i blank in
      let j = last_slot N l in
      let y = with_slot j cut x in
      let is_torn_lem = and_left (is_torn (get_or (slots_in x) j empty)) (is_clean N B (set l i y)) h in
      let fine = and_right (is_torn (get_or (slots_in x) j empty)) (is_clean N B (set l i y)) h in
      rw (regarded_all N l (none_owing_lem N B l i y (top_index N l) size (with_slot_owing j cut x) fine))
      (clean_kept N l i y (index_below (next_number l - 1)) (with_slot_number j cut x) (with_slot_use j cut x) B size fine
      (ap entries (with_slots j cut x) ∙ entries_set (slots_in x) j cut (torn_none (get_or (slots_in x) j empty) is_torn_lem)))

  -- ---- (d): of the two the older is left out

  d_given : is_d N B l ≡ true → lasts_of N l ≡ entries_in (view_of N (older_marked N l))
  unfolding is_d older_marked older
  d_given h =
      let b = last_block N l in
      let v = view_of N l in
      let p = place_of b v in
      let i = p.number % N in
      let x = get_or l i blank in
      let y = with_slot p.slot dead x in
      let r = and_right (ltb 0 b) (eqb (copies b (entries_in v)) 2 && is_clean N B (set l i y)) h in
      let twice = eqb-true (copies b (entries_in v)) 2 (and_left (eqb (copies b (entries_in v)) 2) (is_clean N B (set l i y)) r) in
      let fine = and_right (eqb (copies b (entries_in v)) 2) (is_clean N B (set l i y)) r in
      let ring : RingFacts N l = ring_kept N l i y (index_below p.number) (with_slot_number p.slot dead x) (with_slot_use p.slot dead x)
      (with_slot_owing p.slot dead x) (with_slot_invalid p.slot dead x) (λ k. with_slot_of p.slot dead k x) (clean_ring N B (set l i y) (length-set l i y ∙ size) fine) in
      let without = without_older ring b (holds_copies b (entries_in v) ∙ lt-ltb 0 (copies b (entries_in v)) (omega (arith, twice))) in
      rw (regarded_all N l (none_owing_lem N B l i y (top_index N l) size (with_slot_owing p.slot dead x) fine), chained_view N l (ring_chained N l ring), without)
      (lasts_twice b (entries_in v) twice (sym (ap distinct without) ∙ once (set l i y) fine))
    where
      once : (m : List Segment) → is_clean N B m ≡ true → distinct (entries_in (view_of N m)) ≡ true
      once m c = unfold blocks_distinct in (clean_slots N B m c).once

      without_older : RingFacts N l → (b : ℕ) → holds b (entries_in (view_of N l)) ≡ true
          → entries_in (view_of N (set l ((place_of b (view_of N l)).number % N) (with_slot (place_of b (view_of N l)).slot dead (get_or l ((place_of b (view_of N l)).number % N) blank)))) ≡ without_first b (entries_in (view_of N l))
      without_older ring b q =
          let v = view_of N l in
          let f = first_live b v.first v.slots (unfold entries_in in q) in
          let at : (place_of b v).number ≡ v.first + length f.gap.rows_before = (unfold place_of in (ap (λ (p : Place). p.number) f.place)) in
          let start : v.first ≡ first_number l = (unfold view_of in refl) in
          let rows : length v.slots ≡ used_count l = (unfold view_of in (slots_length N l (used_count l) (first_number l))) in
          let split : length v.slots ≡ length f.gap.rows_before + suc (length f.gap.rows_after) = ap length f.split ∙ fill_length f.gap (live b f.contents) in
          let changed = slot_view N l ring (place_of b v).number (place_of b v).slot dead (omega arith) (omega (arith, used_next N l ring)) in
          ap entries_in changed ∙ (unfold marked in (marked_entries b v f))

-- ---- of an image

-- the mended segments
case_given : (N B : ℕ) (l : List Segment) (x : Exception) → length l ≡ N → 2 ≤ N → is_case N B l x ≡ true → lasts_of N l ≡ entries_in (view_of N (mended N l x))
unfolding is_case mended
case_given N B l case_a size two h = a_given N B l size two h
case_given N B l case_b size two h = b_given N B l size two h
case_given N B l case_c size two h = c_given N B l size two h
case_given N B l case_d size two h = d_given N B l size two h

pub salvaged_table : SalvagedTable
salvaged_table = λ N B s z n. go N B s z n (state N B s) refl
  where
    go : (N B : ℕ) (s : Image) → right_size N B s ≡ true → state N B s ≢ damaged → (x : State) → state N B s ≡ x → salvaged N B s ≡ shown N B s
    go N B s z n clean e =
        let l = segments_of N B s in
        salvaged_lasts N B s ∙ (clean_given N B l (segments_length N B s) (size_facts N B s z).two (state_clean N B l (unfold state in e)) ∙ (sym (table_in N B s l refl) ∙ sym (shown_clean N B s e)))
    go N B s z n (unfinished x) e =
        let l = segments_of N B s in
        salvaged_lasts N B s ∙ (case_given N B l x (segments_length N B s) (size_facts N B s z).two (case_of N B l x (unfold state in e)) ∙ sym (mended_shown N B s x z e (recovery_mends N B s z x e)))
    go N B s z n damaged e = absurd (n e)

pub clean_fine : (x : State) → x ≡ clean → x ≢ damaged
clean_fine x e f = let y : ◌≡◌ {A = ℕ} 0 1 = cc in omega arith
