-- A block put where there is room, cut anywhere: its slot written at the top's first empty place, and then the old one marked, which is the recovery of state (d).
use Prim.Native.Nat.{ℕ, suc, ◌-◌, ◌%◌, ◌≤◌, ◌<◌}
use Rattle.std.specs.Prelude.{◌≡◌, ◌⊎◌, Bool, cond, ltb}
use Rattle.std.proofs.Math.Path.{refl, sym, ap, ap₂}
use Rattle.std.proofs.Common.{◌∙◌, set-set, get_or-set_same}
use Rattle.std.proofs.Math.Logic.{inl, inr, ⊎_elim}
use Rattle.std.proofs.Math.Bool.{true, false}
use mathlib.Core.List.{List, [], ◌∷◌, ◌++◌, flatten}
use native.Mathlib.Omega.{arith}
use Rattle.std.proofs.Math.ListN.{length, get_or, set}
use Rattle.std.proofs.lemmas.List.{set-get_or, set_at, get_or_at}
use Rattle.model.specs.Chip.{Image, right_size, run, Cut}
use Rattle.model.specs.Header.{Version, is_former}
use Rattle.model.specs.Slot.{Slot, empty, torn, dead, cut, live, slot_of, is_empty, is_torn, is_wrong, entry_of, number_ok}
use Rattle.model.specs.State.{Segment, blank, in_use, segments_of, slots_in, number_after, next_number, top_index, top_slots, first_number, View, view_of, view, entries, entries_in, holds, distinct, is_clean, with_slot, filled, last_slot, last_kind, torn_marked, is_c, place_of, block_in, last_block, copies, older, older_marked, is_d, case_c, case_d}
use Rattle.model.specs.Steps.{top_row, top_number, first_empty, write_slot, mark_place, mark_old, mend_steps, write_at_top}
use Rattle.model.specs.Answers.{recover, work_of}
use Rattle.model.specs.Laws.Lists.{and_left, and_both}
use Rattle.model.proofs.Laws.Chip.{SizeFacts, size_facts, whole_cut, cut_append, cut_size}
use Rattle.model.proofs.Laws.SlotPage.{Valid, write_in_page}
use Rattle.model.proofs.Laws.PageCuts.{write_cut_kind}
use Rattle.model.proofs.Laws.Tables.{copies_append, copies_cons_same, copies_none, held_copies, distinct_copies}
use Rattle.model.proofs.Laws.Effects.{slot_cut, empty_page, write_effect}
use Rattle.model.proofs.Laws.Ring.{next_kept}
use Rattle.model.proofs.Laws.Clean.{index_inside}
use Rattle.model.proofs.Laws.View.{slot_ring, slot_view}
use Rattle.bridge.specs.Predicted.{slot_changed, written, put_into, CleanView}
use Rattle.bridge.specs.Views.Slots.{filled_at}
use Rattle.bridge.specs.Views.Places.{fill, fill_entries, fill_changed, TopGap, written_entries, written_place, written_holds, gap_row, InView, in_view}
use Rattle.bridge.specs.Views.Shape.{clean_shape, shape_clean, clean_distinct, clean_within, filled_shape}
use Rattle.bridge.specs.Held.{Held, held_first, held_top, held_row, held_clean, segments_clean}
use Rattle.bridge.specs.Requests.{write_top_held, put_version, put_held}
use Rattle.crash.specs.Sound.{LeftWith}
use Rattle.crash.specs.Tops.{SameTop, same_image, same_trans, same_slot}
use Rattle.crash.proofs.States.{is_case, mended, SoundWith, with_shows, kept_with}
use Rattle.crash.proofs.RoomTorn.{held_shows}
use Rattle.crash.proofs.RecoverMarks.{Marks, live_place, live_marks, mark_segments, mark_whole}
use Rattle.crash.proofs.Recover.{case_steps, case_shows, recover_cut}

-- ---- another slot at the top's first empty place

module _ (N B : ℕ) (s : Image) (v : View) (h : Held N B s v) (clean : CleanView N B v) (gap : TopGap v) where
  abbrev segments : List Segment
  segments = segments_of N B s

  size : SizeFacts N B s
  size = size_facts N B s h.size

  -- the number of the top, and the place of its first empty slot
  abbrev n : ℕ
  n = top_number v

  abbrev j : ℕ
  j = first_empty (top_row v.slots)

  -- the top's row, and the segments, with another slot there
  abbrev row : Slot → List Slot
  row k = gap.gap.before ++ (k ∷ gap.gap.after)

  abbrev changed : Slot → List Segment
  changed k = set segments (n % N) (with_slot j k (get_or segments (n % N) blank))

  place : InView B v gap.gap empty
  place = in_view B v gap.gap empty gap.split clean.rows

  inside : j < B
  inside = rw gap.slot place.short

  top_segment : (ver : Version) × (st : ℕ) × (get_or segments (n % N) blank ≡ in_use ver st n (row empty))
  top_segment =
      let x = held_row N B s v h (length gap.gap.rows_before) place.row in
      let r : get_or v.slots (length gap.gap.rows_before) [] ≡ row empty = ap (λ (y : List (List Slot)). get_or y (length gap.gap.rows_before) []) gap.split ∙ gap_row gap.gap empty in
      (x.0, x.1, rw (← gap.number, r) at x.2)

  row_at : (k : Slot) → get_or (row k) j empty ≡ k
  row_at k = get_or_at gap.gap.before k gap.gap.after empty j (sym gap.slot)

  top_inside : n % N < length segments
  top_inside = index_inside N segments h.ring n

  with_slot_lem : (k m : Slot) → with_slot j k (in_use top_segment.0 top_segment.1 n (row m)) ≡ in_use top_segment.0 top_segment.1 n (row k)
  unfolding with_slot
  with_slot_lem k m = ap (λ y. in_use top_segment.0 top_segment.1 n y) (set_at gap.gap.before m gap.gap.after k j (sym gap.slot))

  changed_as : (k : Slot) → changed k ≡ set segments (n % N) (in_use top_segment.0 top_segment.1 n (row k))
  changed_as k = ap (λ (y : Segment). set segments (n % N) y) (ap (λ y. with_slot j k y) top_segment.2 ∙ with_slot_lem k empty)

  changed_top : (k : Slot) → get_or (changed k) (n % N) blank ≡ in_use top_segment.0 top_segment.1 n (row k)
  changed_top k = ap (λ (y : List Segment). get_or y (n % N) blank) (changed_as k) ∙ get_or-set_same segments (n % N) (in_use top_segment.0 top_segment.1 n (row k)) blank top_inside

  -- changed again
  changed_twice : (k m : Slot) → set (changed k) (n % N) (with_slot j m (get_or (changed k) (n % N) blank)) ≡ changed m
  changed_twice k m =
      ap₂ {C = List Segment} (λ y x. set y (n % N) x) (changed_as k) (ap (λ y. with_slot j m y) (changed_top k) ∙ with_slot_lem m k)
      ∙ (set-set segments (n % N) (in_use top_segment.0 top_segment.1 n (row k)) (in_use top_segment.0 top_segment.1 n (row m)) ∙ sym (changed_as m))

  changed_same : changed empty ≡ segments
  changed_same = changed_as empty ∙ (ap (λ (y : Segment). set segments (n % N) y) (sym top_segment.2) ∙ set-get_or segments (n % N) blank)

  low : first_number segments ≤ n
  low = omega (arith, gap.number, held_first N B s v h)

  high : n < next_number segments
  high = omega (arith, held_top N B s v h)

  changed_view : (k : Slot) → view_of N (changed k) ≡ record { first = v.first; slots = fill gap.gap k; version = v.version }
  unfolding view
  changed_view k = slot_view N segments h.ring n j k low high
      ∙ (ap (λ y. slot_changed n j k y) h.view ∙ fill_changed v gap.gap empty k n j gap.split gap.number gap.slot)

  changed_next : (k : Slot) → next_number (changed k) ≡ suc n
  unfolding number_after
  changed_next k = ap next_number (changed_as k)
      ∙ (next_kept segments (n % N) (in_use top_segment.0 top_segment.1 n (row k)) (ap number_after (sym top_segment.2)) ∙ sym (held_top N B s v h))

  -- it is the last of the top that is not empty
  changed_index : (k : Slot) → top_index N (changed k) ≡ n % N
  unfolding top_index
  changed_index k = let e : suc n - 1 ≡ n = omega arith in rw (changed_next k, e)

  changed_slots : (k : Slot) → top_slots N (changed k) ≡ row k
  unfolding top_slots slots_in
  changed_slots k = rw (changed_index k, changed_top k)

  changed_place : (k : Slot) → is_empty k ≡ false → last_slot N (changed k) ≡ j
  unfolding last_slot
  changed_place k e = ap (λ y. filled y - 1) (changed_slots k) ∙ (ap (λ (y : ℕ). y - 1) (filled_at gap.gap.before k gap.gap.after e gap.empty_after) ∙ omega (arith, gap.slot))

  changed_last : (k : Slot) → is_empty k ≡ false → last_kind N (changed k) ≡ k
  unfolding last_kind
  changed_last k e = ap₂ (λ (x : List Slot) (y : ℕ). get_or x y empty) (changed_slots k) (changed_place k e) ∙ row_at k

  -- ---- torn: state (c), with the old table

  abbrev pub cut_view : View
  cut_view = record { first = v.first; slots = fill gap.gap cut; version = v.version }

  -- a cut slot holds no more than an empty one
  cut_entries : entries_in cut_view ≡ entries_in v
  unfolding entries_in entry_of
  cut_entries = fill_entries gap.gap cut ∙ sym (ap (λ (y : List (List Slot)). entries (flatten y)) gap.split ∙ fill_entries gap.gap empty)

  cut_clean : CleanView N B cut_view
  unfolding is_wrong is_torn is_empty
  cut_clean = shape_clean (filled_shape cut refl refl (clean_shape clean) gap)
      (ap distinct cut_entries ∙ clean_distinct clean) (omega (arith, ap length cut_entries, clean_within clean))

  torn_mended : mended N (changed torn) case_c ≡ changed cut
  unfolding mended torn_marked is_empty
  torn_mended = rw (changed_index torn, changed_place torn refl) (changed_twice torn cut)

  torn_case : is_case N B (changed torn) case_c ≡ true
  unfolding is_case is_c is_empty is_torn mended
  torn_case = and_both (is_torn (last_kind N (changed torn))) (is_clean N B (torn_marked N (changed torn))) (ap is_torn (changed_last torn refl))
      (ap (λ y. is_clean N B y) torn_mended ∙ segments_clean N B (changed cut) (slot_ring N segments h.ring n j cut low high) (rw (changed_view cut) cut_clean))

  torn_left : (u : Image) → right_size N B u ≡ true → segments_of N B u ≡ changed torn → SoundWith N B u cut_view
  torn_left u z e = rw (changed_view cut) at (case_shows N B u case_c z (rw e torn_case) (changed cut) (rw e torn_mended) tt)

  -- ---- live: clean if the block was not stored, and state (d) if it was, with the new table

  module _ (b : ℕ) (c : List ℕ) (valid : Valid b c) (after : CleanView N B (put_into b c v)) where
    abbrev wrote : Image
    wrote = run B (write_at_top N B b c v) s

    wrote_held : Held N B wrote (written b c v)
    wrote_held = write_top_held N B s v h b c valid gap

    wrote_segments : segments_of N B wrote ≡ changed (live b c)
    unfolding write_at_top
    wrote_segments = write_effect N B size.two s size.whole n j top_segment.0 top_segment.1 n (row empty) inside top_segment.2 b c valid (row_at empty)

    new_left : holds b (entries_in v) ≡ false → (u : Image) → segments_of N B u ≡ segments_of N B wrote → SoundWith N B u (put_into b c v)
    new_left absent u e = rw absent (held_shows N B wrote (written b c v) u wrote_held (rw absent at after) e)

    module _ (stored : holds b (entries_in v) ≡ true) where
      abbrev both : List Segment
      both = segments_of N B wrote

      both_view : view_of N both ≡ written b c v
      unfolding view
      both_view = wrote_held.view

      both_place : place_of b (view_of N both) ≡ place_of b v
      both_place = ap (λ y. place_of b y) both_view ∙ written_place b b c v gap stored

      last_block_lem : last_block N both ≡ b
      unfolding last_block block_in entry_of is_empty
      last_block_lem = ap (λ y. block_in (entry_of (last_kind N y))) wrote_segments ∙ ap (λ y. block_in (entry_of y)) (changed_last (live b c) refl)

      older_place : older N both ≡ place_of b v
      unfolding older
      older_place = ap (λ (y : ℕ). place_of y (view_of N both)) last_block_lem ∙ both_place

      -- the older slot marked: clean, with the new view
      abbrev only_new : Image
      only_new = run B (mark_place N B (place_of b v)) wrote

      new_held : Held N B only_new (put_into b c v)
      unfolding mark_old
      new_held = rw stored (rw stored at (put_held N B s v h b c valid gap))

      marks : Marks (get_or (slots_in (get_or both ((place_of b v).number % N) blank)) (place_of b v).slot empty) dead
      marks = rw both_place at (live_marks (live_place N both b (ap (λ (y : View). holds b (entries_in y)) both_view ∙ written_holds b c v gap stored)))

      older_mended : mended N both case_d ≡ segments_of N B only_new
      unfolding mended older_marked
      older_mended = rw older_place (sym (mark_segments N B wrote wrote_held.size (place_of b v).number (place_of b v).slot dead marks))

      twice : copies b (entries_in (view_of N both)) ≡ 2
      twice =
          let e = ap (λ (y : View). copies b (entries_in y)) both_view ∙ (ap (λ y. copies b y) (written_entries b c v gap) ∙ copies_append b (entries_in v) (record { block = b; contents = c } ∷ [])) in
          omega (arith, e, copies_cons_same b (record { block = b; contents = c }) [] refl, copies_none b, held_copies b (entries_in v) stored, distinct_copies (entries_in v) (clean_distinct clean) b)

      both_case : is_case N B both case_d ≡ true
      unfolding is_case is_d number_ok mended
      both_case = rw (last_block_lem, older_mended, twice, held_clean N B only_new (put_into b c v) new_held after) (and_both (ltb 0 b) true (and_left (ltb 0 b) (ltb b 65535) valid.number) refl)

      stored_steps : (work_of N B wrote recover).steps ≡ mark_place N B (place_of b v)
      unfolding mend_steps
      stored_steps = case_steps N B wrote case_d wrote_held.size both_case ∙ ap (λ y. mark_place N B y) older_place

      stored_left : (u : Image) → right_size N B u ≡ true → segments_of N B u ≡ segments_of N B wrote → SoundWith N B u (put_into b c v)
      unfolding view
      stored_left u z e = rw new_held.view at (case_shows N B u case_d z (rw e both_case) (segments_of N B only_new) (rw e older_mended) tt)

    live_left : (u : Image) → right_size N B u ≡ true → segments_of N B u ≡ segments_of N B wrote → SoundWith N B u (put_into b c v)
    live_left u z e = go (holds b (entries_in v)) refl
      where
        go : (t : Bool) → holds b (entries_in v) ≡ t → SoundWith N B u (put_into b c v)
        go true k = stored_left k u z e
        go false k = new_left k u e

    -- ---- cut in writing the slot, or in marking the old one

    -- the slot is empty still, or torn, or live
    pub write_left : (u : Image) → Cut B (write_at_top N B b c v) s u → (k : Slot) × ((k ≡ empty) ⊎ ((k ≡ torn) ⊎ (k ≡ live b c)))
        × (segments_of N B u ≡ set (segments_of N B s) (top_number v % N) (with_slot (first_empty (top_row v.slots)) k (get_or (segments_of N B s) (top_number v % N) blank)))
    unfolding write_at_top
    write_left u k =
        let x = slot_cut N B size.two s size.whole n j top_segment.0 top_segment.1 n (row empty) inside top_segment.2 (write_slot b c) (write_in_page b c valid.short) u k in
        let p = rw (empty_page N B size.two s size.whole n j top_segment.0 top_segment.1 n (row empty) inside top_segment.2 (row_at empty)) at x.1 in
        (slot_of x.0, write_cut_kind B b c x.0 valid p, x.2)

    -- what a recovery makes of it: nothing written, a cut slot, or the block put
    abbrev pub LeftPut : Image → Type 0
    LeftPut u = SoundWith N B u v ⊎ (SoundWith N B u cut_view ⊎ SoundWith N B u (put_into b c v))

    write_cut : (u : Image) → Cut B (write_at_top N B b c v) s u → LeftPut u
    write_cut u k =
        let z = cut_size N B (write_at_top N B b c v) s u k ∙ h.size in
        let (x, q, e) = write_left u k in
        ⊎_elim
        (λ d. inl (held_shows N B s v u h clean ((rw d at e) ∙ changed_same)))
        (λ w. inr (⊎_elim (λ d. inl (torn_left u z (rw d at e))) (λ d. inr (live_left u z ((rw d at e) ∙ sym wrote_segments))) w))
        q

    -- the old slot is marked or not
    pub mark_left : (u : Image) → Cut B (mark_old N B b v) (run B (write_at_top N B b c v) s) u → (u ≡ run B (write_at_top N B b c v) s)
        ⊎ (segments_of N B u ≡ set (segments_of N B (run B (write_at_top N B b c v) s)) ((place_of b v).number % N)
        (with_slot (place_of b v).slot dead (get_or (segments_of N B (run B (write_at_top N B b c v) s)) ((place_of b v).number % N) blank)))
    unfolding mark_old
    mark_left u k = go (holds b (entries_in v)) refl k
      where
        go : (t : Bool) → holds b (entries_in v) ≡ t → Cut B (cond t (mark_place N B (place_of b v)) []) wrote u
            → (u ≡ wrote) ⊎ (segments_of N B u ≡ set (segments_of N B wrote) ((place_of b v).number % N) (with_slot (place_of b v).slot dead (get_or (segments_of N B wrote) ((place_of b v).number % N) blank)))
        go false e d = inl d
        go true e d = ⊎_elim (λ q. inl q)
            (λ q. inr (ap (λ y. segments_of N B y) q ∙ mark_segments N B wrote wrote_held.size (place_of b v).number (place_of b v).slot dead (marks e)))
            (mark_whole N B wrote wrote_held.size (place_of b v).number (place_of b v).slot dead (marks e) u d)

    mark_cut : (u : Image) → Cut B (mark_old N B b v) wrote u → SoundWith N B u (put_into b c v)
    unfolding mark_old
    mark_cut u k = go (holds b (entries_in v)) refl k
      where
        go : (t : Bool) → holds b (entries_in v) ≡ t → Cut B (cond t (mark_place N B (place_of b v)) []) wrote u → SoundWith N B u (put_into b c v)
        go true e d =
            let w = stored_left e wrote wrote_held.size refl in
            kept_with N B wrote u (put_into b c v) w (recover_cut N B wrote u wrote_held.size w.0 (rw (stored_steps e) d))
        go false e d = new_left e u (ap (λ y. segments_of N B y) d)

    -- the top is the same
    pub put_into_top : (u : Image) → Cut B (write_at_top N B b c v ++ mark_old N B b v) s u → SameTop N B s u
    put_into_top u k = ⊎_elim (λ d. write_top u d) (λ d. same_trans N B s wrote u (write_top wrote (whole_cut B (write_at_top N B b c v) s)) (mark_top d)) (cut_append B (write_at_top N B b c v) (mark_old N B b v) s u k)
      where
        write_top : (w : Image) → Cut B (write_at_top N B b c v) s w → SameTop N B s w
        write_top w d = let (x, q, e) = write_left w d in same_slot N B s w (n % N) j x e

        mark_top : Cut B (mark_old N B b v) wrote u → SameTop N B wrote u
        mark_top d = ⊎_elim (λ q. same_image N B wrote u q) (λ q. same_slot N B wrote u ((place_of b v).number % N) (place_of b v).slot dead q) (mark_left u d)

    pub put_into_left : (u : Image) → Cut B (write_at_top N B b c v ++ mark_old N B b v) s u → LeftPut u
    put_into_left u k = ⊎_elim (λ d. write_cut u d) (λ d. inr (inr (mark_cut u d))) (cut_append B (write_at_top N B b c v) (mark_old N B b v) s u k)

    pub put_into_cut : (u : Image) → Cut B (write_at_top N B b c v ++ mark_old N B b v) s u → LeftWith N B u (entries_in v) (entries_in (put_into b c v)) (is_former v.version)
    put_into_cut u k = ⊎_elim
        (λ d. let r = with_shows N B u v d in (r.0, inl r.1, r.2))
        (λ w. ⊎_elim
        (λ d. let r = with_shows N B u cut_view d in (r.0, inl (rw cut_entries at r.1), r.2))
        (λ d. let r = with_shows N B u (put_into b c v) d in (r.0, inr r.1, r.2 ∙ put_version b c v))
        w)
        (put_into_left u k)
