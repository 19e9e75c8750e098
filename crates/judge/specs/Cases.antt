-- The state of an image by cases: conditions 1 to 4 with (a) and (b) look at headers, 5 to 8 with (c) and (d) at the view.
use Rattle.std.specs.Prelude.{ℕ, suc, ◌+◌, ◌-◌, ◌%◌, ◌≤◌, ◌<◌, ◌≡◌, Bool, ◌&&◌, not, List, [], ◌∷◌, get_or, set, leb}
use Rattle.std.proofs.Math.Path.{refl, sym, ap}
use Rattle.std.proofs.Common.{◌∙◌, arith, length-set}
use Rattle.std.proofs.Math.Bool.{true, false, cond, and-false}
use Rattle.std.proofs.Math.Nat.{mod-lt}
use Rattle.std.proofs.Math.ListN.{length}
use Rattle.std.proofs.Math.Dec.{ltb, eqb}
use borrow.Author.Tests.{leb-true, eqb-true, lt-ltb}
use Rattle.model.specs.Lists.{all}
use Rattle.model.specs.Slot.{Slot, empty, dead, cut, live, is_torn, entry_of}
use Rattle.model.specs.State.{Segment, blank, is_invalid, is_owing, next_number, top_index, next_index, top_slots, used_count, first_number, View, view_of, entries_in, some_in_use, consecutive, one_version, none_owing, others_blank, none_wrong_or_torn, blocks_distinct, empty_slots_last, within_capacity, conditions, is_clean, next_blanked, is_a, top_settled, is_b, with_slot, filled, last_slot, last_kind, torn_marked, is_c, Place, place_of, block_in, last_block, copies, older, older_marked, is_d, Exception, case_a, case_b, case_c, case_d, State, clean, unfinished, damaged, state_of}
use Rattle.model.specs.Steps.{top_row, top_number}
use Rattle.model.specs.Laws.Lists.{and_left, and_right, all_same}
use Rattle.model.proofs.Laws.Ring.{next_kept, used_kept, get_kept, numbers_kept, slots_get}
use Rattle.model.proofs.Laws.Clean.{RingFacts, used_next, index_inside, view_length}
use Rattle.model.proofs.Laws.View.{slot_changed, slot_view, with_slot_number, with_slot_use, with_slot_owing, with_slot_invalid, with_slot_of, one_kept}
use Rattle.model.proofs.Laws.Exclusive.{invalid_paid, no_owing, no_invalid}
use Rattle.bridge.specs.Views.Places.{FirstLive, fill_length}
use Rattle.bridge.specs.Views.Shape.{first_live_in}
use Rattle.model.proofs.Laws.Tables.{holds_copies}

-- ---- definitions

-- conditions 1 to 4
unfoldable pub frame : ℕ → List Segment → Bool
frame N l = some_in_use N l && (consecutive N l && (one_version l && (none_owing l && others_blank l)))

-- conditions 5 to 8
unfoldable pub fine : ℕ → ℕ → View → Bool
fine N B v = none_wrong_or_torn v && (blocks_distinct v && (empty_slots_last v && within_capacity N B v))

-- (c) on the view: the top's last written slot is torn, and with it cut all is fine
unfoldable pub last_written : View → Slot
last_written v = get_or (top_row v.slots) (filled (top_row v.slots) - 1) empty

unfoldable pub last_marked : View → View
last_marked v = slot_changed (top_number v) (filled (top_row v.slots) - 1) cut v

unfoldable pub torn_last : ℕ → ℕ → View → Bool
torn_last N B v = is_torn (last_written v) && fine N B (last_marked v)

-- (d) on the view: the top's last written slot is live, one other slot has its block, and with that one dead all is fine
unfoldable pub twin_block : View → ℕ
twin_block v = block_in (entry_of (last_written v))

unfoldable pub twin_marked : View → View
twin_marked v = let p = place_of (twin_block v) v in slot_changed p.number p.slot dead v

unfoldable pub twin_last : ℕ → ℕ → View → Bool
twin_last N B v = ltb 0 (twin_block v) && (eqb (copies (twin_block v) (entries_in v)) 2 && fine N B (twin_marked v))

unfoldable pub slot_state : ℕ → ℕ → View → State
slot_state N B v = cond (fine N B v) clean (cond (torn_last N B v) (unfinished case_c) (cond (twin_last N B v) (unfinished case_d) damaged))

-- clean but for the exception that a mended list leaves out
unfoldable pub mended_state : ℕ → ℕ → Exception → List Segment → State
mended_state N B x l = cond (frame N l && fine N B (view_of N l)) (unfinished x) damaged

unfoldable pub state_by : ℕ → ℕ → List Segment → State
state_by N B l =
    cond (is_owing (get_or l (top_index N l) blank)) (cond (eqb (used_count (top_settled N l)) (N - 1)) (mended_state N B case_b (top_settled N l)) damaged)
    (cond (is_invalid (get_or l (next_index N l) blank)) (mended_state N B case_a (next_blanked N l))
    (cond (frame N l) (slot_state N B (view_of N l)) damaged))

-- ---- clean

eight : (a b o c d e f g h : Bool) → a && ((b && o) && (c && (d && (e && (f && (g && (h && true))))))) ≡ (a && (b && (o && (c && d)))) && (e && (f && (g && h)))
eight false b o c d e f g h = refl
eight true false o c d e f g h = refl
eight true true false c d e f g h = refl
eight true true true false d e f g h = refl
eight true true true true false e f g h = refl
eight true true true true true false f g h = refl
eight true true true true true true false g h = refl
eight true true true true true true true false h = refl
eight true true true true true true true true false = refl
eight true true true true true true true true true = refl

pub clean_split : (N B : ℕ) (l : List Segment) → is_clean N B l ≡ (frame N l && fine N B (view_of N l))
unfolding is_clean conditions all frame fine
clean_split N B l = let v = view_of N l in
    eight (some_in_use N l) (consecutive N l) (one_version l) (none_owing l) (others_blank l) (none_wrong_or_torn v) (blocks_distinct v) (empty_slots_last v) (within_capacity N B v)

pub frame_ring : (N : ℕ) (l : List Segment) → length l ≡ N → frame N l ≡ true → RingFacts N l
unfolding frame some_in_use consecutive
frame_ring N l e h =
    let a = and_left (some_in_use N l) (consecutive N l && (one_version l && (none_owing l && others_blank l))) h in
    let b = and_right (some_in_use N l) (consecutive N l && (one_version l && (none_owing l && others_blank l))) h in
    let c = and_right (consecutive N l) (one_version l && (none_owing l && others_blank l)) b in
    let d = and_right (one_version l) (none_owing l && others_blank l) c in record {
      size = e;
      some = leb-true 1 (used_count l) (and_left (leb 1 (used_count l)) (leb (used_count l) (N - 1)) a);
      spare = leb-true (used_count l) (N - 1) (and_right (leb 1 (used_count l)) (leb (used_count l) (N - 1)) a);
      chain = and_left (consecutive N l) (one_version l && (none_owing l && others_blank l)) b;
      one = and_left (one_version l) (none_owing l && others_blank l) c;
      paid = and_left (none_owing l) (others_blank l) d;
      others = and_right (none_owing l) (others_blank l) d;
    }

-- ---- a slot changed leaves the frame

frame_kept : (N : ℕ) (l : List Segment) (i j : ℕ) (k : Slot) → i < length l → frame N (set l i (with_slot j k (get_or l i blank))) ≡ frame N l
unfolding frame some_in_use consecutive first_number none_owing others_blank
frame_kept N l i j k h =
    let x = get_or l i blank in
    let y = with_slot j k x in
    rw (
      used_kept l i y h (with_slot_use j k x),
      next_kept l i y (with_slot_number j k x),
      numbers_kept N i y l (used_count l) (next_number l - used_count l) (with_slot_number j k x),
      one_kept l i y (λ n. with_slot_of j k n x),
      all_same (λ z. not (is_owing z)) l i y blank (ap not (with_slot_owing j k x)),
      all_same (λ z. not (is_invalid z)) l i y blank (ap not (with_slot_invalid j k x)),
    )

-- ---- what is never clean

not_so : (t : Bool) → (t ≡ true → ⊥) → t ≡ false
not_so true h = absurd (h refl)
not_so false h = refl

and_false_2 : (s t : Bool) → (s && (t && false)) ≡ false
and_false_2 true t = and-false t
and_false_2 false t = refl

module _ (N B : ℕ) (l : List Segment) (size : length l ≡ N) where
  -- a slot marked leaves an owing segment owing, and an invalid one invalid
  marked_owing : (i j : ℕ) (k : Slot) (q : ℕ) → is_owing (get_or l q blank) ≡ true → is_clean N B (set l i (with_slot j k (get_or l i blank))) ≡ false
  marked_owing i j k q o = let y = with_slot j k (get_or l i blank) in
      not_so (is_clean N B (set l i y)) (λ h. no_owing N B (set l i y) (length-set l i y ∙ size) h q (get_kept is_owing l i y (with_slot_owing j k (get_or l i blank)) q ∙ o))

  marked_invalid : (i j : ℕ) (k : Slot) (q : ℕ) → is_invalid (get_or l q blank) ≡ true → is_clean N B (set l i (with_slot j k (get_or l i blank))) ≡ false
  marked_invalid i j k q o = let y = with_slot j k (get_or l i blank) in
      not_so (is_clean N B (set l i y)) (λ h. no_invalid N B (set l i y) (length-set l i y ∙ size) h q (get_kept is_invalid l i y (with_slot_invalid j k (get_or l i blank)) q ∙ o))

  -- (a)'s segment, mended, leaves an owing top
  blanked_owing : is_invalid (get_or l (next_index N l) blank) ≡ true → is_owing (get_or l (top_index N l) blank) ≡ true → is_clean N B (next_blanked N l) ≡ false
  unfolding next_blanked
  blanked_owing i o = not_so (is_clean N B (set l (next_index N l) blank))
      (λ h. no_owing N B (set l (next_index N l) blank) (length-set l (next_index N l) blank ∙ size) h (top_index N l)
      (get_kept is_owing l (next_index N l) blank (invalid_paid (get_or l (next_index N l) blank) i) (top_index N l) ∙ o))

  owing_rest : is_owing (get_or l (top_index N l) blank) ≡ true → (is_clean N B l ≡ false) × (is_a N B l ≡ false) × (is_c N B l ≡ false) × (is_d N B l ≡ false)
  unfolding is_a is_c is_d torn_marked older_marked
  owing_rest o = (
    not_so (is_clean N B l) (λ h. no_owing N B l size h (top_index N l) o),
    first (is_invalid (get_or l (next_index N l) blank)) refl,
    rw (marked_owing (top_index N l) (last_slot N l) cut (top_index N l) o) (and-false (is_torn (last_kind N l))),
    rw (marked_owing ((older N l).number % N) (older N l).slot dead (top_index N l) o) (and_false_2 (ltb 0 (last_block N l)) (eqb (copies (last_block N l) (entries_in (view_of N l))) 2)),
  )
    where
      first : (t : Bool) → is_invalid (get_or l (next_index N l) blank) ≡ t → (t && is_clean N B (next_blanked N l)) ≡ false
      first true e = blanked_owing e o
      first false e = refl

  invalid_rest : is_invalid (get_or l (next_index N l) blank) ≡ true → (is_clean N B l ≡ false) × (is_c N B l ≡ false) × (is_d N B l ≡ false)
  unfolding is_c is_d torn_marked older_marked
  invalid_rest o = (
    not_so (is_clean N B l) (λ h. no_invalid N B l size h (next_index N l) o),
    rw (marked_invalid (top_index N l) (last_slot N l) cut (next_index N l) o) (and-false (is_torn (last_kind N l))),
    rw (marked_invalid ((older N l).number % N) (older N l).slot dead (next_index N l) o) (and_false_2 (ltb 0 (last_block N l)) (eqb (copies (last_block N l) (entries_in (view_of N l))) 2)),
  )

-- ---- the view's tests are those of the segments

top_get : (rows : List (List Slot)) → top_row rows ≡ get_or rows (length rows - 1) []
unfolding top_row
top_get [] = refl
top_get (t ∷ []) = refl
top_get (s ∷ t ∷ r) = let e : suc (suc (length r)) - 1 ≡ suc (suc (length r) - 1) = omega arith in rw e (top_get (t ∷ r))

place_number : (b : ℕ) (v : View) (g : FirstLive b v.first v.slots) → (place_of b v).number ≡ v.first + length g.gap.rows_before
unfolding place_of
place_number b v g = ap (λ (p : Place). p.number) g.place

module _ (N B : ℕ) (l : List Segment) (r : RingFacts N l) (f : frame N l ≡ true) where
  pub view_top : top_slots N l ≡ top_row (view_of N l).slots
  unfolding top_slots top_index
  view_top =
      let n : length (view_of N l).slots ≡ used_count l = view_length N l r in
      let e : first_number l + (used_count l - 1) ≡ next_number l - 1 = omega (arith, used_next N l r, r.some) in
      sym (rw e at (slots_get N l (used_count l) (first_number l) (used_count l - 1) (omega (arith, r.some)))) ∙ sym (top_get (view_of N l).slots ∙ (rw n (unfold view_of in refl)))

  view_last : last_kind N l ≡ last_written (view_of N l)
  unfolding last_kind last_slot last_written
  view_last = rw view_top

  view_number : top_number (view_of N l) ≡ next_number l - 1
  unfolding top_number
  view_number = let n : length (view_of N l).slots ≡ used_count l = view_length N l r in
      let e : (view_of N l).first ≡ first_number l = (unfold view_of in refl) in
      omega (arith, used_next N l r)

  -- a slot of a segment in use marked
  marked_clean : (k j : ℕ) (x : Slot) → first_number l ≤ k → k < next_number l → k % N < length l
      → is_clean N B (set l (k % N) (with_slot j x (get_or l (k % N) blank))) ≡ fine N B (slot_changed k j x (view_of N l))
  marked_clean k j x lo hi i = clean_split N B (set l (k % N) (with_slot j x (get_or l (k % N) blank)))
      ∙ rw (frame_kept N l (k % N) j x i, f, slot_view N l r k j x lo hi)

  view_torn : is_c N B l ≡ torn_last N B (view_of N l)
  unfolding is_c torn_last torn_marked last_marked top_index
  view_torn =
      let p : 1 ≤ next_number l = omega (arith, used_next N l r, r.some) in
      rw (view_last, view_number, ← view_top) (ap (λ t. is_torn (last_written (view_of N l)) && t)
      (unfold last_slot in marked_clean (next_number l - 1) (filled (top_slots N l) - 1) cut (omega (arith, used_next N l r, r.some)) (omega arith) (index_inside N l r (next_number l - 1))))

  pub view_block : last_block N l ≡ twin_block (view_of N l)
  unfolding last_block twin_block
  view_block = rw view_last

  -- the older slot is in a segment in use
  older_clean : eqb (copies (twin_block (view_of N l)) (entries_in (view_of N l))) 2 ≡ true → is_clean N B (older_marked N l) ≡ fine N B (twin_marked (view_of N l))
  unfolding older_marked twin_marked older
  older_clean c =
      let v = view_of N l in
      let b = twin_block v in
      let q = eqb-true (copies b (entries_in v)) 2 c in
      let g : FirstLive b v.first v.slots = first_live_in b v (holds_copies b (entries_in v) ∙ lt-ltb 0 (copies b (entries_in v)) (omega arith)) in
      let e : (place_of b v).number ≡ v.first + length g.gap.rows_before = place_number b v g in
      let a : v.first ≡ first_number l = (unfold view_of in refl) in
      let m = ap length g.split ∙ fill_length g.gap (live b g.contents) in
      rw view_block (marked_clean (place_of b v).number (place_of b v).slot dead (omega arith) (omega (arith, used_next N l r, view_length N l r)) (index_inside N l r (place_of b v).number))

  view_twin : is_d N B l ≡ twin_last N B (view_of N l)
  unfolding is_d twin_last
  view_twin = rw view_block (ap (λ t. ltb 0 (twin_block (view_of N l)) && t) (go (eqb (copies (twin_block (view_of N l)) (entries_in (view_of N l))) 2) refl))
    where
      go : (t : Bool) → eqb (copies (twin_block (view_of N l)) (entries_in (view_of N l))) 2 ≡ t → (t && is_clean N B (older_marked N l)) ≡ (t && fine N B (twin_marked (view_of N l)))
      go true e = older_clean e
      go false e = refl

-- ---- the state, by cases

module _ (N B : ℕ) (l : List Segment) (size : length l ≡ N) (some : 0 < N) where
  -- without its frame an image is neither clean nor (c) nor (d)
  no_frame : frame N l ≡ false → (is_clean N B l ≡ false) × (is_c N B l ≡ false) × (is_d N B l ≡ false)
  unfolding is_c is_d torn_marked older_marked top_index
  no_frame f = (
    clean_split N B l ∙ rw f,
    rw (marked (next_number l - 1) (last_slot N l) cut) (and-false (is_torn (last_kind N l))),
    rw (marked (older N l).number (older N l).slot dead) (and_false_2 (ltb 0 (last_block N l)) (eqb (copies (last_block N l) (entries_in (view_of N l))) 2)),
  )
    where
      marked : (k j : ℕ) (x : Slot) → is_clean N B (set l (k % N) (with_slot j x (get_or l (k % N) blank))) ≡ false
      marked k j x = clean_split N B (set l (k % N) (with_slot j x (get_or l (k % N) blank)))
          ∙ rw (frame_kept N l (k % N) j x (omega (arith, mod-lt k some)), f)

  with_frame : frame N l ≡ true → cond (is_clean N B l) clean (cond (is_c N B l) (unfinished case_c) (cond (is_d N B l) (unfinished case_d) damaged)) ≡ slot_state N B (view_of N l)
  unfolding slot_state
  with_frame f = let r = frame_ring N l size f in rw (clean_split N B l, f, view_torn N B l r f, view_twin N B l r f)

  pub state_by_lem : state_of N B l ≡ state_by N B l
  unfolding state_of state_by mended_state is_b is_a
  state_by_lem = go (is_owing (get_or l (top_index N l) blank)) refl
    where
      framed : (t : Bool) → frame N l ≡ t
          → cond (is_clean N B l) clean (cond (is_c N B l) (unfinished case_c) (cond (is_d N B l) (unfinished case_d) damaged)) ≡ cond t (slot_state N B (view_of N l)) damaged
      framed true e = with_frame e
      framed false e = let n = no_frame e in rw (n.0, n.1, n.2)

      split : (s t : Bool) → cond (s && t) (unfinished case_b) damaged ≡ cond s (cond t (unfinished case_b) damaged) damaged
      split true t = refl
      split false t = refl

      go : (o : Bool) → is_owing (get_or l (top_index N l) blank) ≡ o
          → cond (is_clean N B l) clean (cond (is_a N B l) (unfinished case_a) (cond (o && (eqb (used_count (top_settled N l)) (N - 1) && is_clean N B (top_settled N l))) (unfinished case_b) (cond (is_c N B l) (unfinished case_c) (cond (is_d N B l) (unfinished case_d) damaged))))
          ≡ cond o (cond (eqb (used_count (top_settled N l)) (N - 1)) (mended_state N B case_b (top_settled N l)) damaged) (cond (is_invalid (get_or l (next_index N l) blank)) (mended_state N B case_a (next_blanked N l)) (cond (frame N l) (slot_state N B (view_of N l)) damaged))
      go true o = let n = owing_rest N B l size o in
          rw (n.0, n.1, n.2, n.3, clean_split N B (top_settled N l)) (split (eqb (used_count (top_settled N l)) (N - 1)) (frame N (top_settled N l) && fine N B (view_of N (top_settled N l))))
      go false o = next (is_invalid (get_or l (next_index N l) blank)) refl
        where
          next : (t : Bool) → is_invalid (get_or l (next_index N l) blank) ≡ t
              → cond (is_clean N B l) clean (cond (t && is_clean N B (next_blanked N l)) (unfinished case_a) (cond (is_c N B l) (unfinished case_c) (cond (is_d N B l) (unfinished case_d) damaged)))
              ≡ cond t (mended_state N B case_a (next_blanked N l)) (cond (frame N l) (slot_state N B (view_of N l)) damaged)
          next true i = let n = invalid_rest N B l size i in rw (n.0, n.1, n.2, clean_split N B (next_blanked N l))
          next false i = framed (frame N l) refl
