-- What the tests of the slots say of conditions 5 to 8, and the first condition that fails.
use Prim.Native.Nat.{ℕ, suc, ◌+◌, ◌<◌, ◌≤◌}
use mathlib.Core.Path.{◌≡◌, refl, sym, ap, ap₂, ◌∙◌}
use mathlib.Core.Bool.{Bool, true, false, cond, ◌||◌, ◌&&◌, not, and-true, and-false, and_assoc, true≢false, false≢true}
use mathlib.Core.List.{List, [], ◌∷◌, ◌++◌, map, flat_map, flatten, append-nil, append_assoc}
use native.Mathlib.Omega.{arith}
use native.Mathlib.Decide.{ℕ_discrete}
use lib.ListN.{length, length-append}
use lib.Dec.{eqb, leb}
use borrow.Author.Tests.{eq-eqb, ne_eqb}
use Rattle.model.specs.Lists.{all}
use Rattle.model.specs.Chip.{Image}
use Rattle.model.specs.Slot.{Slot, empty, torn, dead, cut, wrong, live, is_empty, is_torn, is_wrong, kind_of, Entry, entry_of}
use Rattle.model.specs.State.{Segment, segments_of, used_count, first_number, View, view_of, entries, entries_in, holds, distinct, empty_last, only_top_empty, some_in_use, consecutive, one_version, none_owing, others_blank, none_wrong_or_torn, blocks_distinct, empty_slots_last, capacity, within_capacity, conditions}
use Rattle.model.specs.Laws.Lists.{all_append, and_left}
use Rattle.model.proofs.Laws.Tables.{holds_append}
use Rattle.bridge.specs.Views.Slots.{full, sound, full_then, entries_append}
use Rattle.judge.specs.Bitmap.{put_bit}
use Rattle.judge.specs.Parts.{rows_on, used_rows}
use Rattle.judge.specs.Tally.{none_met}
use Rattle.judge.proofs.TallyLaws.{Narrow, NarrowRows, Agree, agree_none, agree_put, agree_same}
use Rattle.scan.specs.SurveyLaws.{narrow_rows}
use Rattle.faults.specs.declared.HeadsTold.{HeadsTold}
use Rattle.faults.specs.declared.SlotTests.{SlotTests}
use Rattle.account_text.specs.Account.{first_failing}
use Rattle.faults.specs.Tests.{heads_told, Look, look, no_tests, wrote, test_slot, test_slots, next_row, test_rows, rows_tested, slot_place}

-- ---- 5: sound

sound_slots : (x : List Slot) (p : Look) → (test_slots (map kind_of x) p).tests.sound ≡ (p.tests.sound && sound x)
unfolding test_slots test_slot wrote kind_of all is_wrong is_torn
sound_slots [] p = sym (and-true p.tests.sound)
sound_slots (empty ∷ x) p = sound_slots x _
sound_slots (torn ∷ x) p = sound_slots x _ ∙ sym (and-false p.tests.sound)
sound_slots (dead ∷ x) p = sound_slots x _
sound_slots (cut ∷ x) p = sound_slots x _
sound_slots (wrong ∷ x) p = sound_slots x _ ∙ sym (and-false p.tests.sound)
sound_slots (live b c ∷ x) p = sound_slots x _

sound_rows_lem : (r : List (List Slot)) (p : Look) → (test_rows r p).tests.sound ≡ (p.tests.sound && sound (flatten r))
unfolding test_rows next_row flatten
sound_rows_lem [] p = unfold all in sym (and-true p.tests.sound)
sound_rows_lem (x ∷ r) p = sound_rows_lem r _
    ∙ (ap (λ (t : Bool). t && sound (flatten r)) (sound_slots x _)
    ∙ (and_assoc p.tests.sound (sound x) (sound (flatten r)) ∙ ap (λ (t : Bool). p.tests.sound && t) (sym (all_append (λ k. not (is_wrong k || is_torn k)) x (flatten r)))))

-- ---- 8: live slots

live_slots_lem : (x : List Slot) (p : Look) → (test_slots (map kind_of x) p).tests.live ≡ p.tests.live + length (entries x)
unfolding test_slots test_slot wrote kind_of entries flat_map entry_of
live_slots_lem [] p = omega arith
live_slots_lem (empty ∷ x) p = live_slots_lem x _
live_slots_lem (torn ∷ x) p = live_slots_lem x _
live_slots_lem (dead ∷ x) p = live_slots_lem x _
live_slots_lem (cut ∷ x) p = live_slots_lem x _
live_slots_lem (wrong ∷ x) p = live_slots_lem x _
live_slots_lem (live b c ∷ x) p = live_slots_lem x _ ∙ omega arith

live_rows : (r : List (List Slot)) (p : Look) → (test_rows r p).tests.live ≡ p.tests.live + length (entries (flatten r))
unfolding test_rows next_row flatten
live_rows [] p = unfold entries flat_map in omega arith
live_rows (x ∷ r) p = live_rows r _
    ∙ omega (arith, live_slots_lem x (look (next_row p.tests) p.seen), length-append (entries x) (entries (flatten r)), ap length (entries_append x (flatten r)))

-- ---- 6: no block twice

same_block : (a b : ℕ) → eqb a b ≡ eqb b a
same_block a b = elim (ℕ_discrete a b) [
  | yes e ↦ eq-eqb a b e ∙ sym (eq-eqb b a (sym e))
  | no n ↦ ne_eqb a b n ∙ sym (ne_eqb b a (λ e. n (sym e)))
]

distinct_more : (p : List Entry) (e : Entry) → distinct (p ++ (e ∷ [])) ≡ (distinct p && not (holds e.block p))
unfolding distinct holds
distinct_more [] e = refl
distinct_more (x ∷ p) e = rw (holds_append x.block p (e ∷ []), distinct_more p e, same_block e.block x.block) (go (holds x.block p) (eqb x.block e.block) (distinct p) (holds e.block p))
  where
    go : (a b d f : Bool) → (not (a || (b || false)) && (d && not f)) ≡ ((not a && d) && not (b || f))
    go true b d f = refl
    go false true d f = sym (and-false d)
    go false false d f = refl

-- the set of a row's numbers, and whether one of them was met before
once_slots : (x : List Slot) (t : SlotTests) (s : List ℕ) (p : List Entry) → Narrow x → Agree s p → t.distinct ≡ distinct p
    → (Agree (test_slots (map kind_of x) (look t s)).seen (p ++ entries x)) × ((test_slots (map kind_of x) (look t s)).tests.distinct ≡ distinct (p ++ entries x))
unfolding test_slots test_slot wrote kind_of entries flat_map entry_of
once_slots [] t s p n a d = (agree_same a, d ∙ ap distinct (sym (append-nil p)))
once_slots (empty ∷ x) t s p n a d = once_slots x _ s p n a d
once_slots (torn ∷ x) t s p n a d = once_slots x _ s p n a d
once_slots (dead ∷ x) t s p n a d = once_slots x _ s p n a d
once_slots (cut ∷ x) t s p n a d = once_slots x _ s p n a d
once_slots (wrong ∷ x) t s p n a d = once_slots x _ s p n a d
once_slots (live b c ∷ x) t s p n a d = let e : Entry = record { block = b; contents = c } in
    rw (← (append_assoc p (e ∷ []) (flat_map entry_of x)))
    (once_slots x _ (put_bit 64 s b) (p ++ (e ∷ [])) n.1 (agree_put s p e n.0.1 a) (ap₂ (λ (u v : Bool). u && not v) d (a.same b n.0.1) ∙ sym (distinct_more p e)))

once_rows : (r : List (List Slot)) (t : SlotTests) (s : List ℕ) (p : List Entry) → NarrowRows r → Agree s p → t.distinct ≡ distinct p → (test_rows r (look t s)).tests.distinct ≡ distinct (p ++ entries (flatten r))
unfolding test_rows flatten
once_rows [] t s p n a d = let e : distinct p ≡ distinct (p ++ entries []) = unfold entries flat_map in ap distinct (sym (append-nil p)) in d ∙ e
once_rows (x ∷ r) t s p n a d =
    let q = once_slots x (next_row t) s p n.0 a (unfold next_row in d) in
    once_rows r (test_slots (map kind_of x) (look (next_row t) s)).tests (test_slots (map kind_of x) (look (next_row t) s)).seen (p ++ entries x) n.1 q.0 q.1
    ∙ ap distinct (append_assoc p (entries x) (entries (flatten r)) ∙ ap (λ (y : List Entry). p ++ y) (sym (entries_append x (flatten r))))

-- ---- 7: empty slots last, and in the last row only

room_stays : (x : List Slot) (t : SlotTests) (s : List ℕ) → t.room ≡ true → (test_slots (map kind_of x) (look t s)).tests.room ≡ true
unfolding test_slots test_slot wrote kind_of
room_stays [] t s h = h
room_stays (empty ∷ x) t s h = room_stays x _ s refl
room_stays (torn ∷ x) t s h = room_stays x _ s h
room_stays (dead ∷ x) t s h = room_stays x _ s h
room_stays (cut ∷ x) t s h = room_stays x _ s h
room_stays (wrong ∷ x) t s h = room_stays x _ s h
room_stays (live b c ∷ x) t s h = room_stays x _ (put_bit 64 s b) h

-- a written slot behind an empty one
spoilt : (o r a : Bool) → r ≡ true → ((o && not r) && a) ≡ (o && false)
spoilt true true a h = refl
spoilt true false a h = absurd (false≢true h)
spoilt false r a h = refl

late : (x : List Slot) (t : SlotTests) (s : List ℕ) → t.room ≡ true → (test_slots (map kind_of x) (look t s)).tests.in_order ≡ (t.in_order && all is_empty x)
unfolding test_slots test_slot wrote kind_of all is_empty
late [] t s h = sym (and-true t.in_order)
late (empty ∷ x) t s h = late x _ s refl
late (torn ∷ x) t s h = late x _ s h ∙ spoilt t.in_order t.room (all is_empty x) h
late (dead ∷ x) t s h = late x _ s h ∙ spoilt t.in_order t.room (all is_empty x) h
late (cut ∷ x) t s h = late x _ s h ∙ spoilt t.in_order t.room (all is_empty x) h
late (wrong ∷ x) t s h = late x _ s h ∙ spoilt t.in_order t.room (all is_empty x) h
late (live b c ∷ x) t s h = late x _ (put_bit 64 s b) h ∙ spoilt t.in_order t.room (all is_empty x) h

-- a written slot behind written ones
kept : (o r a : Bool) → r ≡ false → ((o && not r) && a) ≡ (o && a)
kept o true a h = absurd (true≢false h)
kept true false a h = refl
kept false false a h = refl

-- the tests after a row that follows no empty slot
abbrev Early : List Slot → SlotTests → SlotTests → Type 0
Early x t r = (r.in_order ≡ (t.in_order && empty_last x)) × (r.room ≡ not (full x))

early : (x : List Slot) (t : SlotTests) (s : List ℕ) → t.room ≡ false → Early x t (test_slots (map kind_of x) (look t s)).tests
unfolding test_slots test_slot wrote kind_of all is_empty empty_last
early [] t s h = (sym (and-true t.in_order), h)
early (empty ∷ x) t s h = (late x _ s refl, room_stays x _ s refl)
early (torn ∷ x) t s h = let q = early x _ s h in (q.0 ∙ kept t.in_order t.room (empty_last x) h, q.1)
early (dead ∷ x) t s h = let q = early x _ s h in (q.0 ∙ kept t.in_order t.room (empty_last x) h, q.1)
early (cut ∷ x) t s h = let q = early x _ s h in (q.0 ∙ kept t.in_order t.room (empty_last x) h, q.1)
early (wrong ∷ x) t s h = let q = early x _ s h in (q.0 ∙ kept t.in_order t.room (empty_last x) h, q.1)
early (live b c ∷ x) t s h = let q = early x _ (put_bit 64 s b) h in (q.0 ∙ kept t.in_order t.room (empty_last x) h, q.1)

full_last : (x : List Slot) → full x ≡ true → empty_last x ≡ true
full_last x h = ap empty_last (sym (append-nil x)) ∙ (full_then x [] h ∙ (unfold empty_last in refl))

order_rows : (x : List Slot) (r : List (List Slot)) (t : SlotTests) (s : List ℕ) → (test_rows (x ∷ r) (look t s)).tests.in_order ≡ ((t.in_order && not t.room) && only_top_empty (x ∷ r))
unfolding test_rows next_row only_top_empty
order_rows x [] t s = (early x (next_row t) s refl).0
order_rows x (y ∷ r) t s =
    let p = test_slots (map kind_of x) (look (next_row t) s) in
    let q = early x (next_row t) s refl in
    order_rows y r p.tests p.seen
    ∙ (ap₂ (λ (a b : Bool). (a && not b) && only_top_empty (y ∷ r)) q.0 q.1 ∙ go (t.in_order && not t.room) (empty_last x) (full x) (only_top_empty (y ∷ r)) (full_last x))
  where
    go : (b e f w : Bool) → (f ≡ true → e ≡ true) → (((b && e) && not (not f)) && w) ≡ (b && (f && w))
    go false e f w h = refl
    go true true true w h = refl
    go true true false w h = refl
    go true false true w h = absurd (false≢true (h refl))
    go true false false w h = refl

-- ---- the first that fails

module _ (r : List (List Slot)) (n : NarrowRows r) where
  sound_is : (rows_tested r).sound ≡ sound (flatten r)
  unfolding rows_tested no_tests
  sound_is = sound_rows_lem r (look no_tests none_met)

  once_is : (rows_tested r).distinct ≡ distinct (entries (flatten r))
  unfolding rows_tested no_tests distinct
  once_is = once_rows r no_tests none_met [] n agree_none refl

  order_is : (rows_tested r).in_order ≡ only_top_empty r
  order_is = go r
    where
      go : (y : List (List Slot)) → (rows_tested y).in_order ≡ only_top_empty y
      go [] = unfold rows_tested test_rows no_tests only_top_empty in refl
      go (x ∷ y) = unfold rows_tested no_tests in order_rows x y no_tests none_met

  live_is : (rows_tested r).live ≡ length (entries (flatten r))
  unfolding rows_tested no_tests
  live_is = live_rows r (look no_tests none_met) ∙ omega arith

  slots_place : (most : ℕ) → slot_place most (rows_tested r) ≡ first_failing 5 (sound (flatten r) ∷ distinct (entries (flatten r)) ∷ only_top_empty r ∷ leb (length (entries (flatten r))) most ∷ [])
  unfolding slot_place
  slots_place most = rw (sound_is, once_is, order_is, live_is)

four_fail : (a b c d : Bool) (r : List Bool) → 0 < first_failing 1 (a ∷ b ∷ c ∷ d ∷ []) → first_failing 1 (a ∷ b ∷ c ∷ d ∷ []) ≡ first_failing 1 (a ∷ b ∷ c ∷ d ∷ r)
unfolding first_failing
four_fail false b c d r h = refl
four_fail true false c d r h = refl
four_fail true true false d r h = refl
four_fail true true true false r h = refl
four_fail true true true true r h = absurd (omega arith)

four_hold : (a b c d : Bool) (r : List Bool) → first_failing 1 (a ∷ b ∷ c ∷ d ∷ []) ≡ 0 → (b ≡ true) × (first_failing 5 r ≡ first_failing 1 (a ∷ b ∷ c ∷ d ∷ r))
unfolding first_failing
four_hold false b c d r h = absurd (omega arith)
four_hold true false c d r h = absurd (omega arith)
four_hold true true false d r h = absurd (omega arith)
four_hold true true true false r h = absurd (omega arith)
four_hold true true true true r h = (refl, refl)

place_below : (k : ℕ) (l : List Bool) → 0 < k → first_failing k l < k + length l
unfolding first_failing
place_below k [] p = omega arith
place_below k (t ∷ r) p = go t (place_below (suc k) r (omega arith))
  where
    go : (b : Bool) → first_failing (suc k) r < suc k + length r → cond b (first_failing (suc k) r) k < k + suc (length r)
    go true h = omega arith
    go false h = omega arith

-- there are eight conditions
pub place_most : (N B : ℕ) (l : List Segment) → first_failing 1 (conditions N B l) ≤ 8
unfolding conditions
place_most N B l = omega (arith, place_below 1 (conditions N B l) (omega arith))

module _ (N B : ℕ) (s : Image) (some : 0 < N) (t : HeadsTold) (e : t ≡ heads_told N (segments_of N B s)) where
  abbrev l : List Segment
  l = segments_of N B s

  abbrev slot_conditions : View → List Bool
  slot_conditions v = none_wrong_or_torn v ∷ blocks_distinct v ∷ empty_slots_last v ∷ within_capacity N B v ∷ []

  place_is : t.place ≡ first_failing 1 (some_in_use N l ∷ (consecutive N l && one_version l) ∷ none_owing l ∷ others_blank l ∷ [])
  place_is = ap (λ (y : HeadsTold). y.place) e ∙ (unfold heads_told in refl)

  pub heads_fail : 0 < t.place → t.place ≡ first_failing 1 (conditions N B l)
  unfolding conditions
  heads_fail h = place_is ∙ four_fail (some_in_use N l) (consecutive N l && one_version l) (none_owing l) (others_blank l) (slot_conditions (view_of N l)) (omega (arith, place_is))

  rows_are : consecutive N l ≡ true → rows_on s N B t.used t.first ≡ (view_of N l).slots
  unfolding view_of consecutive heads_told
  rows_are h = rw e (sym (used_rows N B s some (used_count l) (first_number l) h))

  slots_first : consecutive N l ≡ true → slot_place (capacity N B) (rows_tested (rows_on s N B t.used t.first)) ≡ first_failing 5 (slot_conditions (view_of N l))
  unfolding none_wrong_or_torn blocks_distinct empty_slots_last within_capacity entries_in
  slots_first h = slots_place (rows_on s N B t.used t.first) (narrow_rows s N B t.used t.first) (capacity N B)
      ∙ ap (λ (r : List (List Slot)). first_failing 5 (sound (flatten r) ∷ distinct (entries (flatten r)) ∷ only_top_empty r ∷ leb (length (entries (flatten r))) (capacity N B) ∷ [])) (rows_are h)

  pub slots_fail : (r most : ℕ) (x : SlotTests) → r ≡ slot_place most x → most ≡ capacity N B → x ≡ rows_tested (rows_on s N B t.used t.first) → t.place ≡ 0 → r ≡ first_failing 1 (conditions N B l)
  unfolding conditions
  slots_fail r most x q m p z =
      let f = four_hold (some_in_use N l) (consecutive N l && one_version l) (none_owing l) (others_blank l) (slot_conditions (view_of N l)) (sym place_is ∙ z) in
      q ∙ (ap₂ slot_place m p ∙ (slots_first (and_left (consecutive N l) (one_version l) f.0) ∙ f.1))
