-- The ending of the rows, the count of live slots and the capacity decide conditions 5 to 8, (c) and (d).
use Rattle.std.specs.Prelude.{ℕ, ◌≡◌, Bool, ◌||◌, ◌&&◌, length, leb}
use Rattle.std.proofs.Math.Path.{refl, sym, ap}
use Rattle.std.proofs.Common.{◌∙◌, inl, inr, true≢false}
use Rattle.std.proofs.Math.Bool.{true, false, cond, not, and-eq-true_iff}
use Rattle.std.proofs.lemmas.Bool.{false≢true}
use mathlib.Core.List.{List, [], ◌∷◌, ◌++◌, flatten, append-nil}
use Rattle.model.specs.Lists.{all}
use Rattle.model.specs.Header.{Version}
use Rattle.model.specs.Slot.{Slot, empty, torn, dead, cut, wrong, live, is_empty, is_torn, is_wrong, Entry, entry_of}
use Rattle.model.specs.State.{View, entries, entries_in, holds, distinct, empty_last, none_wrong_or_torn, blocks_distinct, empty_slots_last, capacity, within_capacity}
use Rattle.bridge.specs.Views.Slots.{full, sound, entries_append, full_then, first_empty_lem}
use Rattle.bridge.specs.Views.Places.{Gap, fill, fill_all, fill_empty_last}
use Rattle.judge.specs.declared.Ending.{Ending}
use Rattle.judge.specs.declared.Ending.TheVariants.{Full, Room, TornLast, TwinLast, Bad}
use Rattle.judge.specs.Endings.{behind, leave_room, turn, judge, ring, is_full, is_bad, in_order, ends_torn, ends_twin}
use Rattle.judge.specs.Cases.{fine, last_written, last_marked, torn_last}
use Rattle.judge.specs.Judged.{Plain, Judged, distinct_front, plain_full, stop_judge, judged, ring_snoc, rows_full, full_rows_lem, not_full}
use Rattle.judge.specs.Ordered.{ordered, rows_with, before_top, Ordered, ordered_facts, facts_ordered, ordered_rows, top_entries, ordered_ending, ending_plain, find_last, last_written_lem, last_marked_lem, none_written}
use Rattle.model.specs.Laws.Lists.{all_parts, flatten_last}

-- ---- two tests that imply each other are equal

pub both_ways : (a b : Bool) → (a ≡ true → b ≡ true) → (b ≡ true → a ≡ true) → a ≡ b
both_ways true b f g = sym (f refl)
both_ways false true f g = g refl
both_ways false false f g = refl

pub fine_ordered : (N B : ℕ) (v : View) → fine N B v ≡ (ordered v && leb (length (entries_in v)) (capacity N B))
unfolding fine ordered within_capacity
fine_ordered N B v = go (none_wrong_or_torn v) (blocks_distinct v) (empty_slots_last v) (leb (length (entries_in v)) (capacity N B))
  where
    go : (a b c d : Bool) → (a && (b && (c && d))) ≡ ((a && (b && c)) && d)
    go false b c d = refl
    go true false c d = refl
    go true true c d = refl

-- ---- what stops plain slots, by the ending

module _ (p : List Entry) where
  stop_room : (k : Slot) (f : Ending) → in_order f ≡ true → is_full f ≡ false → turn Full p k ≡ f → (k ≡ empty) × (f ≡ Room)
  unfolding turn behind leave_room
  stop_room empty f i n e = (refl, sym e)
  stop_room torn f i n e = absurd (false≢true (unfold in_order in (ap in_order e ∙ i)))
  stop_room dead f i n e = absurd (true≢false (unfold is_full in (ap is_full e ∙ n)))
  stop_room cut f i n e = absurd (true≢false (unfold is_full in (ap is_full e ∙ n)))
  stop_room wrong f i n e = absurd (false≢true (unfold in_order in (ap in_order e ∙ i)))
  stop_room (live b c) f i n e = go (holds b p) e
    where
      go : (t : Bool) → cond t TwinLast Full ≡ f → (live b c ≡ empty) × (f ≡ Room)
      go true q = absurd (false≢true (unfold in_order in (ap in_order q ∙ i)))
      go false q = absurd (true≢false (unfold is_full in (ap is_full q ∙ n)))

  pub stop_torn : (k : Slot) → turn Full p k ≡ TornLast → k ≡ torn
  unfolding turn behind leave_room
  stop_torn empty e = absurd (false≢true (unfold ends_torn in (ap ends_torn e)))
  stop_torn torn e = refl
  stop_torn dead e = absurd (false≢true (unfold ends_torn in (ap ends_torn e)))
  stop_torn cut e = absurd (false≢true (unfold ends_torn in (ap ends_torn e)))
  stop_torn wrong e = absurd (false≢true (unfold ends_torn in (ap ends_torn e)))
  stop_torn (live b c) e = go (holds b p) e
    where
      go : (t : Bool) → cond t TwinLast Full ≡ TornLast → live b c ≡ torn
      go true q = absurd (false≢true (unfold ends_torn in (ap ends_torn q)))
      go false q = absurd (false≢true (unfold ends_torn in (ap ends_torn q)))

  -- a live slot whose block is among the entries
  abbrev pub Twin : Slot → Type 0
  Twin k = (e : Entry) × (k ≡ live e.block e.contents) × (holds e.block p ≡ true)

  pub stop_twin : (k : Slot) → turn Full p k ≡ TwinLast → Twin k
  unfolding turn behind leave_room
  stop_twin empty e = absurd (false≢true (unfold ends_twin in (ap ends_twin e)))
  stop_twin torn e = absurd (false≢true (unfold ends_twin in (ap ends_twin e)))
  stop_twin dead e = absurd (false≢true (unfold ends_twin in (ap ends_twin e)))
  stop_twin cut e = absurd (false≢true (unfold ends_twin in (ap ends_twin e)))
  stop_twin wrong e = absurd (false≢true (unfold ends_twin in (ap ends_twin e)))
  stop_twin (live b c) e = go (holds b p) refl e
    where
      go : (t : Bool) → holds b p ≡ t → cond t TwinLast Full ≡ TwinLast → Twin (live b c)
      go true h q = (record { block = b; contents = c }, refl, h)
      go false h q = absurd (false≢true (unfold ends_twin in (ap ends_twin q)))

-- ---- the rows before the top must be plain

module _ (n : ℕ) (ver : Version) (l : List (List Slot)) (t : List Slot) where
  abbrev pub v : View
  v = rows_with n ver l t

  abbrev pub ending : Ending
  ending = ring Full [] (l ++ (t ∷ []))

  pub rows_then : Plain [] (flatten l) → ending ≡ judge Full (before_top l) t
  unfolding behind
  rows_then h = ring_snoc Full [] l t ∙ ap (λ (e : Ending). behind e (judge Full (before_top l) t)) (rows_full [] l h)

  -- an ending that is not bad says so
  pub rows_plain : (f : Ending) → is_bad f ≡ false → ending ≡ f → Plain [] (flatten l) × Judged f (before_top l) t
  unfolding distinct is_bad
  rows_plain f b e = go (is_full (ring Full [] l)) refl
    where
      is_full_lem : (x : Ending) → is_full x ≡ true → x ≡ Full
      is_full_lem Full q = refl
      is_full_lem Room q = absurd (false≢true (unfold is_full in q))
      is_full_lem TornLast q = absurd (false≢true (unfold is_full in q))
      is_full_lem TwinLast q = absurd (false≢true (unfold is_full in q))
      is_full_lem Bad q = absurd (false≢true (unfold is_full in q))

      go : (x : Bool) → is_full (ring Full [] l) ≡ x → Plain [] (flatten l) × Judged f (before_top l) t
      go true q =
          let h = full_rows_lem [] refl l (is_full_lem (ring Full [] l) q) in
          (h, judged f b (before_top l) h.once t (sym (rows_then h) ∙ e))
      go false q =
          let z : ending ≡ Bad = ring_snoc Full [] l t ∙ not_full (ring Full [] l) q (judge Full (before_top l) t) in
          absurd (true≢false (ap is_bad (sym z ∙ e) ∙ b))

  -- ---- conditions 5 to 7

  ordered_ending_of : Ordered l t → in_order ending ≡ true
  unfolding in_order all is_empty
  ordered_ending_of h = go (full t) refl
    where
      go : (x : Bool) → full t ≡ x → in_order ending ≡ true
      go true q = ap in_order (rows_then (ordered_rows h) ∙ plain_full (before_top l) t (record { sound = h.sound_top; full = q; once = h.once }))
      go false q =
          let f = first_empty_lem t h.last q in
          let o : Ordered l (f.left ++ (empty ∷ f.right)) = rw f.split at h in
          ap in_order (rows_then (ordered_rows h) ∙ stop_judge Room (before_top l) t (record {
            left = f.left;
            slot = empty;
            right = f.right;
            split = f.split;
            plain = record {
              sound = (all_parts (λ k. not (is_wrong k || is_torn k)) f.left (empty ∷ f.right) o.sound_top).0;
              full = f.full_left;
              once = distinct_front (before_top l ++ entries f.left) (entry_of empty) (ap distinct (sym (top_entries l f.left empty f.right f.empty_right)) ∙ o.once);
            };
            rest = f.empty_right;
            ending = (unfold turn leave_room in refl);
            stops = (unfold is_full in refl);
          }))

  pub ending_ordered : in_order ending ≡ true → Ordered l t
  ending_ordered i = let r = rows_plain ending (sane ending i) refl in go r.0 r.1
    where
      sane : (f : Ending) → in_order f ≡ true → is_bad f ≡ false
      sane Full q = unfold is_bad in refl
      sane Room q = unfold is_bad in refl
      sane TornLast q = unfold is_bad in refl
      sane TwinLast q = unfold is_bad in refl
      sane Bad q = absurd (false≢true (unfold in_order in q))

      full_last : (s : List Slot) → full s ≡ true → empty_last s ≡ true
      full_last s q = ap empty_last (sym (append-nil s)) ∙ (full_then s [] q ∙ (unfold empty_last in refl))

      go : Plain [] (flatten l) → Judged ending (before_top l) t → Ordered l t
      go r (inl (e, h)) = record { sound_rows = r.sound; sound_top = h.sound; once = h.once; full_rows = r.full; last = full_last t h.full }
      go r (inr s) =
          let k = (stop_room (before_top l ++ entries s.left) s.slot ending i s.stops s.ending).0 in
          let top : t ≡ s.left ++ (empty ∷ s.right) = s.split ∙ ap (λ (y : Slot). s.left ++ (y ∷ s.right)) k in
          rw top (ordered_ending l s.left empty s.right r s.plain s.rest (unfold is_wrong is_torn in refl)
          (unfold entry_of in (ap distinct (append-nil (before_top l ++ entries s.left)) ∙ s.plain.once)))

  pub fine_ending : (N B : ℕ) → fine N B v ≡ (in_order ending && leb (length (entries_in v)) (capacity N B))
  fine_ending N B = fine_ordered N B v ∙ ap (λ x. x && leb (length (entries_in v)) (capacity N B))
      (both_ways (ordered v) (in_order ending) (λ h. ordered_ending_of (ordered_facts n ver l t h)) (λ h. facts_ordered n ver l t (ending_ordered h)))

  -- ---- (c)

  pub entries_of : entries_in v ≡ before_top l ++ entries t
  unfolding entries_in
  entries_of = ap entries (flatten_last l t) ∙ entries_append (flatten l) t

-- a torn slot ends the rows that are full before it
torn_turn : (p : List Entry) → turn Full p torn ≡ TornLast
unfolding turn behind
torn_turn p = refl

-- one slot exchanged for another
module _ (n : ℕ) (ver : Version) (g : Gap) (k m : Slot) where
  pub swap_sound : not (is_wrong k || is_torn k) ≡ true → not (is_wrong m || is_torn m) ≡ true
      → none_wrong_or_torn (record { first = n; slots = fill g k; version = ver }) ≡ none_wrong_or_torn (record { first = n; slots = fill g m; version = ver })
  unfolding none_wrong_or_torn
  swap_sound a b = both_ways (all (λ z. not (is_wrong z || is_torn z)) (flatten (fill g k))) (all (λ z. not (is_wrong z || is_torn z)) (flatten (fill g m)))
      (λ h. fill_all (λ z. not (is_wrong z || is_torn z)) g k m b h) (λ h. fill_all (λ z. not (is_wrong z || is_torn z)) g m k a h)

  pub swap_last : is_empty k ≡ is_empty m → empty_slots_last (record { first = n; slots = fill g k; version = ver }) ≡ empty_slots_last (record { first = n; slots = fill g m; version = ver })
  unfolding empty_slots_last
  swap_last e = fill_empty_last g k m e

module _ (N B n : ℕ) (ver : Version) (l : List (List Slot)) (t : List Slot) where
  -- a torn last slot marked
  module _ (x y : List Slot) (split : t ≡ x ++ (torn ∷ y)) (rest : all is_empty y ≡ true) where
    torn_written : last_written (rows_with n ver l t) ≡ torn
    unfolding is_empty
    torn_written = rw split (last_written_lem n ver l x torn y refl rest)

    torn_marked_lem : last_marked (rows_with n ver l t) ≡ rows_with n ver l (x ++ (cut ∷ y))
    unfolding is_empty
    torn_marked_lem = rw split (last_marked_lem n ver l x torn y refl rest)

    torn_entries : entries_in (last_marked (rows_with n ver l t)) ≡ entries_in (rows_with n ver l t)
    unfolding entry_of
    torn_entries = ap entries_in torn_marked_lem ∙ (entries_of n ver l (x ++ (cut ∷ y)) ∙ (top_entries l x cut y rest
        ∙ sym (entries_of n ver l t ∙ (ap (λ (z : List Slot). before_top l ++ entries z) split ∙ top_entries l x torn y rest))))

  torn_to : torn_last N B (rows_with n ver l t) ≡ true → (ends_torn (ending n ver l t) && leb (length (entries_in (rows_with n ver l t))) (capacity N B)) ≡ true
  unfolding torn_last
  torn_to h = go (all is_empty t) refl
    where
      w : is_torn (last_written (rows_with n ver l t)) ≡ true
      w = ((and-eq-true_iff (is_torn (last_written (rows_with n ver l t))) (fine N B (last_marked (rows_with n ver l t)))).0 (unfold torn_last in h)).0

      f : (ordered (last_marked (rows_with n ver l t)) && leb (length (entries_in (last_marked (rows_with n ver l t)))) (capacity N B)) ≡ true
      f = sym (fine_ordered N B (last_marked (rows_with n ver l t))) ∙ ((and-eq-true_iff (is_torn (last_written (rows_with n ver l t))) (fine N B (last_marked (rows_with n ver l t)))).0 (unfold torn_last in h)).1

      g : (ordered (last_marked (rows_with n ver l t)) ≡ true) × (leb (length (entries_in (last_marked (rows_with n ver l t)))) (capacity N B) ≡ true)
      g = (and-eq-true_iff (ordered (last_marked (rows_with n ver l t))) (leb (length (entries_in (last_marked (rows_with n ver l t)))) (capacity N B))).0 f

      is_torn_lem : (k : Slot) → is_torn k ≡ true → k ≡ torn
      is_torn_lem empty q = absurd (false≢true (unfold is_torn in q))
      is_torn_lem torn q = refl
      is_torn_lem dead q = absurd (false≢true (unfold is_torn in q))
      is_torn_lem cut q = absurd (false≢true (unfold is_torn in q))
      is_torn_lem wrong q = absurd (false≢true (unfold is_torn in q))
      is_torn_lem (live b c) q = absurd (false≢true (unfold is_torn in q))

      at_last : (x y : List Slot) → t ≡ x ++ (torn ∷ y) → all is_empty y ≡ true → (ends_torn (ending n ver l t) && leb (length (entries_in (rows_with n ver l t))) (capacity N B)) ≡ true
      at_last x y e r =
          let o : Ordered l (x ++ (cut ∷ y)) = ordered_facts n ver l (x ++ (cut ∷ y)) (rw (torn_marked_lem x y e r) at g.0) in
          let s : ending n ver l t ≡ TornLast = rows_then n ver l t (ordered_rows o) ∙ stop_judge TornLast (before_top l) t (record {
            left = x;
            slot = torn;
            right = y;
            split = e;
            plain = ending_plain l x cut y (unfold is_empty in refl) r o;
            rest = r;
            ending = torn_turn (before_top l ++ entries x);
            stops = (unfold is_full in refl);
          }) in
          rw (s, ← (torn_entries x y e r)) (unfold ends_torn in g.1)

      go : (b : Bool) → all is_empty t ≡ b → (ends_torn (ending n ver l t) && leb (length (entries_in (rows_with n ver l t))) (capacity N B)) ≡ true
      go true e = absurd (false≢true (unfold is_torn in (sym (ap is_torn (none_written n ver l t e)) ∙ w)))
      go false e =
          let r = find_last t e in
          let k : r.slot ≡ torn = is_torn_lem r.slot (ap is_torn (sym (ap (λ (z : List Slot). last_written (rows_with n ver l z)) r.split ∙ last_written_lem n ver l r.left r.slot r.right r.written r.rest)) ∙ w) in
          at_last r.left r.right (r.split ∙ ap (λ (z : Slot). r.left ++ (z ∷ r.right)) k) r.rest

  torn_from : (ends_torn (ending n ver l t) && leb (length (entries_in (rows_with n ver l t))) (capacity N B)) ≡ true → torn_last N B (rows_with n ver l t) ≡ true
  unfolding torn_last
  torn_from h = let r = rows_plain n ver l t TornLast (unfold is_bad in refl) (is_torn_lem (ending n ver l t) g.0) in go r.0 r.1
    where
      g : (ends_torn (ending n ver l t) ≡ true) × (leb (length (entries_in (rows_with n ver l t))) (capacity N B) ≡ true)
      g = (and-eq-true_iff (ends_torn (ending n ver l t)) (leb (length (entries_in (rows_with n ver l t))) (capacity N B))).0 h

      is_torn_lem : (e : Ending) → ends_torn e ≡ true → e ≡ TornLast
      is_torn_lem Full q = absurd (false≢true (unfold ends_torn in q))
      is_torn_lem Room q = absurd (false≢true (unfold ends_torn in q))
      is_torn_lem TornLast q = refl
      is_torn_lem TwinLast q = absurd (false≢true (unfold ends_torn in q))
      is_torn_lem Bad q = absurd (false≢true (unfold ends_torn in q))

      go : Plain [] (flatten l) → Judged TornLast (before_top l) t → (is_torn (last_written (rows_with n ver l t)) && fine N B (last_marked (rows_with n ver l t))) ≡ true
      go r (inl (e, q)) = absurd (false≢true (unfold is_full in (ap is_full e)))
      go r (inr s) =
          let e : t ≡ s.left ++ (torn ∷ s.right) = s.split ∙ ap (λ (z : Slot). s.left ++ (z ∷ s.right)) (stop_torn (before_top l ++ entries s.left) s.slot s.ending) in
          let d : distinct (before_top l ++ entries s.left ++ entry_of cut) ≡ true = (unfold entry_of in (ap distinct (append-nil (before_top l ++ entries s.left)) ∙ s.plain.once)) in
          let o : ordered (last_marked (rows_with n ver l t)) ≡ true = ap ordered (torn_marked_lem s.left s.right e s.rest)
          ∙ facts_ordered n ver l (s.left ++ (cut ∷ s.right)) (ordered_ending l s.left cut s.right r s.plain s.rest (unfold is_wrong is_torn in refl) d) in
          rw (torn_written s.left s.right e s.rest, fine_ordered N B (last_marked (rows_with n ver l t)), o, torn_entries s.left s.right e s.rest) (unfold is_torn in g.1)

  pub torn_ending : torn_last N B (rows_with n ver l t) ≡ (ends_torn (ending n ver l t) && leb (length (entries_in (rows_with n ver l t))) (capacity N B))
  torn_ending = both_ways (torn_last N B (rows_with n ver l t)) (ends_torn (ending n ver l t) && leb (length (entries_in (rows_with n ver l t))) (capacity N B)) torn_to torn_from
