-- One slot of a view among the others: what changing it changes, and where the first live slot of a block and the top's first empty slot are.
use Rattle.std.specs.Prelude.{ℕ, zero, suc, ◌+◌, ◌-◌, ◌≤◌, ◌<◌, ◌≡◌, refl, Bool, true, false, cond, ◌||◌, ◌&&◌, length, get_or, eqb}
use Rattle.std.proofs.Common.{sym, ap, ◌∙◌, arith, length-append, eqb-true}
use Rattle.std.proofs.lemmas.Bool.{false≢true, not-true}
use Rattle.std.proofs.Math.Bool.{and-eq-true_iff}
use mathlib.Core.List.{List, [], ◌∷◌, ◌++◌, flat_map, flatten, append_assoc, append-nil}
use Rattle.std.proofs.Math.Seq.{get_or-append_seam}
use Rattle.std.proofs.lemmas.List.{set_at, get_or_at}
use Rattle.model.specs.Lists.{all}
use Rattle.model.specs.Slot.{Slot, empty, torn, dead, cut, wrong, live, is_empty, entry_of}
use Rattle.model.specs.State.{View, entries, entries_in, holds, empty_last, only_top_empty, slot_from, place_from, place_of}
use Rattle.model.specs.Steps.{top_row, top_number, has_room, first_empty}
use Rattle.model.specs.Laws.Lists.{all_append, flatten_append}
use Rattle.model.proofs.Laws.Tables.{holds_append, without_first, without_first_at}
use Rattle.bridge.specs.Predicted.{slot_changed, written, marked, Rows}
use Rattle.bridge.specs.Views.Slots.{full, entries_append, entries_cons, all_empty_entries, first_empty_lem, top_row_lem, find_top, only_top_empty_lem}

-- ---- rows with one slot left out

pub record Gap : Type 0 where
  pub rows_before : List (List Slot)
  pub before : List Slot
  pub after : List Slot
  pub rows_after : List (List Slot)

-- the rows with this slot there
abbrev pub fill : Gap → Slot → List (List Slot)
fill g k = g.rows_before ++ ((g.before ++ (k ∷ g.after)) ∷ g.rows_after)

-- the slots before and after
unfoldable pub earlier : Gap → List Slot
earlier g = flatten g.rows_before ++ g.before

unfoldable pub later : Gap → List Slot
later g = g.after ++ flatten g.rows_after

pub fill_flatten : (g : Gap) (k : Slot) → flatten (fill g k) ≡ earlier g ++ (k ∷ later g)
unfolding earlier later flatten
fill_flatten g k =
    flatten_append g.rows_before ((g.before ++ (k ∷ g.after)) ∷ g.rows_after)
    ∙ (ap (λ (y : List Slot). flatten g.rows_before ++ y) (append_assoc g.before (k ∷ g.after) (flatten g.rows_after))
    ∙ sym (append_assoc (flatten g.rows_before) g.before (k ∷ (g.after ++ flatten g.rows_after))))

pub fill_entries : (g : Gap) (k : Slot) → entries (flatten (fill g k)) ≡ entries (earlier g) ++ (entry_of k ++ entries (later g))
fill_entries g k = rw (fill_flatten g k, entries_append (earlier g) (k ∷ later g), entries_cons k (later g))

-- a test on every slot, once another that passes is there
pub fill_all : (f : Slot → Bool) (g : Gap) (k m : Slot) → f m ≡ true → all f (flatten (fill g k)) ≡ true → all f (flatten (fill g m)) ≡ true
unfolding all
fill_all f g k m h p =
    let q = (and-eq-true_iff (all f (earlier g)) (f k && all f (later g))).0 (sym (ap (all f) (fill_flatten g k) ∙ all_append f (earlier g) (k ∷ later g)) ∙ p) in
    let r = (and-eq-true_iff (f k) (all f (later g))).0 q.1 in
    rw (fill_flatten g m, all_append f (earlier g) (m ∷ later g), q.0, h, r.1)

pub fill_length : (g : Gap) (k : Slot) → length (fill g k) ≡ length g.rows_before + suc (length g.rows_after)
fill_length g k = length-append g.rows_before ((g.before ++ (k ∷ g.after)) ∷ g.rows_after)

pub fill_rows : (B : ℕ) (g : Gap) (k m : Slot) → Rows B (fill g k) → Rows B (fill g m)
fill_rows B g k m h = go g.rows_before h
  where
    go : (l : List (List Slot)) → Rows B (l ++ ((g.before ++ (k ∷ g.after)) ∷ g.rows_after)) → Rows B (l ++ ((g.before ++ (m ∷ g.after)) ∷ g.rows_after))
    go [] p = (length-append g.before (m ∷ g.after) ∙ (sym (length-append g.before (k ∷ g.after)) ∙ p.0), p.1)
    go (s ∷ l) p = (p.0, go l p.1)

-- where empty slots are, once another is there that is as empty
pub fill_empty_last : (g : Gap) (k m : Slot) → is_empty k ≡ is_empty m → only_top_empty (fill g k) ≡ only_top_empty (fill g m)
unfolding only_top_empty empty_last all
fill_empty_last g k m h = go g.rows_before
  where
    in_row : (x : List Slot) → empty_last (x ++ (k ∷ g.after)) ≡ empty_last (x ++ (m ∷ g.after))
    in_row [] = rw h
    in_row (y ∷ x) = rw (in_row x, empties x)
      where
        empties : (z : List Slot) → all is_empty (z ++ (k ∷ g.after)) ≡ all is_empty (z ++ (m ∷ g.after))
        empties [] = rw h
        empties (y ∷ z) = rw (empties z)

    fulls : (x : List Slot) → full (x ++ (k ∷ g.after)) ≡ full (x ++ (m ∷ g.after))
    fulls [] = rw h
    fulls (y ∷ x) = rw (fulls x)

    here : (r : List (List Slot)) → only_top_empty ((g.before ++ (k ∷ g.after)) ∷ r) ≡ only_top_empty ((g.before ++ (m ∷ g.after)) ∷ r)
    here [] = in_row g.before
    here (t ∷ r) = rw (fulls g.before)

    go : (l : List (List Slot)) → only_top_empty (l ++ ((g.before ++ (k ∷ g.after)) ∷ g.rows_after)) ≡ only_top_empty (l ++ ((g.before ++ (m ∷ g.after)) ∷ g.rows_after))
    go [] = here g.rows_after
    go (s ∷ []) = ap (λ y. full s && y) (here g.rows_after)
    go (s ∷ t ∷ l) = ap (λ y. full s && y) (go (t ∷ l))

-- the slot changed
pub fill_changed : (v : View) (g : Gap) (k m : Slot) (n j : ℕ) → v.slots ≡ fill g k → n ≡ v.first + length g.rows_before → j ≡ length g.before
    → slot_changed n j m v ≡ record { first = v.first; slots = fill g m; version = v.version }
unfolding slot_changed
fill_changed v g k m n j h p q =
    let i : length g.rows_before ≡ n - v.first = omega arith in
    rw (
      h,
      get_or_at g.rows_before (g.before ++ (k ∷ g.after)) g.rows_after [] (n - v.first) i,
      set_at g.before k g.after m j (sym q),
      set_at g.rows_before (g.before ++ (k ∷ g.after)) g.rows_after (g.before ++ (m ∷ g.after)) (n - v.first) i,
    )

-- ---- where it stands, by row and place

module _ (g : Gap) (k : Slot) where
  pub gap_row : get_or (fill g k) (length g.rows_before) [] ≡ g.before ++ (k ∷ g.after)
  gap_row = get_or-append_seam g.rows_before (g.before ++ (k ∷ g.after)) g.rows_after []

  gap_inside : length g.rows_before < length (fill g k)
  gap_inside = omega (arith, fill_length g k)

  pub gap_slot : get_or (get_or (fill g k) (length g.rows_before) []) (length g.before) empty ≡ k
  gap_slot = ap (λ (y : List Slot). get_or y (length g.before) empty) gap_row ∙ get_or-append_seam g.before k g.after empty

  gap_short : (B : ℕ) → Rows B (fill g k) → length g.before < B
  gap_short B r = let e : length (g.before ++ (k ∷ g.after)) ≡ B = ap length (sym gap_row) ∙ row (fill g k) (length g.rows_before) gap_inside r in
      omega (arith, length-append g.before (k ∷ g.after))
    where
      row : (l : List (List Slot)) (i : ℕ) → i < length l → Rows B l → length (get_or l i []) ≡ B
      row [] i h r = absurd (omega arith)
      row (x ∷ l) zero h r = r.0
      row (x ∷ l) (suc i) h r = row l i (omega arith) r.1

-- where a slot stands in a view with B slots to a row
pub record InView (B : ℕ) (v : View) (g : Gap) (k : Slot) : Type 0 where
  pub row : length g.rows_before < length v.slots
  pub short : length g.before < B
  pub kind : get_or (get_or v.slots (length g.rows_before) []) (length g.before) empty ≡ k

pub in_view : (B : ℕ) (v : View) (g : Gap) (k : Slot) → v.slots ≡ fill g k → Rows B v.slots → InView B v g k
in_view B v g k e r = record { row = rw e (gap_inside g k); short = gap_short g k B (rw e at r); kind = rw e (gap_slot g k) }

-- ---- the first live slot of a block

-- in one row
record InRow (b j : ℕ) (s : List Slot) : Type 0 where
  left : List Slot
  contents : List ℕ
  right : List Slot
  split : s ≡ left ++ (live b contents ∷ right)
  place : slot_from b j s ≡ j + length left
  first : holds b (entries left) ≡ false

in_row_lem : (b j : ℕ) (s : List Slot) → holds b (entries s) ≡ true → InRow b j s
unfolding holds entries flat_map entry_of slot_from
in_row_lem b j [] h = absurd (false≢true h)
in_row_lem b j (k ∷ s) h = go k h (λ p. in_row_lem b (suc j) s p)
  where
    next : (k : Slot) → holds b (entry_of k) ≡ false → InRow b (suc j) s → InRow b j (k ∷ s)
    next k n r = record {
      left = k ∷ r.left;
      contents = r.contents;
      right = r.right;
      split = ap {B = List Slot} (λ y. k ∷ y) r.split;
      place = rw n (r.place ∙ omega arith);
      first = holds_append b (entry_of k) (entries r.left) ∙ rw (n, r.first);
    }

    go : (k : Slot) → holds b (entries (k ∷ s)) ≡ true → (holds b (entries s) ≡ true → InRow b (suc j) s) → InRow b j (k ∷ s)
    go empty p ih = next empty refl (ih p)
    go torn p ih = next torn refl (ih p)
    go dead p ih = next dead refl (ih p)
    go cut p ih = next cut refl (ih p)
    go wrong p ih = next wrong refl (ih p)
    go (live a c) p ih = one (eqb b a) refl p
      where
        one : (t : Bool) → eqb b a ≡ t → (t || holds b (entries s)) ≡ true → InRow b j (live a c ∷ s)
        one true e q = record {
          left = [];
          contents = c;
          right = s;
          split = ap {B = List Slot} (λ y. live y c ∷ s) (sym (eqb-true b a e));
          place = rw e (omega arith);
          first = refl;
        }
        one false e q = next (live a c) (rw e) (ih q)

-- a block among slots of which the first come apart
held_join : (b : ℕ) (s x y : List Slot) → holds b (entries (s ++ x ++ y)) ≡ (holds b (entries s) || holds b (entries (x ++ y)))
held_join b s x y = rw (append_assoc s x y, entries_append s (x ++ y), holds_append b (entries s) (entries (x ++ y)))

-- among the rows: the slot, what it holds, and that the block is nowhere earlier
pub record FirstLive (b n : ℕ) (l : List (List Slot)) : Type 0 where
  pub gap : Gap
  pub contents : List ℕ
  pub split : l ≡ fill gap (live b contents)
  pub place : place_from b n l ≡ record { number = n + length gap.rows_before; slot = length gap.before }
  pub first : holds b (entries (earlier gap)) ≡ false

pub first_live : (b n : ℕ) (l : List (List Slot)) → holds b (entries (flatten l)) ≡ true → FirstLive b n l
unfolding holds flatten flat_map entries place_from earlier
first_live b n [] h = absurd (false≢true h)
first_live b n (s ∷ l) h =
    go (holds b (entries s)) refl (sym (ap (holds b) (entries_append s (flatten l)) ∙ holds_append b (entries s) (entries (flatten l))) ∙ h) (λ p. first_live b (suc n) l p)
  where
    go : (t : Bool) → holds b (entries s) ≡ t → (holds b (entries s) || holds b (entries (flatten l))) ≡ true
        → (holds b (entries (flatten l)) ≡ true → FirstLive b (suc n) l) → FirstLive b n (s ∷ l)
    go true e p ih =
        let r = in_row_lem b 0 s e in
        let z : n ≡ n + 0 = omega arith in
        let y : slot_from b 0 s ≡ length r.left = r.place ∙ omega arith in
        record {
          gap = record { rows_before = []; before = r.left; after = r.right; rows_after = l };
          contents = r.contents;
          split = ap {B = List (List Slot)} (λ x. x ∷ l) r.split;
          place = rw (e, y, ← z);
          first = r.first;
        }
    go false e p ih =
        let r = ih (rw e at p) in
        let z : suc n + length r.gap.rows_before ≡ n + suc (length r.gap.rows_before) = omega arith in
        record {
          gap = record { rows_before = s ∷ r.gap.rows_before; before = r.gap.before; after = r.gap.after; rows_after = r.gap.rows_after };
          contents = r.contents;
          split = ap {B = List (List Slot)} (λ x. s ∷ x) r.split;
          place = rw (e, r.place, z);
          first = held_join b s (flatten r.gap.rows_before) r.gap.before ∙ rw (e, r.first);
        }

-- what stands after a live slot of the block makes no difference
pub place_earlier : (b n : ℕ) (g : Gap) (k m : Slot) → holds b (entries (earlier g)) ≡ true → place_from b n (fill g k) ≡ place_from b n (fill g m)
unfolding place_from slot_from earlier flatten flat_map entries holds
place_earlier b n g k m h = rows n g.rows_before h
  where
    in_row : (j : ℕ) (x y z : List Slot) → holds b (entries x) ≡ true → slot_from b j (x ++ y) ≡ slot_from b j (x ++ z)
    in_row j [] y z p = absurd (false≢true p)
    in_row j (a ∷ x) y z p = go (holds b (entry_of a)) refl (sym (holds_append b (entry_of a) (entries x)) ∙ p)
        (λ q. in_row (suc j) x y z q)
      where
        go : (t : Bool) → holds b (entry_of a) ≡ t → (holds b (entry_of a) || holds b (entries x)) ≡ true
            → (holds b (entries x) ≡ true → slot_from b (suc j) (x ++ y) ≡ slot_from b (suc j) (x ++ z))
            → cond (holds b (entry_of a)) j (slot_from b (suc j) (x ++ y)) ≡ cond (holds b (entry_of a)) j (slot_from b (suc j) (x ++ z))
        go true e q ih = rw e
        go false e q ih = rw e (ih (rw e at q))

    held : (x y : List Slot) → holds b (entries x) ≡ true → holds b (entries (x ++ y)) ≡ true
    held x y p = ap (holds b) (entries_append x y) ∙ (holds_append b (entries x) (entries y) ∙ rw p)

    with_row : Slot → List (List Slot) → List (List Slot)
    with_row x l = l ++ ((g.before ++ (x ∷ g.after)) ∷ g.rows_after)

    rows : (n : ℕ) (l : List (List Slot)) → holds b (entries (flatten l ++ g.before)) ≡ true → place_from b n (with_row k l) ≡ place_from b n (with_row m l)
    rows n [] p = rw (held g.before (k ∷ g.after) p, held g.before (m ∷ g.after) p, in_row 0 g.before (k ∷ g.after) (m ∷ g.after) p)
    rows n (s ∷ l) p = go (holds b (entries s)) refl (sym (held_join b s (flatten l) g.before) ∙ p) (λ q. rows (suc n) l q)
      where
        go : (t : Bool) → holds b (entries s) ≡ t → (holds b (entries s) || holds b (entries (flatten l ++ g.before))) ≡ true
            → (holds b (entries (flatten l ++ g.before)) ≡ true → place_from b (suc n) (with_row k l) ≡ place_from b (suc n) (with_row m l))
            → place_from b n (with_row k (s ∷ l)) ≡ place_from b n (with_row m (s ∷ l))
        go true e q ih = rw e
        go false e q ih = rw e (ih (rw e at q))

-- marked dead, it is no longer among the entries
pub marked_at : (b : ℕ) (v : View) (f : FirstLive b v.first v.slots) → marked (place_of b v) v ≡ record { first = v.first; slots = fill f.gap dead; version = v.version }
unfolding marked place_of
marked_at b v f = fill_changed v f.gap (live b f.contents) dead (place_from b v.first v.slots).number (place_from b v.first v.slots).slot
    f.split (ap (λ p. p.number) f.place) (ap (λ p. p.slot) f.place)

pub marked_entries : (b : ℕ) (v : View) → FirstLive b v.first v.slots → entries_in (marked (place_of b v) v) ≡ without_first b (entries_in v)
unfolding entries_in entry_of
marked_entries b v f = rw (marked_at b v f, f.split, fill_entries f.gap dead, fill_entries f.gap (live b f.contents))
    (sym (without_first_at b (entries (earlier f.gap)) (record { block = b; contents = f.contents }) (entries (later f.gap)) f.first refl))

-- ---- the top's first empty slot

-- every other row is full, and so is the top up to it; all that follow are empty
pub record TopGap (v : View) : Type 0 where
  pub gap : Gap
  pub split : v.slots ≡ fill gap empty
  pub is_top : gap.rows_after ≡ []
  pub number : top_number v ≡ v.first + length gap.rows_before
  pub slot : first_empty (top_row v.slots) ≡ length gap.before
  pub full_rows : all (λ s. full s) gap.rows_before ≡ true
  pub full_before : full gap.before ≡ true
  pub empty_after : all is_empty gap.after ≡ true

pub top_gap : (v : View) → 1 ≤ length v.slots → only_top_empty v.slots ≡ true → has_room v ≡ true → TopGap v
unfolding has_room top_number
top_gap v s e h =
    let t = find_top v.slots s in
    let p = (and-eq-true_iff (all (λ x. full x) t.others) (empty_last t.top)).0 (sym (ap only_top_empty t.split ∙ only_top_empty_lem t.others t.top) ∙ e) in
    let u : top_row v.slots ≡ t.top = ap top_row t.split ∙ top_row_lem t.others t.top in
    let q : full t.top ≡ false = ap (λ x. full x) (sym u) ∙ not-true (full (top_row v.slots)) h in
    let f = first_empty_lem t.top p.1 q in
    let n : length v.slots ≡ length t.others + 1 = ap length t.split ∙ length-append t.others (t.top ∷ []) in
    record {
      gap = record { rows_before = t.others; before = f.left; after = f.right; rows_after = [] };
      split = t.split ∙ ap {B = List (List Slot)} (λ x. t.others ++ (x ∷ [])) f.split;
      is_top = refl;
      number = omega arith;
      slot = ap first_empty u ∙ f.place;
      full_rows = p.0;
      full_before = f.full_left;
      empty_after = f.empty_right;
    }

pub none_after_top : {v : View} (g : TopGap v) → entries (later g.gap) ≡ []
unfolding later flatten
none_after_top g = rw (g.is_top, append-nil g.gap.after) (all_empty_entries g.gap.after g.empty_after)

pub all_before_top : {v : View} (g : TopGap v) → entries_in v ≡ entries (earlier g.gap)
unfolding entries_in entry_of
all_before_top g = ap (λ y. entries (flatten y)) g.split ∙ (fill_entries g.gap empty ∙ rw (none_after_top g) (append-nil (entries (earlier g.gap))))

-- a slot written there holds the last of the entries
pub written_at : (b : ℕ) (c : List ℕ) (v : View) (g : TopGap v) → written b c v ≡ record { first = v.first; slots = fill g.gap (live b c); version = v.version }
unfolding written
written_at b c v g = fill_changed v g.gap empty (live b c) (top_number v) (first_empty (top_row v.slots)) g.split g.number g.slot

pub written_entries : (b : ℕ) (c : List ℕ) (v : View) → TopGap v → entries_in (written b c v) ≡ entries_in v ++ (record { block = b; contents = c } ∷ [])
unfolding entry_of
written_entries b c v g = rw (all_before_top g, written_at b c v g) (shown g.gap (none_after_top g))
  where
    shown : (p : Gap) → entries (later p) ≡ [] → entries_in (record { first = v.first; slots = fill p (live b c); version = v.version }) ≡ entries (earlier p) ++ (record { block = b; contents = c } ∷ [])
    shown p z = unfold entries_in in (fill_entries p (live b c) ∙ rw z)

-- a block's older slot is still the first once a slot of it is written
pub written_place : (a b : ℕ) (c : List ℕ) (v : View) → TopGap v → holds a (entries_in v) ≡ true → place_of a (written b c v) ≡ place_of a v
unfolding place_of
written_place a b c v g h = rw (written_at b c v g, g.split) (place_earlier a v.first g.gap (live b c) empty (ap (holds a) (sym (all_before_top g)) ∙ h))

pub written_holds : (b : ℕ) (c : List ℕ) (v : View) → TopGap v → holds b (entries_in v) ≡ true → holds b (entries_in (written b c v)) ≡ true
written_holds b c v g h = ap (holds b) (written_entries b c v g) ∙ (holds_append b (entries_in v) (record { block = b; contents = c } ∷ []) ∙ rw h)
