-- What is clean of a view whatever its block numbers: kept by a slot written or marked, and by a segment opened or tidied.
use Rattle.std.specs.Prelude.{ℕ, suc, ◌+◌, ◌-◌, ◌≤◌, ◌<◌, ◌≡◌, refl, Bool, true, false, ◌||◌, not, length, ltb}
use Rattle.std.proofs.Common.{sym, ap, ◌∙◌, arith, length-append, leb-true, le-leb, lt-ltb}
use Rattle.std.proofs.Math.Bool.{and-eq-true_iff}
use mathlib.Core.List.{List, [], ◌∷◌, ◌++◌, flatten, append-nil}
use Rattle.std.proofs.lemmas.Bool.{not-false}
use Rattle.model.specs.Lists.{all}
use Rattle.model.specs.Header.{Version, new_version, tally_of}
use Rattle.model.specs.Slot.{Slot, empty, dead, live, is_empty, is_torn, is_wrong, Entry}
use Rattle.model.specs.State.{View, entries, entries_in, holds, distinct, none_wrong_or_torn, blocks_distinct, empty_last, only_top_empty, empty_slots_last, capacity, within_capacity, place_of}
use Rattle.model.specs.Steps.{top_row, top_number, has_room, copied, next_version, open_next, compact_oldest}
use Rattle.model.specs.Laws.Lists.{all_append, all_join, all_parts, flatten_last}
use Rattle.bridge.specs.Predicted.{Rows, CleanView, written, marked}
use Rattle.bridge.specs.Views.Slots.{full, sound, entries_append, entries_length, rows_append, full_then, all_empty_last, top_row_lem, find_top, only_top_empty_lem, copied_entries, copied_length, copied_sound, copied_empty_last, copied_full, copied_none}
use Rattle.bridge.specs.Views.Places.{Gap, fill, fill_all, fill_length, fill_rows, fill_empty_last, FirstLive, first_live, marked_at, TopGap, top_gap, written_at}

-- conditions 1, 5 and 7
pub record Shape (N B : ℕ) (v : View) : Type 0 where
  pub some : 1 ≤ length v.slots
  pub spare : length v.slots ≤ N - 1
  pub rows : Rows B v.slots
  pub sound : none_wrong_or_torn v ≡ true
  pub last : empty_slots_last v ≡ true

pub clean_shape : {N B : ℕ} {v : View} → CleanView N B v → Shape N B v
clean_shape c = record { some = c.some; spare = c.spare; rows = c.rows; sound = c.sound; last = c.last }

-- conditions 6 and 8 look at the entries alone
pub shape_clean : {N B : ℕ} {v : View} → Shape N B v → distinct (entries_in v) ≡ true → length (entries_in v) ≤ capacity N B → CleanView N B v
unfolding blocks_distinct within_capacity
shape_clean {N} {B} {v} s d h = record {
  some = s.some;
  spare = s.spare;
  rows = s.rows;
  sound = s.sound;
  once = d;
  last = s.last;
  within = le-leb (length (entries_in v)) (capacity N B) h;
}

pub clean_distinct : {N B : ℕ} {v : View} → CleanView N B v → distinct (entries_in v) ≡ true
unfolding blocks_distinct
clean_distinct c = c.once

pub clean_within : {N B : ℕ} {v : View} → CleanView N B v → length (entries_in v) ≤ capacity N B
unfolding within_capacity
clean_within {N} {B} {v} c = leb-true (length (entries_in v)) (capacity N B) c.within

-- ---- one slot changed

-- the other slot is sound too, and empty slots come last as before
changed_shape : (N B : ℕ) (v : View) (g : Gap) (k m : Slot) → v.slots ≡ fill g k → not (is_wrong m || is_torn m) ≡ true → only_top_empty (fill g m) ≡ true
    → Shape N B v → Shape N B (record { first = v.first; slots = fill g m; version = v.version })
unfolding none_wrong_or_torn empty_slots_last
changed_shape N B v g k m h p e s =
    let n : length v.slots ≡ length (fill g m) = ap length h ∙ (fill_length g k ∙ sym (fill_length g m)) in
    record {
      some = rw (← n) s.some;
      spare = rw (← n) s.spare;
      rows = fill_rows B g k m (rw h at s.rows);
      sound = fill_all (λ x. not (is_wrong x || is_torn x)) g k m p (rw h at s.sound);
      last = e;
    }

-- a sound slot at the top's first empty place
pub filled_shape : {N B : ℕ} {v : View} (k : Slot) → not (is_wrong k || is_torn k) ≡ true → is_empty k ≡ false → Shape N B v → (g : TopGap v) → Shape N B (record { first = v.first; slots = fill g.gap k; version = v.version })
filled_shape {N} {B} {v} k p q s g = changed_shape N B v g.gap empty k g.split p (ends g.gap g.is_top g.full_rows g.full_before g.empty_after) s
  where
    ends : (p : Gap) → p.rows_after ≡ [] → all (λ x. full x) p.rows_before ≡ true → full p.before ≡ true → all is_empty p.after ≡ true → only_top_empty (fill p k) ≡ true
    ends p z f l r = rw (z, only_top_empty_lem p.rows_before (p.before ++ (k ∷ p.after)), f, full_then p.before (k ∷ p.after) l)
        (unfold empty_last in (rw q (all_empty_last p.after r)))

pub written_shape : {N B : ℕ} {v : View} (b : ℕ) (c : List ℕ) → Shape N B v → TopGap v → Shape N B (written b c v)
unfolding is_wrong is_torn is_empty
written_shape {N} {B} {v} b c s g = rw (written_at b c v g) (filled_shape (live b c) refl refl s g)

pub marked_shape : {N B : ℕ} {v : View} (b : ℕ) → Shape N B v → FirstLive b v.first v.slots → Shape N B (marked (place_of b v) v)
unfolding is_wrong is_torn is_empty empty_slots_last
marked_shape {N} {B} {v} b s f = rw (marked_at b v f) (changed_shape N B v f.gap (live b f.contents) dead f.split refl
    (sym (fill_empty_last f.gap (live b f.contents) dead refl) ∙ (ap only_top_empty (sym f.split) ∙ s.last)) s)

pub shape_gap : {N B : ℕ} {v : View} → Shape N B v → has_room v ≡ true → TopGap v
unfolding empty_slots_last
shape_gap {v} s h = top_gap v s.some s.last h

pub first_live_in : (b : ℕ) (v : View) → holds b (entries_in v) ≡ true → FirstLive b v.first v.slots
unfolding entries_in
first_live_in b v h = first_live b v.first v.slots h

-- ---- a row added, which these entries were copied to

unfoldable pub row_added : Version → ℕ → ℕ → List (List Slot) → List Entry → View
row_added e B n l es = record { first = n; slots = l ++ (copied B es ∷ []); version = e }

pub added_shape : (e : Version) (N B n : ℕ) (l : List (List Slot)) (es : List Entry) → suc (length l) ≤ N - 1 → Rows B l → sound (flatten l) ≡ true → all (λ s. full s) l ≡ true → length es ≤ B
    → Shape N B (row_added e B n l es)
unfolding none_wrong_or_torn empty_slots_last row_added
added_shape e N B n l es m r s f h =
    let k = length-append l (copied B es ∷ []) in
    record {
      some = omega arith;
      spare = omega arith;
      rows = rows_append B l (copied B es ∷ []) r (copied_length B es h, tt);
      sound = rw (flatten_last l (copied B es)) (all_join (λ x. not (is_wrong x || is_torn x)) (flatten l) (copied B es) s (copied_sound B es));
      last = rw (only_top_empty_lem l (copied B es), f) (copied_empty_last B es);
    }

pub added_entries : (e : Version) (B n : ℕ) (l : List (List Slot)) (es : List Entry) → entries_in (row_added e B n l es) ≡ entries (flatten l) ++ es
unfolding entries_in row_added
added_entries e B n l es = rw (flatten_last l (copied B es), entries_append (flatten l) (copied B es), copied_entries B es)

pub added_room : (e : Version) (B n : ℕ) (l : List (List Slot)) (es : List Entry) → has_room (row_added e B n l es) ≡ ltb (length es) B
unfolding has_room row_added
added_room e B n l es = rw (top_row_lem l (copied B es), copied_full B es) (twice (ltb (length es) B))
  where
    twice : (t : Bool) → not (not t) ≡ t
    twice true = refl
    twice false = refl

pub added_top : (e : Version) (B n : ℕ) (l : List (List Slot)) (es : List Entry) → top_number (row_added e B n l es) ≡ n + length l
unfolding top_number row_added
added_top e B n l es = omega (arith, length-append l (copied B es ∷ []))

-- ---- no room: every row is full

pub all_full : {N B : ℕ} {v : View} → Shape N B v → has_room v ≡ false → all (λ s. full s) v.slots ≡ true
unfolding has_room empty_slots_last all
all_full {v} s h =
    let t = find_top v.slots s.some in
    let p = (and-eq-true_iff (all (λ x. full x) t.others) (empty_last t.top)).0 (sym (ap only_top_empty t.split ∙ only_top_empty_lem t.others t.top) ∙ s.last) in
    let q : full t.top ≡ true = ap (λ x. full x) (sym (ap top_row t.split ∙ top_row_lem t.others t.top)) ∙ not-false (full (top_row v.slots)) h in
    rw (t.split, all_append (λ x. full x) t.others (t.top ∷ []), p.0, q)

-- ---- opening

pub opened_view : (N B : ℕ) (v : View) → (open_next N B v).result ≡ row_added (next_version v) B v.first v.slots []
unfolding open_next row_added
opened_view N B v = rw (copied_none B)

pub opened_shape : {N B : ℕ} {v : View} → Shape N B v → has_room v ≡ false → length v.slots < N - 1 → Shape N B (open_next N B v).result
unfolding none_wrong_or_torn
opened_shape {N} {B} {v} s h k = rw (opened_view N B v) (added_shape (next_version v) N B v.first v.slots [] k s.rows s.sound (all_full s h) (omega arith))

pub opened_entries : (N B : ℕ) (v : View) → entries_in (open_next N B v).result ≡ entries_in v
unfolding entries_in
opened_entries N B v = ap entries_in (opened_view N B v) ∙ (added_entries (next_version v) B v.first v.slots [] ∙ append-nil (entries (flatten v.slots)))

pub opened_room : (N B : ℕ) (v : View) → 1 ≤ B → has_room (open_next N B v).result ≡ true
opened_room N B v h = ap has_room (opened_view N B v) ∙ (added_room (next_version v) B v.first v.slots [] ∙ lt-ltb 0 B h)

pub opened_top : (N B : ℕ) (v : View) → 1 ≤ length v.slots → top_number (open_next N B v).result ≡ suc (top_number v)
unfolding top_number
opened_top N B v h = ap top_number (opened_view N B v) ∙ (added_top (next_version v) B v.first v.slots [] ∙ omega arith)

-- ---- tidying: the oldest row, and the others

pub tidied_view : (N B n : ℕ) (s : List Slot) (l : List (List Slot)) (e : Version)
    → (compact_oldest N B (record { first = n; slots = s ∷ l; version = e })).result ≡ row_added (new_version (tally_of e)) B (suc n) l (entries s)
unfolding compact_oldest row_added next_version
tidied_view N B n s l e = refl

pub tidied_shape : {N B n : ℕ} {s : List Slot} {l : List (List Slot)} {e : Version} → Shape N B (record { first = n; slots = s ∷ l; version = e }) → has_room (record { first = n; slots = s ∷ l; version = e }) ≡ false
    → Shape N B (compact_oldest N B (record { first = n; slots = s ∷ l; version = e })).result
unfolding none_wrong_or_torn flatten all
tidied_shape {N} {B} {n} {s} {l} {e} c h =
    let f = (and-eq-true_iff (full s) (all (λ x. full x) l)).0 (all_full c h) in
    let p = all_parts (λ x. not (is_wrong x || is_torn x)) s (flatten l) c.sound in
    rw (tidied_view N B n s l e) (added_shape (new_version (tally_of e)) N B (suc n) l (entries s) c.spare c.rows.1 p.1 f.1 (omega (arith, entries_length s, c.rows.0)))
