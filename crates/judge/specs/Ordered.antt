-- Rows in order: every row but the top full, the top's empty slots last, none torn or wrong, each block once.
use Rattle.std.specs.Prelude.{ℕ, ◌+◌, ◌-◌, ◌≡◌, Bool, true, false, cond, ◌||◌, ◌&&◌, not, get_or}
use Rattle.std.proofs.Math.Path.{refl}
use Rattle.std.proofs.Common.{sym, ap, ◌∙◌, true≢false}
use Rattle.std.proofs.lemmas.Bool.{false≢true}
use Rattle.std.proofs.Math.Bool.{and-eq-true_iff}
use mathlib.Core.List.{List, [], ◌∷◌, ◌++◌, flatten, append_assoc, append-nil}
use native.Mathlib.Omega.{arith}
use Rattle.std.proofs.Math.ListN.{length, length-append}
use Rattle.std.proofs.Math.Seq.{get_or_at, set_at}
use Rattle.model.specs.Lists.{all}
use Rattle.model.specs.Header.{Version}
use Rattle.model.specs.Slot.{Slot, empty, torn, dead, cut, wrong, live, is_empty, is_torn, is_wrong, Entry, entry_of}
use Rattle.model.specs.State.{View, entries, entries_in, distinct, empty_last, only_top_empty, none_wrong_or_torn, blocks_distinct, empty_slots_last, filled, block_in}
use Rattle.model.specs.Steps.{top_row, top_number}
use Rattle.model.specs.Laws.Lists.{all_join, all_parts, all_flatten, flatten_last}
use Rattle.model.proofs.Laws.View.{slot_changed}
use Rattle.bridge.specs.Views.Slots.{full, sound, entries_append, entries_cons, all_empty_entries, all_empty_last, filled_none, filled_at, full_then, top_row_lem, only_top_empty_lem}
use Rattle.judge.specs.Cases.{last_written, last_marked, twin_block}
use Rattle.judge.specs.Judged.{Plain, distinct_front}

-- conditions 5 to 7
unfoldable pub ordered : View → Bool
ordered v = none_wrong_or_torn v && (blocks_distinct v && empty_slots_last v)

abbrev pub rows_with : ℕ → Version → List (List Slot) → List Slot → View
rows_with n ver l t = record { first = n; slots = l ++ (t ∷ []); version = ver }

-- the entries of the rows before the top
abbrev pub before_top : List (List Slot) → List Entry
before_top l = entries (flatten l)

pub record Ordered (l : List (List Slot)) (t : List Slot) : Type 0 where
  pub sound_rows : sound (flatten l) ≡ true
  pub sound_top : sound t ≡ true
  pub once : distinct (entries (flatten l) ++ entries t) ≡ true
  pub full_rows : full (flatten l) ≡ true
  pub last : empty_last t ≡ true

pub ordered_facts : (n : ℕ) (ver : Version) (l : List (List Slot)) (t : List Slot) → ordered (rows_with n ver l t) ≡ true → Ordered l t
unfolding ordered none_wrong_or_torn blocks_distinct empty_slots_last entries_in
ordered_facts n ver l t h =
    let s : sound (flatten (l ++ (t ∷ []))) ≡ true = ((and-eq-true_iff (sound (flatten (l ++ (t ∷ [])))) (distinct (entries (flatten (l ++ (t ∷ [])))) && only_top_empty (l ++ (t ∷ [])))).0 h).0 in
    let r = ((and-eq-true_iff (sound (flatten (l ++ (t ∷ [])))) (distinct (entries (flatten (l ++ (t ∷ [])))) && only_top_empty (l ++ (t ∷ [])))).0 h).1 in
    let d = (and-eq-true_iff (distinct (entries (flatten (l ++ (t ∷ []))))) (only_top_empty (l ++ (t ∷ [])))).0 r in
    let a = all_parts (λ k. not (is_wrong k || is_torn k)) (flatten l) t (rw (← (flatten_last l t)) s) in
    let e = (and-eq-true_iff (all (λ x. full x) l) (empty_last t)).0 (sym (only_top_empty_lem l t) ∙ d.1) in
    record {
      sound_rows = a.0;
      sound_top = a.1;
      once = ap distinct (sym (ap entries (flatten_last l t) ∙ entries_append (flatten l) t)) ∙ d.0;
      full_rows = all_flatten (λ k. not (is_empty k)) l ∙ e.0;
      last = e.1;
    }

pub facts_ordered : (n : ℕ) (ver : Version) (l : List (List Slot)) (t : List Slot) → Ordered l t → ordered (rows_with n ver l t) ≡ true
unfolding ordered none_wrong_or_torn blocks_distinct empty_slots_last entries_in
facts_ordered n ver l t h =
    let s : sound (flatten (l ++ (t ∷ []))) ≡ true = rw (flatten_last l t) (all_join (λ k. not (is_wrong k || is_torn k)) (flatten l) t h.sound_rows h.sound_top) in
    let d : distinct (entries (flatten (l ++ (t ∷ [])))) ≡ true = ap distinct (ap entries (flatten_last l t) ∙ entries_append (flatten l) t) ∙ h.once in
    let e : only_top_empty (l ++ (t ∷ [])) ≡ true = only_top_empty_lem l t ∙ rw (sym (all_flatten (λ k. not (is_empty k)) l) ∙ h.full_rows) h.last in
    rw (s, d, e)

pub ordered_rows : {l : List (List Slot)} {t : List Slot} → Ordered l t → Plain [] (flatten l)
ordered_rows {l} {t} h = record { sound = h.sound_rows; full = h.full_rows; once = distinct_front (entries (flatten l)) (entries t) h.once }

-- ---- a top with a slot behind which only empty ones follow

entries_ending : (x : List Slot) (k : Slot) (y : List Slot) → all is_empty y ≡ true → entries (x ++ (k ∷ y)) ≡ entries x ++ entry_of k
entries_ending x k y h = entries_append x (k ∷ y) ∙ ap (λ (z : List Entry). entries x ++ z) (entries_cons k y ∙ (rw (all_empty_entries y h) (append-nil (entry_of k))))

pub top_entries : (l : List (List Slot)) (x : List Slot) (k : Slot) (y : List Slot) → all is_empty y ≡ true → entries (flatten l) ++ entries (x ++ (k ∷ y)) ≡ entries (flatten l) ++ entries x ++ entry_of k
top_entries l x k y h = ap (λ (z : List Entry). entries (flatten l) ++ z) (entries_ending x k y h) ∙ sym (append_assoc (entries (flatten l)) (entries x) (entry_of k))

empty_sound : (s : List Slot) → all is_empty s ≡ true → sound s ≡ true
unfolding all is_empty is_wrong is_torn
empty_sound [] h = refl
empty_sound (empty ∷ s) h = empty_sound s h
empty_sound (torn ∷ s) h = absurd (false≢true h)
empty_sound (dead ∷ s) h = absurd (false≢true h)
empty_sound (cut ∷ s) h = absurd (false≢true h)
empty_sound (wrong ∷ s) h = absurd (false≢true h)
empty_sound (live b c ∷ s) h = absurd (false≢true h)

pub ordered_ending : (l : List (List Slot)) (x : List Slot) (k : Slot) (y : List Slot) → Plain [] (flatten l) → Plain (before_top l) x → all is_empty y ≡ true
    → not (is_wrong k || is_torn k) ≡ true → distinct (before_top l ++ entries x ++ entry_of k) ≡ true → Ordered l (x ++ (k ∷ y))
unfolding all empty_last
ordered_ending l x k y r p e s d = record {
  sound_rows = r.sound;
  sound_top = all_join (λ z. not (is_wrong z || is_torn z)) x (k ∷ y) p.sound (rw (s, empty_sound y e));
  once = rw (top_entries l x k y e) d;
  full_rows = r.full;
  last = full_then x (k ∷ y) p.full ∙ one (is_empty k);
}
  where
    one : (t : Bool) → cond t (all is_empty y) (empty_last y) ≡ true
    one true = e
    one false = all_empty_last y e

full_before_lem : (x : List Slot) (k : Slot) (y : List Slot) → is_empty k ≡ false → empty_last (x ++ (k ∷ y)) ≡ true → full x ≡ true
unfolding empty_last all
full_before_lem [] k y n h = refl
full_before_lem (a ∷ x) k y n h = go (is_empty a) h (λ q. full_before_lem x k y n q)
  where
    go : (t : Bool) → cond t (all is_empty (x ++ (k ∷ y))) (empty_last (x ++ (k ∷ y))) ≡ true → (empty_last (x ++ (k ∷ y)) ≡ true → full x ≡ true) → (not t && full x) ≡ true
    go true q ih = absurd (false≢true (sym n ∙ ((and-eq-true_iff (is_empty k) (all is_empty y)).0 (all_parts is_empty x (k ∷ y) q).1).0))
    go false q ih = ih q

pub ending_plain : (l : List (List Slot)) (x : List Slot) (k : Slot) (y : List Slot) → is_empty k ≡ false → all is_empty y ≡ true → Ordered l (x ++ (k ∷ y)) → Plain (before_top l) x
ending_plain l x k y n e h = record {
  sound = (all_parts (λ z. not (is_wrong z || is_torn z)) x (k ∷ y) h.sound_top).0;
  full = full_before_lem x k y n h.last;
  once = distinct_front (before_top l ++ entries x) (entry_of k) (rw (← (top_entries l x k y e)) h.once);
}

-- ---- the last written slot

pub record Last (s : List Slot) : Type 0 where
  pub left : List Slot
  pub slot : Slot
  pub right : List Slot
  pub split : s ≡ left ++ (slot ∷ right)
  pub written : is_empty slot ≡ false
  pub rest : all is_empty right ≡ true

pub find_last : (s : List Slot) → all is_empty s ≡ false → Last s
unfolding all
find_last [] h = absurd (true≢false h)
find_last (k ∷ s) h = go (all is_empty s) refl h (λ q. find_last s q)
  where
    one : (t : Bool) → (t && true) ≡ false → t ≡ false
    one true q = absurd (true≢false q)
    one false q = refl

    go : (t : Bool) → all is_empty s ≡ t → (is_empty k && t) ≡ false → (all is_empty s ≡ false → Last s) → Last (k ∷ s)
    go true e q ih = record { left = []; slot = k; right = s; split = refl; written = one (is_empty k) q; rest = e }
    go false e q ih = let r = ih e in record { left = k ∷ r.left; slot = r.slot; right = r.right; split = ap {B = List Slot} (λ y. k ∷ y) r.split; written = r.written; rest = r.rest }

module _ (n : ℕ) (ver : Version) (l : List (List Slot)) (x : List Slot) (k : Slot) (y : List Slot) (w : is_empty k ≡ false) (e : all is_empty y ≡ true) where
  place : filled (top_row (l ++ ((x ++ (k ∷ y)) ∷ []))) - 1 ≡ length x
  place = rw (top_row_lem l (x ++ (k ∷ y)), filled_at x k y w e) (omega arith)

  pub last_written_lem : last_written (rows_with n ver l (x ++ (k ∷ y))) ≡ k
  unfolding last_written
  last_written_lem = rw (place, top_row_lem l (x ++ (k ∷ y))) (get_or_at x k y empty (length x) refl)

  pub last_marked_lem : last_marked (rows_with n ver l (x ++ (k ∷ y))) ≡ rows_with n ver l (x ++ (cut ∷ y))
  unfolding last_marked slot_changed top_number
  last_marked_lem =
      let m = length-append l ((x ++ (k ∷ y)) ∷ []) in
      let i : length l ≡ n + length (l ++ ((x ++ (k ∷ y)) ∷ [])) - 1 - n = omega arith in
      rw (place, ← i, get_or_at l (x ++ (k ∷ y)) [] [] (length l) refl, set_at x k y cut (length x) refl, set_at l (x ++ (k ∷ y)) [] (x ++ (cut ∷ y)) (length l) refl)

-- and its block if it is live
pub last_block_lem : (n : ℕ) (ver : Version) (l : List (List Slot)) (x : List Slot) (b : ℕ) (c : List ℕ) (y : List Slot) → all is_empty y ≡ true → twin_block (rows_with n ver l (x ++ (live b c ∷ y))) ≡ b
unfolding twin_block is_empty entry_of block_in
last_block_lem n ver l x b c y e = ap (λ (k : Slot). block_in (entry_of k)) (last_written_lem n ver l x (live b c) y refl e)

-- a top with no slot written has none that is last
pub none_written : (n : ℕ) (ver : Version) (l : List (List Slot)) (t : List Slot) → all is_empty t ≡ true → last_written (rows_with n ver l t) ≡ empty
unfolding last_written
none_written n ver l t e = rw (top_row_lem l t, filled_none t e) (first t e)
  where
    is_empty_lem : (k : Slot) → is_empty k ≡ true → k ≡ empty
    is_empty_lem empty q = refl
    is_empty_lem torn q = absurd (false≢true (unfold is_empty in q))
    is_empty_lem dead q = absurd (false≢true (unfold is_empty in q))
    is_empty_lem cut q = absurd (false≢true (unfold is_empty in q))
    is_empty_lem wrong q = absurd (false≢true (unfold is_empty in q))
    is_empty_lem (live b c) q = absurd (false≢true (unfold is_empty in q))

    first : (s : List Slot) → all is_empty s ≡ true → get_or s (0 - 1) empty ≡ empty
    first [] q = refl
    first (k ∷ s) q = is_empty_lem k ((and-eq-true_iff (is_empty k) (all is_empty s)).0 (unfold all in q)).0
