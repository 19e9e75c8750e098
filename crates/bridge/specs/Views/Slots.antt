-- Laws of slots in rows: what an append holds, counts, where the empty ones are, and the row that entries were copied to.
use Rattle.std.specs.Prelude.{ℕ, zero, suc, ◌+◌, ◌-◌, ◌*◌, ◌≤◌, ◌≡◌, refl, Bool, true, false, cond, ◌||◌, ◌&&◌, not, length, drop, replicate, ltb}
use Rattle.std.proofs.Common.{sym, ap, ◌∙◌, true≢false, arith, length-append, lt-ltb, le-ltb}
use Rattle.std.proofs.lemmas.Bool.{false≢true}
use Rattle.std.proofs.Math.Bool.{and-false, and-true, and_assoc, and-eq-true_iff}
use mathlib.Core.List.{List, [], ◌∷◌, ◌++◌, map, flat_map, flatten, append_assoc, append-nil}
use Rattle.std.proofs.lemmas.List.{length-replicate, length-map}
use Rattle.model.specs.Lists.{all, count}
use Rattle.model.specs.Slot.{Slot, empty, torn, dead, cut, wrong, live, is_empty, is_torn, is_dead, is_wrong, Entry, entry_of, holding}
use Rattle.model.specs.State.{entries, empty_last, only_top_empty, filled}
use Rattle.model.specs.Steps.{top_row, first_empty, copied}
use Rattle.model.specs.Laws.Lists.{all_join, all_append, all_replicate, none_count}
use Rattle.bridge.specs.Predicted.{Rows}

-- ---- tests on every slot

abbrev pub full : List Slot → Bool
full s = all (λ k. not (is_empty k)) s

abbrev pub none_dead : List Slot → Bool
none_dead s = all (λ k. not (is_dead k)) s

abbrev pub sound : List Slot → Bool
sound s = all (λ k. not (is_wrong k || is_torn k)) s

-- ---- rows joined

pub entries_append : (x y : List Slot) → entries (x ++ y) ≡ entries x ++ entries y
unfolding entries flat_map
entries_append [] y = refl
entries_append (k ∷ x) y = rw (entries_append x y) (sym (append_assoc (entry_of k) (flat_map entry_of x) (flat_map entry_of y)))

pub entries_cons : (k : Slot) (x : List Slot) → entries (k ∷ x) ≡ entry_of k ++ entries x
unfolding entries flat_map
entries_cons k x = refl

pub rows_append : (B : ℕ) (a b : List (List Slot)) → Rows B a → Rows B b → Rows B (a ++ b)
rows_append B [] b p q = q
rows_append B (s ∷ a) b p q = (p.0, rows_append B a b p.1 q)

pub rows_length : (B : ℕ) (a : List (List Slot)) → Rows B a → length (flatten a) ≡ length a * B
unfolding flatten
rows_length B [] h = omega arith
rows_length B (s ∷ a) h = let q : suc (length a) * B ≡ B + length a * B = omega arith in
    length-append s (flatten a) ∙ (rw (h.0, rows_length B a h.1) (sym q))

-- the first row left out and another added
pub same_rows : (l : List (List Slot)) (x : List Slot) → 1 ≤ length l → length (drop 1 l ++ (x ∷ [])) ≡ length l
same_rows [] x h = absurd (omega arith)
same_rows (y ∷ l) x h = length-append l (x ∷ []) ∙ omega arith

-- ---- every slot without error is live, dead or empty

pub slots_counted : (s : List Slot) → sound s ≡ true → length (entries s) + (count is_dead s + count is_empty s) ≡ length s
unfolding all entries flat_map entry_of count is_empty is_dead is_wrong is_torn
slots_counted [] h = omega arith
slots_counted (empty ∷ s) h = omega (arith, slots_counted s h)
slots_counted (torn ∷ s) h = absurd (false≢true h)
slots_counted (dead ∷ s) h = omega (arith, slots_counted s h)
slots_counted (cut ∷ s) h = omega (arith, slots_counted s h)
slots_counted (wrong ∷ s) h = absurd (false≢true h)
slots_counted (live b c ∷ s) h = omega (arith, slots_counted s h)

pub entries_length : (s : List Slot) → length (entries s) ≤ length s
unfolding entries flat_map entry_of
entries_length [] = omega arith
entries_length (empty ∷ s) = omega (arith, entries_length s)
entries_length (torn ∷ s) = omega (arith, entries_length s)
entries_length (dead ∷ s) = omega (arith, entries_length s)
entries_length (cut ∷ s) = omega (arith, entries_length s)
entries_length (wrong ∷ s) = omega (arith, entries_length s)
entries_length (live b c ∷ s) = omega (arith, entries_length s)

pub full_counted : (s : List Slot) → sound s ≡ true → full s ≡ true → length (entries s) + count is_dead s ≡ length s
full_counted s h f = omega (arith, slots_counted s h, none_count is_empty s f)

-- ---- empty slots

pub all_empty_entries : (s : List Slot) → all is_empty s ≡ true → entries s ≡ []
unfolding all entries flat_map entry_of is_empty
all_empty_entries [] h = refl
all_empty_entries (empty ∷ s) h = all_empty_entries s h
all_empty_entries (torn ∷ s) h = absurd (false≢true h)
all_empty_entries (dead ∷ s) h = absurd (false≢true h)
all_empty_entries (cut ∷ s) h = absurd (false≢true h)
all_empty_entries (wrong ∷ s) h = absurd (false≢true h)
all_empty_entries (live b c ∷ s) h = absurd (false≢true h)

pub all_empty_last : (s : List Slot) → all is_empty s ≡ true → empty_last s ≡ true
unfolding all empty_last
all_empty_last [] h = refl
all_empty_last (k ∷ s) h = let p = (and-eq-true_iff (is_empty k) (all is_empty s)).0 h in rw p.0 p.1

pub full_then : (x y : List Slot) → full x ≡ true → empty_last (x ++ y) ≡ empty_last y
unfolding all empty_last
full_then [] y h = refl
full_then (k ∷ x) y h = go (is_empty k) h (λ p. full_then x y p)
  where
    go : (t : Bool) → (not t && full x) ≡ true → (full x ≡ true → empty_last (x ++ y) ≡ empty_last y) → cond t (all is_empty (x ++ y)) (empty_last (x ++ y)) ≡ empty_last y
    go true p ih = absurd (false≢true p)
    go false p ih = ih p

-- the last slot that is not empty
pub filled_none : (s : List Slot) → all is_empty s ≡ true → filled s ≡ 0
unfolding filled
filled_none [] h = refl
filled_none (k ∷ s) h = rw h

pub filled_at : (x : List Slot) (k : Slot) (y : List Slot) → is_empty k ≡ false → all is_empty y ≡ true → filled (x ++ (k ∷ y)) ≡ suc (length x)
unfolding filled all
filled_at [] k y e h = rw (e, filled_none y h)
filled_at (a ∷ x) k y e h = rw (some x, and-false (is_empty a), filled_at x k y e h)
  where
    some : (w : List Slot) → all is_empty (w ++ (k ∷ y)) ≡ false
    some [] = rw e
    some (m ∷ w) = ap (λ t. is_empty m && t) (some w) ∙ and-false (is_empty m)

-- a row with its first empty slot: none empty before it, all empty after it
pub record FirstEmpty (s : List Slot) : Type 0 where
  pub left : List Slot
  pub right : List Slot
  pub split : s ≡ left ++ (empty ∷ right)
  pub place : first_empty s ≡ length left
  pub full_left : full left ≡ true
  pub empty_right : all is_empty right ≡ true

pub first_empty_lem : (s : List Slot) → empty_last s ≡ true → full s ≡ false → FirstEmpty s
unfolding empty_last all first_empty is_empty
first_empty_lem [] h f = absurd (true≢false f)
first_empty_lem (k ∷ s) h f = go k h f (λ p q. first_empty_lem s p q)
  where
    next : (k : Slot) → is_empty k ≡ false → FirstEmpty s → FirstEmpty (k ∷ s)
    next k e r = record {
      left = k ∷ r.left;
      right = r.right;
      split = ap {B = List Slot} (λ y. k ∷ y) r.split;
      place = rw (e, r.place);
      full_left = rw (e, r.full_left);
      empty_right = r.empty_right;
    }

    go : (k : Slot) → empty_last (k ∷ s) ≡ true → full (k ∷ s) ≡ false → (empty_last s ≡ true → full s ≡ false → FirstEmpty s) → FirstEmpty (k ∷ s)
    go empty p q ih = record { left = []; right = s; split = refl; place = refl; full_left = refl; empty_right = p }
    go torn p q ih = next torn refl (ih p q)
    go dead p q ih = next dead refl (ih p q)
    go cut p q ih = next cut refl (ih p q)
    go wrong p q ih = next wrong refl (ih p q)
    go (live b c) p q ih = next (live b c) refl (ih p q)

-- ---- the top, which is the last row

pub top_row_lem : (l : List (List Slot)) (t : List Slot) → top_row (l ++ (t ∷ [])) ≡ t
unfolding top_row
top_row_lem [] t = refl
top_row_lem (s ∷ []) t = refl
top_row_lem (s ∷ u ∷ l) t = top_row_lem (u ∷ l) t

pub record Top (l : List (List Slot)) : Type 0 where
  pub others : List (List Slot)
  pub top : List Slot
  pub split : l ≡ others ++ (top ∷ [])

pub find_top : (l : List (List Slot)) → 1 ≤ length l → Top l
find_top [] h = absurd (omega arith)
find_top (s ∷ []) h = record { others = []; top = s; split = refl }
find_top (s ∷ u ∷ l) h = let r = find_top (u ∷ l) (omega arith) in
    record { others = s ∷ r.others; top = r.top; split = ap {B = List (List Slot)} (λ y. s ∷ y) r.split }

pub only_top_empty_lem : (l : List (List Slot)) (t : List Slot) → only_top_empty (l ++ (t ∷ [])) ≡ (all (λ s. full s) l && empty_last t)
unfolding only_top_empty all
only_top_empty_lem [] t = refl
only_top_empty_lem (s ∷ []) t = rw (and-true (full s))
only_top_empty_lem (s ∷ u ∷ l) t = ap (λ y. full s && y) (only_top_empty_lem (u ∷ l) t) ∙ sym (and_assoc (full s) (all (λ y. full y) (u ∷ l)) (empty_last t))

-- ---- the row that entries were copied to

pub holding_entries : (es : List Entry) → entries (map holding es) ≡ es
unfolding entries flat_map entry_of holding
holding_entries [] = refl
holding_entries (e ∷ es) = ap {B = List Entry} (λ y. e ∷ y) (holding_entries es)

-- every live slot passes a test
pub all_holding : (f : Slot → Bool) → ((b : ℕ) (c : List ℕ) → f (live b c) ≡ true) → (es : List Entry) → all f (map holding es) ≡ true
unfolding all holding
all_holding f h [] = refl
all_holding f h (e ∷ es) = rw (h e.block e.contents) (all_holding f h es)

-- every live and empty slot passes a test
pub all_copied : (f : Slot → Bool) → ((b : ℕ) (c : List ℕ) → f (live b c) ≡ true) → f empty ≡ true → (B : ℕ) (es : List Entry) → all f (copied B es) ≡ true
unfolding copied
all_copied f h k B es = all_join f (map holding es) (replicate (B - length es) empty) (all_holding f h es) (all_replicate f empty k (B - length es))

pub copied_entries : (B : ℕ) (es : List Entry) → entries (copied B es) ≡ es
unfolding copied is_empty
copied_entries B es = entries_append (map holding es) (replicate (B - length es) empty)
    ∙ rw (holding_entries es, all_empty_entries (replicate (B - length es) empty) (all_replicate is_empty empty refl (B - length es))) (append-nil es)

pub copied_length : (B : ℕ) (es : List Entry) → length es ≤ B → length (copied B es) ≡ B
unfolding copied
copied_length B es h = length-append (map holding es) (replicate (B - length es) empty) ∙ rw (length-map es holding, length-replicate (B - length es) empty) (omega arith)

pub copied_sound : (B : ℕ) (es : List Entry) → sound (copied B es) ≡ true
unfolding is_wrong is_torn
copied_sound B es = all_copied (λ k. not (is_wrong k || is_torn k)) (λ b c. refl) refl B es

pub copied_none_dead : (B : ℕ) (es : List Entry) → none_dead (copied B es) ≡ true
unfolding is_dead
copied_none_dead B es = all_copied (λ k. not (is_dead k)) (λ b c. refl) refl B es

pub copied_empty_last : (B : ℕ) (es : List Entry) → empty_last (copied B es) ≡ true
unfolding copied is_empty
copied_empty_last B es = full_then (map holding es) (replicate (B - length es) empty) (all_holding (λ k. not (is_empty k)) (λ b c. refl) es)
    ∙ all_empty_last (replicate (B - length es) empty) (all_replicate is_empty empty refl (B - length es))

-- it has room if there were fewer than B entries
pub copied_full : (B : ℕ) (es : List Entry) → full (copied B es) ≡ not (ltb (length es) B)
unfolding copied is_empty all
copied_full B es = all_append (λ k. not (is_empty k)) (map holding es) (replicate (B - length es) empty)
    ∙ (rw (all_holding (λ k. not (is_empty k)) (λ b c. refl) es) (go (B - length es) refl))
  where
    go : (n : ℕ) → B - length es ≡ n → full (replicate n empty) ≡ not (ltb (length es) B)
    go zero h = rw (le-ltb (length es) B (omega arith))
    go (suc n) h = rw (lt-ltb (length es) B (omega arith))

pub copied_none : (B : ℕ) → replicate B empty ≡ copied B []
unfolding copied
copied_none B = let e : B - 0 ≡ B = omega arith in rw e
