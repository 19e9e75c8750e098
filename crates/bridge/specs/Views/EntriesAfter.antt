-- What a put and a delete change of the table of places that a view fills: the entry of their block, and no other.
use Rattle.std.specs.Prelude.{ℕ, zero, suc, ◌+◌, ◌-◌, ◌*◌, ◌≤◌, ◌<◌, ◌≡◌, ◌≢◌, Bool, true, cond, ◌||◌, set, eqb}
use Rattle.std.proofs.Math.Path.{refl, sym, ap}
use Rattle.std.proofs.Common.{◌∙◌, arith, get_or-set_same, get_or-set_other, ne_eqb, eq-eqb}
use Rattle.std.proofs.Math.Bool.{false, or-true}
use mathlib.Core.List.{List, [], ◌∷◌, ◌++◌, flatten}
use Rattle.std.proofs.Math.Decide.{ℕ_discrete}
use Rattle.std.proofs.Math.ListN.{length, get_or}
use Rattle.model.specs.Slot.{Slot, empty, dead, live, entry_of}
use Rattle.model.specs.State.{View, entries, entries_in, holds, copies, distinct, Place, slot_from, place_from, place_of}
use Rattle.model.specs.Steps.{slot_at, top_row, top_number, has_room, first_empty}
use Rattle.model.specs.Mounted.{place_entry}
use Rattle.model.proofs.Laws.Tables.{holds_append, copies_append, distinct_copies, held_copies, copies_absent, copies_without_same, stored_last_distinct}
use Rattle.bridge.specs.Predicted.{slot_changed, written, marked, put_into, after_delete, CleanView}
use Rattle.bridge.specs.Views.Slots.{entries_append, entries_cons}
use Rattle.bridge.specs.Views.Places.{Gap, fill, TopGap, in_view, gap_slot, fill_length, marked_at, written_at, written_place, written_holds}
use Rattle.bridge.specs.Views.Shape.{clean_shape, shape_gap, clean_distinct, first_live_in}
use Rattle.bridge.specs.Views.Requests.{stored, deleted_entries}
use Rattle.bridge.specs.Views.Entries.{rows_entry, view_entry, entry_append}

-- ---- another block's slot changed

module _ (k : ℕ) (x y : Slot) (hx : holds k (entry_of x) ≡ false) (hy : holds k (entry_of y) ≡ false) where
  slot_other : (j : ℕ) (a c : List Slot) → slot_from k j (a ++ (x ∷ c)) ≡ slot_from k j (a ++ (y ∷ c))
  unfolding slot_from
  slot_other j [] c = rw (hx, hy)
  slot_other j (m ∷ a) c = rw (slot_other (suc j) a c)

  held_other : (a c : List Slot) → holds k (entries (a ++ (x ∷ c))) ≡ holds k (entries (a ++ (y ∷ c)))
  held_other a c = one x hx ∙ sym (one y hy)
    where
      one : (z : Slot) → holds k (entry_of z) ≡ false → holds k (entries (a ++ (z ∷ c))) ≡ (holds k (entries a) || holds k (entries c))
      one z h = rw (entries_append a (z ∷ c), entries_cons z c, holds_append k (entries a) (entry_of z ++ entries c), holds_append k (entry_of z) (entries c), h)

  pub fill_entry : (N B n : ℕ) (g : Gap) → rows_entry N B n (fill g x) k ≡ rows_entry N B n (fill g y) k
  fill_entry N B n g = entry_append N B n g.rows_before _ k ∙ (ap (λ (e : ℕ). cond (holds k (entries (flatten g.rows_before))) (rows_entry N B n g.rows_before k) e) row ∙ sym (entry_append N B n g.rows_before _ k))
    where
      m : ℕ
      m = n + length g.rows_before

      one : (z : Slot) → holds k (entry_of z) ≡ false → holds k (entries (flatten ((g.before ++ (z ∷ g.after)) ∷ g.rows_after))) ≡ (holds k (entries (g.before ++ (z ∷ g.after))) || holds k (entries (flatten g.rows_after)))
      one z h = unfold flatten in (rw (entries_append (g.before ++ (z ∷ g.after)) (flatten g.rows_after), holds_append k (entries (g.before ++ (z ∷ g.after))) (entries (flatten g.rows_after))))

      row : rows_entry N B m ((g.before ++ (x ∷ g.after)) ∷ g.rows_after) k ≡ rows_entry N B m ((g.before ++ (y ∷ g.after)) ∷ g.rows_after) k
      row = unfold rows_entry place_from in (rw (one x hx, one y hy, held_other g.before g.after, slot_other 0 g.before g.after))

-- ---- where a block stands that is there once

held_get : (b j : ℕ) (c : List ℕ) (s : List Slot) → get_or s j empty ≡ live b c → holds b (entries s) ≡ true
unfolding holds entry_of
held_get b j c [] e = absurd (let z : ◌≡◌ {A = ℕ} 0 1 = cc in omega arith)
held_get b zero c (m ∷ s) e = rw (entries_cons m s, holds_append b (entry_of m) (entries s), e, eq-eqb b b refl)
held_get b (suc j) c (m ∷ s) e = rw (entries_cons m s, holds_append b (entry_of m) (entries s), held_get b j c s e) (or-true (holds b (entry_of m)))

slot_once : (b m j : ℕ) (c : List ℕ) (s : List Slot) → copies b (entries s) ≤ 1 → get_or s j empty ≡ live b c → slot_from b m s ≡ m + j
unfolding slot_from holds entry_of
slot_once b m j c [] h e = absurd (let z : ◌≡◌ {A = ℕ} 0 1 = cc in omega arith)
slot_once b m zero c (k ∷ s) h e = rw (e, eq-eqb b b refl) (omega arith)
slot_once b m (suc j) c (k ∷ s) h e = go (holds b (entry_of k)) refl (λ p. slot_once b (suc m) j c s p e)
  where
    joined : copies b (entries (k ∷ s)) ≡ copies b (entry_of k) + copies b (entries s)
    joined = rw (entries_cons k s) (copies_append b (entry_of k) (entries s))

    go : (t : Bool) → holds b (entry_of k) ≡ t → (copies b (entries s) ≤ 1 → slot_from b (suc m) s ≡ suc m + j) → cond t m (slot_from b (suc m) s) ≡ m + suc j
    go true p ih = absurd (omega (arith, joined, held_copies b (entry_of k) p, held_copies b (entries s) (held_get b j c s e)))
    go false p ih = ih (omega (arith, joined)) ∙ omega arith

held_get_rows : (b i j : ℕ) (c : List ℕ) (rows : List (List Slot)) → get_or (get_or rows i []) j empty ≡ live b c → holds b (entries (flatten rows)) ≡ true
unfolding flatten
held_get_rows b i j c [] e = absurd (let z : ◌≡◌ {A = ℕ} 0 1 = cc in omega arith)
held_get_rows b zero j c (s ∷ r) e = rw (entries_append s (flatten r), holds_append b (entries s) (entries (flatten r)), held_get b j c s e)
held_get_rows b (suc i) j c (s ∷ r) e = rw (entries_append s (flatten r), holds_append b (entries s) (entries (flatten r)), held_get_rows b i j c r e) (or-true (holds b (entries s)))

place_once : (b n i j : ℕ) (c : List ℕ) (rows : List (List Slot)) → copies b (entries (flatten rows)) ≤ 1 → get_or (get_or rows i []) j empty ≡ live b c → place_from b n rows ≡ record { number = n + i; slot = j }
unfolding place_from flatten
place_once b n i j c [] h e = absurd (let z : ◌≡◌ {A = ℕ} 0 1 = cc in omega arith)
place_once b n zero j c (s ∷ r) h e =
    let joined : copies b (entries (s ++ flatten r)) ≡ copies b (entries s) + copies b (entries (flatten r)) = rw (entries_append s (flatten r)) (copies_append b (entries s) (entries (flatten r))) in
    let z : n ≡ n + 0 = omega arith in
    let at : slot_from b 0 s ≡ j = slot_once b 0 j c s (omega (arith, joined)) e ∙ omega arith in
    rw (held_get b j c s e, at, ← z)
place_once b n (suc i) j c (s ∷ r) h e =
    let joined : copies b (entries (s ++ flatten r)) ≡ copies b (entries s) + copies b (entries (flatten r)) = rw (entries_append s (flatten r)) (copies_append b (entries s) (entries (flatten r))) in
    let none : holds b (entries s) ≡ false = copies_absent b (entries s) (omega (arith, joined, held_copies b (entries (flatten r)) (held_get_rows b i j c r e))) in
    let z : suc n + i ≡ n + suc i = omega arith in
    rw none (rw z at (place_once b (suc n) i j c r (omega (arith, joined)) e))

-- the entry of a block that is there once
once_entry : (N B : ℕ) (v : View) (b i j : ℕ) (c : List ℕ) → distinct (entries_in v) ≡ true → get_or (get_or v.slots i []) j empty ≡ live b c → place_entry N B v b ≡ slot_at N B (v.first + i) j * 256
unfolding place_entry entries_in place_of
once_entry N B v b i j c d e = rw (held_get_rows b i j c v.slots e, place_once b v.first i j c v.slots (distinct_copies (entries (flatten v.slots)) d b) e)

-- ---- a slot marked

marked_other : (N B b : ℕ) (v : View) → holds b (entries_in v) ≡ true → (a : ℕ) → a ≢ b → place_entry N B (marked (place_of b v) v) a ≡ place_entry N B v a
unfolding holds entry_of
marked_other N B b v h a n =
    let f = first_live_in b v h in
    view_entry N B (marked (place_of b v) v) a ∙ (ap (λ (y : View). rows_entry N B y.first y.slots a) (marked_at b v f)
    ∙ (fill_entry a dead (live b f.contents) refl (rw (ne_eqb a b n)) N B v.first f.gap
    ∙ (ap (λ y. rows_entry N B v.first y a) (sym f.split) ∙ sym (view_entry N B v a))))

-- a delete: the block has no entry, and the others stay
pub delete_entry : (N B b : ℕ) (v : View) → CleanView N B v → holds b (entries_in v) ≡ true → (a : ℕ) → place_entry N B (after_delete b v) a ≡ cond (eqb a b) 0 (place_entry N B v a)
unfolding after_delete
delete_entry N B b v k h a = elim (ℕ_discrete a b) [ yes e ↦ rw (e, eq-eqb b b refl) gone | no e ↦ rw (ne_eqb a b e) (marked_other N B b v h a e) ]
  where
    none : holds b (entries_in (after_delete b v)) ≡ false
    none = rw (deleted_entries N B v b k h) (copies_absent b _ (copies_without_same b (entries_in v)))

    gone : place_entry N B (after_delete b v) b ≡ 0
    gone = unfold place_entry in (rw none)

-- ---- a put where there is room

set_other : (rows : List (List Slot)) (a d i j : ℕ) (x : Slot) → a < length rows → (i ≡ a → j ≡ d → ⊥) → get_or (get_or (set rows a (set (get_or rows a []) d x)) i []) j empty ≡ get_or (get_or rows i []) j empty
set_other rows a d i j x h n = elim (ℕ_discrete i a) [
  | yes e ↦ rw e (ap (λ (y : List Slot). get_or y j empty) (get_or-set_same rows a (set (get_or rows a []) d x) [] h) ∙ get_or-set_other (get_or rows a []) d j x empty (n e))
  | no e ↦ ap (λ (y : List Slot). get_or y j empty) (get_or-set_other rows a i (set (get_or rows a []) d x) [] e)
]

-- a live slot of another block holds nothing of this one
unheld : (a b : ℕ) → a ≢ b → (e : List ℕ) → holds a (entry_of (live b e)) ≡ false
unfolding holds entry_of
unheld a b n e = rw (ne_eqb a b n)

module _ (N B b : ℕ) (c : List ℕ) (r : View) (k : CleanView N B r) (h : has_room r ≡ true) where
  g : TopGap r
  g = shape_gap (clean_shape k) h

  abbrev i : ℕ
  i = length g.gap.rows_before

  abbrev j : ℕ
  j = length g.gap.before

  -- the slot is there
  here : get_or (get_or (written b c r).slots i []) j empty ≡ live b c
  here = rw (written_at b c r g) (gap_slot g.gap (live b c))

  -- the old slot is another one
  marked_here : holds b (entries_in r) ≡ true → get_or (get_or (marked (place_of b r) (written b c r)).slots i []) j empty ≡ live b c
  unfolding marked slot_changed place_of
  marked_here held =
      let f = first_live_in b r held in
      let there = in_view B r f.gap (live b f.contents) f.split k.rows in
      let row : (place_from b r.first r.slots).number - r.first ≡ length f.gap.rows_before = omega (arith, ap (λ (y : Place). y.number) f.place) in
      let slot : (place_from b r.first r.slots).slot ≡ length f.gap.before = ap (λ (y : Place). y.slot) f.place in
      let free : get_or (get_or r.slots i []) j empty ≡ empty = ap (λ (y : List (List Slot)). get_or (get_or y i []) j empty) g.split ∙ gap_slot g.gap empty in
      let rows : length (written b c r).slots ≡ length r.slots =
      ap (λ (y : View). length y.slots) (written_at b c r g) ∙ (fill_length g.gap (live b c) ∙ (sym (fill_length g.gap empty) ∙ ap length (sym g.split))) in
      rw (first_same, row, slot) (set_other (written b c r).slots (length f.gap.rows_before) (length f.gap.before) i j dead (omega (arith, rows, there.row))
      (λ p q. clash f.contents (sym free ∙ (rw (p, q) there.kind))) ∙ here)
    where
      first_same : (written b c r).first ≡ r.first
      first_same = unfold written slot_changed in refl

      clash : (e : List ℕ) → empty ≡ live b e → ⊥
      clash e p = let z : ◌≡◌ {A = ℕ} 0 1 = cc in omega arith

  put_here : get_or (get_or (put_into b c r).slots i []) j empty ≡ live b c
  put_here = go (holds b (entries_in r)) refl
    where
      go : (t : Bool) → holds b (entries_in r) ≡ t → get_or (get_or (cond t (marked (place_of b r) (written b c r)) (written b c r)).slots i []) j empty ≡ live b c
      go true e = marked_here e
      go false e = here

  -- the entry of the block is the slot written, and the others stay
  pub put_entry : (a : ℕ) → place_entry N B (put_into b c r) a ≡ cond (eqb a b) (slot_at N B (top_number r) (first_empty (top_row r.slots)) * 256) (place_entry N B r a)
  put_entry a = elim (ℕ_discrete a b) [ yes e ↦ rw (e, eq-eqb b b refl) same | no e ↦ rw (ne_eqb a b e) (other e) ]
    where
      first : (put_into b c r).first ≡ r.first
      first = go (holds b (entries_in r))
        where
          go : (t : Bool) → (cond t (marked (place_of b r) (written b c r)) (written b c r)).first ≡ r.first
          go true = unfold marked written slot_changed in refl
          go false = unfold written slot_changed in refl

      same : place_entry N B (put_into b c r) b ≡ slot_at N B (top_number r) (first_empty (top_row r.slots)) * 256
      same = once_entry N B (put_into b c r) b i j c (ap distinct (stored N B b c r k h).entries ∙ stored_last_distinct b c (entries_in r) (clean_distinct k)) put_here
          ∙ rw (first, ← g.number, ← g.slot)

      other : a ≢ b → place_entry N B (put_into b c r) a ≡ place_entry N B r a
      other n = go (holds b (entries_in r)) refl
        where
          into : place_entry N B (written b c r) a ≡ place_entry N B r a
          into = view_entry N B (written b c r) a ∙ (ap (λ (y : View). rows_entry N B y.first y.slots a) (written_at b c r g)
              ∙ (fill_entry a (live b c) empty (unheld a b n c) (unfold holds entry_of in refl) N B r.first g.gap
              ∙ (ap (λ y. rows_entry N B r.first y a) (sym g.split) ∙ sym (view_entry N B r a))))

          go : (t : Bool) → holds b (entries_in r) ≡ t → place_entry N B (cond t (marked (place_of b r) (written b c r)) (written b c r)) a ≡ place_entry N B r a
          go true e = ap (λ (y : Place). place_entry N B (marked y (written b c r)) a) (sym (written_place b b c r g e)) ∙ (marked_other N B b (written b c r) (written_holds b c r g e) a n ∙ into)
          go false e = into
