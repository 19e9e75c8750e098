-- What a caller knows of the result of a search: it lies inside the image, and for an image with a view it is by the view's entries and places.
use Prim.Native.Nat.{ℕ, zero, suc, ◌+◌, ◌*◌, ◌%◌, ◌≤◌, ◌<◌}
use mathlib.Core.Path.{◌≡◌, refl, sym, ap, ◌∙◌, subst}
use mathlib.Core.Bool.{Bool, true, false, cond}
use mathlib.Core.List.{List, ◌∷◌, flat_map, flatten}
use native.Mathlib.Nat.{mod-lt, mul-le-mul_right, suc-mul}
use native.Mathlib.Omega.{arith}
use lib.ListN.{length}
use lib.Dec.{eqb}
use Rattle.model.specs.declared.SlotPlace.{SlotPlace}
use Rattle.model.specs.Chip.{Image, Page}
use Rattle.model.specs.Slot.{most_contents, Slot, empty, torn, dead, cut, wrong, live, slot_of, entry_of}
use Rattle.model.specs.State.{View, entries, entries_in, holds, place_of}
use Rattle.model.specs.Steps.{slot_at}
use Rattle.model.specs.Table.{absent, present, lookup, contents_found}
use Rattle.model.proofs.Laws.SlotPage.{live_facts}
use Rattle.bridge.specs.Held.{Held}
use Rattle.std.specs.Prelude.{Option, None, Some}
use Rattle.std.specs.declared.option.Option.{Option}
use Rattle.find.specs.declared.FoundSlot.{FoundSlot}
use Rattle.find.specs.Search.{rows_at, slot_found, found_in, held_found}
use Rattle.find.proofs.Laws.{found_from, row_enter, row_end, slot_next, slot_stop, slots_left, page_read, left_next, left_end}

-- ---- inside the image, whatever the image

-- the slot's page is inside, and so are its contents
abbrev pub Inside : ℕ → ℕ → Option FoundSlot → Type 0
Inside N B (Some x) = (x.place.0 + 256 ≤ N * (B + 1) * 256) × (x.length ≤ 248)
Inside N B None = Unit {0}

short : (b : ℕ) (p : Page) (k : Slot) → slot_of p ≡ k → length (contents_found (lookup b (entry_of k))) ≤ 248
unfolding entry_of lookup contents_found
short b p empty e = omega arith
short b p torn e = omega arith
short b p dead e = omega arith
short b p cut e = omega arith
short b p wrong e = omega arith
short b p (live n c) e = go (eqb b n)
  where
    go : (t : Bool) → length (contents_found (cond t (present c) absent)) ≤ 248
    go true = unfold most_contents in (live_facts p n c e).short
    go false = omega arith

slot_inside : (N B n j : ℕ) → n % N < N → j < B → slot_at N B n j * 256 + 256 ≤ N * (B + 1) * 256
unfolding slot_at
slot_inside N B n j h k = omega (arith, mul-le-mul_right (B + 1) h, suc-mul (n % N) (B + 1))

module _ (N B b : ℕ) (s : Image) (some : 0 < N) where
  row_inside : (n : ℕ) (rows : List (List Slot)) → Inside N B (found_in N B (suc n) rows b) → (d j : ℕ) → j + d ≡ B → Inside N B (found_from N B b n j (slots_left N B s n j) rows)
  row_inside n rows i zero j e =
      let g : found_from N B b n j (slots_left N B s n j) rows ≡ found_in N B (suc n) rows b =
      ap (λ (ks : List Slot). found_from N B b n j ks rows) (left_end N B s n j (mod-lt n {m = N} some) (omega arith)) ∙ row_end N B b n j rows in
      subst (Inside N B) (sym g) i
  row_inside n rows i (suc d) j e =
      subst (λ (ks : List Slot). Inside N B (found_from N B b n j ks rows)) (sym (left_next N B s n j at (mod-lt n {m = N} some) (omega arith) refl))
      (go (holds b (entry_of (slot_of page))) refl (row_inside n rows i d (j + 1) (omega arith)))
    where
      at : ℕ
      at = slot_at N B n 0 * 256 + j * 256

      page : Page
      page = page_read s at

      later : List Slot
      later = slots_left N B s n (j + 1)

      go : (t : Bool) → holds b (entry_of (slot_of page)) ≡ t → Inside N B (found_from N B b n (j + 1) later rows) → Inside N B (found_from N B b n j (slot_of page ∷ later) rows)
      go true h m = subst (Inside N B) (sym (slot_stop N B b n j (slot_of page) later rows h)) (slot_inside N B n j (mod-lt n {m = N} some) (omega arith), short b page (slot_of page) refl)
      go false h m = subst (Inside N B) (sym (slot_next N B b n j (slot_of page) later rows h)) m

  rows_inside : (u n : ℕ) → Inside N B (found_in N B n (rows_at N B s u n) b)
  unfolding rows_at
  rows_inside zero n = unfold found_in flatten entries flat_map holds in tt
  rows_inside (suc u) n =
      let rows = rows_at N B s u (suc n) in
      subst (Inside N B) (sym (row_enter N B b n (slots_left N B s n 0) rows)) (row_inside n rows (rows_inside u (suc n)) B 0 (omega arith))

  pub found_inside : {r : Option FoundSlot} (u n : ℕ) → r ≡ found_in N B n (rows_at N B s u n) b → Inside N B r
  found_inside u n e = subst (Inside N B) (sym e) (rows_inside u n)

-- ---- an image with a view

pub record FoundAt (N B b : ℕ) (v : View) (p : SlotPlace) (l : ℕ) : Type 0 where
  pub held : holds b (entries_in v) ≡ true
  pub place : p.0 ≡ slot_at N B (place_of b v).number (place_of b v).slot * 256
  pub long : l ≡ length (contents_found (lookup b (entries_in v)))

module _ (N B b : ℕ) (s : Image) (v : View) (h : Held N B s v) {r : Option FoundSlot} {n u : ℕ} (f : n ≡ v.first) (g : u ≡ length v.slots)
    (e : r ≡ found_in N B n (rows_at N B s u n) b) where
  abbrev answer : Bool → Option FoundSlot
  answer t = cond t (slot_found (slot_at N B (place_of b v).number (place_of b v).slot * 256) (length (contents_found (lookup b (entries_in v))))) None

  outcome : r ≡ answer (holds b (entries_in v))
  outcome = (rw (f, g) at e) ∙ held_found N B s v b h

  pub found_at : (x : FoundSlot) → r ≡ Some x → FoundAt N B b v x.place x.length
  found_at x a = go (holds b (entries_in v)) refl (sym a ∙ outcome)
    where
      go : (t : Bool) → holds b (entries_in v) ≡ t → Some x ≡ answer t → FoundAt N B b v x.place x.length
      go true t q =
          let e : x ≡ record { place = record { 0 = slot_at N B (place_of b v).number (place_of b v).slot * 256 }; length = length (contents_found (lookup b (entries_in v))) } = cc in
          record { held = t; place = ap (λ (y : FoundSlot). y.place.0) e; long = ap (λ (y : FoundSlot). y.length) e }
      go false t q = absurd (let z : ◌≡◌ {A = ℕ} 0 1 = cc in omega arith)

  pub found_nothing : r ≡ None → holds b (entries_in v) ≡ false
  found_nothing a = go (holds b (entries_in v)) refl (sym a ∙ outcome)
    where
      go : (t : Bool) → holds b (entries_in v) ≡ t → None ≡ answer t → holds b (entries_in v) ≡ false
      go true t q = absurd (let z : ◌≡◌ {A = ℕ} 0 1 = cc in omega arith)
      go false t q = t
