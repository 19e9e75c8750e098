-- What a caller knows of each result: bounds on any image, and on a clean one what the definitions say of its view.
use Prim.Native.Nat.{ℕ, zero, suc, ◌+◌, ◌-◌, ◌*◌, ◌%◌, ◌≤◌, ◌<◌}
use mathlib.Core.Path.{◌≡◌, refl, sym, ap, ◌∙◌, subst}
use mathlib.Core.Bool.{Bool, true, false, cond, ◌||◌, ◌&&◌, not}
use mathlib.Core.List.{List, [], ◌∷◌, flatten}
use native.Mathlib.Nat.{mod-lt}
use native.Mathlib.Omega.{arith}
use lib.ListN.{length, get_or}
use lib.Dec.{leb, eqb}
use borrow.Author.Tests.{leb-true, leb-false, le-leb, lt-leb, eq-eqb, ne_eqb}
use Rattle.model.specs.Lists.{all, count}
use Rattle.model.specs.Chip.{Image, right_size}
use Rattle.model.specs.Slot.{Slot, empty, slot_of, is_empty, is_torn, is_wrong}
use Rattle.model.specs.State.{View, entries_in, none_wrong_or_torn, empty_last, only_top_empty, empty_slots_last, capacity, clean, state, view}
use Rattle.model.specs.Steps.{slot_at, top_row, top_number, first_empty, compactions}
use Rattle.model.specs.Laws.Lists.{and_right, all_row, all_get}
use Rattle.model.proofs.Laws.Chip.{size_facts}
use Rattle.model.proofs.Laws.Segments.{part_of, page_byte}
use Rattle.model.proofs.Laws.Effects.{slot_kind, slot_page_size, slot_count}
use Rattle.bridge.specs.Predicted.{CleanView}
use Rattle.bridge.specs.Views.Slots.{full, rows_length, top_row_lem, find_top, only_top_empty_lem}
use Rattle.bridge.specs.Held.{Held, held_of_clean, held_row, clean_view}
use Rattle.plan.specs.Statuses.{slot_status, status_row, status_rows, none_marked, first_marked, not_live, FreeFrom}
use Rattle.plan.proofs.Laws.Kinds.{Tells, page_tells, RowTells, RowsTell, row_tells, first_dead, rows_live, first_empty_at}
use Rattle.plan.proofs.Laws.Walks.{status_read}

-- ---- any image

rows_count : (N B : ℕ) (s : Image) (u n : ℕ) → length (status_rows N B s u n) ≡ u
unfolding status_rows
rows_count N B s zero n = refl
rows_count N B s (suc u) n = ap suc (rows_count N B s u (suc n))

first_within : (rows : List (List ℕ)) → (first_marked rows ≤ length rows) × (1 ≤ length rows → 1 ≤ first_marked rows)
unfolding first_marked
first_within [] = (omega arith, λ h. h)
first_within (xs ∷ r) = go (none_marked xs) (first_within r).0
  where
    go : (t : Bool) → first_marked r ≤ length r → (cond t (suc (first_marked r)) 1 ≤ suc (length r)) × (1 ≤ suc (length r) → 1 ≤ cond t (suc (first_marked r)) 1)
    go true h = (omega arith, λ p. omega arith)
    go false h = (omega arith, λ p. omega arith)

pub compactions_within : (N B : ℕ) (s : Image) {r : ℕ} (u n : ℕ) → r ≡ first_marked (status_rows N B s u n) → (r ≤ u) × (1 ≤ u → 1 ≤ r)
compactions_within N B s u n e =
    let w = first_within (status_rows N B s u n) in
    (omega (arith, e, w.0, rows_count N B s u n), λ h. rw e (w.1 (omega (arith, rows_count N B s u n))))

-- ---- a clean image

rows_tell : (N B : ℕ) (s : Image) (rows : List (List Slot)) (n : ℕ) → ((k : ℕ) → k < length rows → RowTells (get_or rows k []) (status_row N B s (n + k))) → RowsTell rows (status_rows N B s (length rows) n)
unfolding status_rows
rows_tell N B s [] n f = tt
rows_tell N B s (x ∷ rows) n f =
    let e : n + 0 ≡ n = omega arith in
    (rw e at (f 0 (omega arith)), rows_tell N B s rows (suc n) (λ k h. let g : n + suc k ≡ suc n + k = omega arith in rw g at (f (suc k) (omega arith))))

alike : (others live total : ℕ) → others + live ≡ total → leb others 1 ≡ leb (total - 1) live
alike others live total e = go (leb others 1) refl
  where
    go : (t : Bool) → leb others 1 ≡ t → t ≡ leb (total - 1) live
    go true q = sym (le-leb (total - 1) live (omega (arith, leb-true others 1 q)))
    go false q = sym (lt-leb (total - 1) live (omega (arith, leb-false others 1 q)))

last_row : (rows : List (List Slot)) → 1 ≤ length rows → get_or rows (length rows - 1) [] ≡ top_row rows
unfolding top_row
last_row [] h = absurd (omega arith)
last_row (t ∷ []) h = refl
last_row (x ∷ t ∷ rows) h = let e : suc (suc (length rows)) - 1 ≡ suc (suc (length rows) - 1) = omega arith in rw e (last_row (t ∷ rows) (omega arith))

module _ (N B : ℕ) (s : Image) (z : right_size N B s ≡ true) (c : state N B s ≡ clean) where
  abbrev v : View
  v = view N B s

  held : Held N B s v
  held = held_of_clean N B s z c

  fine : CleanView N B v
  fine = clean_view N B s z c

  row_long : (k : ℕ) → k < length v.slots → length (get_or v.slots k []) ≡ B
  row_long k h =
      let size = size_facts N B s z in
      let d = held_row N B s v held k h in
      slot_count N B size.two s size.whole (v.first + k) 0 d.0 d.1 (v.first + k) (get_or v.slots k []) (omega (arith, size.slots)) d.2

  -- slot j of row k
  slot_tells : (k j : ℕ) → k < length v.slots → j < B → Tells (get_or (get_or v.slots k []) j empty) (slot_status N B s (v.first + k) j)
  unfolding slot_status slot_at none_wrong_or_torn
  slot_tells k j h i =
      let n = v.first + k in
      let size = size_facts N B s z in
      let row = get_or v.slots k [] in
      let d = held_row N B s v held k h in
      let inside : n % N < N = mod-lt n {m = N} (omega (arith, size.two)) in
      let page = get_or (part_of N B (n % N) s) (suc j) [] in
      let e : slot_of page ≡ get_or row j empty = slot_kind N B size.two s size.whole n j d.0 d.1 n row i d.2 in
      let l : length page ≡ 256 = slot_page_size N B size.two s size.whole n j d.0 d.1 n row i d.2 in
      let b : (n % N * (B + 1) + suc j) * 256 + 0 ≡ (n % N * (B + 1) + suc j) * 256 = omega arith in
      let x : get_or page 0 0 ≡ get_or s ((n % N * (B + 1) + suc j) * 256) 0 = rw b at (page_byte N B (n % N) (suc j) 0 s inside (omega arith) (omega arith)) in
      let q = all_get (λ y. not (is_wrong y || is_torn y)) row j empty (all_row (λ y. not (is_wrong y || is_torn y)) v.slots k fine.sound) (omega (arith, row_long k h)) in
      rw x at (page_tells page (get_or row j empty) l e q)

  row_told : (k : ℕ) → k < length v.slots → RowTells (get_or v.slots k []) (status_row N B s (v.first + k))
  unfolding status_row
  row_told k h =
      let n = v.first + k in
      let l = row_long k h in
      rw l at (row_tells s (get_or v.slots k []) (slot_at N B n 0 * 256) (λ j p. subst (λ y. Tells (get_or (get_or v.slots k []) j empty) y) (status_read N B n _ j s refl) (slot_tells k j h (omega (arith, l)))))

  rows_told : RowsTell v.slots (status_rows N B s (length v.slots) v.first)
  rows_told = rows_tell N B s v.slots v.first row_told

  pub clean_compactions : {r : ℕ} (n u : ℕ) → n ≡ v.first → u ≡ length v.slots → r ≡ first_marked (status_rows N B s u n) → r ≡ compactions v.slots
  clean_compactions n u a b e = (rw (a, b) at e) ∙ sym (first_dead v.slots (status_rows N B s (length v.slots) v.first) rows_told)

  -- where N - 1 are in use: at most one slot is not live exactly if as many blocks are live as there may be
  pub clean_crowded : {t : Bool} (n u : ℕ) → n ≡ v.first → u ≡ length v.slots → length v.slots ≡ N - 1 → t ≡ leb (count not_live (flatten (status_rows N B s u n))) 1
      → t ≡ leb (capacity N B) (length (entries_in v))
  unfolding capacity entries_in
  clean_crowded n u a b w e =
      let others = count not_live (flatten (status_rows N B s (length v.slots) v.first)) in
      let live = length (entries_in v) in
      let all : length (flatten v.slots) ≡ (N - 1) * B = rows_length B v.slots fine.rows ∙ ap (λ (y : ℕ). y * B) w in
      let sum : others + live ≡ (N - 1) * B = rows_live v.slots (status_rows N B s (length v.slots) v.first) rows_told ∙ all in
      (rw (a, b) at e) ∙ alike others live ((N - 1) * B) sum

  -- the top's row is the last
  top_at : get_or v.slots (length v.slots - 1) [] ≡ top_row v.slots
  top_at = last_row v.slots fine.some

  top_empty_last : empty_last (top_row v.slots) ≡ true
  unfolding empty_slots_last
  top_empty_last =
      let t = find_top v.slots fine.some in
      let p : (all (λ x. full x) t.others && empty_last t.top) ≡ true = sym (ap only_top_empty t.split ∙ only_top_empty_lem t.others t.top) ∙ fine.last in
      ap empty_last (ap top_row t.split ∙ top_row_lem t.others t.top) ∙ and_right (all (λ x. full x) t.others) (empty_last t.top) p

  pub clean_first_free : {r : ℕ} (n : ℕ) → n ≡ top_number v → FreeFrom N B n s r → r ≡ first_empty (top_row v.slots)
  unfolding top_number
  clean_first_free {r} n e w =
      let m = length v.slots - 1 in
      let h : m < length v.slots = omega (arith, fine.some) in
      let l : length (top_row v.slots) ≡ B = rw top_at at (row_long m h) in
      first_empty_at (top_row v.slots) r top_empty_last (omega (arith, l, w.within))
      (λ p. told r (omega (arith, l)) ∙ eq-eqb _ 255 (w.free (omega (arith, l)))) (λ p. told (r - 1) (omega (arith, l, w.within)) ∙ ne_eqb _ 255 (w.taken p))
    where
      told : (j : ℕ) → j < B → is_empty (get_or (top_row v.slots) j empty) ≡ eqb (slot_status N B s n j) 255
      told j i =
          let m = length v.slots - 1 in
          let f : v.first + m ≡ n = omega (arith, e, fine.some) in
          rw (top_at, f) at (slot_tells m j (omega (arith, fine.some)) i).free
