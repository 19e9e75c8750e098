-- What a slot's status says of its kind, where no slot is wrong or torn; and what rows of statuses say of rows of slots.
use Prim.Native.Nat.{ℕ, zero, suc, ◌+◌, ◌-◌, ◌*◌, ◌≤◌, ◌<◌}
use mathlib.Core.Path.{◌≡◌, refl, sym, ap, ◌∙◌}
use mathlib.Core.Bool.{Bool, true, false, cond, ◌||◌, not, true≢false, false≢true}
use mathlib.Core.List.{List, [], ◌∷◌, ◌++◌, flat_map, flatten}
use native.Mathlib.Omega.{arith}
use lib.ListN.{length, get_or, length-append}
use lib.Dec.{eqb}
use Rattle.model.specs.Lists.{all, count}
use Rattle.model.specs.Chip.{Image, Page}
use Rattle.model.specs.Slot.{Slot, empty, torn, dead, cut, wrong, live, slot_of, is_empty, is_torn, is_dead, is_wrong, entry_of}
use Rattle.model.specs.State.{entries, empty_last}
use Rattle.model.specs.Steps.{first_empty, compactions}
use Rattle.model.specs.Laws.Lists.{all_get, count_append}
use Rattle.model.proofs.Laws.Bytes.{erased_get}
use Rattle.model.proofs.Laws.SlotPage.{KindFacts, kind_facts, slot_status_lem}
use Rattle.bridge.specs.Views.Slots.{none_dead, entries_append}
use Rattle.plan.specs.Statuses.{spaced, is_marked, none_marked, first_marked, not_live}

-- ---- one slot

pub record Tells (k : Slot) (x : ℕ) : Type 0 where
  pub free : is_empty k ≡ eqb x 255
  pub marked : is_dead k ≡ is_marked x
  pub live : length (entry_of k) ≡ cond (not_live x) 0 1

status_tells : (p : Page) (k : Slot) → length p ≡ 256 → KindFacts p k → not (is_wrong k || is_torn k) ≡ true → Tells k (get_or p 0 0)
unfolding is_wrong is_torn is_empty is_dead is_marked not_live entry_of
status_tells p empty z f h =
    let e : get_or p 0 0 ≡ 255 = ap (λ (y : Page). get_or y 0 0) f ∙ erased_get (length p) 0 (omega arith) in
    record { free = rw e; marked = rw e; live = rw e }
status_tells p torn z f h = absurd (false≢true h)
status_tells p dead z f h = record { free = rw f; marked = rw f; live = rw f }
status_tells p cut z f h = record { free = rw f; marked = rw f; live = rw f }
status_tells p wrong z f h = absurd (false≢true h)
status_tells p (live b c) z f h =
    let e : get_or p 0 0 ≡ 0x3F = ap (λ (y : Page). get_or y 0 0) f.page ∙ slot_status_lem b c in
    record { free = rw e; marked = rw e; live = rw e }

pub page_tells : (p : Page) (k : Slot) → length p ≡ 256 → slot_of p ≡ k → not (is_wrong k || is_torn k) ≡ true → Tells k (get_or p 0 0)
page_tells p k z e h = status_tells p k z (rw e at (kind_facts p)) h

-- ---- rows

abbrev pub RowTells : List Slot → List ℕ → Type 0
RowTells [] [] = Unit {0}
RowTells [] (x ∷ xs) = ⊥
RowTells (k ∷ ks) [] = ⊥
RowTells (k ∷ ks) (x ∷ xs) = Tells k x × RowTells ks xs

abbrev pub RowsTell : List (List Slot) → List (List ℕ) → Type 0
RowsTell [] [] = Unit {0}
RowsTell [] (x ∷ xs) = ⊥
RowsTell (k ∷ ks) [] = ⊥
RowsTell (k ∷ ks) (x ∷ xs) = RowTells k x × RowsTell ks xs

-- a row, if each status tells its slot
pub row_tells : (s : Image) (ks : List Slot) (at : ℕ) → ((j : ℕ) → j < length ks → Tells (get_or ks j empty) (get_or s (at + j * 256) 0)) → RowTells ks (spaced s 256 (length ks) at)
unfolding spaced
row_tells s [] at f = tt
row_tells s (k ∷ ks) at f =
    let e : at + 0 * 256 ≡ at = omega arith in
    (rw e at (f 0 (omega arith)), row_tells s ks (at + 256) (λ j h. let g : at + suc j * 256 ≡ at + 256 + j * 256 = omega arith in rw g at (f (suc j) (omega arith))))

-- ---- dead slots

none_dead_lem : (ks : List Slot) (xs : List ℕ) → RowTells ks xs → none_dead ks ≡ none_marked xs
unfolding none_marked all
none_dead_lem [] [] t = refl
none_dead_lem [] (x ∷ xs) t = absurd t
none_dead_lem (k ∷ ks) [] t = absurd t
none_dead_lem (k ∷ ks) (x ∷ xs) t = rw (t.0.marked, none_dead_lem ks xs t.1)

pub first_dead : (rows : List (List Slot)) (xs : List (List ℕ)) → RowsTell rows xs → compactions rows ≡ first_marked xs
unfolding compactions first_marked
first_dead [] [] t = refl
first_dead [] (x ∷ xs) t = absurd t
first_dead (k ∷ ks) [] t = absurd t
first_dead (k ∷ ks) (x ∷ xs) t = rw (none_dead_lem k x t.0, first_dead ks xs t.1)

-- ---- live slots, and the others

row_live : (ks : List Slot) (xs : List ℕ) → RowTells ks xs → count not_live xs + length (entries ks) ≡ length ks
unfolding count entries flat_map
row_live [] [] t = refl
row_live [] (x ∷ xs) t = absurd t
row_live (k ∷ ks) [] t = absurd t
row_live (k ∷ ks) (x ∷ xs) t = go (not_live x) t.0.live (row_live ks xs t.1)
  where
    go : (b : Bool) → length (entry_of k) ≡ cond b 0 1 → count not_live xs + length (entries ks) ≡ length ks
        → cond b (suc (count not_live xs)) (count not_live xs) + length (entry_of k ++ flat_map entry_of ks) ≡ suc (length ks)
    go true e ih = unfold entries in omega (arith, ih, length-append (entry_of k) (flat_map entry_of ks))
    go false e ih = unfold entries in omega (arith, ih, length-append (entry_of k) (flat_map entry_of ks))

pub rows_live : (rows : List (List Slot)) (xs : List (List ℕ)) → RowsTell rows xs → count not_live (flatten xs) + length (entries (flatten rows)) ≡ length (flatten rows)
unfolding flatten
rows_live [] [] t = row_live [] [] tt
rows_live [] (x ∷ xs) t = absurd t
rows_live (k ∷ ks) [] t = absurd t
rows_live (k ∷ ks) (x ∷ xs) t =
    rw (count_append not_live x (flatten xs), entries_append k (flatten ks), length-append (entries k) (entries (flatten ks)), length-append k (flatten ks))
    (omega (arith, row_live k x t.0, rows_live ks xs t.1))

-- ---- empty slots

-- where empty slots come last, the first is the one that is empty after one that is not
pub first_empty_at : (ks : List Slot) (r : ℕ) → empty_last ks ≡ true → r ≤ length ks → (r < length ks → is_empty (get_or ks r empty) ≡ true) → (0 < r → is_empty (get_or ks (r - 1) empty) ≡ false) → r ≡ first_empty ks
unfolding empty_last first_empty
first_empty_at [] r h w f g = omega arith
first_empty_at (k ∷ ks) zero h w f g = rw (f (omega arith))
first_empty_at (k ∷ ks) (suc r) h w f g = go (is_empty k) refl h (λ e. first_empty_at ks r e (omega arith) (λ p. f (omega arith)) (λ p. before r p (rw last at (g (omega arith)))))
  where
    last : suc r - 1 ≡ r
    last = omega arith

    before : (r : ℕ) → 0 < r → is_empty (get_or (k ∷ ks) r empty) ≡ false → is_empty (get_or ks (r - 1) empty) ≡ false
    before zero p q = absurd (omega arith)
    before (suc r) p q = let e : suc r - 1 ≡ r = omega arith in rw e q

    go : (t : Bool) → is_empty k ≡ t → cond t (all is_empty ks) (empty_last ks) ≡ true → (empty_last ks ≡ true → r ≡ first_empty ks) → suc r ≡ cond t 0 (suc (first_empty ks))
    go true e q ih =
        let a : all is_empty (k ∷ ks) ≡ true = unfold all in (rw e q) in
        absurd (true≢false (sym (all_get is_empty (k ∷ ks) r empty a (omega arith)) ∙ rw last at (g (omega arith))))
    go false e q ih = ap suc (ih q)
