-- A row of slots from its end: counted, and its live slots put into the tables.
use Prim.Native.Nat.{ℕ, suc, ◌+◌, ◌-◌, ◌*◌, ◌≤◌, ◌<◌}
use mathlib.Core.Path.{◌≡◌, refl, sym, ap}
use mathlib.Core.List.{List, [], ◌∷◌, ◌++◌, flat_map, map}
use native.Mathlib.Numerals.{add-one}
use native.Mathlib.Omega.{arith}
use lib.ListN.{length, take, drop}
use Rattle.model.specs.Lists.{count, chunk}
use Rattle.model.specs.Chip.{Image}
use Rattle.model.specs.Slot.{Slot, empty, torn, dead, cut, wrong, live, slot_of, kind_of, is_empty, is_replaced, is_dead, is_cut, entry_of}
use Rattle.model.specs.State.{entries}
use Rattle.model.specs.declared.SlotKind.{SlotKind}
use Rattle.model.specs.declared.SlotKind.TheVariants.{Empty, Torn, Live, Dead, Cut, Wrong}
use Rattle.judge.specs.Rows.{kinds_at, slots_at}
use Rattle.rows.proofs.Laws.Rows.{kinds_next}
use Rattle.account_text.specs.Account.{LiveSlot, live_at, live_from}
use Rattle.index.specs.declared.Counts.{Counts}
use Rattle.index.specs.Shows.{no_counts, counts_of}
use Rattle.linking.specs.Counts.{count_kind, count_row, Few}
use Rattle.index.specs.declared.Tables.{Tables}
use Rattle.index.specs.Tables.{link, link_kind, link_row, linked, page_of}

-- ---- counts

pub count_few : (k : SlotKind) (c : Counts) (i : ℕ) → Few c i → Few (count_kind k c) (i + 1)
unfolding count_kind
count_few Empty c i h = record { live = omega (arith, h.live); dead = omega (arith, h.dead); cut = omega (arith, h.cut); empty = omega (arith, h.empty) }
count_few Torn c i h = record { live = omega (arith, h.live); dead = omega (arith, h.dead); cut = omega (arith, h.cut); empty = omega (arith, h.empty) }
count_few (Live n b) c i h = record { live = omega (arith, h.live); dead = omega (arith, h.dead); cut = omega (arith, h.cut); empty = omega (arith, h.empty) }
count_few Dead c i h = record { live = omega (arith, h.live); dead = omega (arith, h.dead); cut = omega (arith, h.cut); empty = omega (arith, h.empty) }
count_few Cut c i h = record { live = omega (arith, h.live); dead = omega (arith, h.dead); cut = omega (arith, h.cut); empty = omega (arith, h.empty) }
count_few Wrong c i h = record { live = omega (arith, h.live); dead = omega (arith, h.dead); cut = omega (arith, h.cut); empty = omega (arith, h.empty) }

pub counts_of_lem : (ks : List Slot) → count_row (map kind_of ks) ≡ counts_of ks
unfolding count_row count_kind counts_of no_counts kind_of entries flat_map entry_of count is_replaced is_dead is_cut is_empty map
counts_of_lem [] = refl
counts_of_lem (empty ∷ ks) = rw (counts_of_lem ks, add-one)
counts_of_lem (torn ∷ ks) = counts_of_lem ks
counts_of_lem (dead ∷ ks) = rw (counts_of_lem ks, add-one)
counts_of_lem (cut ∷ ks) = rw (counts_of_lem ks, add-one)
counts_of_lem (wrong ∷ ks) = counts_of_lem ks
counts_of_lem (live b c ∷ ks) = rw (counts_of_lem ks, add-one)

-- ---- the slots from a place on

pub row_none : (m : Image) (o : ℕ) (t : Tables) (p : ℕ) → (count_row (kinds_at m o 0) ≡ no_counts) × (link_row p (kinds_at m o 0) t ≡ t)
unfolding kinds_at slots_at chunk map count_row link_row
row_none m o t p = (refl, refl)

-- with one slot more before them: left of the slots are to come
pub row_more : (m : Image) (h left slots : ℕ) (c : Counts) (t u : Tables) → 0 < left → left ≤ slots
    → c ≡ count_row (kinds_at m ((h + left + 1) * 256) (slots - left)) → t ≡ link_row (h + left + 1) (kinds_at m ((h + left + 1) * 256) (slots - left)) u
    → (count_kind (kind_of (slot_of (take 256 (drop ((h + left) * 256) m)))) c ≡ count_row (kinds_at m ((h + (left - 1) + 1) * 256) (slots - (left - 1))))
    × (link_kind (h + left) (kind_of (slot_of (take 256 (drop ((h + left) * 256) m)))) t ≡ link_row (h + (left - 1) + 1) (kinds_at m ((h + (left - 1) + 1) * 256) (slots - (left - 1))) u)
row_more m h left slots c t u p l e f =
    let a : h + (left - 1) + 1 ≡ h + left = omega arith in
    let b : slots - (left - 1) ≡ suc (slots - left) = omega arith in
    let d : (h + left) * 256 + 256 ≡ (h + left + 1) * 256 = omega arith in
    let s : suc (h + left) ≡ h + left + 1 = omega arith in
    let k = kinds_next m ((h + left) * 256) (slots - left) in
    (rw (a, b, k, d, e) (unfold count_row in refl), rw (a, b, k, d, f) (linked_next (kind_of (slot_of (take 256 (drop ((h + left) * 256) m)))) (kinds_at m ((h + left + 1) * 256) (slots - left)) s))
  where
    linked_next : (k : SlotKind) (ks : List SlotKind) → suc (h + left) ≡ h + left + 1 → link_kind (h + left) k (link_row (h + left + 1) ks u) ≡ link_row (h + left) (k ∷ ks) u
    linked_next k ks s = unfold link_row in (ap (λ (z : ℕ). link_kind (h + left) k (link_row z ks u)) (sym s))

-- ---- the live slots of a row, put into the tables

pub row_linked : (B i j : ℕ) (ks : List Slot) (t : Tables) → link_row (i * (B + 1) + j) (map kind_of ks) t ≡ linked B (live_from i j ks) t
unfolding link_row link_kind linked live_from live_at entry_of kind_of map page_of
row_linked B i j [] t = refl
row_linked B i j (empty ∷ ks) t = let e : suc (i * (B + 1) + j) ≡ i * (B + 1) + suc j = omega arith in rw e (row_linked B i (suc j) ks t)
row_linked B i j (torn ∷ ks) t = let e : suc (i * (B + 1) + j) ≡ i * (B + 1) + suc j = omega arith in rw e (row_linked B i (suc j) ks t)
row_linked B i j (dead ∷ ks) t = let e : suc (i * (B + 1) + j) ≡ i * (B + 1) + suc j = omega arith in rw e (row_linked B i (suc j) ks t)
row_linked B i j (cut ∷ ks) t = let e : suc (i * (B + 1) + j) ≡ i * (B + 1) + suc j = omega arith in rw e (row_linked B i (suc j) ks t)
row_linked B i j (wrong ∷ ks) t = let e : suc (i * (B + 1) + j) ≡ i * (B + 1) + suc j = omega arith in rw e (row_linked B i (suc j) ks t)
row_linked B i j (live b c ∷ ks) t = let e : suc (i * (B + 1) + j) ≡ i * (B + 1) + suc j = omega arith in rw e (ap (link (i * (B + 1) + j) b (length c)) (row_linked B i (suc j) ks t))

pub linked_append : (B : ℕ) (x y : List LiveSlot) (t : Tables) → linked B (x ++ y) t ≡ linked B x (linked B y t)
unfolding linked
linked_append B [] y t = refl
linked_append B (e ∷ x) y t = ap (link (page_of B e) e.block (length e.contents)) (linked_append B x y t)
