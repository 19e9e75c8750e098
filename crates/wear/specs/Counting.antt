-- The dead slots of rows: how a slot changed and a row added behind change their count.
use Rattle.std.specs.Prelude.{ℕ, zero, suc, ◌+◌, ◌≤◌, ◌≡◌, refl, length, get_or, drop, set}
use mathlib.Core.List.{List, [], ◌∷◌, ◌++◌, flatten}
use Rattle.std.proofs.Common.{arith}
use Rattle.model.specs.Lists.{count}
use Rattle.model.specs.Slot.{Slot, is_dead, Entry}
use Rattle.model.specs.Steps.{copied}
use Rattle.model.specs.Laws.Lists.{one, count_append, count_set_most, none_count}
use Rattle.bridge.specs.Views.Slots.{copied_none_dead}

abbrev pub deads : List (List Slot) → ℕ
deads r = count is_dead (flatten r)

deads_nil : deads [] ≡ 0
unfolding flatten count
deads_nil = refl

deads_cons : (s : List Slot) (r : List (List Slot)) → deads (s ∷ r) ≡ count is_dead s + deads r
unfolding flatten
deads_cons s r = count_append is_dead s (flatten r)

-- ---- the oldest rows left out

deads_drop : (p : ℕ) (r : List (List Slot)) → deads (drop p r) ≤ deads r
deads_drop zero r = omega arith
deads_drop (suc p) [] = omega arith
deads_drop (suc p) (s ∷ r) = omega (arith, deads_drop p r, deads_cons s r)

pub deads_behind : (r : List (List Slot)) → deads (drop (length r) r) ≡ 0
deads_behind [] = deads_nil
deads_behind (s ∷ r) = deads_behind r

-- a row without dead slots put behind
pub drop_behind : (p : ℕ) (r : List (List Slot)) (s : List Slot) → count is_dead s ≡ 0 → deads (drop p (r ++ (s ∷ []))) ≤ deads (drop p r)
drop_behind p [] s h = omega (arith, deads_drop p (s ∷ []), deads_cons s [], deads_nil)
drop_behind zero (t ∷ r) s h = omega (arith, drop_behind zero r s h, deads_cons t (r ++ (s ∷ [])), deads_cons t r)
drop_behind (suc p) (t ∷ r) s h = drop_behind p r s h

-- one slot changed: they are more by one at most, and only if it becomes dead
pub set_slot : (p : ℕ) (r : List (List Slot)) (i j : ℕ) (k : Slot) → deads (drop p (set r i (set (get_or r i []) j k))) ≤ one (is_dead k) + deads (drop p r)
set_slot p [] i j k = omega arith
set_slot zero (s ∷ r) zero j k = omega (arith, count_set_most is_dead s j k, deads_cons (set s j k) r, deads_cons s r)
set_slot zero (s ∷ r) (suc i) j k = omega (arith, set_slot zero r i j k, deads_cons s (set r i (set (get_or r i []) j k)), deads_cons s r)
set_slot (suc p) (s ∷ r) zero j k = omega arith
set_slot (suc p) (s ∷ r) (suc i) j k = set_slot p r i j k

-- the target of a tidying has none
pub copied_dead : (B : ℕ) (es : List Entry) → count is_dead (copied B es) ≡ 0
copied_dead B es = none_count is_dead (copied B es) (copied_none_dead B es)
