-- Block numbers met one after the other: what the code's tests make of one, and what they all come to over a table.
use Prim.Native.Nat.{ℕ, suc, ◌+◌, ◌≤◌}
use mathlib.Core.Path.{◌≡◌, refl, ◌∙◌}
use mathlib.Core.Bool.{Bool, true, false, cond, ◌||◌, ◌&&◌, or-false, or_assoc}
use mathlib.Core.List.{List, [], ◌∷◌, ◌++◌}
use native.Mathlib.Omega.{arith}
use lib.Dec.{eqb}
use Rattle.model.specs.Lists.{count}
use Rattle.model.specs.State.{holds}
use Rattle.model.specs.Table.{Table, blocks, live_between}
use Rattle.counting.specs.declared.Sought.{Sought}
use Rattle.counting.specs.declared.Met.{Met}
use Rattle.counting.specs.Count.{in_range, meet, meet_all}

-- ---- one slot

module _ (q : Sought) (m : Met) (b : ℕ) where
  pub meet_made : (live t x : Bool) (n : ℕ) → t ≡ (live && in_range q b) → n ≡ cond t (m.blocks + 1) m.blocks → x ≡ (m.stored || (live && eqb q.block.0 b))
      → record { blocks = n; stored = x } ≡ cond live (meet q m b) m
  unfolding meet
  meet_made true t x n e f g = rw (f, e, g)
  meet_made false t x n e f g = rw (f, e, g, or-false m.stored)

  pub meet_few : (live : Bool) {r : Met} → r ≡ cond live (meet q m b) m → r.blocks ≤ m.blocks + 1
  unfolding meet
  meet_few live e = rw e (go live (in_range q b))
    where
      go : (x y : Bool) → (cond x (record { blocks = cond y (m.blocks + 1) m.blocks; stored = m.stored || eqb q.block.0 b }) m).blocks ≤ m.blocks + 1
      go true true = omega arith
      go true false = omega arith
      go false y = omega arith

-- ---- one after the other

module _ (q : Sought) where
  pub meet_append : (m : Met) (x y : List ℕ) → meet_all q m (x ++ y) ≡ meet_all q (meet_all q m x) y
  unfolding meet_all
  meet_append m [] y = refl
  meet_append m (b ∷ x) y = meet_append (meet q m b) x y

  -- the blocks of a table: as many more as it has in the range, and the one if it has that
  pub meet_table : (m : Met) (t : Table) → meet_all q m (blocks t) ≡ record { blocks = m.blocks + live_between q.first.0 q.last.0 t; stored = m.stored || holds q.block.0 t }
  unfolding meet_all meet blocks live_between count holds
  meet_table m [] = let e : m.blocks + 0 ≡ m.blocks = omega arith in rw (e, or-false m.stored)
  meet_table m (e ∷ t) = meet_table (meet q m e.block) t ∙ go (in_range q e.block)
    where
      n : ℕ
      n = live_between q.first.0 q.last.0 t

      go : (x : Bool)
          → ◌≡◌ {A = Met} (record { blocks = cond x (m.blocks + 1) m.blocks + n; stored = (m.stored || eqb q.block.0 e.block) || holds q.block.0 t })
          (record { blocks = m.blocks + cond x (suc n) n; stored = m.stored || (eqb q.block.0 e.block || holds q.block.0 t) })
      go true = let s : m.blocks + 1 + n ≡ m.blocks + suc n = omega arith in rw (s, or_assoc m.stored (eqb q.block.0 e.block) (holds q.block.0 t))
      go false = rw (or_assoc m.stored (eqb q.block.0 e.block) (holds q.block.0 t))
