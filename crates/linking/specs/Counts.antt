-- Slots counted.
use Rattle.std.specs.Prelude.{ℕ, ◌+◌, ◌≤◌, List, [], ◌∷◌}
use Rattle.model.specs.declared.SlotKind.{SlotKind}
use Rattle.model.specs.declared.SlotKind.TheVariants.{Empty, Torn, Live, Dead, Cut, Wrong}
use Rattle.index.specs.declared.Counts.{Counts}
use Rattle.index.specs.Shows.{no_counts}

-- one slot more
unfoldable pub count_kind : SlotKind → Counts → Counts
count_kind Empty c = record { live = c.live; dead = c.dead; cut = c.cut; empty = c.empty + 1 }
count_kind Torn c = c
count_kind (Live n b) c = record { live = c.live + 1; dead = c.dead; cut = c.cut; empty = c.empty }
count_kind Dead c = record { live = c.live; dead = c.dead + 1; cut = c.cut; empty = c.empty }
count_kind Cut c = record { live = c.live; dead = c.dead; cut = c.cut + 1; empty = c.empty }
count_kind Wrong c = c

unfoldable pub count_row : List SlotKind → Counts
count_row [] = no_counts
count_row (k ∷ ks) = count_kind k (count_row ks)

-- counts of at most i slots
pub record Few (c : Counts) (i : ℕ) : Type 0 where
  pub live : c.live ≤ i
  pub dead : c.dead ≤ i
  pub cut : c.cut ≤ i
  pub empty : c.empty ≤ i
