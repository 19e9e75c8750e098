-- The segments in use and their slots by kind, counted, and the segment that is left aside.
use Rattle.std.specs.Prelude.{ℕ, ◌+◌, List, [], ◌∷◌, map, get_or, set}
use Rattle.model.specs.Slot.{kind_of}
use Rattle.model.specs.State.{Segment, blank, invalid, in_use}
use Rattle.model.specs.declared.SlotKind.{SlotKind}
use Rattle.model.specs.declared.SlotKind.TheVariants.{Empty, Torn, Live, Dead, Cut, Wrong}
use Rattle.account_text.specs.Account.{unseen}
use Rattle.qbx_census.specs.declared.Census.{Census}

-- the segments with one left aside, if the index is one of theirs
abbrev pub set_aside : ℕ → List Segment → List Segment
set_aside k l = set l k (unseen (get_or l k blank))

abbrev pub total : Census → ℕ
total c = c.segments + c.live + c.dead + c.cut + c.empty

-- one slot more; torn and wrong ones are of none of the kinds that are told
unfoldable pub counted : Census → SlotKind → Census
counted c Empty = record { segments = c.segments; live = c.live; dead = c.dead; cut = c.cut; empty = c.empty + 1 }
counted c Torn = c
counted c (Live n b) = record { segments = c.segments; live = c.live + 1; dead = c.dead; cut = c.cut; empty = c.empty }
counted c Dead = record { segments = c.segments; live = c.live; dead = c.dead + 1; cut = c.cut; empty = c.empty }
counted c Cut = record { segments = c.segments; live = c.live; dead = c.dead; cut = c.cut + 1; empty = c.empty }
counted c Wrong = c

unfoldable pub count_kinds : Census → List SlotKind → Census
count_kinds c [] = c
count_kinds c (k ∷ r) = count_kinds (counted c k) r

abbrev pub one_more : Census → Census
one_more c = record { segments = c.segments + 1; live = c.live; dead = c.dead; cut = c.cut; empty = c.empty }

-- one segment more; only those in use count, and their slots
unfoldable pub count_segment : Census → Segment → Census
count_segment c blank = c
count_segment c invalid = c
count_segment c (in_use e st n ks) = count_kinds (one_more c) (map kind_of ks)

unfoldable pub count_segments : Census → List Segment → Census
count_segments c [] = c
count_segments c (x ∷ r) = count_segments (count_segment c x) r

unfoldable pub census_of : List Segment → Census
census_of l = count_segments (record { segments = 0; live = 0; dead = 0; cut = 0; empty = 0 }) l
