-- The segment that is not looked at.
use Rattle.std.specs.Prelude.{ℕ, ◌+◌, ◌%◌, cond, List, set}
use Rattle.judge.specs.declared.SegmentState.TheVariants.{Invalid}
use Rattle.scan.specs.declared.Surveyed.{Surveyed}
use Rattle.scan.specs.declared.Surveyed.TheVariants.{Clean, TornSegment, ErasePending, TornSlot, OldSlot, Damaged}
use Rattle.index.specs.declared.Shown.{Shown}
use Rattle.index.specs.Shows.{no_counts, shown_as}

-- of N segments, by a survey: in (b) the one after the top, unless it is blank
unfoldable pub hidden : Surveyed → ℕ → List Shown → List Shown
hidden (Clean n u l f c) N t = t
hidden (TornSegment n) N t = t
hidden (ErasePending n b) N t = cond b t (set t ((n.0 + 1) % N) (shown_as Invalid 0 no_counts))
hidden (TornSlot p) N t = t
hidden (OldSlot p) N t = t
hidden Damaged N t = t
