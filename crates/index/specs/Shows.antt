-- A segment as it is shown, and its line.
use Rattle.std.specs.Prelude.{ℕ, suc, List, [], ◌∷◌, ◌++◌, length}
use Rattle.model.specs.Lists.{count}
use Rattle.model.specs.Slot.{Slot, is_empty, is_replaced, is_cut}
use Rattle.model.specs.State.{Segment, blank, invalid, in_use, entries}
use Rattle.judge.specs.declared.SegmentState.{SegmentState}
use Rattle.judge.specs.declared.SegmentState.TheVariants.{Blank, Invalid, InUse, Owing}
use Rattle.judge.specs.Heads.{state_seen}
use Rattle.text.specs.Text.{text}
use Rattle.text.specs.Buffer.{labelled}
use Rattle.index.specs.declared.Counts.{Counts}
use Rattle.index.specs.declared.Shown.{Shown}

-- ---- counted

unfoldable pub no_counts : Counts
no_counts = record { live = 0; dead = 0; cut = 0; empty = 0 }

unfoldable pub counts_of : List Slot → Counts
counts_of ks = record { live = length (entries ks); dead = count is_replaced ks; cut = count is_cut ks; empty = count is_empty ks }

-- ---- shown

unfoldable pub shown_as : SegmentState → ℕ → Counts → Shown
shown_as st n c = record { number = record { 0 = n }; counts = c; state = st }

-- a segment, and a segment before its slots are counted
unfoldable pub shown_of : Segment → Shown
shown_of blank = shown_as Blank 0 no_counts
shown_of invalid = shown_as Invalid 0 no_counts
shown_of (in_use ver st n ks) = shown_as (state_seen st) n (counts_of ks)

unfoldable pub uncounted : Segment → Shown
uncounted blank = shown_as Blank 0 no_counts
uncounted invalid = shown_as Invalid 0 no_counts
uncounted (in_use ver st n ks) = shown_as (state_seen st) n no_counts

-- ---- its line

unfoldable pub counts_line : Counts → List ℕ
counts_line c = labelled " live " c.live ++ (labelled " dead " c.dead ++ (labelled " cut " c.cut ++ labelled " empty " c.empty))

unfoldable pub line_by : SegmentState → ℕ → ℕ → Counts → List ℕ
line_by Blank i n c = labelled "seg " i ++ text " blank\n"
line_by Invalid i n c = labelled "seg " i ++ text " torn\n"
line_by InUse i n c = labelled "seg " i ++ (labelled " used num " n ++ (counts_line c ++ text "\n"))
line_by Owing i n c = labelled "seg " i ++ (labelled " owing num " n ++ (counts_line c ++ text "\n"))

unfoldable pub shown_line : ℕ → Shown → List ℕ
shown_line i x = line_by x.state i x.number.0 x.counts

unfoldable pub shown_lines : ℕ → List Shown → List ℕ
shown_lines i [] = []
shown_lines i (x ∷ l) = shown_line i x ++ shown_lines (suc i) l

-- one more than its number, or 0 if it is not in use
unfoldable pub after_by : SegmentState → ℕ → ℕ
after_by Blank n = 0
after_by Invalid n = 0
after_by InUse n = suc n
after_by Owing n = suc n

unfoldable pub after_shown : Shown → ℕ
after_shown x = after_by x.state x.number.0

-- with its slots counted
unfoldable pub counted : Counts → Shown → Shown
counted c x = record { number = x.number; counts = c; state = x.state }
