-- The segments in use examined: their rows are looked at only if conditions 1 to 4 hold.
use Rattle.std.specs.Prelude.{ℕ, ◌+◌, ◌≤◌, cond}
use Rattle.model.specs.Chip.{Image, most_segments}
use Rattle.judge.specs.declared.Sum.{Sum}
use Rattle.judge.specs.declared.Frame.{Frame}
use Rattle.judge.specs.Parts.{rows_on}
use Rattle.judge.specs.Tally.{none_met, tallies, most_written, add_rows, no_sum, bad_sum}
use Rattle.sums.specs.declared.Exam.{Exam}

unfoldable pub sum_on : Image → ℕ → ℕ → ℕ → ℕ → Sum
sum_on s N B u n = add_rows (tallies (rows_on s N B u n) none_met) no_sum

unfoldable pub exam_of : ℕ → ℕ → Image → Frame → Exam
exam_of N B s f = record { first = f.first; used = f.used; sum = cond f.fine (sum_on s N B f.used f.first) bad_sum }

-- the numbers of an exam fit
pub record Bounded (e : Exam) : Type 0 where
  pub whole : e.first + e.used ≤ 4294967296
  pub used : e.used ≤ most_segments
  pub written : e.sum.written ≤ most_written
