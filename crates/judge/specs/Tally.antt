-- The rows of the segments in use, oldest first: each looked at behind those before, then added up.
use Rattle.std.specs.Prelude.{ℕ, suc, ◌+◌, ◌*◌, ◌≤◌, ◌≡◌, refl, true, false, cond, List, [], ◌∷◌, map, replicate, ltb}
use Rattle.std.proofs.Common.{ap}
use Rattle.model.specs.Chip.{most_segments, most_slots}
use Rattle.model.specs.Slot.{Slot, kind_of}
use Rattle.judge.specs.declared.Ending.TheVariants.{Full, Bad}
use Rattle.judge.specs.declared.SegmentState.TheVariants.{InUse}
use Rattle.judge.specs.declared.Row.{Row}
use Rattle.judge.specs.declared.Summary.{Summary}
use Rattle.judge.specs.declared.Sum.{Sum}
use Rattle.judge.specs.declared.Frame.{Frame}
use Rattle.judge.specs.Endings.{behind, ends_torn}
use Rattle.judge.specs.Rows.{pass, see_all, no_row}

-- no block number met yet
abbrev pub none_met : List ℕ
none_met = replicate 1024 0

unfoldable pub tallies : List (List Slot) → List ℕ → List Row
tallies [] s = []
tallies (x ∷ r) s = (see_all (map kind_of x) (pass no_row s)).row ∷ tallies r (see_all (map kind_of x) (pass no_row s)).seen

-- segments in use, by number from n, with these rows
unfoldable pub summary_of : ℕ → Row → Summary
summary_of n r = record { number = record { 0 = n }; row = r; state = InUse; former = false }

unfoldable pub summaries_of : ℕ → List Row → List Summary
summaries_of n [] = []
summaries_of n (r ∷ rs) = summary_of n r ∷ summaries_of (suc n) rs

unfoldable pub row_of : Summary → Row
row_of s = s.row

pub rows_kept : (n : ℕ) (rs : List Row) → map row_of (summaries_of n rs) ≡ rs
unfolding summaries_of summary_of row_of
rows_kept n [] = refl
rows_kept n (r ∷ rs) = ap {B = List Row} (λ y. r ∷ y) (rows_kept (suc n) rs)

-- the slots that are not empty, of a row that does not end against the rules
unfoldable pub written_in : Row → ℕ
written_in r = r.live + r.dead + r.cut + cond (ends_torn r.ending) 1 0

-- three counts and a torn slot
abbrev pub most_written : ℕ
most_written = 3 * most_slots + 1

-- one row more. The count of compactions ends at the first row with a dead slot, replaced or cut
unfoldable pub add_row : Sum → Row → Sum
add_row f r = record {
  live = f.live + r.live;
  written = written_in r;
  compactions = cond f.dead f.compactions (f.compactions + 1);
  dead = cond f.dead true (ltb 0 (r.dead + r.cut));
  ending = behind f.ending r.ending;
  block = r.block;
}

unfoldable pub add_rows : List Row → Sum → Sum
add_rows [] f = f
add_rows (r ∷ rs) f = add_rows rs (add_row f r)

unfoldable pub no_sum : Sum
no_sum = record { live = 0; written = 0; compactions = 0; dead = false; ending = Full; block = record { 0 = 0 } }

-- what stands for rows that need not be looked at
unfoldable pub bad_sum : Sum
bad_sum = record { live = 0; written = 0; compactions = 0; dead = false; ending = Bad; block = record { 0 = 0 } }

-- sums of at most i rows
pub record Few (f : Sum) (i : ℕ) : Type 0 where
  pub live : f.live ≤ most_slots * i
  pub written : f.written ≤ most_written
  pub compactions : f.compactions ≤ i

-- numbers of a frame fit
pub record Ranged (f : Frame) : Type 0 where
  pub whole : f.first + f.used ≤ 4294967296
  pub used : f.used ≤ most_segments
