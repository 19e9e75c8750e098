-- The line of a segment as it is shown is the segment's line.
use Rattle.std.specs.Prelude.{ℕ, suc, ◌≡◌, refl, Bool, true, false, cond, List, [], ◌∷◌, ◌++◌, map, eqb}
use Rattle.model.specs.Header.{erase_pending}
use Rattle.model.specs.State.{Segment, blank, invalid, in_use}
use Rattle.judge.specs.declared.SegmentState.TheVariants.{InUse, Owing}
use Rattle.judge.specs.Heads.{state_seen}
use Rattle.text.specs.Text.{text}
use Rattle.text.specs.Buffer.{labelled}
use Rattle.account_text.specs.Account.{use_word, slot_counts, segment_line, segment_lines}
use Rattle.index.specs.Shows.{counts_of, shown_as, shown_of, counts_line, line_by, shown_line, shown_lines}

pub shown_line_lem : (i : ℕ) (x : Segment) → shown_line i (shown_of x) ≡ segment_line i x
unfolding shown_line shown_of shown_as line_by segment_line state_seen use_word slot_counts counts_line counts_of labelled text
shown_line_lem i blank = refl
shown_line_lem i invalid = refl
shown_line_lem i (in_use ver st n ks) = in_use_lem (eqb st erase_pending)
  where
    in_use_lem : (t : Bool) → line_by (cond t Owing InUse) i n (counts_of ks) ≡ labelled "seg " i ++ (cond t (text " owing") (text " used") ++ (labelled " num " n ++ (slot_counts ks ++ text "\n")))
    in_use_lem true = refl
    in_use_lem false = refl

pub shown_lines_lem : (i : ℕ) (l : List Segment) → shown_lines i (map shown_of l) ≡ segment_lines i l
unfolding shown_lines segment_lines
shown_lines_lem i [] = refl
shown_lines_lem i (x ∷ l) = rw (shown_line_lem i x, shown_lines_lem (suc i) l)
