-- Lines of the segments of a table, written one after the other; an image of a right size.
use Prim.Native.Nat.{ℕ, suc, ◌+◌, ◌<◌}
use mathlib.Core.Path.{◌≡◌, sym, ap, ◌∙◌}
use mathlib.Core.Bool.{Bool, true, ◌&&◌}
use mathlib.Core.List.{List, [], ◌∷◌, ◌++◌, append-nil, append_assoc}
use native.Mathlib.Omega.{arith}
use native.Mathlib.Numerals.{add-one}
use lib.ListN.{length, take, get_or}
use lib.Seq.{take-suc, length-take-le}
use lib.Dec.{eqb}
use Rattle.model.specs.Chip.{Image, image_length, in_range, right_size}
use Rattle.judge.specs.declared.SegmentState.TheVariants.{Blank, Invalid, InUse, Owing}
use Rattle.text.specs.Text.{text}
use Rattle.text.specs.Buffer.{labelled}
use Rattle.index.specs.declared.Counts.{Counts}
use Rattle.index.specs.declared.Shown.{Shown}
use Rattle.index.specs.Shows.{counts_line, line_by, shown_line, shown_lines}

-- a line by its state
pub line_blank : (i : ℕ) (x : Shown) → x.state ≡ Blank → labelled "seg " i ++ text " blank\n" ≡ shown_line i x
unfolding shown_line line_by
line_blank i x e = rw e

pub line_torn : (i : ℕ) (x : Shown) → x.state ≡ Invalid → labelled "seg " i ++ text " torn\n" ≡ shown_line i x
unfolding shown_line line_by
line_torn i x e = rw e

pub line_used : (i : ℕ) (x : Shown) → x.state ≡ InUse → labelled "seg " i ++ (labelled " used num " x.number.0 ++ (counts_line x.counts ++ text "\n")) ≡ shown_line i x
unfolding shown_line line_by
line_used i x e = rw e

pub line_owing : (i : ℕ) (x : Shown) → x.state ≡ Owing → labelled "seg " i ++ (labelled " owing num " x.number.0 ++ (counts_line x.counts ++ text "\n")) ≡ shown_line i x
unfolding shown_line line_by
line_owing i x e = rw e

-- the counts and the end of the line, as they are written
pub counts_ended : (c : Counts) → labelled " live " c.live ++ (labelled " dead " c.dead ++ (labelled " cut " c.cut ++ (labelled " empty " c.empty ++ text "\n"))) ≡ counts_line c ++ text "\n"
unfolding counts_line
counts_ended c = simp append_assoc

shown_more : (i : ℕ) (a : List Shown) (x : Shown) → shown_lines i a ++ shown_line (i + length a) x ≡ shown_lines i (a ++ (x ∷ []))
unfolding shown_lines
shown_more i [] x = let e : i + 0 ≡ i = omega arith in rw e (sym (append-nil (shown_line i x)))
shown_more i (y ∷ a) x =
    let e : i + suc (length a) ≡ suc i + length a = omega arith in
    rw e (append_assoc (shown_line i y) (shown_lines (suc i) a) (shown_line (suc i + length a) x) ∙ ap (λ (z : List ℕ). shown_line i y ++ z) (shown_more (suc i) a x))

-- one more segment of a table
pub segment_more : (table : List Shown) (i : ℕ) (d : Shown) → i < length table → shown_lines 0 (take i table) ++ shown_line i (get_or table i d) ≡ shown_lines 0 (take (i + 1) table)
segment_more table i d h =
    let m = length-take-le i table (omega arith) in
    let l : 0 + length (take i table) ≡ i = omega arith in
    rw (add-one i, take-suc table i d h)
    (ap (λ (k : ℕ). shown_lines 0 (take i table) ++ shown_line k (get_or table i d)) (sym l) ∙ shown_more 0 (take i table) (get_or table i d))

-- ---- sizes

pub right : (N B : ℕ) (s : Image) (t : Bool) → t ≡ (in_range N B && eqb (length s) (image_length N B)) → t ≡ true → right_size N B s ≡ true
unfolding right_size
right N B s t e h = sym e ∙ h
