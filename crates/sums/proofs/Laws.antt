-- The rows of the segments in use gathered one by one, and added up one by one; what is examined from the two.
use Prim.Native.Nat.{ℕ, suc, ◌+◌, ◌-◌, ◌*◌, ◌%◌, ◌≤◌, ◌<◌}
use mathlib.Core.Path.{◌≡◌, refl, sym, ap, ◌∙◌}
use mathlib.Core.Bool.{Bool, true, false, cond}
use mathlib.Core.List.{List, ◌∷◌, ◌++◌, map, append-nil}
use native.Mathlib.Omega.{arith}
use native.Mathlib.Nat.{sub-zero, suc-mul, mul-le-mul_right}
use native.Mathlib.Numerals.{add-one}
use lib.ListN.{length, get_or, take, drop, set}
use lib.Seq.{drop-cons, take-suc-set, append_snoc}
use Rattle.model.specs.Chip.{Image, most_slots}
use Rattle.judge.specs.declared.Row.{Row}
use Rattle.judge.specs.declared.Summary.{Summary}
use Rattle.judge.specs.declared.Sum.{Sum}
use Rattle.judge.specs.declared.Frame.{Frame}
use Rattle.judge.specs.Rows.{Pass, pass, see_all, no_row, kinds_at}
use Rattle.judge.specs.Parts.{slots_offset, rows_on}
use Rattle.judge.specs.Tally.{none_met, tallies, summary_of, summaries_of, row_of, rows_kept, written_in, most_written, add_row, add_rows, no_sum, bad_sum, Few}
use Rattle.sums.specs.Exams.{sum_on, exam_of}

-- the slots of a segment lie inside the image
pub slots_inside : (N B i : ℕ) → i < N → slots_offset B i + B * 256 ≤ N * (B + 1) * 256
slots_inside N B i h = omega (arith, suc-mul i (B + 1), mul-le-mul_right (B + 1) h)

module _ (m : Image) (N B u n : ℕ) where
  -- what is gathered and what is left, once i rows are
  unfoldable pub gathered : ℕ → List Summary → List ℕ → List Summary
  gathered i ring s = take i ring ++ summaries_of (n + i) (tallies (rows_on m N B (u - i) (n + i)) s)

  pub gather_start : (ring : List Summary) → gathered 0 ring none_met ≡ summaries_of n (tallies (rows_on m N B u n) none_met)
  unfolding gathered
  gather_start ring = let e : n + 0 ≡ n = omega arith in rw (sub-zero u, e)

  pub gather_turn : (i : ℕ) (ring : List Summary) (s z : List ℕ) (r : Row) (v : Summary) (whole : List Summary) → i < u → i < length ring → v ≡ summary_of (n + i) r
      → pass r z ≡ see_all (kinds_at m (((n + i) % N * (B + 1) + 1) * 256) B) (pass no_row s) → gathered i ring s ≡ whole → gathered (i + 1) (set ring i v) z ≡ whole
  unfolding gathered summaries_of tallies rows_on kinds_at
  gather_turn i ring s z r v whole h k q e w =
      let d : u - i ≡ suc (u - (i + 1)) = omega arith in
      let f : n + (i + 1) ≡ suc (n + i) = omega arith in
      rw (f, add-one i, take-suc-set ring i v k, ← (add-one i), q)
      (append_snoc (take i ring) (summary_of (n + i) r) (summaries_of (suc (n + i)) (tallies (rows_on m N B (u - (i + 1)) (suc (n + i))) z))
      ∙ (ap (λ (p : Pass). take i ring ++ (summary_of (n + i) p.row ∷ summaries_of (suc (n + i)) (tallies (rows_on m N B (u - (i + 1)) (suc (n + i))) p.seen))) e ∙ (rw d at w)))

  pub gather_end : (i : ℕ) (ring : List Summary) (s : List ℕ) (whole : List Summary) → i ≡ u → gathered i ring s ≡ whole → take u ring ≡ whole
  unfolding gathered summaries_of tallies rows_on
  gather_end i ring s whole e w =
      let d : u - i ≡ 0 = omega arith in
      ap (λ (k : ℕ). take k ring) (sym e) ∙ (sym (append-nil (take i ring)) ∙ (rw d at w))

-- ---- added up

module _ (ring : List Summary) (u : ℕ) where
  unfoldable pub rows_left : ℕ → List Row
  rows_left i = map row_of (take (u - i) (drop i ring))

  pub rows_start : add_rows (rows_left 0) no_sum ≡ add_rows (map row_of (take u ring)) no_sum
  unfolding rows_left
  rows_start = rw (sub-zero u)

  pub rows_turn : (i : ℕ) (d : Summary) (f g : Sum) → i < u → i < length ring → g ≡ add_row f (row_of (get_or ring i d)) → add_rows (rows_left (i + 1)) g ≡ add_rows (rows_left i) f
  unfolding rows_left add_rows
  rows_turn i d f g h k e = let q : u - i ≡ suc (u - (i + 1)) = omega arith in rw (q, drop-cons ring i d k, add-one i, e)

  pub rows_end : (i : ℕ) (f : Sum) → u ≤ i → add_rows (rows_left i) f ≡ f
  unfolding rows_left add_rows
  rows_end i f h = let q : u - i ≡ 0 = omega arith in rw q

pub few_start : Few no_sum 0
unfolding no_sum
few_start = record { live = omega arith; written = omega arith; compactions = omega arith }

pub few_more : (f : Sum) (r : Row) (i : ℕ) → r.live ≤ most_slots → written_in r ≤ most_written → Few f i → Few (add_row f r) (i + 1)
few_more f r i h m k = go f.dead refl
  where
    live : (add_row f r).live ≡ f.live + r.live
    live = unfold add_row in refl

    last : (add_row f r).written ≡ written_in r
    last = unfold add_row in refl

    one : (add_row f r).compactions ≡ cond f.dead f.compactions (f.compactions + 1)
    one = unfold add_row in refl

    go : (t : Bool) → f.dead ≡ t → Few (add_row f r) (i + 1)
    go true e = let q : (add_row f r).compactions ≡ f.compactions = one ∙ rw e in record { live = omega (arith, live, k.live); written = omega (arith, last); compactions = omega (arith, k.compactions) }
    go false e = let q : (add_row f r).compactions ≡ f.compactions + 1 = one ∙ rw e in record { live = omega (arith, live, k.live); written = omega (arith, last); compactions = omega (arith, k.compactions) }

-- ---- examined

module _ (N B : ℕ) (s : Image) (f : Frame) where
  pub exam_looked : (ring : List Summary) (r : Sum) → f.fine ≡ true → take f.used ring ≡ summaries_of f.first (tallies (rows_on s N B f.used f.first) none_met)
      → r ≡ add_rows (map row_of (take f.used ring)) no_sum → record { first = f.first; used = f.used; sum = r } ≡ exam_of N B s f
  unfolding exam_of sum_on
  exam_looked ring r t q a =
      let z : r ≡ add_rows (tallies (rows_on s N B f.used f.first) none_met) no_sum =
      a ∙ ap (λ (y : List Row). add_rows y no_sum) (ap (map row_of) q ∙ rows_kept f.first (tallies (rows_on s N B f.used f.first) none_met)) in
      rw (t, z)

  pub exam_skipped : f.fine ≡ false → record { first = f.first; used = f.used; sum = bad_sum } ≡ exam_of N B s f
  unfolding exam_of
  exam_skipped t = rw t
