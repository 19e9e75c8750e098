-- Lines of a table's items, written one after the other.
use Prim.Native.Nat.{ℕ, suc, ◌+◌, ◌≤◌, ◌<◌}
use mathlib.Core.Path.{◌≡◌, refl, sym, ap, ◌∙◌}
use mathlib.Core.List.{List, [], ◌∷◌, ◌++◌, append-nil, append_assoc}
use native.Mathlib.Omega.{arith}
use lib.ListN.{length, take, drop, get_or, length-drop}
use lib.Seq.{drop-cons}
use borrow.Author.Tests.{eq-eqb, ne_eqb}
use Rattle.model.specs.Chip.{Image}
use Rattle.model.specs.Answers.{ReadOutcome}
use Rattle.text.specs.Buffer.{Wrote}
use Rattle.text.proofs.Laws.{◌then◌, wrote_none, wrote_as}
use Rattle.partitions.specs.declared.Spot.{Spot}
use Rattle.partitions.specs.Answers.{number_of, told}
use Rattle.settings_item_lines.specs.ItemLines.{written_line, unwritten_line, item_line, item_lines}

-- some lines are written, and those from `at` on are left
pub record Left (reads : ℕ → ReadOutcome) (s : Image) (layout start : List ℕ) (from at : ℕ) (buffer : List ℕ) (end : ℕ) : Type 0 where
  pub lines : List ℕ
  pub wrote : Wrote lines start from buffer end
  pub rest : lines ++ item_lines reads s (drop at layout) ≡ item_lines reads s layout

pub left_all : (reads : ℕ → ReadOutcome) (s : Image) (layout start : List ℕ) (from : ℕ) → Left reads s layout start from 0 start from
left_all reads s layout start from = record { lines = []; wrote = wrote_none start from; rest = refl }

-- nothing is left behind a pair, or a single byte
few : (reads : ℕ → ReadOutcome) (s : Image) (r : List ℕ) → length r ≤ 1 → item_lines reads s r ≡ []
unfolding item_lines
few reads s [] h = refl
few reads s (i ∷ []) h = refl
few reads s (i ∷ n ∷ r) h = absurd (omega arith)

module _ (reads : ℕ → ReadOutcome) (s : Image) (layout start : List ℕ) (from at : ℕ) {buffer : List ℕ} {end : ℕ} (x : Left reads s layout start from at buffer end) where
  pub left_next : {after : List ℕ} {next : ℕ} → at + 1 < length layout → Wrote (item_line s (get_or layout at 0) (get_or layout (at + 1) 0) (reads (get_or layout at 0))) buffer end after next
      → Left reads s layout start from (at + 2) after next
  unfolding item_lines
  left_next h w =
      let i = get_or layout at 0 in
      let n = get_or layout (at + 1) 0 in
      let a : at + 1 ≡ suc at = omega arith in
      let b : at + 2 ≡ suc (at + 1) = omega arith in
      let d : drop at layout ≡ i ∷ n ∷ drop (at + 2) layout = drop-cons layout at 0 (omega arith) ∙ ap (λ (l : List ℕ). i ∷ l) (ap (λ (k : ℕ). drop k layout) (sym a) ∙ drop-cons layout (at + 1) 0 h ∙ ap (λ (k : ℕ). n ∷ drop k layout) (sym b)) in
      record {
        lines = x.lines ++ item_line s i n (reads i);
        wrote = ◌then◌ x.wrote w;
        rest = append_assoc x.lines (item_line s i n (reads i)) (item_lines reads s (drop (at + 2) layout)) ∙ ap (λ (l : List ℕ). x.lines ++ item_lines reads s l) (sym d) ∙ x.rest;
      }

  pub left_none : length layout ≤ at + 1 → Wrote (item_lines reads s layout) start from buffer end
  left_none h =
      let z : item_lines reads s (drop at layout) ≡ [] = few reads s (drop at layout) (omega (arith, length-drop at layout)) in
      wrote_as (item_lines reads s layout) (sym (append-nil x.lines) ∙ ap (λ (l : List ℕ). x.lines ++ l) (sym z) ∙ x.rest) x.wrote

-- ---- one line, by what a read gave

module _ (s : Image) (i n : ℕ) (spot : Spot) {o : ReadOutcome} (gave : told spot ≡ o) where
  pub line_written : (stored : List ℕ) → number_of spot.answer ≡ 0 → stored ≡ take spot.length (drop spot.offset s) → written_line i n spot.offset stored ≡ item_line s i n o
  unfolding item_line told
  line_written stored z e = rw (← gave, eq-eqb (number_of spot.answer) 0 z, e)

  pub line_unwritten : (number_of spot.answer ≡ 0 → ⊥) → unwritten_line i n ≡ item_line s i n o
  unfolding item_line told
  line_unwritten z = rw (← gave, ne_eqb (number_of spot.answer) 0 z)
