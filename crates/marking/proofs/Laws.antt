-- Pieces of a text one after the other, in a loop; and the marks that are left to add.
use Prim.Native.Nat.{ℕ, suc, ◌+◌, ◌-◌, ◌*◌, ◌%◌, ◌≤◌, ◌<◌}
use mathlib.Core.Path.{◌≡◌, refl, sym, ◌∙◌}
use mathlib.Core.Bool.{and-false}
use mathlib.Core.List.{List, [], ◌∷◌, ◌++◌, append_assoc}
use native.Mathlib.Omega.{arith}
use native.Mathlib.Numerals.{add-one}
use lib.ListN.{take, drop}
use lib.Dec.{ltb}
use borrow.Author.Tests.{eq-eqb, ne_eqb, lt-ltb}
use Rattle.model.specs.Lists.{chunk}
use Rattle.model.specs.Chip.{Image}
use Rattle.model.specs.Slot.{slot_of}
use Rattle.judge.specs.Rows.{slots_at}
use Rattle.text.specs.Buffer.{Wrote}
use Rattle.text.proofs.Laws.{◌then◌, wrote_none}
use Rattle.account_text.specs.Map.{mark, most_marks, margin, row_break, marks_from}
use Rattle.index.proofs.Lives.{slots_next}
use Rattle.marking.specs.Finishes.{Finishes}

-- ---- pieces in a loop

pub finish_begin : (whole start : List ℕ) (at : ℕ) → Finishes whole whole start at start at
finish_begin whole start at = record { finish = λ later last w. w; kept = refl }

pub finish_more : {x y rest whole start buffer later : List ℕ} {at end last : ℕ} → rest ≡ x ++ y → Finishes rest whole start at buffer end → Wrote x buffer end later last → Finishes y whole start at later last
finish_more e f w = record { finish = λ b z v. f.finish b z (rw e (w then v)); kept = w.kept ∙ f.kept }

pub finish_end : {rest whole start buffer : List ℕ} {at end : ℕ} → rest ≡ [] → Finishes rest whole start at buffer end → Wrote whole start at buffer end
finish_end {rest} {whole} {start} {buffer} {at} {end} e f = f.finish buffer end (rw e (wrote_none buffer end))

-- ---- what stands before a mark

pub break_first : (j : ℕ) → j ≡ 0 → row_break j ≡ []
unfolding row_break
break_first j e = rw e

pub break_none : (j : ℕ) → (j % most_marks ≡ 0 → ⊥) → row_break j ≡ []
unfolding row_break
break_none j h = rw (ne_eqb (j % most_marks) 0 h, and-false (ltb 0 j))

pub break_some : (j : ℕ) → (j ≡ 0 → ⊥) → j % most_marks ≡ 0 → row_break j ≡ margin
unfolding row_break
break_some j n e = rw (lt-ltb 0 j (omega (arith, n)), eq-eqb (j % most_marks) 0 e)

-- ---- the slots of a segment

pub marks_next : (s : Image) (first i slots m : ℕ) → i < slots → m ≡ mark (slot_of (take 256 (drop (first + i * 256) s)))
    → marks_from i (slots_at s (first + i * 256) (slots - i)) ≡ (row_break i ++ (m ∷ [])) ++ marks_from (i + 1) (slots_at s (first + (i + 1) * 256) (slots - (i + 1)))
unfolding marks_from
marks_next s first i slots m h q =
    let d : slots - i ≡ suc (slots - (i + 1)) = omega arith in
    let e : first + i * 256 + 256 ≡ first + (i + 1) * 256 = omega arith in
    let r = marks_from (suc i) (slots_at s (first + suc i * 256) (slots - suc i)) in
    rw (d, slots_next s (first + i * 256) (slots - (i + 1)), e, add-one i, ← q) (sym (append_assoc (row_break i) (m ∷ []) r))

pub marks_end : (s : Image) (o i slots : ℕ) → slots ≤ i → marks_from i (slots_at s o (slots - i)) ≡ []
unfolding marks_from slots_at chunk
marks_end s o i slots h = let d : slots - i ≡ 0 = omega arith in rw d
