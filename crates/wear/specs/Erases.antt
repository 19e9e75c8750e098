-- Which steps erase: one for each tidying, of the smallest number in use. And the erases in strict turn differ by at most one.
use Rattle.std.specs.Prelude.{ℕ, zero, suc, ◌+◌, ◌*◌, ◌%◌, ◌≤◌, ◌<◌, ◌≡◌, refl, Bool, true, false, cond, List, [], ◌∷◌, ◌++◌, length, eqb}
use Rattle.std.proofs.Common.{sym, ap, ◌∙◌, ⊎_elim, arith, mod-eq_of_lt, eq-or-lt_of_le, length-append, eq-eqb, ne_eqb}
use Rattle.std.proofs.Math.Nat.{mul-add-mod_self_right}
use Rattle.std.proofs.Math.Decide.{dec_lt}
use Rattle.model.specs.Lists.{count}
use Rattle.model.specs.Chip.{Page, Step, program, erase}
use Rattle.model.specs.Header.{Version}
use Rattle.model.specs.Slot.{Entry}
use Rattle.model.specs.State.{View, entries_in, holds, Place, place_of}
use Rattle.model.specs.Steps.{programs, program_part, on_page, write_slot, mark_dead, mark_place, open_segment, copy_entries, copy_out, settle, compact, mark_old, write_at_top, delete_steps}
use Rattle.model.specs.Sequences.{erases_in}
use Rattle.model.specs.Laws.Lists.{count_append}
pub use Rattle.model.proofs.Laws.Begun.{erases_append}

-- ---- the erase steps of lists

pub on_page_lem : (p : ℕ) (xs : List Step) → erases_in (on_page p xs) ≡ erases_in xs
unfolding erases_in on_page
on_page_lem p [] = refl
on_page_lem p (program at v ∷ xs) = on_page_lem p xs
on_page_lem p (erase i ∷ xs) = ap {B = List ℕ} (λ y. i ∷ y) (on_page_lem p xs)

programs_none : (at : ℕ) (vs : List ℕ) → erases_in (programs at vs) ≡ []
unfolding erases_in programs
programs_none at [] = refl
programs_none at (v ∷ vs) = programs_none (suc at) vs

part_none : (p : Page) (at k : ℕ) → erases_in (program_part p at k) ≡ []
unfolding program_part
part_none p at k = simp programs_none

write_none : (b : ℕ) (c : List ℕ) → erases_in (write_slot b c) ≡ []
unfolding erases_in write_slot
write_none b c = simp (erases_append, part_none)

pub mark_none : (N B : ℕ) (p : Place) → erases_in (mark_place N B p) ≡ []
unfolding erases_in mark_place mark_dead
mark_none N B p = simp on_page_lem

pub open_none : (N B : ℕ) (ver : Version) (n : ℕ) → erases_in (open_segment N B ver n) ≡ []
unfolding erases_in open_segment
open_none N B ver n = simp (on_page_lem, erases_append, part_none)

copy_none : (N B n j : ℕ) (es : List Entry) → erases_in (copy_entries N B n j es) ≡ []
unfolding erases_in copy_entries
copy_none N B n j [] = refl
copy_none N B n j (e ∷ es) = simp (erases_append, on_page_lem, write_none, copy_none N B n (suc j) es)

pub copied_none : (N B : ℕ) (ver : Version) (o n : ℕ) (es : List Entry) → erases_in (copy_out N B ver o n es) ≡ []
unfolding erases_in copy_out
copied_none N B ver o n es = simp (erases_append, on_page_lem, part_none, copy_none)

pub settle_none : (N B n : ℕ) → erases_in (settle N B n) ≡ []
unfolding erases_in settle
settle_none N B n = simp on_page_lem

-- a tidying erases the old segment, and nothing else
pub compact_one : (N B : ℕ) (ver : Version) (o n : ℕ) (es : List Entry) → erases_in (compact N B ver o n es) ≡ o % N ∷ []
unfolding erases_in compact copy_out settle
compact_one N B ver o n es = simp (erases_append, on_page_lem, part_none, copy_none)

-- writing the slot and marking the old one erase nothing
pub written_none : (N B b : ℕ) (c : List ℕ) (v : View) → erases_in (write_at_top N B b c v ++ mark_old N B b v) ≡ []
unfolding erases_in write_at_top mark_old
written_none N B b c v = go (holds b (entries_in v))
  where
    go : (t : Bool) → erases_in (write_at_top N B b c v ++ cond t (mark_place N B (place_of b v)) []) ≡ []
    go true = simp (erases_append, on_page_lem, write_none, mark_none)
    go false = simp (erases_append, on_page_lem, write_none)

pub delete_none : (N B b : ℕ) (v : View) → erases_in (delete_steps N B b v) ≡ []
unfolding delete_steps
delete_none N B b v = mark_none N B (place_of b v)

-- ---- erases in strict turn: the numbers below e, each with its index

unfoldable pub turns : ℕ → ℕ → List ℕ
turns N zero = []
turns N (suc e) = turns N e ++ (e % N ∷ [])

pub turns_length : (N e : ℕ) → length (turns N e) ≡ e
unfolding turns
turns_length N zero = refl
turns_length N (suc e) = omega (arith, length-append (turns N e) (e % N ∷ []), turns_length N e)

-- of the index i
abbrev pub erases_at : ℕ → ℕ → ℕ → ℕ
erases_at N e i = count (λ x. eqb i x) (turns N e)

one_more : (N e i w : ℕ) → e % N ≡ w → i ≡ w → erases_at N (suc e) i ≡ suc (erases_at N e i)
unfolding turns count
one_more N e i w m h = rw (count_append (λ x. eqb i x) (turns N e) (e % N ∷ []), eq-eqb i (e % N) (h ∙ sym m)) (omega arith)

no_more : (N e i w : ℕ) → e % N ≡ w → (i ≡ w → ⊥) → erases_at N (suc e) i ≡ erases_at N e i
unfolding turns count
no_more N e i w m h = rw (count_append (λ x. eqb i x) (turns N e) (e % N ∷ []), ne_eqb i (e % N) (λ p. h (p ∙ m))) (omega arith)

-- after q rounds over all N and w more, index i has q erases, and one more if i < w
record Even (N e : ℕ) : Type 0 where
  q : ℕ
  w : ℕ
  split : e ≡ q * N + w
  small : w < N
  low : (i : ℕ) → i < w → erases_at N e i ≡ suc q
  high : (i : ℕ) → w ≤ i → i < N → erases_at N e i ≡ q

even : (N e : ℕ) → 0 < N → Even N e
unfolding turns count
even N zero h = record { q = 0; w = 0; split = omega arith; small = h; low = λ i z. absurd (omega arith); high = λ i a b. refl }
even N (suc e) h = go (even N e h)
  where
    go : Even N e → Even N (suc e)
    go v =
        let s = v.split in
        let sm = v.small in
        let m : e % N ≡ v.w = rw v.split (mul-add-mod_self_right v.q N v.w ∙ mod-eq_of_lt v.small) in
        ⊎_elim
        (λ full. record {
          q = suc v.q;
          w = 0;
          split = omega arith;
          small = h;
          low = λ i z. absurd (omega arith);
          high = λ i a b. elim (dec_lt i v.w) [
            | yes lt ↦ no_more N e i v.w m (λ p. omega arith) ∙ v.low i lt
            | no ge ↦ one_more N e i v.w m (omega arith) ∙ ap suc (v.high i (omega arith) b)
          ];
        })
        (λ more. record {
          q = v.q;
          w = suc v.w;
          split = omega arith;
          small = more;
          low = λ i z. elim (dec_lt i v.w) [
            | yes lt ↦ no_more N e i v.w m (λ p. omega arith) ∙ v.low i lt
            | no ge ↦ one_more N e i v.w m (omega arith) ∙ ap suc (v.high i (omega arith) (omega arith))
          ];
          high = λ i a b. no_more N e i v.w m (λ p. omega arith) ∙ v.high i (omega arith) b;
        })
        (eq-or-lt_of_le v.small)

pub balanced : (N e i j : ℕ) → i < N → j < N → erases_at N e i ≤ suc (erases_at N e j)
balanced N e i j hi hj =
    let v = even N e (omega arith) in
    elim (dec_lt i v.w) [
      | yes a ↦ elim (dec_lt j v.w) [ yes b ↦ omega (arith, v.low i a, v.low j b) | no b ↦ omega (arith, v.low i a, v.high j (omega arith) hj) ]
      | no a ↦ elim (dec_lt j v.w) [ yes b ↦ omega (arith, v.high i (omega arith) hi, v.low j b) | no b ↦ omega (arith, v.high i (omega arith) hi, v.high j (omega arith) hj) ]
    ]
