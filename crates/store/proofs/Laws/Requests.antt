-- Each request's outcome, from what its parts did.
use Prim.Native.Nat.{ℕ, ◌+◌}
use mathlib.Core.Path.{◌≡◌, refl, sym, ap, ◌∙◌}
use mathlib.Core.Bool.{true, false}
use mathlib.Core.List.{List, []}
use native.Mathlib.Omega.{arith}
use lib.ListN.{length, take, drop}
use borrow.Author.Tests.{ne_eqb}
use Rattle.model.specs.Chip.{Image, right_size}
use Rattle.model.specs.Header.{new_version}
use Rattle.model.specs.Slot.{number_ok}
use Rattle.model.specs.State.{clean, state, view, place_of}
use Rattle.model.specs.Steps.{on_page, slot_at, mark_dead, mark_place, open_segment, erase_first, format_steps, delete_steps}
use Rattle.model.specs.Answers.{code_of, length_ok, Request, format, put, delete, steps_for, work_on, work_of, performed, outcome_of, ReadOutcome, contents_at, read_outcome, piece_read, piece_or}
use Rattle.model.specs.declared.Answer.{Answer}
use Rattle.model.specs.declared.Answer.TheVariants.{Done, Size, Number, Length, Damaged, Unfinished, Absent, Full, Worn, Cut, ShortTable, FormerVersion, Foreign, Shares, ShortBuffer}
use Rattle.model.specs.declared.Performed.{Performed}
use Rattle.flash.specs.Ran.{Ran, Programmed}
use Rattle.flash.proofs.Laws.{◌then◌}
use Rattle.request.specs.Request.{Refused, Finished}
use Rattle.bridge.specs.Refusals.{answer_in, wrong_size_code, format_code, delete_code, put_unclean, unclean_code}
use Rattle.mend.specs.Marks.{PageAt, MarkedAt}
use Rattle.looking.specs.Look.{There, Kept}
use Rattle.request.proofs.Answered.{refused_outcome, carried, carried_outcome}
use Rattle.bridge.specs.Lengths.{open_length, mark_length}

-- 6 is the code of one answer alone
is_absent : (a : Answer) → code_of a ≡ 6 → a ≡ Absent
unfolding code_of
is_absent Done e = absurd (omega arith)
is_absent Size e = absurd (omega arith)
is_absent Number e = absurd (omega arith)
is_absent Length e = absurd (omega arith)
is_absent Damaged e = absurd (omega arith)
is_absent Unfinished e = absurd (omega arith)
is_absent Absent e = refl
is_absent Full e = absurd (omega arith)
is_absent Worn e = absurd (omega arith)
is_absent Cut e = absurd (omega arith)
is_absent ShortTable e = absurd (omega arith)
is_absent FormerVersion e = absurd (omega arith)
is_absent Foreign e = absurd (omega arith)
is_absent Shares e = absurd (omega arith)
is_absent ShortBuffer e = absurd (omega arith)

module _ (N B : ℕ) (s : Image) (budget : ℕ) where
  pub size_refused : (q : Request) {p : Performed} → right_size N B s ≡ false → Refused Size p → performed p s ≡ outcome_of N B s budget q
  unfolding code_of
  size_refused q {p} e r = refused_outcome N B s budget q Size p (wrong_size_code N B s q e) refl r

  -- ---- format

  pub format_done : {m left : ℕ} {t u : Image} {p : Performed} → right_size N B s ≡ true → Ran (erase_first N) B budget m s t → Programmed (open_segment N B (new_version 0) 0) m left t u → Finished budget left m 21 p
      → performed p u ≡ outcome_of N B s budget format
  unfolding steps_for format_steps
  format_done e d f r = carried_outcome N B s budget format (erase_first N) (open_segment N B (new_version 0) 0) (format_code N B s e) refl (omega (arith, open_length N B 0 0))
      (carried (erase_first N) (open_segment N B (new_version 0) 0) (◌then◌ d (f B)) d.rest (sym (open_length N B 0 0)) r)

  -- ---- put, on an image that is not clean

  pub put_unclean_refused : (b : ℕ) (c : List ℕ) {p : Performed} → right_size N B s ≡ true → number_ok b ≡ true → length_ok (length c) ≡ true → (a : Answer) → (state N B s ≡ clean → ⊥) → a ≡ answer_in (state N B s)
      → Refused a p → performed p s ≡ outcome_of N B s budget (put b c)
  put_unclean_refused b c {p} z n h a u e r =
      refused_outcome N B s budget (put b c) a p (put_unclean N B s z b c n h u ∙ ap code_of (sym e)) (rw e (unclean_code (state N B s) u)) r

  -- ---- delete

  module _ (b : ℕ) where
    pub delete_refused : (a : Answer) {p : Performed} → Kept N B s b a → Refused a p → performed p s ≡ outcome_of N B s budget (delete b)
    delete_refused a {p} k r = refused_outcome N B s budget (delete b) a p (delete_code N B s b ∙ k.code) k.some r

    pub delete_page : {at size : ℕ} → There N B s b at size → PageAt at (length s)
    delete_page k = record { page = slot_at N B (place_of b (view N B s)).number (place_of b (view N B s)).slot; whole = k.place; inside = omega (arith, k.inside) }

    pub delete_done : {at size : ℕ} {t : Image} {p : Performed} → There N B s b at size → MarkedAt at budget p s t → performed p t ≡ outcome_of N B s budget (delete b)
    unfolding steps_for delete_steps mark_place view
    delete_done k m =
        let page = slot_at N B (place_of b (view N B s)).number (place_of b (view N B s)).slot in
        carried_outcome N B s budget (delete b) [] (on_page page mark_dead) (delete_code N B s b ∙ k.code) refl (omega (arith, mark_length page)) (m page B k.place)

-- ---- reading

module _ (N B : ℕ) (s : Image) (b : ℕ) where
  pub read_refused : (a : Answer) → Kept N B s b a → ◌≡◌ {A = ReadOutcome} (record { code = code_of a; offset = 0; length = 0 }) (read_outcome N B s b)
  unfolding read_outcome work_of work_on
  read_refused a k = rw (k.code, k.some, k.some)

  pub read_there : (at size : ℕ) → There N B s b at size → ◌≡◌ {A = ReadOutcome} (record { code = 0; offset = at + 8; length = size }) (read_outcome N B s b)
  unfolding read_outcome work_of work_on contents_at
  read_there at size k = rw (k.code, k.place, k.count)

  -- ---- the second form: a part of the image or the default record

  pub code_refused : (a : Answer) → Kept N B s b a → code_of a ≡ (read_outcome N B s b).code
  code_refused a k = ap (λ (o : ReadOutcome). o.code) (read_refused a k)

  pub code_there : (at size : ℕ) → There N B s b at size → 0 ≡ (read_outcome N B s b).code
  code_there at size k = ap (λ (o : ReadOutcome). o.code) (read_there at size k)

  pub piece_absent : (a : Answer) (factory : List ℕ) → Kept N B s b a → a ≡ Absent → factory ≡ piece_or N B s b factory
  unfolding piece_or code_of
  piece_absent a factory k i = let e : code_of a ≡ 6 = rw i refl in rw (← (read_refused a k), e)

  pub piece_refused : (a : Answer) (factory : List ℕ) → Kept N B s b a → (a ≡ Absent → ⊥) → [] ≡ piece_or N B s b factory
  unfolding piece_or piece_read
  piece_refused a factory k n = rw (← (read_refused a k), ne_eqb (code_of a) 6 (λ e. n (is_absent a e)))

  pub piece_there : (at size : ℕ) (factory : List ℕ) → There N B s b at size → take size (drop (at + 8) s) ≡ piece_or N B s b factory
  unfolding piece_or piece_read
  piece_there at size factory k = rw (← (read_there at size k))
