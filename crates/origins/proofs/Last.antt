-- (c): the last slot of the top is torn, a recovery marks it cut, and every other slot stays. With it, that a recovery of (c) makes exactly one.
use Rattle.std.specs.Prelude.{ℕ, suc, ◌-◌, ◌%◌, ◌<◌, ◌≡◌, refl, ◌⊎◌, true, false, set}
use Rattle.std.proofs.Math.Path.{sym, ap}
use Rattle.std.proofs.Common.{ap₂, ◌∙◌, true≢false, arith, length-set}
use Rattle.std.proofs.Math.Logic.{inl, inr, ⊎_elim}
use mathlib.Core.List.{List}
use Rattle.std.proofs.Math.Decide.{dec_lt}
use Rattle.std.proofs.Math.ListN.{length, get_or, get_or-eq_default}
use Rattle.std.proofs.Math.Seq.{get_or-set_same}
use Rattle.model.specs.Chip.{Image, right_size}
use Rattle.model.specs.Slot.{Slot, empty, torn, dead, cut, wrong, live, is_cut}
use Rattle.model.specs.State.{Segment, blank, invalid, in_use, is_owing, segments_of, number_after, slots_in, next_number, top_index, is_clean, with_slot, last_slot, torn_marked, Place, case_c, unfinished, state}
use Rattle.model.specs.Steps.{mend_steps}
use Rattle.model.specs.Histories.{recovered}
use Rattle.model.specs.Answers.{recover}
use Rattle.model.proofs.Laws.Chip.{size_facts}
use Rattle.model.proofs.Laws.Segments.{segments_length}
use Rattle.model.proofs.Laws.Effects.{index, top_at}
use Rattle.model.proofs.Laws.Ring.{get_kept, next_ge}
use Rattle.model.proofs.Laws.View.{with_slot_number, with_slot_owing}
use Rattle.crash.specs.Sound.{CutOf}
use Rattle.crash.proofs.States.{mended, mended_clean, case_of, recover_steps_lem, recovered_run}
use Rattle.crash.proofs.RecoverMarks.{Marks, last_marks, mark_segments, mark_whole}
use Rattle.origins.specs.Law.{read_at, in_force, slot_on, last_place, OneMade}
use Rattle.origins.proofs.Readings.{slot_reads, not_telling, read_there, with_slots, place_elsewhere}
use Rattle.origins.proofs.Fewer.{paid_force, clean_paid, clean_force}

-- ---- the top

-- a segment with a slot that is not empty has a number
slot_number : (x : Segment) (j : ℕ) → get_or (slots_in x) j empty ≡ torn → 0 < number_after x
unfolding slots_in number_after
slot_number blank j e = absurd (not_telling empty torn tt (λ t. t) e)
slot_number invalid j e = absurd (not_telling empty torn tt (λ t. t) e)
slot_number (in_use ver st n ks) j e = omega arith

-- the one kind that is marked cut
torn_of : (k : Slot) → Marks k cut → k ≡ torn
unfolding is_cut
torn_of empty m = absurd m
torn_of torn m = refl
torn_of dead m = absurd m
torn_of cut m = absurd m
torn_of wrong m = absurd m
torn_of (live b c) m = absurd (true≢false (ap is_cut m))

module _ (N B : ℕ) (s : Image) (z : right_size N B s ≡ true) (e : state N B s ≡ unfinished case_c) where
  abbrev l : List Segment
  l = segments_of N B s

  abbrev i : ℕ
  i = (next_number (segments_of N B s) - 1) % N

  abbrev j : ℕ
  j = last_slot N (segments_of N B s)

  abbrev top : Segment
  top = get_or (segments_of N B s) ((next_number (segments_of N B s) - 1) % N) blank

  abbrev marked : List Segment
  marked = set l i (with_slot j cut top)

  marks : Marks (get_or (slots_in top) j empty) cut
  unfolding state
  marks = last_marks N B l (case_of N B l case_c e)

  last_torn : get_or (slots_in top) j empty ≡ torn
  last_torn = torn_of (get_or (slots_in top) j empty) marks

  some : 0 < next_number l
  some = omega (arith, slot_number top j last_torn, next_ge l i)

  top_number_lem : number_after top ≡ suc (next_number l - 1)
  top_number_lem = top_at N B s some ∙ omega (arith, some)

  inside : i < length l
  inside = let size = size_facts N B s z in omega (arith, index N B size.two s size.whole (next_number l - 1), segments_length N B s)

  -- marked, it is clean; so that the top is paid, before and after
  pub marked_clean : is_clean N B marked ≡ true
  unfolding state mended torn_marked top_index
  marked_clean = mended_clean N B l case_c (case_of N B l case_c e)

  pub last_paid : is_owing (get_or (segments_of N B s) (top_index N (segments_of N B s)) blank) ≡ false
  last_paid = sym (get_kept is_owing l i (with_slot j cut top) (with_slot_owing j cut top) (top_index N l)) ∙ clean_paid N B marked (top_index N l) (length-set l i (with_slot j cut top) ∙ segments_length N B s) marked_clean

  -- what the place reads, in the image and in the marked one
  reads_before : (p : Place) → slot_on N B s p ≡ read_at (get_or l (p.number % N) blank) p
  unfolding slot_on
  reads_before p = slot_reads N l p ∙ ap (λ (y : List Segment). read_at (get_or y (p.number % N) blank) p) (paid_force N l last_paid)

  pub recovered_segments : segments_of N B (recovered N B s) ≡ set (segments_of N B s) ((next_number (segments_of N B s) - 1) % N) (with_slot (last_slot N (segments_of N B s)) cut (get_or (segments_of N B s) ((next_number (segments_of N B s) - 1) % N) blank))
  unfolding mend_steps
  recovered_segments = ap (λ y. segments_of N B y) (recovered_run N B s case_c z e) ∙ mark_segments N B s z (next_number l - 1) j cut marks

  reads_after : (p : Place) → slot_on N B (recovered N B s) p ≡ read_at (get_or marked (p.number % N) blank) p
  unfolding slot_on
  reads_after p = slot_reads N (segments_of N B (recovered N B s)) p ∙ ap (λ (y : List Segment). read_at (get_or y (p.number % N) blank) p)
      (ap (λ y. in_force N y) recovered_segments ∙ clean_force N B marked (length-set l i (with_slot j cut top) ∙ segments_length N B s) marked_clean)

  -- ---- the last place

  pub last_before : slot_on N B s (last_place N B s) ≡ torn
  unfolding last_place
  last_before = reads_before (last_place N B s) ∙ (read_there top (record { number = next_number l - 1; slot = j }) top_number_lem ∙ last_torn)

  pub last_after : slot_on N B (recovered N B s) (last_place N B s) ≡ cut
  unfolding last_place
  last_after = reads_after (last_place N B s)
      ∙ (ap (λ x. read_at x (record { number = next_number l - 1; slot = j })) (get_or-set_same l i (with_slot j cut top) blank inside)
      ∙ (read_there (with_slot j cut top) (record { number = next_number l - 1; slot = j }) (with_slot_number j cut top ∙ top_number_lem)
      ∙ (ap (λ (y : List Slot). get_or y j empty) (with_slots j cut top) ∙ get_or-set_same (slots_in top) j cut empty slot_inside)))
    where
      slot_inside : j < length (slots_in top)
      slot_inside = elim (dec_lt j (length (slots_in top))) [ yes p ↦ p | no p ↦ absurd (not_telling empty torn tt (λ t. t) (sym (get_or-eq_default (slots_in top) empty (omega arith)) ∙ last_torn)) ]

  -- every other place reads as before
  pub others_stay : (p : Place) → (p ≡ last_place N B s) ⊎ (slot_on N B (recovered N B s) p ≡ slot_on N B s p)
  unfolding last_place
  others_stay p = ⊎_elim
      (λ a. inl (ap₂ {C = Place} (λ x y. record { number = x; slot = y }) (let n : p.number ≡ next_number l - 1 = omega (arith, a.0, top_number_lem) in n) a.1))
      (λ a. inr (reads_after p ∙ (a ∙ sym (reads_before p))))
      (place_elsewhere l i j (p.number % N) cut p)

  -- whole or cut, the recovery has marked it or done nothing
  pub recovery_left : (u : Image) → CutOf N B s recover u → (u ≡ s) ⊎ (u ≡ recovered N B s)
  unfolding mend_steps
  recovery_left u c = ⊎_elim (λ q. inl q) (λ q. inr (q ∙ sym (recovered_run N B s case_c z e))) (mark_whole N B s z (next_number l - 1) j cut marks u (rw (recover_steps_lem N B s case_c z e) at c))

pub one_made : OneMade
one_made N B s z e = (last_before N B s z e, last_after N B s z e, λ p n. ⊎_elim (λ q. absurd (n q)) (λ q. q) (others_stay N B s z e p))
