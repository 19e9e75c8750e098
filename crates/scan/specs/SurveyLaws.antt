-- What the segments in use, examined, say of an image: conditions 1 to 8 of a mended list, and the state of its slots.
use Rattle.std.specs.Prelude.{ℕ, zero, suc, ◌-◌, ◌%◌, ◌<◌, ◌≡◌, Bool, true, false, cond, ◌&&◌, get_or, drop, set, ltb, eqb}
use Rattle.std.proofs.Math.Path.{refl, sym, ap, subst}
use Rattle.std.proofs.Common.{ap₂, ◌∙◌, arith, get_or-set_same, get_or-set_other, ltb-true, eqb-true}
use Rattle.std.proofs.lemmas.Bool.{false≢true}
use mathlib.Core.List.{List, [], ◌∷◌, map}
use Rattle.std.proofs.Math.Decide.{ℕ_discrete}
use Rattle.std.proofs.Math.Nat.{mod-lt}
use Rattle.std.proofs.Math.ListN.{length, length-set}
use Rattle.model.specs.Lists.{chunk}
use Rattle.model.specs.Chip.{Image, Page}
use Rattle.model.specs.Slot.{Slot, empty, torn, dead, cut, wrong, live, slot_of, number_ok}
use Rattle.model.specs.State.{Segment, blank, invalid, in_use, segments_of, is_in_use, number_after, slots_in, next_number, top_index, next_index, top_version, used_count, first_number, slots_from, view_of, numbers_from, capacity, next_blanked, settled, top_settled, damaged}
use Rattle.model.specs.Laws.Lists.{and_left, and_right}
use Rattle.model.proofs.Laws.Ring.{slots_length, number_in_use}
use Rattle.model.proofs.Laws.SlotPage.{KindFacts, kind_facts, number_below}
use Rattle.model.proofs.Laws.Segments.{segments_length}
use Rattle.judge.specs.Endings.{in_order, ends_torn, ends_twin}
use Rattle.judge.specs.Cases.{frame, fine, slot_state, frame_ring}
use Rattle.judge.specs.Rows.{slots_at}
use Rattle.judge.specs.Parts.{slots_offset, rows_on, used_rows}
use Rattle.judge.specs.Heads.{frame_of}
use Rattle.judge.specs.Tally.{none_met, tallies, add_rows, no_sum, bad_sum}
use Rattle.judge.proofs.TallyLaws.{Narrow, NarrowRows}
use Rattle.judge.specs.Verdict.{orderly, torn_within, twin_within, verdict}
use Rattle.judge.proofs.VerdictLaws.{Told, told}
use Rattle.sums.specs.Exams.{sum_on, exam_of}

-- ---- block numbers on an image

narrow_cons : (p : Page) (k : Slot) (s : List Slot) → KindFacts p k → Narrow s → Narrow (k ∷ s)
narrow_cons p empty s f n = n
narrow_cons p torn s f n = n
narrow_cons p dead s f n = n
narrow_cons p cut s f n = n
narrow_cons p wrong s f n = n
narrow_cons p (live b c) s f n = ((ltb-true 0 b (and_left (ltb 0 b) (ltb b 65535) (unfold number_ok in f.number)), omega (arith, number_below b f.number)), n)

narrow_pages : (ps : List Page) → Narrow (map slot_of ps)
narrow_pages [] = tt
narrow_pages (p ∷ ps) = narrow_cons p (slot_of p) (map slot_of ps) (kind_facts p) (narrow_pages ps)

narrow_slots : (s : Image) (o c : ℕ) → Narrow (slots_at s o c)
unfolding slots_at
narrow_slots s o c = narrow_pages (chunk c 256 (drop o s))

pub narrow_rows : (s : Image) (N B u n : ℕ) → NarrowRows (rows_on s N B u n)
unfolding rows_on
narrow_rows s N B zero n = tt
narrow_rows s N B (suc u) n = (narrow_slots s (slots_offset B (n % N)) B, narrow_rows s N B u (suc n))

-- ---- a mended list, whose segments in use are those of the image

abbrev pub Within : List Segment → List Segment → Type 0
Within m l = (i : ℕ) → is_in_use (get_or m i blank) ≡ true → (number_after (get_or l i blank) ≡ number_after (get_or m i blank)) × (slots_in (get_or l i blank) ≡ slots_in (get_or m i blank))

within_rows : (N : ℕ) (m l : List Segment) → Within m l → (u n : ℕ) → numbers_from N m u n ≡ true → (numbers_from N l u n ≡ true) × (slots_from N l u n ≡ slots_from N m u n)
unfolding numbers_from slots_from
within_rows N m l w zero n h = (refl, refl)
within_rows N m l w (suc u) n h =
    let a = and_left (eqb (number_after (get_or m (n % N) blank)) (suc n)) (numbers_from N m u (suc n)) h in
    let e = eqb-true (number_after (get_or m (n % N) blank)) (suc n) a in
    let q = w (n % N) (number_in_use (get_or m (n % N) blank) n e) in
    let r = within_rows N m l w u (suc n) (and_right (eqb (number_after (get_or m (n % N) blank)) (suc n)) (numbers_from N m u (suc n)) h) in
    (rw (q.0, a, r.0), ap₂ {C = List (List Slot)} (λ x y. x ∷ y) q.1 r.1)

pub within_same : (l : List Segment) → Within l l
within_same l i h = (refl, refl)

pub within_blanked : (N : ℕ) (l : List Segment) → Within (next_blanked N l) l
unfolding next_blanked
within_blanked N l i h = elim (ℕ_discrete i (next_index N l)) [
  | no d ↦ (let e = get_or-set_other l (next_index N l) i blank blank d in (ap number_after (sym e), ap slots_in (sym e)))
  | yes e ↦ absurd (false≢true (sym (none (get_d_blank l (next_index N l))) ∙ (ap (λ (k : ℕ). is_in_use (get_or (set l (next_index N l) blank) k blank)) (sym e) ∙ h)))
]
  where
    get_d_blank : (l : List Segment) (k : ℕ) → get_or (set l k blank) k blank ≡ blank
    get_d_blank [] k = refl
    get_d_blank (x ∷ l) zero = refl
    get_d_blank (x ∷ l) (suc k) = get_d_blank l k

    none : {x : Segment} → x ≡ blank → is_in_use x ≡ false
    none q = ap is_in_use q ∙ (unfold is_in_use in refl)

pub within_settled : (N : ℕ) (l : List Segment) → length l ≡ N → 0 < N → Within (top_settled N l) l
unfolding top_settled
within_settled N l z p i h = elim (ℕ_discrete i (top_index N l)) [
  | no d ↦ (let e = get_or-set_other (next_blanked N l) (top_index N l) i (settled (get_or l (top_index N l) blank)) blank d in
      let w = within_blanked N l i (ap is_in_use (sym e) ∙ h) in (w.0 ∙ ap number_after (sym e), w.1 ∙ ap slots_in (sym e)))
  | yes q ↦ rw q (top (get_or-set_same (next_blanked N l) (top_index N l) (settled (get_or l (top_index N l) blank)) blank inside))
]
  where
    inside : top_index N l < length (next_blanked N l)
    inside = unfold top_index next_blanked in omega (arith, mod-lt (next_number l - 1) p, length-set l (next_index N l) blank)

    number : (x : Segment) → number_after x ≡ number_after (settled x)
    number blank = unfold settled in refl
    number invalid = unfold settled in refl
    number (in_use ver st n ks) = unfold settled number_after in refl

    slots : (x : Segment) → slots_in x ≡ slots_in (settled x)
    slots blank = unfold settled in refl
    slots invalid = unfold settled in refl
    slots (in_use ver st n ks) = unfold settled slots_in in refl

    top : {y : Segment} → y ≡ settled (get_or l (top_index N l) blank) → (number_after (get_or l (top_index N l) blank) ≡ number_after y) × (slots_in (get_or l (top_index N l) blank) ≡ slots_in y)
    top e = (number (get_or l (top_index N l) blank) ∙ ap number_after (sym e), slots (get_or l (top_index N l) blank) ∙ ap slots_in (sym e))

-- ---- examined

pub bad_orderly : (C : ℕ) → orderly C bad_sum ≡ false
unfolding orderly bad_sum in_order
bad_orderly C = refl

bad_verdict : (C : ℕ) → verdict C bad_sum ≡ damaged
unfolding verdict orderly torn_within twin_within bad_sum in_order ends_torn ends_twin
bad_verdict C = refl

module _ (N B : ℕ) (s : Image) (some : 0 < N) where
  abbrev l : List Segment
  l = segments_of N B s

  -- what the sums say of a list with its frame
  pub exam_told : (m : List Segment) → length m ≡ N → Within m l → frame N m ≡ true → Told N B (view_of N m) (sum_on s N B (used_count m) (first_number m))
  unfolding view_of sum_on
  exam_told m z w f =
      let r = frame_ring N m z f in
      let q = within_rows N m l w (used_count m) (first_number m) r.chain in
      let e : rows_on s N B (used_count m) (first_number m) ≡ slots_from N m (used_count m) (first_number m) = sym (used_rows N B s some (used_count m) (first_number m) q.0) ∙ q.1 in
      let n : length (rows_on s N B (used_count m) (first_number m)) ≡ used_count m = ap length e ∙ slots_length N m (used_count m) (first_number m) in
      subst (λ (y : List (List Slot)). Told N B (record { first = first_number m; slots = y; version = top_version N m }) (add_rows (tallies (rows_on s N B (used_count m) (first_number m)) none_met) no_sum)) e
      (told N B (first_number m) (top_version N m) (rows_on s N B (used_count m) (first_number m)) (omega (arith, r.some)) (narrow_rows s N B (used_count m) (first_number m)))

  pub exam_sum : (m : List Segment) → (exam_of N B s (frame_of N m)).sum ≡ cond (frame N m) (sum_on s N B (used_count m) (first_number m)) bad_sum
  unfolding exam_of frame_of
  exam_sum m = refl

  -- orderly sums: conditions 1 to 8
  pub exam_orderly : (m : List Segment) → length m ≡ N → Within m l → (frame N m && fine N B (view_of N m)) ≡ orderly (capacity N B) (exam_of N B s (frame_of N m)).sum
  exam_orderly m z w = go (frame N m) refl
    where
      go : (t : Bool) → frame N m ≡ t → (frame N m && fine N B (view_of N m)) ≡ orderly (capacity N B) (exam_of N B s (frame_of N m)).sum
      go true f = rw f ((exam_told m z w f).fine ∙ ap (orderly (capacity N B)) (sym (exam_sum m ∙ rw f)))
      go false f = let e : (exam_of N B s (frame_of N m)).sum ≡ bad_sum = exam_sum m ∙ rw f in rw (f, e) (sym (bad_orderly (capacity N B)))

  -- the state of the slots, if the top is not owing and the segment after it not torn
  pub exam_verdict : cond (frame N l) (slot_state N B (view_of N l)) damaged ≡ verdict (capacity N B) (exam_of N B s (frame_of N l)).sum
  exam_verdict = go (frame N l) refl
    where
      go : (t : Bool) → frame N l ≡ t → cond t (slot_state N B (view_of N l)) damaged ≡ verdict (capacity N B) (exam_of N B s (frame_of N l)).sum
      go true f = (exam_told l (segments_length N B s) (within_same l) f).state ∙ ap (verdict (capacity N B)) (sym (exam_sum l ∙ rw f))
      go false f = let e : (exam_of N B s (frame_of N l)).sum ≡ bad_sum = exam_sum l ∙ rw f in rw e (sym (bad_verdict (capacity N B)))
