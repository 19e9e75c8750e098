-- The state's five cases exclude each other: clean, (a), (b), (c) and (d). So the order in which stateOf asks does not matter.
use Rattle.std.specs.Prelude.{ℕ, ◌+◌, ◌-◌, ◌%◌, ◌≤◌, ◌<◌, ◌≡◌, Bool, ◌||◌, ◌&&◌, length, get_or, set, ltb, eqb}
use Rattle.std.proofs.Math.Path.{refl, sym, ap}
use Rattle.std.proofs.Common.{◌∙◌}
use Rattle.std.proofs.Math.Bool.{true, false, not, false≢true}
use mathlib.Core.List.{List, [], ◌∷◌}
use native.Mathlib.Omega.{arith}
use Rattle.std.proofs.Math.Decide.{dec_lt}
use Rattle.std.proofs.Math.ListN.{length-set, get_or-eq_default}
use borrow.Author.Tests.{eqb-true, ltb-true}
use Rattle.model.specs.Lists.{all, count}
use Rattle.model.specs.Slot.{Slot, empty, torn, dead, cut, wrong, live, is_torn, is_wrong, entry_of}
use Rattle.model.specs.State.{Segment, blank, invalid, in_use, is_in_use, is_invalid, is_owing, number_after, slots_in, next_number, top_index, next_index, top_slots, used_count, first_number, view_of, entries_in, none_owing, others_blank, none_wrong_or_torn, blocks_distinct, is_clean, next_blanked, is_a, top_settled, is_b, with_slot, last_slot, last_kind, torn_marked, is_c, block_in, last_block, copies, older, older_marked, is_d}
use Rattle.model.specs.Laws.Lists.{and_left, and_right, all_row, all_fails}
use Rattle.model.proofs.Laws.Tables.{distinct_copies}
use Rattle.model.proofs.Laws.Ring.{next_kept, get_kept, slots_get}
use Rattle.model.proofs.Laws.Clean.{clean_ring, clean_slots, used_next}
use Rattle.model.proofs.Laws.View.{with_slot_owing, erased_unused_view}

-- a test that a default element fails passes only inside the list
pub inside : {A : Type 0} (f : A → Bool) (l : List A) (i : ℕ) (d : A) → f d ≡ false → f (get_or l i d) ≡ true → i < length l
inside f l i d e h = elim (dec_lt i (length l)) [ yes p ↦ p | no p ↦ absurd (false≢true (sym e ∙ (ap f (sym (get_or-eq_default l d (omega arith))) ∙ h))) ]

-- an invalid segment owes no erase, as a blank one
pub invalid_paid : (x : Segment) → is_invalid x ≡ true → is_owing blank ≡ is_owing x
invalid_paid blank h = refl
invalid_paid invalid h = unfold is_owing in refl
invalid_paid (in_use ver st n ks) h = absurd (false≢true (unfold is_invalid in h))

-- ---- what is never clean

module _ (N B : ℕ) (l : List Segment) (size : length l ≡ N) (h : is_clean N B l ≡ true) where
  pub no_owing : (i : ℕ) → is_owing (get_or l i blank) ≡ true → ⊥
  unfolding none_owing
  no_owing i o =
      let b = inside is_owing l i blank (unfold is_owing in refl) o in
      false≢true (sym (all_fails (λ x. not (is_owing x)) l i blank b (ap not o)) ∙ (clean_ring N B l size h).paid)

  pub no_invalid : (i : ℕ) → is_invalid (get_or l i blank) ≡ true → ⊥
  unfolding others_blank
  no_invalid i o =
      let b = inside is_invalid l i blank (unfold is_invalid in refl) o in
      false≢true (sym (all_fails (λ x. not (is_invalid x)) l i blank b (ap not o)) ∙ (clean_ring N B l size h).others)

  -- the top's slots are the view's last row
  pub top_row_lem : top_slots N l ≡ get_or (view_of N l).slots (used_count l - 1) []
  unfolding top_slots top_index view_of
  top_row_lem =
      let r = clean_ring N B l size h in
      let e : first_number l + (used_count l - 1) ≡ next_number l - 1 = omega (arith, used_next N l r, r.some) in
      sym (rw e at (slots_get N l (used_count l) (first_number l) (used_count l - 1) (omega (arith, r.some))))

  pub no_torn : is_torn (last_kind N l) ≡ true → ⊥
  unfolding last_kind none_wrong_or_torn
  no_torn t =
      let r = clean_ring N B l size h in
      let rows = (view_of N l).slots in
      let top : all (λ k. not (is_wrong k || is_torn k)) (top_slots N l) ≡ true =
      ap (λ (y : List Slot). all (λ k. not (is_wrong k || is_torn k)) y) top_row_lem ∙ all_row (λ k. not (is_wrong k || is_torn k)) rows (used_count l - 1) (clean_slots N B l h).sound in
      let b = inside is_torn (top_slots N l) (last_slot N l) empty (unfold is_torn in refl) t in
      false≢true (sym (all_fails (λ k. not (is_wrong k || is_torn k)) (top_slots N l) (last_slot N l) empty b (bad (get_or (top_slots N l) (last_slot N l) empty) t)) ∙ top)
    where
      bad : (k : Slot) → is_torn k ≡ true → not (is_wrong k || is_torn k) ≡ false
      bad k q = go (is_wrong k) (is_torn k) q
        where
          go : (a b : Bool) → b ≡ true → not (a || b) ≡ false
          go true b p = refl
          go false b p = ap not p

  pub no_twins : (b : ℕ) → copies b (entries_in (view_of N l)) ≤ 1
  unfolding blocks_distinct
  no_twins b = distinct_copies (entries_in (view_of N l)) (clean_slots N B l h).once b

-- ---- of five tests that exclude each other, at most one holds

abbrev Not : Bool → Bool → Type 0
Not x y = x ≡ true → y ≡ true → ⊥

at_most_one : (p a b c d : Bool) → Not p a → Not p b → Not p c → Not p d → Not a b → Not a c → Not a d → Not b c → Not b d → Not c d → count (λ t. t) (p ∷ a ∷ b ∷ c ∷ d ∷ []) ≤ 1
unfolding count
at_most_one false false false false false pa pb pc pd ab ac ad bc bd cd = omega arith
at_most_one false false false false true pa pb pc pd ab ac ad bc bd cd = omega arith
at_most_one false false false true false pa pb pc pd ab ac ad bc bd cd = omega arith
at_most_one false false false true true pa pb pc pd ab ac ad bc bd cd = absurd (cd refl refl)
at_most_one false false true false false pa pb pc pd ab ac ad bc bd cd = omega arith
at_most_one false false true false true pa pb pc pd ab ac ad bc bd cd = absurd (bd refl refl)
at_most_one false false true true d pa pb pc pd ab ac ad bc bd cd = absurd (bc refl refl)
at_most_one false true false false false pa pb pc pd ab ac ad bc bd cd = omega arith
at_most_one false true false false true pa pb pc pd ab ac ad bc bd cd = absurd (ad refl refl)
at_most_one false true false true d pa pb pc pd ab ac ad bc bd cd = absurd (ac refl refl)
at_most_one false true true c d pa pb pc pd ab ac ad bc bd cd = absurd (ab refl refl)
at_most_one true false false false false pa pb pc pd ab ac ad bc bd cd = omega arith
at_most_one true false false false true pa pb pc pd ab ac ad bc bd cd = absurd (pd refl refl)
at_most_one true false false true d pa pb pc pd ab ac ad bc bd cd = absurd (pc refl refl)
at_most_one true false true c d pa pb pc pd ab ac ad bc bd cd = absurd (pb refl refl)
at_most_one true true b c d pa pb pc pd ab ac ad bc bd cd = absurd (pa refl refl)

-- ---- the cases, two by two

module _ (N B : ℕ) (l : List Segment) (size : length l ≡ N) where
  a_facts : is_a N B l ≡ true → (is_invalid (get_or l (next_index N l) blank) ≡ true) × (is_clean N B (next_blanked N l) ≡ true)
  unfolding is_a
  a_facts h = (and_left (is_invalid (get_or l (next_index N l) blank)) (is_clean N B (next_blanked N l)) h, and_right (is_invalid (get_or l (next_index N l) blank)) (is_clean N B (next_blanked N l)) h)

  b_owing : is_b N B l ≡ true → is_owing (get_or l (top_index N l) blank) ≡ true
  unfolding is_b
  b_owing h = and_left (is_owing (get_or l (top_index N l) blank)) (eqb (used_count (top_settled N l)) (N - 1) && is_clean N B (top_settled N l)) h

  c_facts : is_c N B l ≡ true → (is_torn (last_kind N l) ≡ true) × (is_clean N B (torn_marked N l) ≡ true)
  unfolding is_c
  c_facts h = (and_left (is_torn (last_kind N l)) (is_clean N B (torn_marked N l)) h, and_right (is_torn (last_kind N l)) (is_clean N B (torn_marked N l)) h)

  d_facts : is_d N B l ≡ true → (0 < last_block N l) × (copies (last_block N l) (entries_in (view_of N l)) ≡ 2) × (is_clean N B (older_marked N l) ≡ true)
  unfolding is_d
  d_facts h =
      let r = and_right (ltb 0 (last_block N l)) (eqb (copies (last_block N l) (entries_in (view_of N l))) 2 && is_clean N B (older_marked N l)) h in (
        ltb-true 0 (last_block N l) (and_left (ltb 0 (last_block N l)) (eqb (copies (last_block N l) (entries_in (view_of N l))) 2 && is_clean N B (older_marked N l)) h),
        eqb-true (copies (last_block N l) (entries_in (view_of N l))) 2 (and_left (eqb (copies (last_block N l) (entries_in (view_of N l))) 2) (is_clean N B (older_marked N l)) r),
        and_right (eqb (copies (last_block N l) (entries_in (view_of N l))) 2) (is_clean N B (older_marked N l)) r,
      )

  -- a segment that is neither in use nor blank may as well be blank: the top and the view are the same
  module _ (i : is_invalid (get_or l (next_index N l) blank) ≡ true) where
    unused : (x : Segment) → is_invalid x ≡ true → (is_in_use x ≡ false) × (number_after blank ≡ number_after x) × (slots_in blank ≡ slots_in x)
    unfolding is_invalid is_in_use number_after slots_in
    unused blank q = absurd (false≢true q)
    unused invalid q = (refl, refl, refl)
    unused (in_use ver st n ks) q = absurd (false≢true q)

    blanked_next : next_number (next_blanked N l) ≡ next_number l
    unfolding next_blanked
    blanked_next = next_kept l (next_index N l) blank (unused (get_or l (next_index N l) blank) i).1

    blanked_view : view_of N (next_blanked N l) ≡ view_of N l
    unfolding next_blanked
    blanked_view = erased_unused_view N l (next_index N l) (inside is_invalid l (next_index N l) blank (unfold is_invalid in refl) i) (unused (get_or l (next_index N l) blank) i).0

    blanked_last : last_kind N (next_blanked N l) ≡ last_kind N l
    unfolding last_kind last_slot top_slots top_index
    blanked_last =
        let e : slots_in (get_or (next_blanked N l) ((next_number l - 1) % N) blank) ≡ slots_in (get_or l ((next_number l - 1) % N) blank) =
        (unfold next_blanked in get_kept slots_in l (next_index N l) blank (unused (get_or l (next_index N l) blank) i).2 ((next_number l - 1) % N)) in
        rw (blanked_next, e)

  clean_a : is_clean N B l ≡ true → is_a N B l ≡ true → ⊥
  clean_a h k = no_invalid N B l size h (next_index N l) (a_facts k).0

  clean_b : is_clean N B l ≡ true → is_b N B l ≡ true → ⊥
  clean_b h k = no_owing N B l size h (top_index N l) (b_owing k)

  clean_c : is_clean N B l ≡ true → is_c N B l ≡ true → ⊥
  clean_c h k = no_torn N B l size h (c_facts k).0

  clean_d : is_clean N B l ≡ true → is_d N B l ≡ true → ⊥
  clean_d h k = let t = no_twins N B l size h (last_block N l) in let e = (d_facts k).1 in omega arith

  blanked_size : length (next_blanked N l) ≡ N
  unfolding next_blanked
  blanked_size = length-set l (next_index N l) blank ∙ size

  a_b : is_a N B l ≡ true → is_b N B l ≡ true → ⊥
  a_b h k = no_owing N B (next_blanked N l) blanked_size (a_facts h).1 (top_index N l) (still ∙ b_owing k)
    where
      still : is_owing (get_or (next_blanked N l) (top_index N l) blank) ≡ is_owing (get_or l (top_index N l) blank)
      still = unfold next_blanked in get_kept is_owing l (next_index N l) blank (invalid_paid (get_or l (next_index N l) blank) (a_facts h).0) (top_index N l)

  a_c : is_a N B l ≡ true → is_c N B l ≡ true → ⊥
  a_c h k = no_torn N B (next_blanked N l) blanked_size (a_facts h).1 (ap is_torn (blanked_last (a_facts h).0) ∙ (c_facts k).0)

  a_d : is_a N B l ≡ true → is_d N B l ≡ true → ⊥
  a_d h k =
      let t = no_twins N B (next_blanked N l) blanked_size (a_facts h).1 (last_block N l) in
      let v : copies (last_block N l) (entries_in (view_of N (next_blanked N l))) ≡ copies (last_block N l) (entries_in (view_of N l)) = ap (λ y. copies (last_block N l) (entries_in y)) (blanked_view (a_facts h).0) in
      let e = (d_facts k).1 in omega arith

  -- a slot marked leaves an owing segment owing
  slot_owing : (i j : ℕ) (k : Slot) → is_clean N B (set l i (with_slot j k (get_or l i blank))) ≡ true → is_owing (get_or l (top_index N l) blank) ≡ true → ⊥
  slot_owing i j k h o = no_owing N B (set l i (with_slot j k (get_or l i blank))) (length-set l i (with_slot j k (get_or l i blank)) ∙ size) h (top_index N l)
      (get_kept is_owing l i (with_slot j k (get_or l i blank)) (with_slot_owing j k (get_or l i blank)) (top_index N l) ∙ o)

  b_c : is_b N B l ≡ true → is_c N B l ≡ true → ⊥
  b_c h k = slot_owing (top_index N l) (last_slot N l) cut (unfold torn_marked in (c_facts k).1) (b_owing h)

  b_d : is_b N B l ≡ true → is_d N B l ≡ true → ⊥
  b_d h k = slot_owing ((older N l).number % N) (older N l).slot dead (unfold older_marked in (d_facts k).2) (b_owing h)

  c_d : is_c N B l ≡ true → is_d N B l ≡ true → ⊥
  unfolding last_block block_in
  c_d h k = let z : last_block N l ≡ 0 = none (last_kind N l) (c_facts h).0 in let p = (d_facts k).0 in omega arith
    where
      none : (x : Slot) → is_torn x ≡ true → block_in (entry_of x) ≡ 0
      none empty q = unfold entry_of block_in in refl
      none torn q = unfold entry_of block_in in refl
      none dead q = unfold entry_of block_in in refl
      none cut q = unfold entry_of block_in in refl
      none wrong q = unfold entry_of block_in in refl
      none (live b c) q = absurd (false≢true (unfold is_torn in q))

  -- at most one of the five holds
  pub exclusive : count (λ t. t) (is_clean N B l ∷ is_a N B l ∷ is_b N B l ∷ is_c N B l ∷ is_d N B l ∷ []) ≤ 1
  exclusive = at_most_one (is_clean N B l) (is_a N B l) (is_b N B l) (is_c N B l) (is_d N B l) clean_a clean_b clean_c clean_d a_b a_c a_d b_c b_d c_d
