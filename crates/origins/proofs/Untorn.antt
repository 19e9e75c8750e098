-- No slot of clean segments is torn: a segment with a number is one of those that the view has.
use Rattle.std.specs.Prelude.{ℕ, suc, ◌+◌, ◌-◌, ◌%◌, ◌≤◌, ◌<◌, ◌≡◌, refl, ◌≢◌, true, false, ◌||◌, not, List, [], length, get_or}
use Rattle.std.proofs.Math.Path.{sym, ap}
use Rattle.std.proofs.Common.{◌∙◌, subst, true≢false}
use Rattle.std.proofs.lemmas.Bool.{false≢true}
use native.Mathlib.Omega.{arith}
use Rattle.std.proofs.Math.Decide.{dec_lt}
use Rattle.std.proofs.Math.ListN.{get_or-eq_default}
use Rattle.model.specs.Lists.{all}
use Rattle.model.specs.Slot.{Slot, empty, torn, is_torn, is_wrong}
use Rattle.model.specs.State.{Segment, blank, is_in_use, number_after, slots_in, used_count, first_number, view_of, none_wrong_or_torn, is_clean, Place}
use Rattle.model.specs.Laws.Lists.{all_get, all_row}
use Rattle.model.proofs.Laws.Ring.{next_ge, number_in_use, only_numbered, slots_get}
use Rattle.model.proofs.Laws.Clean.{RingFacts, clean_ring, clean_slots, used_next, index_inside, numbered}
use Rattle.origins.specs.Law.{read_at}
use Rattle.origins.proofs.Readings.{not_telling, read_taken}

module _ (N : ℕ) (l : List Segment) (r : RingFacts N l) where
  -- its number is not below the first
  numbered_low : (n : ℕ) → number_after (get_or l (n % N) blank) ≡ suc n → first_number l ≤ n
  numbered_low n e = elim (dec_lt n (first_number l)) [ yes p ↦ absurd (true≢false (sym (number_in_use (get_or l (n % N) blank) n e) ∙ unused p)) | no p ↦ omega arith ]
    where
      unused : n < first_number l → is_in_use (get_or l (n % N) blank) ≡ false
      unused p = only_numbered N l (used_count l) (first_number l) (n % N) r.size (omega (arith, r.spare)) r.chain refl (omega (arith, index_inside N l r n, r.size))
          (λ j a b q. let here : suc j ≡ suc n = sym (numbered N l r j a (omega (arith, b, used_next N l r))) ∙ (ap (λ (y : ℕ). number_after (get_or l y blank)) q ∙ e) in omega (arith, here, a, p))

  -- and its slots are a row of the view
  pub numbered_row : (n : ℕ) → number_after (get_or l (n % N) blank) ≡ suc n → slots_in (get_or l (n % N) blank) ≡ get_or (view_of N l).slots (n - first_number l) []
  unfolding view_of
  numbered_row n e =
      let low = numbered_low n e in
      let k : first_number l + (n - first_number l) ≡ n = omega arith in
      ap (λ (y : ℕ). slots_in (get_or l (y % N) blank)) (sym k) ∙ sym (slots_get N l (used_count l) (first_number l) (n - first_number l) (omega (arith, used_next N l r, next_ge l (n % N), e, low)))

-- no slot of a sound row is torn
row_untorn : (ks : List Slot) (j : ℕ) → all (λ k. not (is_wrong k || is_torn k)) ks ≡ true → get_or ks j empty ≢ torn
unfolding is_wrong is_torn
row_untorn ks j h e = elim (dec_lt j (length ks)) [
  | yes p ↦ false≢true (subst (λ k. not (is_wrong k || is_torn k) ≡ true) e (all_get (λ k. not (is_wrong k || is_torn k)) ks j empty h p))
  | no p ↦ not_telling empty torn tt (λ t. t) (sym (get_or-eq_default ks empty (omega arith)) ∙ e)
]

pub clean_untorn : (N B : ℕ) (l : List Segment) → length l ≡ N → is_clean N B l ≡ true → (p : Place) → read_at (get_or l (p.number % N) blank) p ≢ torn
unfolding none_wrong_or_torn
clean_untorn N B l size h p e =
    let (n, k) = read_taken (get_or l (p.number % N) blank) p torn tt e in
    let row = numbered_row N l (clean_ring N B l size h) p.number n in
    row_untorn (get_or (view_of N l).slots (p.number - first_number l) []) p.slot (all_row (λ x. not (is_wrong x || is_torn x)) (view_of N l).slots (p.number - first_number l) (clean_slots N B l h).sound)
    (ap (λ (y : List Slot). get_or y p.slot empty) (sym row) ∙ k)
