-- What the account counts is what these statements speak of: of an image that is not damaged it shows the slots in use.
use Rattle.std.specs.Prelude.{ℕ, zero, suc, ◌≡◌, refl, ◌≢◌, true, get_or, set}
use Rattle.std.proofs.Common.{sym, ◌∙◌}
use Rattle.std.proofs.Math.Path.{ap}
use mathlib.Core.List.{List, [], ◌∷◌}
use Rattle.model.specs.Chip.{Image, right_size}
use Rattle.model.specs.State.{Segment, blank, invalid, in_use, segments_of, slots_in, next_index, next_blanked, case_a, case_b, case_c, case_d, State, clean, unfinished, damaged, state_of, state}
use Rattle.account_text.specs.Account.{unseen, shown_in, shown}
use Rattle.origins.specs.Law.{in_force}
use Rattle.origins.proofs.Last.{last_paid}
use Rattle.origins.proofs.Fewer.{paid_force, owing_force}
use Rattle.origins.proofs.Torn.{clean_top, paid_a, owing_b, paid_d}

-- a segment that is not looked at shows no slot
unseen_slots : (x : Segment) → slots_in (unseen x) ≡ slots_in blank
unfolding unseen slots_in
unseen_slots blank = refl
unseen_slots invalid = refl
unseen_slots (in_use ver st n ks) = refl

slots_set : (l : List Segment) (k i : ℕ) (x y : Segment) → slots_in x ≡ slots_in y → slots_in (get_or (set l k x) i blank) ≡ slots_in (get_or (set l k y) i blank)
slots_set [] k i x y e = refl
slots_set (z ∷ l) zero zero x y e = e
slots_set (z ∷ l) zero (suc i) x y e = refl
slots_set (z ∷ l) (suc k) zero x y e = refl
slots_set (z ∷ l) (suc k) (suc i) x y e = slots_set l k i x y e

pub account_shows : (N B : ℕ) (s : Image) → right_size N B s ≡ true → state N B s ≢ damaged
    → (i : ℕ) → slots_in (get_or (shown N B (segments_of N B s)) i blank) ≡ slots_in (get_or (in_force N (segments_of N B s)) i blank)
unfolding shown state
account_shows N B s z sound i = go (state_of N B (segments_of N B s)) refl
  where
    l : List Segment
    l = segments_of N B s

    paid : in_force N l ≡ l → slots_in (get_or l i blank) ≡ slots_in (get_or (in_force N l) i blank)
    paid e = ap (λ (y : List Segment). slots_in (get_or y i blank)) (sym e)

    go : (x : State) → state_of N B l ≡ x → slots_in (get_or (shown_in N l x) i blank) ≡ slots_in (get_or (in_force N l) i blank)
    go clean e = unfold shown_in in (paid (paid_force N l (clean_top N B s e)))
    go (unfinished case_a) e = unfold shown_in in (paid (paid_force N l (paid_a N B s z e)))
    go (unfinished case_b) e = unfold shown_in next_blanked in
        (slots_set l (next_index N l) i (unseen (get_or l (next_index N l) blank)) blank (unseen_slots (get_or l (next_index N l) blank))
        ∙ ap (λ (y : List Segment). slots_in (get_or y i blank)) (sym (owing_force N l (owing_b N B s z e))))
    go (unfinished case_c) e = unfold shown_in in (paid (paid_force N l (last_paid N B s z e)))
    go (unfinished case_d) e = unfold shown_in in (paid (paid_force N l (paid_d N B s z e)))
    go damaged e = absurd (sound e)
