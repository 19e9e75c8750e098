-- The search for a block in the segments of an image that are in use.
use Rattle.std.specs.Prelude.{ℕ, zero, suc, ◌%◌, ◌<◌, ◌≡◌, refl, true, List, ◌∷◌, get_or, eqb}
use Rattle.std.proofs.Common.{sym, ap, ap₂, ◌∙◌, mod-lt, eqb-true}
use Rattle.model.specs.Chip.{Image}
use Rattle.model.specs.Slot.{Slot}
use Rattle.model.specs.State.{blank, number_after, slots_in, version_in, segments_of, numbers_from, slots_from}
use Rattle.model.specs.Laws.Lists.{and_left, and_right}
use Rattle.model.proofs.Laws.Segments.{part_of, segment_at}
use Rattle.model.proofs.Laws.Effects.{in_use_parts}
use Rattle.model.proofs.Laws.Clean.{in_use_numbered}
use Rattle.find.specs.Search.{rows_at, found_in}

-- the slots as they stand are those of the segments in use
numbered_rows : (N B : ℕ) (s : Image) → 0 < N → (u n : ℕ) → numbers_from N (segments_of N B s) u n ≡ true → rows_at N B s u n ≡ slots_from N (segments_of N B s) u n
unfolding rows_at slots_from numbers_from
numbered_rows N B s p zero n h = refl
numbered_rows N B s p (suc u) n h =
    let l = segments_of N B s in
    let i = mod-lt n p in
    let number = eqb-true (number_after (get_or l (n % N) blank)) (suc n) (and_left (eqb (number_after (get_or l (n % N) blank)) (suc n)) (numbers_from N l u (suc n)) h) in
    let r = in_use_numbered (get_or l (n % N) blank) n number in
    ap₂ {C = List (List Slot)} (λ x y. x ∷ y)
    (in_use_parts N B (n % N) (part_of N B (n % N) s) (version_in (get_or l (n % N) blank)) r.0 n (slots_in (get_or l (n % N) blank)) (sym (segment_at N B (n % N) s i) ∙ r.1)).slots
    (numbered_rows N B s p u (suc n) (and_right (eqb (number_after (get_or l (n % N) blank)) (suc n)) (numbers_from N l u (suc n)) h))

pub numbered_found : (N B b : ℕ) (s : Image) → 0 < N → (u n : ℕ) → numbers_from N (segments_of N B s) u n ≡ true
    → found_in N B n (rows_at N B s u n) b ≡ found_in N B n (slots_from N (segments_of N B s) u n) b
numbered_found N B b s p u n h = ap (λ (rows : List (List Slot)). found_in N B n rows b) (numbered_rows N B s p u n h)
