-- A finished format leaves empty slots alone.
use Rattle.std.specs.Prelude.{ℕ, zero, suc, ◌-◌, ◌%◌, ◌≡◌, ◌≢◌, true, List, [], get_or}
use Rattle.std.proofs.Common.{sym, ap, ◌∙◌, subst}
use Rattle.model.specs.Chip.{Image, right_size, run}
use Rattle.model.specs.Slot.{Slot, empty}
use Rattle.model.specs.State.{Segment, blank, segments_of, slots_in, first_number, View, view, Place}
use Rattle.model.specs.Steps.{format_steps}
use Rattle.bridge.specs.Predicted.{fresh}
use Rattle.bridge.specs.Format.{format_held}
use Rattle.origins.specs.Law.{read_at, slot_on}
use Rattle.origins.proofs.Readings.{slot_reads, Telling, empty_plain, read_taken}
use Rattle.origins.proofs.Fewer.{ring_force}
use Rattle.origins.proofs.Untorn.{numbered_row}

-- every row of such a view is of empty slots
fresh_plain : (B q j : ℕ) → Telling (get_or (get_or (fresh B).slots q []) j empty) → ⊥
unfolding fresh
fresh_plain B zero j t = empty_plain B j t
fresh_plain B (suc q) j t = t

pub formatted_plain : (w : Slot) → Telling w → (N B : ℕ) (s : Image) → right_size N B s ≡ true → (p : Place) → slot_on N B (run B (format_steps N B) s) p ≢ w
unfolding slot_on view
formatted_plain w t N B s z p h =
    let l = segments_of N B (run B (format_steps N B) s) in
    let held = format_held N B s z in
    let x = get_or l (p.number % N) blank in
    let reads : read_at x p ≡ w = ap (λ (y : List Segment). read_at (get_or y (p.number % N) blank) p) (sym (ring_force N l held.ring)) ∙ (sym (slot_reads N l p) ∙ h) in
    let (n, k) = read_taken x p w t reads in
    let row : slots_in x ≡ get_or (fresh B).slots (p.number - first_number l) [] =
    numbered_row N l held.ring p.number n ∙ ap (λ (v : View). get_or v.slots (p.number - first_number l) []) held.view in
    fresh_plain B (p.number - first_number l) p.slot (subst Telling (sym k ∙ ap (λ (y : List Slot). get_or y p.slot empty) row) t)
