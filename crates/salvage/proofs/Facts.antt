-- Every candidate of an image of bytes can be written; so the candidates given fit a target that is not refused.
use Rattle.std.specs.Prelude.{ℕ, zero, suc, ◌+◌, ◌*◌, ◌≤◌, ◌<◌, ◌≡◌, refl, Bool, true, false, cond, ◌&&◌, length, get_or, drop, set}
use Rattle.std.proofs.Common.{sym, ◌∙◌, subst, arith, length-drop, get_or-drop, get_or-set_other}
use Rattle.std.proofs.Math.Path.{ap}
use mathlib.Core.List.{List, [], ◌∷◌, ◌++◌, map, flat_map}
use Rattle.std.proofs.Math.Decide.{ℕ_discrete, dec_lt}
use Rattle.std.proofs.Math.ListN.{get_or-eq_default}
use borrow.Author.Tests.{ltb-false, not-false}
use Rattle.model.specs.Chip.{Image, Page, Bytes, largest_image, pages_of, right_size}
use Rattle.model.specs.Header.{Version}
use Rattle.model.specs.Slot.{Slot, empty, torn, dead, cut, wrong, live, slot_of, entry_of}
use Rattle.model.specs.State.{Segment, blank, invalid, in_use, is_owing, slots_in, segments_of, top_index, next_index, top_slots, used_count, next_blanked, entries, distinct, capacity}
use Rattle.model.specs.Answers.{first_of}
use Rattle.model.specs.Laws.Lists.{and_left, and_right}
use Rattle.model.proofs.Laws.Bytes.{chunk_bytes}
use Rattle.model.proofs.Laws.SlotPage.{live_valid}
use Rattle.model.proofs.Laws.Segments.{part_of, part_page, part_size, segment_at, segments_length}
use Rattle.model.proofs.Laws.Effects.{in_use_parts}
use Rattle.model.proofs.Laws.CopyOut.{Valids}
use Rattle.bridge.specs.Refusals.{none_applies}
use Rattle.account_text.specs.Account.{live_from, live_in, live_slots}
use Rattle.moves.specs.Moves.{by_number, fresh_work}
use Rattle.moves.proofs.Sorted.{sorted_length, sorted_distinct, sorted_valids}
use Rattle.moves.proofs.Fresh.{Fits}
use Rattle.moves.proofs.Facts.{valids_append}
use Rattle.moves.proofs.Works.{Sees, few_steps, same_work}
use Rattle.salvage.specs.Salvage.{regarded, candidates, held_in, salvaged, rebuild_refusals, rebuild_work, rebuild_outcome}
use Rattle.salvage.proofs.Given.{given_lasts, given_distinct, valid_lasts}
use Rattle.salvage.proofs.Ring.{held_append, held_from}

-- so that a wrong definition is refused by what it computes before it is by a law

-- ---- the slots of an image of bytes

valid_slots : (ps : List Page) → ((q : ℕ) → q < length ps → Bytes (get_or ps q [])) → Valids (entries (map slot_of ps))
unfolding entries flat_map
valid_slots [] f = tt
valid_slots (p ∷ ps) f = go (slot_of p) refl (valid_slots ps (λ q b. f (suc q) (omega arith)))
  where
    go : (k : Slot) → slot_of p ≡ k → Valids (entries (map slot_of ps)) → Valids (entry_of k ++ entries (map slot_of ps))
    go empty e r = unfold entry_of in r
    go torn e r = unfold entry_of in r
    go dead e r = unfold entry_of in r
    go cut e r = unfold entry_of in r
    go wrong e r = unfold entry_of in r
    go (live b c) e r = unfold entry_of in (live_valid p b c e (f 0 (omega arith)), r)

-- what each segment holds can be written
abbrev AllValid : List Segment → Type 0
AllValid l = (i : ℕ) → Valids (entries (slots_in (get_or l i blank)))

none_valid : Valids (entries (slots_in blank))
unfolding entries slots_in flat_map
none_valid = tt

in_use_valid : (N B : ℕ) (s : Image) → Bytes s → (i : ℕ) → i < N → (ver : Version) (st n : ℕ) (ks : List Slot) → get_or (segments_of N B s) i blank ≡ in_use ver st n ks → Valids (entries ks)
unfolding pages_of
in_use_valid N B s bs i h ver st n ks e =
    let ps = part_of N B i s in
    let parts = in_use_parts N B i ps ver st n ks (sym (segment_at N B i s h) ∙ e) in
    subst (λ (y : List Slot). Valids (entries y)) parts.slots
    (valid_slots (drop 1 ps) (λ q c. rw (get_or-drop 1 ps q [], part_page N B i (1 + q) s h (omega (arith, length-drop 1 ps, part_size N B i s h))) (chunk_bytes (N * (B + 1)) 256 _ s bs)))

segments_valid : (N B : ℕ) (s : Image) → Bytes s → AllValid (segments_of N B s)
segments_valid N B s bs i = elim (dec_lt i N) [
  | yes h ↦ inside h (get_or (segments_of N B s) i blank) refl
  | no h ↦ subst (λ (x : Segment). Valids (entries (slots_in x))) (sym (get_or-eq_default (segments_of N B s) blank (omega (arith, segments_length N B s)))) none_valid
]
  where
    inside : i < N → (x : Segment) → get_or (segments_of N B s) i blank ≡ x → Valids (entries (slots_in x))
    inside h blank e = none_valid
    inside h invalid e = unfold entries slots_in flat_map in tt
    inside h (in_use ver st n ks) e = unfold slots_in in (in_use_valid N B s bs i h ver st n ks e)

blank_valid : (l : List Segment) (i : ℕ) → AllValid l → AllValid (set l i blank)
blank_valid [] i v = v
blank_valid (x ∷ l) i v = λ k. elim (ℕ_discrete k i) [
  | yes e ↦ subst (λ (y : Segment). Valids (entries (slots_in y))) (sym (ap (λ (j : ℕ). get_or (set (x ∷ l) i blank) j blank) e ∙ here (x ∷ l) i)) none_valid
  | no n ↦ subst (λ (y : Segment). Valids (entries (slots_in y))) (sym (get_or-set_other (x ∷ l) i k blank blank n)) (v k)
]
  where
    here : (m : List Segment) (j : ℕ) → get_or (set m j blank) j blank ≡ blank
    here [] j = refl
    here (y ∷ m) zero = refl
    here (y ∷ m) (suc j) = here m j

-- ---- the candidates

lives_valid : (N u : ℕ) (l : List Segment) → AllValid l → Valids (map held_in (live_in N u l))
unfolding live_in top_slots
lives_valid N zero l v = tt
lives_valid N (suc u) l v =
    let i = top_index N l in
    rw (held_append (live_in N u (set l i blank)) (live_from i 1 (slots_in (get_or l i blank))), held_from i 1 (slots_in (get_or l i blank)))
    (valids_append (map held_in (live_in N u (set l i blank))) (entries (slots_in (get_or l i blank))) (lives_valid N u (set l i blank) (blank_valid l i v)) (v i))

regarded_valid : (N : ℕ) (l : List Segment) → AllValid l → AllValid (regarded N l)
unfolding regarded next_blanked
regarded_valid N l v = go (is_owing (get_or l (top_index N l) blank))
  where
    go : (t : Bool) → AllValid (cond t (set l (next_index N l) blank) l)
    go true = blank_valid l (next_index N l) v
    go false = v

module _ (N B : ℕ) (s : Image) where
  pub salvaged_distinct : distinct (salvaged N B s) ≡ true
  unfolding salvaged
  salvaged_distinct = given_distinct (candidates N (segments_of N B s))

  pub salvaged_valid : Bytes s → Valids (salvaged N B s)
  unfolding salvaged candidates live_slots
  salvaged_valid b =
      let l = regarded N (segments_of N B s) in
      rw (given_lasts (live_in N (used_count l) l)) (valid_lasts (map held_in (live_in N (used_count l) l)) (lives_valid N (used_count l) l (regarded_valid N (segments_of N B s) (segments_valid N B s b))))

-- ---- what a rebuild that is not refused asks for

pub record Rebuildable (N B : ℕ) (s : Image) (M D : ℕ) (t : Image) : Type 0 where
  pub source : right_size N B s ≡ true
  pub target : right_size M D t ≡ true
  pub few : length (salvaged N B s) ≤ capacity M D

module _ (N B : ℕ) (s : Image) (M D : ℕ) (t : Image) where
  pub rebuild_asks : first_of (rebuild_refusals N B s M D t) ≡ 0 → Rebuildable N B s M D t
  unfolding rebuild_refusals
  rebuild_asks e =
      let a = none_applies 0 _ _ e in
      let d = none_applies 6 _ _ a.1 in
      let z = not-false (right_size N B s && right_size M D t) a.0 in
      record {
        source = and_left (right_size N B s) (right_size M D t) z;
        target = and_right (right_size N B s) (right_size M D t) z;
        few = ltb-false (capacity M D) (length (salvaged N B s)) d.0;
      }

  -- the table by rising number fits the target
  pub rebuild_fits : Bytes s → Rebuildable N B s M D t → Fits M D (by_number (salvaged N B s))
  rebuild_fits b r = record {
    once = sorted_distinct (salvaged N B s) (salvaged_distinct N B s);
    few = omega (arith, sorted_length (salvaged N B s), r.few);
    valid = sorted_valids (salvaged N B s) (salvaged_valid N B s b);
  }

  rebuild_sees : Bytes s → Sees (rebuild_refusals N B s M D t) M D (salvaged N B s) t
  rebuild_sees b e = let r = rebuild_asks e in (r.target, rebuild_fits b r)

  pub rebuilt_few : (allowance : ℕ) → Bytes s → (rebuild_outcome N B s M D t allowance).count ≤ largest_image
  unfolding rebuild_outcome rebuild_work
  rebuilt_few allowance b = few_steps (rebuild_refusals N B s M D t) M D (salvaged N B s) t allowance (rebuild_sees b)

  -- the source decides, and the list is the same whatever the target held
  pub rebuild_same : (u : Image) → Bytes s → right_size M D u ≡ right_size M D t → rebuild_work N B s M D u ≡ rebuild_work N B s M D t
  unfolding rebuild_work
  rebuild_same u b z = ap (λ rows. fresh_work rows M D (salvaged N B s) u) same ∙ same_work (rebuild_refusals N B s M D t) M D (salvaged N B s) t u (rebuild_sees b) z
    where
      same : rebuild_refusals N B s M D u ≡ rebuild_refusals N B s M D t
      same = unfold rebuild_refusals in rw z
