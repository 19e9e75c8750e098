-- Each list of steps of a put or a delete, done whole, leaves the ring and the predicted view.
use Prim.Native.Nat.{ℕ, suc, ◌+◌, ◌-◌, ◌%◌, ◌≤◌, ◌<◌}
use Rattle.std.specs.Prelude.{◌≡◌, ◌≢◌, true, replicate}
use Rattle.std.proofs.Math.Path.{refl, sym, ap, ap₂}
use Rattle.std.proofs.Common.{◌∙◌, mod-lt, set-set, get_or-set_other}
use mathlib.Core.List.{List, [], ◌∷◌, ◌++◌}
use native.Mathlib.Omega.{arith}
use Rattle.std.proofs.Math.ListN.{length, get_or, drop, set}
use Rattle.std.proofs.lemmas.List.{set_comm}
use Rattle.std.proofs.Math.Seq.{get_or-set_same}
use Rattle.model.specs.Lists.{all}
use Rattle.model.specs.Chip.{Image, number_limit, image_length, step, run, Step, erase}
use Rattle.model.specs.Header.{opened, erase_pending, compacted, new_version, is_former, version_number, tally_of}
use Rattle.model.specs.Slot.{Slot, empty, dead, live, Entry}
use Rattle.model.specs.State.{Segment, blank, in_use, segments_of, of_version, next_number, next_index, used_count, first_number, View, view_of, view, with_slot}
use Rattle.model.specs.Steps.{on_page, slot_at, write_slot, mark_dead, open_segment, copy_out, settle, compact, top_number, copied, next_version, open_next}
use Rattle.model.specs.Laws.Lists.{mod_inj}
use Rattle.model.proofs.Laws.Chip.{SizeFacts, size_facts, run_size, run_append, run_length, step_length}
use Rattle.model.proofs.Laws.HeaderPage.{old_index_lem}
use Rattle.model.proofs.Laws.SlotPage.{Valid, live_markable}
use Rattle.model.proofs.Laws.Effects.{mark_effect, write_effect, slot_kind, slot_page_at, erase_effect, open_effect, settle_effect}
use Rattle.model.proofs.Laws.CopyOut.{Valids, copy_out_effect}
use Rattle.model.proofs.Laws.Clean.{index_inside, next_blank}
use Rattle.model.proofs.Laws.View.{slot_changed, slot_ring, slot_view, all_seconds, taken_ring, taken_view, moved_ring, moved_view}
use Rattle.bridge.specs.Predicted.{Carries}
use Rattle.bridge.specs.Held.{Held, held_first, held_count, held_next, held_top, held_row}

module _ (N B : ℕ) (s : Image) (v : View) (h : Held N B s v) where
  abbrev l : List Segment
  l = segments_of N B s

  abbrev size : SizeFacts N B s
  size = size_facts N B s h.size

  -- ---- one slot changed

  -- what a change of one slot in the segments is in the view
  slot_held : (n j : ℕ) (x : Slot) (xs : List Step) → v.first ≤ n → n < next_number l
      → segments_of N B (run B xs s) ≡ set l (n % N) (with_slot j x (get_or l (n % N) blank)) → Held N B (run B xs s) (slot_changed n j x v)
  unfolding view
  slot_held n j x xs lo hi e =
      let f = held_first N B s v h in
      let low : first_number l ≤ n = omega arith in record {
        size = run_size N B xs s ∙ h.size;
        ring = rw e (slot_ring N l h.ring n j x low hi);
        view = rw e (slot_view N l h.ring n j x low hi ∙ ap (λ y. slot_changed n j x y) h.view);
      }

  module _ (k j : ℕ) (in_row : k < length v.slots) (in_slot : j < B) where
    abbrev n : ℕ
    n = v.first + k

    low : v.first ≤ n
    low = omega arith

    high : n < next_number l
    high = omega (arith, held_next N B s v h)

    -- a live slot marked
    pub mark_held : (b : ℕ) (c : List ℕ) → get_or (get_or v.slots k []) j empty ≡ live b c → Held N B (run B (on_page (slot_at N B (v.first + k) j) mark_dead) s) (slot_changed (v.first + k) j dead v)
    mark_held b c e =
        let r = held_row N B s v h k in_row in
        let kind = slot_kind N B size.two s size.whole n j r.0 r.1 n (get_or v.slots k []) in_slot r.2 in
        slot_held n j dead (on_page (slot_at N B n j) mark_dead) low high
        (mark_effect N B size.two s size.whole n j r.0 r.1 n (get_or v.slots k []) in_slot r.2 dead
        (live_markable (slot_page_at N B size.two s size.whole n j r.0 r.1 n (get_or v.slots k []) in_slot r.2) b c (kind ∙ e)))

    -- an empty slot written
    pub write_held : (b : ℕ) (c : List ℕ) → Valid b c → get_or (get_or v.slots k []) j empty ≡ empty
        → Held N B (run B (on_page (slot_at N B (v.first + k) j) (write_slot b c)) s) (slot_changed (v.first + k) j (live b c) v)
    write_held b c w e =
        let r = held_row N B s v h k in_row in
        slot_held n j (live b c) (on_page (slot_at N B n j) (write_slot b c)) low high
        (write_effect N B size.two s size.whole n j r.0 r.1 n (get_or v.slots k []) in_slot r.2 b c w e)

  -- ---- one more segment

  -- the number after the top's, whose segment is blank
  abbrev pub next : ℕ
  next = suc (top_number v)

  next_is : next ≡ next_number l
  next_is = held_top N B s v h

  pub next_free : get_or l (suc (top_number v) % N) blank ≡ blank
  next_free = ap (λ (y : ℕ). get_or l (y % N) blank) next_is ∙ (unfold next_index in next_blank N l h.ring)

  -- the segments with that one in use
  abbrev pub taken : ℕ → List Slot → List Segment
  taken st ks = set (segments_of N B s) (suc (top_number v) % N) (in_use (next_version v) st (suc (top_number v)) ks)

  taken_is : (st : ℕ) (ks : List Slot) → taken st ks ≡ set l (next_index N l) (in_use (next_version v) st (next_number l) ks)
  unfolding next_index
  taken_is st ks = ap (λ (y : ℕ). set l (y % N) (in_use (next_version v) st y ks)) next_is

  new_second : version_number (next_version v) ≡ 2
  unfolding next_version new_version version_number
  new_second = refl

  module _ (carries : Carries v) (below : suc (top_number v) < number_limit N) where
    seconds : all (λ x. of_version 2 x) l ≡ true
    unfolding view view_of
    seconds = all_seconds N l h.ring (ap (λ (y : View). is_former y.version) h.view ∙ carries.second)

    pub open_held : length v.slots < N - 1 → Held N B (run B (open_next N B v).steps s) (open_next N B v).result
    unfolding open_next next_version view
    open_held few =
        let ver = next_version v in
        let e : segments_of N B (run B (open_segment N B ver next) s) ≡ set l (next_index N l) (in_use ver opened (next_number l) (replicate B empty)) =
        open_effect N B size.two size.most size.most_b s size.whole next below (tally_of v.version) carries.fits next_free ∙ taken_is opened (replicate B empty) in record {
          size = run_size N B (open_segment N B ver next) s ∙ h.size;
          ring = rw e (taken_ring N l h.ring ver opened (replicate B empty) seconds new_second (omega (arith, held_count N B s v h)) refl);
          view = rw e (taken_view N l h.ring ver opened (replicate B empty) ∙ ap (λ (y : View). record { first = y.first; slots = y.slots ++ (replicate B empty ∷ []); version = ver }) h.view);
        }

    -- ---- a compaction

    module _ (full : length v.slots ≡ N - 1) (es : List Entry) (valid : Valids es) (fit : length es ≤ B) where
      -- the old segment's number
      abbrev o : ℕ
      o = v.first

      pub ring_closed : v.first + N ≡ suc (suc (top_number v))
      unfolding top_number
      ring_closed = omega (arith, full, size.two)

      pub old_after : v.first % N ≡ (suc (top_number v) % N + 1) % N
      old_after = sym (old_index_lem N o next (sym ring_closed))

      pub old_apart : v.first % N ≢ suc (top_number v) % N
      old_apart e = let q : o ≡ next = mod_inj N o next (omega (arith, ring_closed, size.two)) (omega (arith, ring_closed)) e in omega (arith, ring_closed, size.two)

      abbrev pub owing : List Segment
      owing = taken erase_pending (copied B es)

      -- up to and with the owing mark
      pub copied_segments : segments_of N B (run B (copy_out N B (next_version v) v.first (suc (top_number v)) es) s) ≡ owing
      unfolding next_version
      copied_segments = copy_out_effect N B size.two size.most size.most_b s size.whole (tally_of v.version) o next carries.fits below old_after es valid fit next_free

      abbrev pub moved : List Segment
      moved = set (taken compacted (copied B es)) (v.first % N) blank

      abbrev whole : List Step
      whole = compact N B (next_version v) v.first (suc (top_number v)) es

      pub compact_segments : segments_of N B (run B (compact N B (next_version v) v.first (suc (top_number v)) es) s) ≡ moved
      unfolding compact run
      compact_segments =
          let ver = next_version v in
          let copied_to = run B (copy_out N B ver o next es) s in
          let erased_old = step B (erase (o % N)) copied_to in
          let j = o % N in
          let i = next % N in
          let p : 0 < N = omega (arith, size.two) in
          let whole_copied : length copied_to ≡ image_length N B = run_length B (copy_out N B ver o next es) s ∙ size.whole in
          let erased_segments : segments_of N B erased_old ≡ set owing j blank =
          erase_effect N B size.two copied_to whole_copied j (mod-lt o p) ∙ ap (λ (x : List Segment). set x j blank) copied_segments in
          let there : get_or (segments_of N B erased_old) i blank ≡ in_use ver erase_pending next (copied B es) =
          ap (λ (x : List Segment). get_or x i blank) erased_segments
          ∙ (get_or-set_other owing j i blank blank (λ e. old_apart (sym e)) ∙ get_or-set_same l i (in_use ver erase_pending next (copied B es)) blank (index_inside N l h.ring next)) in
          ap (λ y. segments_of N B y) (run_append B (copy_out N B ver o next es) (erase j ∷ settle N B next) s)
          ∙ (settle_effect N B size.two size.most size.most_b erased_old (step_length B (erase j) copied_to ∙ whole_copied) next below ver (copied B es) there
          ∙ (ap (λ (x : List Segment). set x i (in_use ver compacted next (copied B es))) erased_segments
          ∙ (set_comm owing j i blank (in_use ver compacted next (copied B es)) old_apart
          ∙ ap (λ (x : List Segment). set x j blank) (set-set l i (in_use ver erase_pending next (copied B es)) (in_use ver compacted next (copied B es))))))

      pub compact_held : Held N B (run B (compact N B (next_version v) v.first (suc (top_number v)) es) s) (record { first = suc v.first; slots = drop 1 v.slots ++ (copied B es ∷ []); version = next_version v })
      unfolding view
      compact_held =
          let ver = next_version v in
          let e : segments_of N B (run B whole s) ≡ set (set l (next_index N l) (in_use ver compacted (next_number l) (copied B es))) (first_number l % N) blank =
          compact_segments ∙ ap₂ (λ (x : List Segment) (y : ℕ). set x (y % N) blank) (taken_is compacted (copied B es)) (held_first N B s v h) in
          let used : used_count l ≡ N - 1 = sym (held_count N B s v h) ∙ full in record {
            size = run_size N B whole s ∙ h.size;
            ring = rw e (moved_ring N l h.ring ver compacted (copied B es) used seconds new_second refl);
            view = rw e (moved_view N l h.ring ver compacted (copied B es) used ∙ ap (λ (y : View). record { first = suc y.first; slots = drop 1 y.slots ++ (copied B es ∷ []); version = ver }) h.view);
          }
