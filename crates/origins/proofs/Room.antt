-- Room made for a put, whole or cut: a segment opened or copied to has only live and empty slots, and the one that it replaces is left aside.
use Prim.Native.Nat.{ℕ, zero, suc, ◌-◌, ◌%◌, ◌<◌}
use Rattle.std.specs.Prelude.{◌≡◌, true, false, get_or, replicate}
use Rattle.std.proofs.Common.{sym, ◌∙◌, subst, inl}
use Rattle.std.proofs.Math.Path.{ap}
use Rattle.std.proofs.Math.Logic.{⊎_elim}
use mathlib.Core.List.{List, [], ◌∷◌, ◌++◌, map}
use Rattle.std.proofs.Math.ListN.{length, set}
use Rattle.model.specs.Chip.{Image, Bytes, Step, erase, right_size, run, number_limit, Cut}
use Rattle.model.specs.Header.{opened, erase_pending, Version, new_version, tally_of}
use Rattle.model.specs.Slot.{Slot, empty, Entry, holding}
use Rattle.model.specs.State.{Segment, blank, in_use, is_owing, segment_of, segments_of, slots_in, top_index, next_index, next_blanked, View, entries, Place}
use Rattle.model.specs.Steps.{top_number, has_room, copied, copy_out, compact, settle, next_version, open_next, compact_oldest, room_for}
use Rattle.model.proofs.Laws.Chip.{SizeFacts, size_facts, run_size, cut_append, whole_cut}
use Rattle.model.proofs.Laws.Begun.{begun_cut, cut_begun}
use Rattle.model.proofs.Laws.Segments.{part_of, only_segments}
use Rattle.model.proofs.Laws.Effects.{open_effect}
use Rattle.bridge.specs.Predicted.{CleanView, Carries}
use Rattle.bridge.specs.Held.{Held}
use Rattle.bridge.specs.Done.{next_free, open_held, copied_segments}
use Rattle.crash.proofs.RecoverErase.{unused_segment}
use Rattle.crash.proofs.RoomOwing.{Full, old_valid, old_fits}
use Rattle.crash.proofs.RoomSteps
use Rattle.crash.proofs.RoomSteps.{RoomLaws}
use Rattle.crash.proofs.RoomCuts.{TornNext, open_left, copy_out_left, owed, rest_after, rest_last}
use Rattle.origins.specs.Law.{read_at, in_force}
use Rattle.origins.proofs.Readings.{Telling, not_telling, blank_reads, empty_plain, plain_reads}
use Rattle.origins.proofs.Fewer.{fewer_trans, fewer_set, ring_paid, ring_force, owing_force, NoNew, no_new_same, no_new_image, no_new_trans, no_new_replaced, no_new_unused}
use Rattle.origins.proofs.Torn.{owing_b}
use Rattle.origins.proofs.Owing.{ending}

-- ---- new segments

copied_plain : (es : List Entry) (n j : ℕ) → Telling (get_or (map holding es ++ replicate n empty) j empty) → ⊥
unfolding holding
copied_plain [] n j t = empty_plain n j t
copied_plain (e ∷ es) n zero t = t
copied_plain (e ∷ es) n (suc j) t = copied_plain es n j t

-- a segment in use with such slots reads no kind that tells
plain_segment : (k : Slot) → Telling k → (ver : Version) (st n : ℕ) (ks : List Slot) → ((j : ℕ) → Telling (get_or ks j empty) → ⊥) → (p : Place) → read_at (in_use ver st n ks) p ≡ k → ⊥
unfolding slots_in
plain_segment k told ver st n ks none p h = plain_reads (in_use ver st n ks) p none (subst Telling (sym h) told)

module _ (k : Slot) (told : Telling k) (N B : ℕ) (s : Image) (v : View) (h : Held N B s v) where
  abbrev l : List Segment
  l = segments_of N B s

  abbrev i : ℕ
  i = suc (top_number v) % N

  size : SizeFacts N B s
  size = size_facts N B s h.size

  paid : is_owing (get_or (segments_of N B s) (top_index N (segments_of N B s)) blank) ≡ false
  paid = ring_paid N l (top_index N l) h.ring

  -- the segment after the top touched, but not in use
  torn_next : (u : Image) → TornNext N B s v u → NoNew k N B s u
  torn_next u t = no_new_unused k told N B s u i (segment_of N B i (part_of N B i u)) (only_segments N B i s u t.0) (inl (next_free N B s v h)) (unused_segment N B i (part_of N B i u) t.1) paid

  -- ---- an opening

  pub opening : Carries v → length v.slots < N - 1 → suc (top_number v) < number_limit N → (u : Image) → Cut B (open_next N B v).steps s u → NoNew k N B s u
  unfolding open_next next_version
  opening carries few below u c =
      let w = run B (open_next N B v).steps s in
      let ver = new_version (tally_of v.version) in
      let n = suc (top_number v) in
      let y = in_use ver opened n (replicate B empty) in
      let e : segments_of N B w ≡ set l i y = open_effect N B size.two size.most size.most_b s size.whole n below (tally_of v.version) carries.fits (next_free N B s v h) in
      let force : in_force N (set l i y) ≡ set l i y = rw e at (ring_force N (segments_of N B w) (open_held N B s v h carries below few).ring) in
      ⊎_elim (λ t. torn_next u t)
      (λ q. no_new_trans k N B s w u (no_new_replaced k N B s w i y e paid force (λ p q. absurd (plain_segment k told ver opened n (replicate B empty) (λ j t. empty_plain B j t) p q))) (no_new_same k N B w u q))
      (open_left N B s v h carries below u c)

-- ---- a compaction

module _ (k : Slot) (told : Telling k) (N B : ℕ) (s : Image) (v : View) (f : Full N B s v) where
  abbrev n : ℕ
  n = suc (top_number v)

  abbrev es : List Entry
  es = entries (get_or v.slots 0 [])

  abbrev copying : List Step
  copying = copy_out N B (next_version v) v.first n es

  abbrev t : Image
  t = run B copying s

  zt : right_size N B t ≡ true
  zt = run_size N B copying s ∙ f.held.size

  -- with the owing mark the old segment is left aside, and the new one has only live and empty slots
  marked : NoNew k N B s t
  unfolding next_blanked copied
  marked =
      let l = segments_of N B s in
      let i = n % N in
      let ks = copied B es in
      let y = in_use (next_version v) erase_pending n ks in
      let m = set l i y in
      let e : segments_of N B t ≡ m = copied_segments N B s v f.held f.carries f.below f.all es (old_valid N B s v f) (old_fits N B s v f) in
      let force : in_force N (segments_of N B t) ≡ set m (next_index N m) blank =
      owing_force N (segments_of N B t) (owing_b N B t zt (owed N B s v f).pending) ∙ ap (λ (x : List Segment). set x (next_index N x) blank) e in
      rw (ring_force N l f.held.ring, force)
      (fewer_trans k l m (set m (next_index N m) blank)
      (fewer_set k l i y (λ p q. absurd (plain_segment k told (next_version v) erase_pending n ks (λ j x. copied_plain es (B - length es) j x) p q)))
      (fewer_set k m (next_index N m) blank (λ p q. absurd (not_telling empty k told (λ x. x) (sym (blank_reads p) ∙ q)))))

  pub compacting : (u : Image) → Cut B (compact_oldest N B v).steps s u → NoNew k N B s u
  unfolding compact_oldest compact
  compacting u c = ⊎_elim
      (λ d. ⊎_elim (λ x. torn_next k told N B s v f.held u x) (λ x. no_new_trans k N B s t u marked (no_new_same k N B t u x.1)) (copy_out_left N B s v f u d))
      (λ d. let o = owed N B s v f in no_new_trans k N B s t u marked (ending k N B t zt o.pending o.shows.0 u (rw (o.next, rest_after N B s v f, rest_last N B s v f) d)))
      (cut_append B copying (erase (v.first % N) ∷ settle N B n) s u c)

-- ---- until there is room

module _ (k : Slot) (told : Telling k) (N B : ℕ) where
  room_none : RoomLaws N B (λ s v u es f. NoNew k N B s u)
  room_none = record {
    nothing = λ s v h c u e. no_new_image k N B s u e;
    opened = λ s v h c carries full few below u es f d. opening k told N B s v h carries few below u (begun_cut B (open_next N B v).steps s u es f d);
    compacted = λ s v f u es m d. compacting k told N B s v f u (begun_cut B (compact_oldest N B v).steps s u es m d);
    behind = λ s v f u es m r. let xs = (compact_oldest N B v).steps in no_new_trans k N B s (run B xs s) u (compacting k told N B s v f (run B xs s) (whole_cut B xs s)) r;
  }

  pub making_room : (s : Image) (v : View) → Held N B s v → Bytes s → CleanView N B v → (has_room v ≡ false → Carries v) → top_number (room_for N B v).result < number_limit N
      → (u : Image) → Cut B (room_for N B v).steps s u → NoNew k N B s u
  making_room s v h y c carries below u d = let (es, f, x) = cut_begun B (room_for N B v).steps s u d in
      RoomSteps.making_room N B (λ s v u es f. NoNew k N B s u) room_none s v h y c carries below u es f x
