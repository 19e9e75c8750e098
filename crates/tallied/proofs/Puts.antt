-- A put, finished or cut: the tally is carried on, and each erase begun is of the index of a new number.
use Prim.Native.Nat.{ℕ, suc, ◌+◌, ◌-◌, ◌/◌, ◌%◌, ◌≤◌, ◌<◌}
use Rattle.std.specs.Prelude.{◌≡◌, ◌⊎◌, Bool, true, false, ◌||◌, length, get_or, leb, eqb}
use Rattle.std.proofs.Math.Path.{refl, ap}
use Rattle.std.proofs.Common.{sym, ◌∙◌, true≢false, arith}
use Rattle.std.proofs.Math.Logic.{inl, inr, ⊎_elim}
use mathlib.Core.List.{List, [], ◌∷◌, ◌++◌}
use Rattle.model.specs.Lists.{all, count}
use Rattle.model.specs.Chip.{Image, Bytes, Step, erase, erased, right_size, step, run, number_limit, erase_limit}
use Rattle.model.specs.Header.{new_version, is_former, bit_values, cleared_in, cleared_bits, tally_of, no_bit_left}
use Rattle.model.specs.Slot.{Entry}
use Rattle.model.specs.State.{segments_of, next_number, top_version, View, view_of, view, entries, clean, state}
use Rattle.model.specs.Steps.{top_number, has_room, copy_out, compact, settle, next_version, open_next, compact_oldest, room_for, write_at_top, mark_old, new_numbers, is_worn}
use Rattle.model.specs.Answers.{put, work_of}
use Rattle.model.specs.Sequences.{erases_in}
use Rattle.model.specs.Begun.{marks_in, CutBegun}
use Rattle.model.proofs.Laws.Chip.{run_size}
use Rattle.model.proofs.Laws.Begun.{begun_cut, begun_append, begun_none, whole_begun}
use Rattle.bridge.specs.Predicted.{after_put, CleanView, Carries}
use Rattle.bridge.specs.Views.Shape.{opened_top}
use Rattle.bridge.specs.Accepted.{put_passed, accepted}
use Rattle.bridge.specs.Held.{Held, held_top, held_of_clean, clean_view}
use Rattle.bridge.specs.Done.{next_free, open_held}
use Rattle.bridge.specs.Requests.{put_valid, room_carries, roomed_below, roomed_held, roomed_clean, roomed_gap, after_clean, put_steps_lem}
use Rattle.crash.specs.Sound.{Accepted}
use Rattle.crash.specs.Tops.{SameTop, same_segments, same_image, same_torn}
use Rattle.crash.proofs.OwingCuts.{rest_top}
use Rattle.crash.proofs.RoomOwing.{Full}
use Rattle.crash.proofs.RoomCuts.{open_left, copy_out_left, owed, rest_after, rest_last}
use Rattle.crash.proofs.RoomSteps.{RoomLaws, making_room}
use Rattle.crash.proofs.WriteTop.{put_into_top}
use Rattle.wear.specs.Erases.{open_none, copied_none, settle_none, written_none}
use Rattle.tallied.proofs.Counts.{turns_to, turns_more, turns_one, Advances, advances_same, advances_trans}

-- a new header carries the tally on
pub carried : (v : View) → tally_of (next_version v) ≡ tally_of v.version
unfolding next_version new_version tally_of cleared_bits cleared_in bit_values count erased
carried v = omega arith

module _ (N B : ℕ) (s : Image) (v : View) (h : Held N B s v) where
  new_second : is_former (next_version v) ≡ false
  unfolding next_version new_version is_former
  new_second = refl

  held_version : top_version N (segments_of N B s) ≡ v.version
  unfolding view view_of
  held_version = ap (λ (y : View). y.version) h.view

  -- one number more, with this version, and these erases
  one_number : (u : Image) (es : List ℕ) → no_bit_left v.version ≡ false → next_number (segments_of N B u) ≡ suc (suc (top_number v)) → top_version N (segments_of N B u) ≡ next_version v
      → ((i : ℕ) → count (λ x. eqb i x) es + turns_to N i (suc (top_number v)) ≤ turns_to N i (suc (suc (top_number v)))) → Advances N B s u es
  one_number u es left next version erases = record {
    tally = ap tally_of version ∙ (carried v ∙ ap tally_of (sym held_version));
    used = λ q. absurd (true≢false (sym q ∙ (ap no_bit_left held_version ∙ left)));
    second = λ q. ap is_former version ∙ new_second;
    erases = λ i. rw (← (held_top N B s v h), next) (erases i);
  }

  none_more : (u : Image) → no_bit_left v.version ≡ false → next_number (segments_of N B u) ≡ suc (suc (top_number v)) → top_version N (segments_of N B u) ≡ next_version v → Advances N B s u []
  unfolding count
  none_more u left next version = one_number u [] left next version (λ i. omega (arith, turns_more N i (suc (top_number v))))

  -- ---- an opening

  open_advances : CleanView N B v → Carries v → no_bit_left v.version ≡ false → length v.slots < N - 1 → suc (top_number v) < number_limit N → (u : Image) (es : List ℕ) (f : ℕ)
      → CutBegun B (open_next N B v).steps s u es f → Advances N B s u es
  unfolding open_next
  open_advances c carries left few below u es f k =
      let none : es ≡ [] = begun_none B (open_next N B v).steps s u es f (open_none N B (next_version v) (suc (top_number v))) k in
      let w = run B (open_next N B v).steps s in
      let o = open_held N B s v h carries below few in
      ⊎_elim
      (λ t. advances_same N B s u es none (same_torn N B s u (suc (top_number v) % N) (next_free N B s v h) t.0 t.1))
      (λ e. let same = same_segments N B w u e in
      rw none (none_more u left (same.next ∙ (sym (held_top N B w (open_next N B v).result o) ∙ ap suc (opened_top N B v c.some))) (same.version ∙ opened_version w o)))
      (open_left N B s v h carries below u (begun_cut B (open_next N B v).steps s u es f k))
    where
      opened_version : (w : Image) → Held N B w (open_next N B v).result → top_version N (segments_of N B w) ≡ next_version v
      opened_version w o = unfold view view_of open_next in (ap (λ (y : View). y.version) o.view)

-- ---- a compaction

module _ (N B : ℕ) (s : Image) (v : View) (f : Full N B s v) (left : no_bit_left v.version ≡ false) where
  abbrev n : ℕ
  n = suc (top_number v)

  abbrev es : List Entry
  es = entries (get_or v.slots 0 [])

  abbrev copying : List Step
  copying = copy_out N B (next_version v) v.first n es

  abbrev t : Image
  t = run B copying s

  owing_next : next_number (segments_of N B t) ≡ suc n
  owing_next = (owed N B s v f).next ∙ omega (arith, rest_last N B s v f)

  -- the old segment's index is that of the number after the target's
  old_index_lem : v.first % N ≡ suc n % N
  old_index_lem = sym (rest_after N B s v f) ∙ ap (λ (y : ℕ). y % N) (omega (arith, rest_last N B s v f))

  abbrev rest : List Step
  rest = erase (v.first % N) ∷ settle N B n

  -- after the owing mark the top stays, and the old segment is erased if anything is
  rest_begun : (w : Image) (cs : List ℕ) (m : ℕ) → CutBegun B (erase (v.first % N) ∷ settle N B (suc (top_number v))) t w cs m → (cs ≡ []) ⊎ (cs ≡ suc n % N ∷ [])
  unfolding erases_in
  rest_begun w cs m (inl c) = inl c.1
  rest_begun w cs m (inr (inl c)) = inr (c.1 ∙ ap (λ (y : ℕ). y ∷ []) old_index_lem)
  rest_begun w cs m (inr (inr (r, more, e, g, c))) =
      let none : r ≡ [] = begun_none B (settle N B n) (step B (erase (v.first % N)) t) w r more (settle_none N B n) c in
      inr (e ∙ (ap (λ (y : List ℕ). v.first % N ∷ y) none ∙ ap (λ (y : ℕ). y ∷ []) old_index_lem))

  owing_top : (w : Image) (cs : List ℕ) (m : ℕ) → CutBegun B (erase (v.first % N) ∷ settle N B (suc (top_number v))) t w cs m → SameTop N B t w
  owing_top w cs m c =
      let o = owed N B s v f in
      rest_top N B t (run_size N B copying s ∙ f.held.size) o.pending o.shows.0 w (rw (o.next, rest_after N B s v f, rest_last N B s v f) (begun_cut B (erase (v.first % N) ∷ settle N B n) t w cs m c))

  -- up to the mark nothing is erased
  before_mark : (w : Image) (bs : List ℕ) (m : ℕ) → CutBegun B copying s w bs m → Advances N B s w bs
  before_mark w bs m d =
      let none : bs ≡ [] = begun_none B copying s w bs m (copied_none N B (next_version v) v.first n es) d in
      ⊎_elim
      (λ x. advances_same N B s w bs none (same_torn N B s w (n % N) (next_free N B s v f.held) x.0 x.1))
      (λ x. let same = same_segments N B t w x.1 in rw none (none_more N B s v f.held w left (same.next ∙ owing_next) (same.version ∙ (owed N B s v f).version)))
      (copy_out_left N B s v f w (begun_cut B copying s w bs m d))

  after_mark : (w : Image) (bs cs : List ℕ) (m : ℕ) → bs ≡ erases_in copying ++ cs → CutBegun B (erase (v.first % N) ∷ settle N B (suc (top_number v))) t w cs m → Advances N B s w bs
  unfolding count
  after_mark w bs cs m e d =
      let same = owing_top w cs m d in
      let here : bs ≡ cs = e ∙ ap (λ (y : List ℕ). y ++ cs) (copied_none N B (next_version v) v.first n es) in
      one_number N B s v f.held w bs left (same.next ∙ owing_next) (same.version ∙ (owed N B s v f).version)
      (λ i. ⊎_elim (λ q. let a : bs ≡ [] = here ∙ q in rw a (omega (arith, turns_more N i n))) (λ q. let a : bs ≡ suc n % N ∷ [] = here ∙ q in rw a (turns_one N i n)) (rest_begun w cs m d))

  pub compact_advances : (u : Image) (ds : List ℕ) (m : ℕ) → CutBegun B (compact_oldest N B v).steps s u ds m → Advances N B s u ds
  unfolding compact_oldest compact
  compact_advances u ds m k = ⊎_elim (λ d. before_mark u ds m d) (λ d. after_mark u ds d.0 d.1 d.2 d.4) (begun_append B copying (erase (v.first % N) ∷ settle N B n) s u ds m k)

-- ---- room

-- a new header has every bit left
fresh_bits : (v : View) → no_bit_left (next_version v) ≡ false
unfolding next_version new_version no_bit_left all erased
fresh_bits v = refl

-- where a new header is needed, the top has a bit left
abbrev Advancing : ℕ → ℕ → Image → View → Image → List ℕ → ℕ → Type 0
Advancing N B s v u es f = (has_room v ≡ false → no_bit_left v.version ≡ false) → Advances N B s u es

room_advances : (N B : ℕ) → RoomLaws N B (Advancing N B)
room_advances N B = record {
  nothing = λ s v h c u e left. advances_same N B s u [] refl (same_image N B s u e);
  opened = λ s v h c carries full few below u es f d left. open_advances N B s v h c carries (left full) few below u es f d;
  compacted = λ s v f u es m d left. compact_advances N B s v f (left f.no_room) u es m d;
  behind = λ s v f u es m a left.
      let xs = (compact_oldest N B v).steps in
      advances_trans N B s (run B xs s) u (erases_in xs) es (erases_in xs ++ es) refl (compact_advances N B s v f (left f.no_room) (run B xs s) (erases_in xs) (marks_in B xs) (whole_begun B xs s))
      (a (λ q. (unfold compact_oldest in fresh_bits v)));
}

-- ---- the request

-- a chip that is not worn has a bit left where a new header is needed
fresh_left : (N : ℕ) (v : View) → is_worn N v ≡ false → has_room v ≡ false → no_bit_left v.version ≡ false
unfolding is_worn
fresh_left N v w e = go (no_bit_left v.version) (rw e at w)
  where
    go : (t : Bool) → (t || leb erase_limit ((top_number v + new_numbers N v) / N + tally_of v.version)) ≡ false → t ≡ false
    go true p = p
    go false p = refl

pub put_advances : (N B : ℕ) (s : Image) (z : right_size N B s ≡ true) (c : state N B s ≡ clean) (b : ℕ) (d : List ℕ) (bs : Bytes s) (bd : Bytes d) → Accepted N B s (put b d)
    → (u : Image) (ds : List ℕ) (f : ℕ) → CutBegun B (work_of N B s (put b d)).steps s u ds f → Advances N B s u ds
unfolding after_put
put_advances N B s z c b d bs bd e u ds f k =
    let v = view N B s in
    let h = held_of_clean N B s z c in
    let r = (room_for N B v).result in
    let xs = (room_for N B v).steps in
    let last = write_at_top N B b d r ++ mark_old N B b r in
    let passed = put_passed N B s b d (accepted N B s (put b d) e).1 in
    let left = fresh_left N v passed.fresh in
    let room = making_room N B (Advancing N B) (room_advances N B) s v h bs (clean_view N B s z c) (room_carries N B s z c b d bs bd e) (roomed_below N B s z c b d bs bd e) in
    ⊎_elim (λ q. room u ds f q left)
    (λ q. advances_trans N B s (run B xs s) u (erases_in xs) q.0 ds q.2 (room (run B xs s) (erases_in xs) (marks_in B xs) (whole_begun B xs s) left)
    (advances_same N B (run B xs s) u q.0 (begun_none B last (run B xs s) u q.0 q.1 (written_none N B b d r) q.4)
    (put_into_top N B (run B xs s) r (roomed_held N B s z c b d bs bd e) (roomed_clean N B s z c b d bs bd e) (roomed_gap N B s z c b d bs bd e) b d (put_valid N B s z c b d bs bd e)
    (after_clean N B s z c b d bs bd e) u (begun_cut B last (run B xs s) u q.0 q.1 q.4))))
    (begun_append B xs last s u ds f (rw (put_steps_lem N B s z c b d bs bd e) at k))
