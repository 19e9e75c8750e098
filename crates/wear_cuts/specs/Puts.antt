-- A put, finished or cut: each compaction that reaches the owing mark is one number and one erase, begun or still due; and at most one slot becomes dead that no compaction takes away.
use Rattle.std.specs.Prelude.{ℕ, suc, ◌+◌, ◌-◌, ◌%◌, ◌≤◌, ◌<◌, ◌≡◌, ◌⊎◌, Bool, cond, get_or}
use Rattle.std.proofs.Math.Path.{refl, ap}
use Rattle.std.proofs.Common.{◌∙◌, arith}
use Rattle.std.proofs.Math.Logic.{inl, inr, ⊎_elim}
use Rattle.std.proofs.Math.Bool.{true, false}
use mathlib.Core.List.{List, [], ◌∷◌, ◌++◌}
use Rattle.std.proofs.Math.ListN.{length}
use Rattle.model.specs.Lists.{count}
use Rattle.model.specs.Chip.{Image, Bytes, Step, erase, right_size, step, run, number_limit}
use Rattle.model.specs.Slot.{Entry, empty, dead, cut, is_dead}
use Rattle.model.specs.State.{segments_of, next_number, View, view_of, view, entries, entries_in, holds, place_of, clean, state}
use Rattle.model.specs.Steps.{top_row, top_number, has_room, first_empty, copy_out, compact, settle, next_version, open_next, compact_oldest, room_for, mark_place, write_at_top, mark_old, delete_steps}
use Rattle.model.specs.Answers.{put, delete, steps_for, work_of}
use Rattle.model.specs.Histories.{shown}
use Rattle.model.specs.Sequences.{erases_in}
use Rattle.model.specs.Begun.{is_mark, marks_in, CutBegun}
use Rattle.model.specs.Laws.Lists.{one}
use Rattle.model.proofs.Laws.Chip.{run_size, cut_size}
use Rattle.model.proofs.Laws.Counted.{SameRows}
use Rattle.model.proofs.Laws.Begun.{begun_cut, Behind, begun_append, begun_none, begun_unmarked, whole_begun, marks_append}
use Rattle.model.proofs.Laws.SlotPage.{Valid}
use Rattle.model.proofs.Laws.Marks.{open_unmarked, settle_unmarked, dead_unmarked, write_unmarked, copy_out_one}
use Rattle.bridge.specs.Predicted.{slot_changed, marked, put_into, after_put, after_delete, CleanView, Carries}
use Rattle.bridge.specs.Views.Places.{fill_changed, TopGap, in_view}
use Rattle.bridge.specs.Views.Room.{tidied, opened_clean}
use Rattle.bridge.specs.Accepted.{accepted, delete_passed}
use Rattle.bridge.specs.Held.{Held, held_of_clean, clean_view, clean_of_held}
use Rattle.bridge.specs.Done.{open_held}
use Rattle.bridge.specs.Requests.{one_compaction, delete_done, put_valid, room_carries, roomed_below, roomed_held, roomed_clean, roomed_gap, roomed_size, after_clean, put_steps_lem}
use Rattle.crash.specs.Sound.{Accepted}
use Rattle.crash.proofs.States.{recovered_view, SoundWith, rows_table, kept_with, clean_with}
use Rattle.crash.proofs.RecoverMarks.{slot_inside, live_place, live_marks}
use Rattle.crash.proofs.Delete.{delete_whole}
use Rattle.crash.proofs.RoomTorn.{held_shows, next_torn}
use Rattle.crash.proofs.OwingCuts.{rest_cut}
use Rattle.crash.proofs.RoomOwing.{Full, old_valid, old_fits, Owing}
use Rattle.crash.proofs.RoomCuts.{open_left, copy_out_marked, owes, owed, rest_after, rest_last}
use Rattle.crash.proofs.RoomSteps.{RoomLaws, making_room}
use Rattle.crash.proofs.WriteTop.{cut_view, put_into_left}
use Rattle.wear.specs.Erases.{erases_at, open_none, copied_none, settle_none, mark_none, written_none}
use Rattle.wear.specs.Room.{paid_open, PaidView, ready_after}
use Rattle.wear.proofs.Requests.{paid_changed, paid_marked, put_first, put_paid}
use Rattle.wear_cuts.specs.Passes.{erases_if, due, due_clean, turned_one, paid_more, Passes, passes_views, passes_same, passes_trans}
use Rattle.wear_cuts.specs.Recovers.{due_b}

module _ (N B : ℕ) (s : Image) (v : View) (h : Held N B s v) (c : CleanView N B v) where
  pub held_rows : SameRows (recovered_view N B s) v
  held_rows = (held_shows N B s v s h c refl).1

  pub held_shown : shown N B s ≡ entries_in v
  held_shown = rows_table N B s v held_rows

  none_due : due N B s ≡ []
  none_due = due_clean N B s (clean_of_held N B s v h c)

  -- no mark and no erase: the smallest number stays
  pub still_passes : (k : ℕ) (u : Image) (es : List ℕ) (f : ℕ) (w : View) → es ≡ [] → f ≡ 0 → SameRows (recovered_view N B u) w → w.first ≡ v.first
      → ((L R : ℕ) → length (entries_in v) ≤ L → PaidView N B L R v → PaidView N B L (R + k) w) → Passes N B k 0 s u es f
  unfolding count
  still_passes k u es f w e g r q paid = rw (e, g) (passes_views N B k 0 s u [] 0 v w held_rows r (omega (arith, q)) (omega arith)
      (λ i. rw q (omega arith)) (λ i. rw (q, none_due) (omega arith)) paid)

  kept_passes : (u : Image) (es : List ℕ) (f : ℕ) → es ≡ [] → f ≡ 0 → SoundWith N B u v → Passes N B 0 0 s u es f
  kept_passes u es f e g r = still_passes 0 u es f v e g r.1 refl (λ L R l p. paid_more N B L R (R + 0) v (omega arith) p)

  -- ---- an opening

  open_passes : Carries v → has_room v ≡ false → length v.slots < N - 1 → suc (top_number v) < number_limit N → (u : Image) (es : List ℕ) (f : ℕ) → CutBegun B (open_next N B v).steps s u es f
      → Passes N B 0 0 s u es f
  unfolding open_next
  open_passes carries full few below u es f k =
      let xs = (open_next N B v).steps in
      let w = (open_next N B v).result in
      let none = begun_none B xs s u es f (open_none N B (next_version v) (suc (top_number v))) k in
      let unmarked = begun_unmarked B xs s u es f (open_unmarked N B (next_version v) (suc (top_number v))) k in
      let cut = begun_cut B xs s u es f k in
      ⊎_elim
      (λ t. kept_passes u es f none unmarked (next_torn N B s v h c u (cut_size N B xs s u cut ∙ h.size) t.0 t.1))
      (λ e. still_passes 0 u es f w none unmarked (held_shows N B (run B xs s) w u (open_held N B s v h carries below few) (opened_clean c full few) e).1 refl
      (λ L R l p. paid_more N B L R (R + 0) w (omega arith) (paid_open (N - 1) B L R v.first v.slots p)))
      (open_left N B s v h carries below u cut)

-- ---- a compaction

module _ (N B : ℕ) (s : Image) (v : View) (f : Full N B s v) where
  abbrev n : ℕ
  n = suc (top_number v)

  abbrev o : ℕ
  o = v.first

  abbrev es : List Entry
  es = entries (get_or v.slots 0 [])

  abbrev copying : List Step
  copying = copy_out N B (next_version v) v.first (suc (top_number v)) (entries (get_or v.slots 0 []))

  abbrev rest : List Step
  rest = erase (v.first % N) ∷ settle N B (suc (top_number v))

  abbrev t : Image
  t = run B copying s

  abbrev w : View
  w = (compact_oldest N B v).result

  -- where the mark is set and the erase not begun, it is due
  owing_due : (u : Image) → right_size N B u ≡ true → Owing N B s v f u → due N B u ≡ v.first % N ∷ []
  owing_due u z p =
      let next : next_number (segments_of N B u) % N ≡ o % N = ap (λ (y : ℕ). y % N) p.next ∙ rest_after N B s v f in
      due_b N B u z p.pending (rw next (rw p.old)) ∙ ap {B = List ℕ} (λ (y : ℕ). y ∷ []) next

  -- one number more, and its erase begun or due
  moved_passes : (u : Image) (ds : List ℕ) → SoundWith N B u (compact_oldest N B v).result → ((ds ≡ []) × (due N B u ≡ v.first % N ∷ [])) ⊎ (ds ≡ v.first % N ∷ []) → Passes N B 0 0 s u ds 1
  unfolding compact_oldest count
  moved_passes u ds r q =
      passes_views N B 0 0 s u ds 1 v w (held_rows N B s v f.held f.clean) r.1 (omega arith) (few q) (λ i. each i q) (λ i. owed i q)
      (λ L R l p. paid_more N B L R (R + 0) w (omega arith) (ready_after N B L R v f.no_room (record { clean = f.clean; all = f.all; few = l; paid = p })).paid)
    where
      few : ((ds ≡ []) × (due N B u ≡ v.first % N ∷ [])) ⊎ (ds ≡ v.first % N ∷ []) → length ds ≤ 1 + 0
      few (inl a) = rw a.0 (omega arith)
      few (inr a) = rw a (omega arith)

      each : (i : ℕ) → ((ds ≡ []) × (due N B u ≡ v.first % N ∷ [])) ⊎ (ds ≡ v.first % N ∷ []) → erases_if i ds + erases_at N v.first i ≤ erases_at N (suc v.first) i + 0
      each i (inl a) = rw a.0 (unfold count in omega (arith, turned_one N v.first i))
      each i (inr a) = rw a (omega (arith, turned_one N v.first i))

      owed : (i : ℕ) → ((ds ≡ []) × (due N B u ≡ v.first % N ∷ [])) ⊎ (ds ≡ v.first % N ∷ [])
          → erases_at N (suc v.first) i + erases_if i (due N B s) ≤ erases_at N v.first i + erases_if i ds + erases_if i (due N B u)
      owed i (inl a) = rw (a.0, a.1, none_due N B s v f.held f.clean) (unfold count in omega (arith, turned_one N v.first i))
      owed i (inr a) = rw (a, none_due N B s v f.held f.clean) (unfold count in omega (arith, turned_one N v.first i))

  -- up to the mark nothing is erased
  before_mark : (u : Image) (ds : List ℕ) (m : ℕ) → CutBegun B copying s u ds m → Passes N B 0 0 s u ds m
  before_mark u ds m d =
      let z = cut_size N B copying s u (begun_cut B copying s u ds m d) ∙ f.held.size in
      let none = begun_none B copying s u ds m (copied_none N B (next_version v) o n es) d in
      ⊎_elim
      (λ a. kept_passes N B s v f.held f.clean u ds m none a.0 (next_torn N B s v f.held f.clean u z a.1.0 a.1.1))
      (λ a. let p = owes N B s v f u z a.1 a.2 in rw a.0 (moved_passes u ds p.shows (inl (none, owing_due u z p))))
      (copy_out_marked N B s v f u ds m d)

  -- after it the old segment is erased if anything is
  rest_begun : (u : Image) (cs : List ℕ) (k : ℕ) → CutBegun B (erase (v.first % N) ∷ settle N B (suc (top_number v))) t u cs k → due N B t ≡ v.first % N ∷ []
      → ((cs ≡ []) × (due N B u ≡ v.first % N ∷ [])) ⊎ (cs ≡ v.first % N ∷ [])
  unfolding erases_in
  rest_begun u cs k (inl q) a = inl (q.1, ap (λ y. due N B y) q.0 ∙ a)
  rest_begun u cs k (inr (inl q)) a = inr q.1
  rest_begun u cs k (inr (inr (r, j, q, b, x))) a =
      let none : r ≡ [] = begun_none B (settle N B n) (step B (erase (v.first % N)) t) u r j (settle_none N B n) x in inr (q ∙ ap (λ (y : List ℕ). v.first % N ∷ y) none)

  after_mark : (u : Image) (ds : List ℕ) (m : ℕ) → Behind B copying rest s u ds m → Passes N B 0 0 s u ds m
  unfolding marks_in is_mark count
  after_mark u ds m (cs, k, e, g, d) =
      let p = owed N B s v f in
      let z = run_size N B copying s ∙ f.held.size in
      let here : ds ≡ cs = e ∙ ap (λ (y : List ℕ). y ++ cs) (copied_none N B (next_version v) o n es) in
      let unmarked : k ≡ 0 = begun_unmarked B rest t u cs k (settle_unmarked N B n) d in
      let marked : m ≡ 1 = omega (arith, g, unmarked, copy_out_one N B (next_version v) o n es (old_valid N B s v f) (old_fits N B s v f)) in
      let r = kept_with N B t u w p.shows (rest_cut N B t z p.pending p.shows.0 u (rw (p.next, rest_after N B s v f, rest_last N B s v f) (begun_cut B rest t u cs k d))) in
      rw (marked, here) (moved_passes u cs r (rest_begun u cs k d (owing_due t z p)))

  pub compact_passes : (u : Image) (ds : List ℕ) (m : ℕ) → CutBegun B (compact_oldest N B v).steps s u ds m → Passes N B 0 0 s u ds m
  unfolding compact_oldest compact
  compact_passes u ds m k = ⊎_elim (λ d. before_mark u ds m d) (λ d. after_mark u ds m d) (begun_append B copying rest s u ds m k)

-- ---- room

room_passes : (N B : ℕ) → RoomLaws N B (λ s v u es f. Passes N B 0 0 s u es f)
room_passes N B = record {
  nothing = λ s v h c u e. passes_same N B 0 s u e;
  opened = λ s v h c carries full few below u es f d. open_passes N B s v h c carries full few below u es f d;
  compacted = λ s v f u es m d. compact_passes N B s v f u es m d;
  behind = λ s v f u es m p.
      let xs = (compact_oldest N B v).steps in
      let t = run B xs s in
      let a = tidied N B v f.clean f.no_room in
      let held = one_compaction N B s v f.held f.bytes f.clean f.all f.carries f.below in
      let less : length (shown N B t) ≤ length (shown N B s) = rw (held_shown N B t (compact_oldest N B v).result held a.clean, held_shown N B s v f.held f.clean) (omega (arith, a.size)) in
      passes_trans N B 0 0 s t u (erases_in xs) es (erases_in xs ++ es) (marks_in B xs) m (marks_in B xs + m) refl refl less (compact_passes N B s v f t (erases_in xs) (marks_in B xs) (whole_begun B xs s)) p;
}

-- ---- the slot written, and the old one marked

-- a stored block's slot is one of its segment's
pub place_inside : (N B : ℕ) (s : Image) → right_size N B s ≡ true → (b : ℕ) → holds b (entries_in (view N B s)) ≡ true → (place_of b (view N B s)).slot < B
unfolding view
place_inside N B s z b h =
    let p = place_of b (view_of N (segments_of N B s)) in slot_inside N B s z p.number p.slot dead (live_marks (live_place N (segments_of N B s) b h))

module _ (N B : ℕ) (s : Image) (v : View) (h : Held N B s v) (c : CleanView N B v) (gap : TopGap v) (b : ℕ) (d : List ℕ) (valid : Valid b d) (after : CleanView N B (put_into b d v)) where
  mark_unmarked : marks_in B (mark_old N B b v) ≡ 0
  unfolding mark_old marks_in count
  mark_unmarked = go (holds b (entries_in v)) refl
    where
      go : (t : Bool) → holds b (entries_in v) ≡ t → marks_in B (cond t (mark_place N B (place_of b v)) []) ≡ 0
      go true e = dead_unmarked N B (place_of b v) (rw h.view at (place_inside N B s h.size b (rw h.view e)))
      go false e = unfold marks_in count in refl

  written_unmarked : marks_in B (write_at_top N B b d v ++ mark_old N B b v) ≡ 0
  unfolding write_at_top
  written_unmarked =
      let j : first_empty (top_row v.slots) < B = rw gap.slot (in_view B v gap.gap empty gap.split c.rows).short in
      omega (arith, marks_append B (write_at_top N B b d v) (mark_old N B b v), mark_unmarked, write_unmarked N B (top_number v) (first_empty (top_row v.slots)) b d j valid.short)

  -- a cut slot is dead
  cut_paid : (L R : ℕ) → PaidView N B L R v → PaidView N B L (R + 1) (cut_view N B s v h c gap)
  unfolding is_dead one
  cut_paid L R p =
      let n = top_number v in
      let j = first_empty (top_row v.slots) in
      let same = fill_changed v gap.gap empty cut n j gap.split gap.number gap.slot in
      rw (ap (λ (y : View). y.slots) same) at (paid_changed N B (R + 1) n j cut v (omega arith) p)

  block_paid : (L R : ℕ) → PaidView N B L R v → PaidView N B L (R + 1) (put_into b d v)
  block_paid L R p = paid_more N B L (R + cond (holds b (entries_in v)) 1 0) (R + 1) (put_into b d v) (go (holds b (entries_in v))) (put_paid N B v b d p)
    where
      go : (t : Bool) → R + cond t 1 0 ≤ R + 1
      go true = omega arith
      go false = omega arith

  write_passes : (u : Image) (es : List ℕ) (f : ℕ) → CutBegun B (write_at_top N B b d v ++ mark_old N B b v) s u es f → Passes N B 1 0 s u es f
  write_passes u es f k =
      let xs = write_at_top N B b d v ++ mark_old N B b v in
      let none = begun_none B xs s u es f (written_none N B b d v) k in
      let unmarked = begun_unmarked B xs s u es f written_unmarked k in
      ⊎_elim
      (λ r. still_passes N B s v h c 1 u es f v none unmarked r.1 refl (λ L R l p. paid_more N B L R (R + 1) v (omega arith) p))
      (λ q. ⊎_elim
      (λ r. still_passes N B s v h c 1 u es f (cut_view N B s v h c gap) none unmarked r.1 refl (λ L R l p. cut_paid L R p))
      (λ r. still_passes N B s v h c 1 u es f (put_into b d v) none unmarked r.1 (put_first N B v b d) (λ L R l p. block_paid L R p))
      q)
      (put_into_left N B s v h c gap b d valid after u (begun_cut B xs s u es f k))

-- ---- the requests

pub put_passes : (N B : ℕ) (s : Image) (z : right_size N B s ≡ true) (c : state N B s ≡ clean) (b : ℕ) (d : List ℕ) (bs : Bytes s) (bd : Bytes d) → Accepted N B s (put b d)
    → (u : Image) (es : List ℕ) (f : ℕ) → CutBegun B (work_of N B s (put b d)).steps s u es f → Passes N B 1 0 s u es f
unfolding after_put
put_passes N B s z c b d bs bd e u es f k =
    let v = view N B s in
    let h = held_of_clean N B s z c in
    let cv = clean_view N B s z c in
    let r = (room_for N B v).result in
    let xs = (room_for N B v).steps in
    let t = run B xs s in
    let ht = roomed_held N B s z c b d bs bd e in
    let ct = roomed_clean N B s z c b d bs bd e in
    let room = making_room N B (λ s v u es f. Passes N B 0 0 s u es f) (room_passes N B) s v h bs cv (room_carries N B s z c b d bs bd e) (roomed_below N B s z c b d bs bd e) in
    let less : length (shown N B t) ≤ length (shown N B s) = rw (held_shown N B t r ht ct, held_shown N B s v h cv) (omega (arith, roomed_size N B s z c b d bs bd e)) in
    ⊎_elim (λ q. more (room u es f q))
    (λ q. passes_trans N B 0 1 s t u (erases_in xs) q.0 es (marks_in B xs) q.1 f q.2 q.3 less (room t (erases_in xs) (marks_in B xs) (whole_begun B xs s))
    (write_passes N B t r ht ct (roomed_gap N B s z c b d bs bd e) b d (put_valid N B s z c b d bs bd e) (after_clean N B s z c b d bs bd e) u q.0 q.1 q.4))
    (begun_append B xs (write_at_top N B b d r ++ mark_old N B b r) s u es f (rw (put_steps_lem N B s z c b d bs bd e) at k))
  where
    more : Passes N B 0 0 s u es f → Passes N B 1 0 s u es f
    more p = record { first = p.first; few = p.few; each = p.each; owed = p.owed; paid = λ L R l q. paid_more N B L (R + 0) (R + 1) (recovered_view N B u) (omega arith) (p.paid L R l q) }

delete_paid : (N B L R b : ℕ) (v : View) → PaidView N B L R v → PaidView N B L (R + 1) (after_delete b v)
unfolding after_delete marked slot_changed
delete_paid N B L R b v p = paid_marked N B (place_of b v) v p

pub delete_passes : (N B : ℕ) (s : Image) → right_size N B s ≡ true → state N B s ≡ clean → (b : ℕ) → Accepted N B s (delete b)
    → (u : Image) (es : List ℕ) (f : ℕ) → CutBegun B (work_of N B s (delete b)).steps s u es f → Passes N B 1 0 s u es f
unfolding steps_for delete_steps view
delete_passes N B s z c b e u es f k =
    let v = view N B s in
    let h = held_of_clean N B s z c in
    let cv = clean_view N B s z c in
    let xs = (work_of N B s (delete b)).steps in
    let p = place_of b v in
    let a = accepted N B s (delete b) e in
    let held = delete_passed N B s b a.1 in
    let none = begun_none B xs s u es f (ap erases_in a.0 ∙ mark_none N B p) k in
    let unmarked = begun_unmarked B xs s u es f (ap (λ y. marks_in B y) a.0 ∙ dead_unmarked N B p (place_inside N B s z b held)) k in
    let d = delete_done N B s z c b e in
    ⊎_elim
    (λ q. still_passes N B s v h cv 1 u es f v none unmarked (held_shows N B s v u h cv (ap (λ y. segments_of N B y) q)).1 refl (λ L R l y. paid_more N B L R (R + 1) v (omega arith) y))
    (λ q. let w = after_delete b v in
    still_passes N B s v h cv 1 u es f w none unmarked (clean_with N B u w (rw q d.0) (rw q d.1)).1 (unfold after_delete marked slot_changed in refl) (λ L R l y. delete_paid N B L R b v y))
    (delete_whole N B s b z c e u (begun_cut B xs s u es f k))
