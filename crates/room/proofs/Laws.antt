-- Laws of room for a put: the top has an empty slot or not, the numbers stay small, and the loop of compactions does the steps of the definition on a clean image, and some
-- steps on any other.
use Prim.Native.Nat.{ℕ, zero, suc, ◌+◌, ◌*◌, ◌-◌, ◌%◌, ◌≤◌, ◌<◌}
use mathlib.Core.Path.{◌≡◌, refl, sym, ap, ap₂, ◌∙◌}
use mathlib.Core.Bool.{Bool, true, false, cond, ◌&&◌, not}
use mathlib.Core.List.{List, [], ◌∷◌, ◌++◌}
use native.Mathlib.Nat.{mod-lt}
use native.Mathlib.Numerals.{add-one}
use native.Mathlib.Omega.{arith}
use lib.ListN.{length, get_or, replicate, length-append}
use lib.Seq.{take_all}
use lib.Dec.{ltb}
use borrow.Author.Tests.{lt-ltb, le-ltb, ltb-true, ltb-false}
use Rattle.model.specs.Lists.{all, count}
use Rattle.model.specs.Chip.{Image, Bytes, Step, erased, number_limit, most_segments, run}
use Rattle.model.specs.Header.{new_version, is_former, bit_values, cleared_in, cleared_bits, tally_of}
use Rattle.model.specs.Slot.{Slot, empty, is_empty}
use Rattle.model.specs.State.{View, entries, view}
use Rattle.model.specs.Steps.{top_row, top_number, has_room, first_empty, open_segment, compact, copied, next_version, open_next, compact_oldest, room_for, compactions, new_numbers, is_worn}
use Rattle.model.proofs.Laws.Chip.{size_facts}
use Rattle.model.proofs.Laws.Ring.{apart_before}
use Rattle.model.proofs.Laws.Segments.{part_of, segment_at}
use Rattle.model.proofs.Laws.Effects.{in_use_parts}
use Rattle.bridge.specs.Predicted.{Rows, CleanView, Carries}
use Rattle.bridge.specs.Held.{Held, held_of_clean, clean_view, held_row}
use Rattle.bridge.specs.Requests.{held_below}
use Rattle.bridge.specs.TimesDone.{times_number, times_held}
use Rattle.bridge.specs.Views.Slots.{full, top_row_lem, copied_full}
use Rattle.bridge.specs.Views.Room.{compactions_some, compactions_length, room_made, some_dead}
use Rattle.bridge.specs.Views.Requests.{room_numbered, worn_carries}
use Rattle.bridge.specs.Views.Times.{compact_times, Needs, after_times, room_times, copied_empty, times_top}
use Rattle.flash.specs.Ran.{Ran, Programmed}
use Rattle.flash.proofs.Laws.{ran_none, ◌then◌}
use Rattle.flash.specs.Pages.{Sized}
use Rattle.flash.proofs.Pages.{sized}
use Rattle.live_slots.specs.Live.{live_entries, Apart}
use Rattle.compact.specs.Compaction.{Compaction}
use Rattle.compact.specs.Composed.{then_list_if_whole}
use Rattle.room.specs.declared.Plan.{Plan}
use Rattle.room.specs.declared.Room.{Room}
use Rattle.room.specs.Room.{Plannable, Full, Planned, Writable, Roomed, Worked}

-- ---- a row

pub row_full : (r : List Slot) → not (full r) ≡ ltb (first_empty r) (length r)
unfolding all first_empty
row_full [] = refl
row_full (k ∷ r) = go (is_empty k) (row_full r)
  where
    go : (t : Bool) → not (full r) ≡ ltb (first_empty r) (length r) → not (not t && full r) ≡ ltb (cond t 0 (suc (first_empty r))) (suc (length r))
    go true e = sym (lt-ltb 0 (suc (length r)) (omega arith))
    go false e = e ∙ less (ltb (first_empty r) (length r)) refl
      where
        less : (t : Bool) → ltb (first_empty r) (length r) ≡ t → t ≡ ltb (suc (first_empty r)) (suc (length r))
        less true h = let b = ltb-true (first_empty r) (length r) h in sym (lt-ltb (suc (first_empty r)) (suc (length r)) (omega arith))
        less false h = let b = ltb-false (first_empty r) (length r) h in sym (le-ltb (suc (first_empty r)) (suc (length r)) (omega arith))

pub top_length : (B : ℕ) (l : List (List Slot)) → Rows B l → 1 ≤ length l → length (top_row l) ≡ B
unfolding top_row
top_length B [] r h = absurd (omega arith)
top_length B (x ∷ []) r h = r.0
top_length B (x ∷ y ∷ l) r h = top_length B (y ∷ l) r.1 (omega arith)

empty_first : (B : ℕ) → first_empty (replicate B empty) ≡ 0
unfolding first_empty is_empty
empty_first zero = refl
empty_first (suc B) = refl

-- the oldest row is what the segment with the smallest number holds
live_row : (N B : ℕ) (s : Image) (v : View) → Held N B s v → 1 ≤ length v.slots → live_entries N B v.first s ≡ entries (get_or v.slots 0 [])
unfolding live_entries
live_row N B s v h some =
    let z : v.first + 0 ≡ v.first = omega arith in
    let r = rw z at (held_row N B s v h 0 some) in
    let p : 0 < N = omega (arith, (size_facts N B s h.size).two) in
    let i = mod-lt v.first p in
    let u = in_use_parts N B (v.first % N) (part_of N B (v.first % N) s) r.0 r.1 v.first (get_or v.slots 0 []) (sym (segment_at N B (v.first % N) s i) ∙ r.2) in
    ap entries u.slots

-- each compaction carries the same total on: the header before has no bit cleared
times_tally : (N B i : ℕ) (v : View) → tally_of (compact_times N B i v).result.version ≡ tally_of v.version
unfolding compact_times compact_oldest next_version new_version tally_of cleared_bits cleared_in bit_values count erased
times_tally N B zero v = refl
times_tally N B (suc i) v = omega (arith, times_tally N B i v)

-- ---- a plan

-- i compactions, as far as the budget went. The count of the last is told if some of the budget is left
pub record Compacting (N B : ℕ) (s : Image) (budget i left slot : ℕ) (t : Image) : Type 0 where
  pub ran : Ran (compact_times N B i (view N B s)).steps B budget left s t
  pub last : 0 < left → (j : ℕ) → suc j ≡ i → slot ≡ length (entries (get_or (view N B s).slots j []))

module _ (N B : ℕ) (p : Plan) (s : Image) (k : Planned N B p s) where
  abbrev v : View
  v = view N B s

  abbrev pub plan_held : Held N B s (view N B s)
  plan_held = held_of_clean N B s k.size k.state

  abbrev pub plan_clean : CleanView N B (view N B s)
  plan_clean = clean_view N B s k.size k.state

  two : 2 ≤ N
  two = (size_facts N B s k.size).two

  slots_two : 2 ≤ B
  slots_two = (size_facts N B s k.size).slots

  pub plan_sized : Sized N B (length s)
  plan_sized = sized N B s k.size

  pub room_test : has_room (view N B s) ≡ ltb p.slot B
  unfolding has_room
  room_test = row_full (top_row v.slots) ∙ ap₂ ltb (sym k.slot) (top_length B v.slots plan_clean.rows plan_clean.some)

  pub has_room_lem : p.slot < B → has_room (view N B s) ≡ true
  has_room_lem h = room_test ∙ lt-ltb p.slot B h

  pub no_room : B ≤ p.slot → has_room (view N B s) ≡ false
  no_room h = room_test ∙ le-ltb p.slot B h

  -- the numbers stay small
  pub record Small : Type 0 where
    pub some : 1 ≤ p.used
    pub spare : p.used + 1 ≤ N
    pub number : p.first.0 + p.used ≤ number_limit N
    pub limit : number_limit N ≤ 100000 * most_segments

  pub small : Small
  unfolding top_number number_limit
  small = record {
    some = omega (arith, k.used, plan_clean.some);
    spare = omega (arith, k.used, plan_clean.spare, two);
    number = omega (arith, k.first, k.used, plan_clean.some, held_below N B s v plan_held plan_clean);
    limit = omega (arith, (size_facts N B s k.size).most);
  }

  pub plannable : p.compactions ≤ p.used → Plannable N B p (length s)
  plannable few = let h = small in
      record { sized = plan_sized; some = h.some; spare = h.spare; number = omega (arith, h.number, h.limit); few = few }

  pub find_fits : Sized N B (length s) × (p.first.0 + p.used ≤ 4294967296)
  find_fits = let h = small in (plan_sized, omega arith)

  pub top_is : p.first.0 + p.used ≡ suc (top_number (view N B s))
  unfolding top_number
  top_is = omega (arith, k.first, k.used, plan_clean.some)

  -- ---- nothing to do, and opening

  pub room_there : (budget : ℕ) (r : Room) → p.slot < B → r.left ≡ budget → r.first.0 ≡ p.first.0 → r.used ≡ p.used → r.slot ≡ p.slot → Roomed N B budget r s s
  unfolding room_for
  room_there budget r h l f u j = record {
    ran = rw (has_room_lem h, l) (ran_none B budget s);
    first = rw (has_room_lem h) (f ∙ k.first);
    used = rw (has_room_lem h) (u ∙ k.used);
    slot = λ e. rw (has_room_lem h) (j ∙ k.slot);
  }

  few_used : p.used + 1 < N → ltb (length v.slots) (N - 1) ≡ true
  few_used h = lt-ltb (length v.slots) (N - 1) (omega (arith, k.used))

  pub room_opened : (budget total n : ℕ) (r : Room) {t : Image} → total ≡ tally_of (view N B s).version → B ≤ p.slot → p.used + 1 < N → n ≡ p.first.0 + p.used → r.first.0 ≡ p.first.0 → r.used ≡ p.used + 1 → r.slot ≡ 0
      → Programmed (open_segment N B (new_version total) n) budget r.left s t → Roomed N B budget r s t
  unfolding room_for open_next next_version
  room_opened budget total n r {t} tally h u e f g j d =
      let top : n ≡ suc (top_number v) = e ∙ top_is in record {
        ran = rw (no_room h, few_used u) (rw (top, tally) at (d B));
        first = rw (no_room h, few_used u) (f ∙ k.first);
        used = rw (no_room h, few_used u) (omega (arith, g, k.used, length-append v.slots (replicate B empty ∷ [])));
        slot = λ z. rw (no_room h, few_used u) (j ∙ sym (ap first_empty (top_row_lem v.slots (replicate B empty)) ∙ empty_first B));
      }

  -- ---- compactions

  module _ (bytes : Bytes s) (second : is_former (view N B s).version ≡ false) (fresh : is_worn N (view N B s) ≡ false) (f : Full N B p) where
    pub none_left : has_room v ≡ false
    none_left = no_room f.top

    rows_full : length v.slots ≡ N - 1
    rows_full = omega (arith, k.used, f.used, small.spare)

    not_few : ltb (length v.slots) (N - 1) ≡ false
    not_few = le-ltb (length v.slots) (N - 1) (omega (arith, rows_full))

    needs : Needs N B v
    needs = record { clean = plan_clean; none = none_left; dead = some_dead N B two slots_two v plan_clean none_left (omega (arith, rows_full)) }

    carries : Carries v
    carries = worn_carries N B two slots_two v second fresh none_left

    pub below : top_number v + compactions v.slots < number_limit N
    unfolding new_numbers
    below =
        let n = room_numbered N B two slots_two v plan_clean fresh (held_below N B s v plan_held plan_clean) in
        let e = rw (none_left, not_few) at (room_made N B two slots_two v plan_clean).number in
        omega arith

    -- the top was full of a row's entries but for one slot or more
    last_short : (j : ℕ) → suc j ≡ compactions v.slots → length (entries (get_or v.slots j [])) < B
    unfolding has_room
    last_short j e =
        let es = entries (get_or v.slots j []) in
        let m = room_made N B two slots_two v plan_clean in
        let r : has_room (compact_times N B (suc j) v).result ≡ true = rw (room_times N B two slots_two v plan_clean none_left not_few, ← e) at m.room in
        let t : not (full (copied B es)) ≡ true = rw (times_top N B v needs j e) at r in
        ltb-true (length es) B (twice (ltb (length es) B) (ap not (sym (copied_full B es)) ∙ t))
      where
        twice : (t : Bool) → not (not t) ≡ true → t ≡ true
        twice true h = refl
        twice false h = h

    last_empty : (i slot : ℕ) → i ≡ compactions v.slots → ((j : ℕ) → suc j ≡ i → slot ≡ length (entries (get_or v.slots j []))) → slot ≡ first_empty (top_row (compact_times N B i v).result.slots)
    last_empty zero slot e h = absurd (omega (arith, compactions_some v.slots plan_clean.some))
    last_empty (suc j) slot e h = h j refl ∙ sym (ap first_empty (times_top N B v needs j e) ∙ copied_empty N B (entries (get_or v.slots j [])) (last_short j e))

    pub compacting_start : (budget : ℕ) → Compacting N B s budget 0 budget 0 s
    unfolding compact_times
    compacting_start budget = record { ran = ran_none B budget s; last = λ h j e. absurd (omega arith) }

    module _ (budget i left slot : ℕ) (t : Image) (d : Compacting N B s budget i left slot t) (more : i < p.compactions) where
      abbrev w : View
      w = (compact_times N B i v).result

      abbrev xs : List Step
      xs = (compact_times N B i v).steps

      within : i < compactions v.slots
      within = omega (arith, k.compactions f)

      -- what the next compaction finds, if those before were done
      found : (o : ℕ) → o ≡ p.first.0 + i → length xs ≤ budget → live_entries N B o t ≡ entries (get_or w.slots 0 [])
      found o e h =
          let a = after_times N B v needs i (omega (arith, within)) in
          let held = times_held N B s v plan_held bytes needs rows_full carries below i (omega (arith, within)) in
          let first : o ≡ w.first = omega (arith, a.first, k.first) in
          let done : t ≡ run B xs s = d.ran.image ∙ ap (λ (y : List Step). run B y s) (take_all budget xs h) in
          rw (first, done) (live_row N B (run B xs s) w held (omega (arith, a.rows, plan_clean.some)))

      oldest : get_or w.slots 0 [] ≡ get_or v.slots i []
      oldest =
          let a = after_times N B v needs i (omega (arith, within)) in
          let z : i + 0 ≡ i = omega arith in
          rw z at (a.left 0 (omega (arith, within, compactions_length v.slots)))

      pub compacting_next : (total o n left₁ count : ℕ) {u : Image} → total ≡ tally_of (view N B s).version → o ≡ p.first.0 + i → n ≡ p.first.0 + (p.used + i)
          → Compaction N B total o n left left₁ count t u → Compacting N B s budget (i + 1) left₁ count u
      unfolding compact_times compact_oldest next_version
      compacting_next total o n left₁ count {u} tally eo en c =
          let a = after_times N B v needs i (omega (arith, within)) in
          let first : o ≡ w.first = omega (arith, a.first, k.first) in
          let next : n ≡ suc (top_number w) = omega (arith, times_number N B s v plan_held bytes needs rows_full carries below i (omega (arith, within)), top_is) in
          let carried : total ≡ tally_of w.version = tally ∙ sym (times_tally N B i v) in
          let same : length xs ≤ budget → compact N B (new_version total) o n (live_entries N B o t) ≡ compact N B (new_version (tally_of w.version)) w.first (suc (top_number w)) (entries (get_or w.slots 0 [])) =
          (λ h. rw (found o eo h, carried, first, next)) in record {
            ran = rw add-one (then_list_if_whole d.ran c.ran same);
            last = λ h j e.
                let j_is : j ≡ i = omega arith in
                c.counted ∙ ap length (found o eo (omega (arith, c.ran.rest, d.ran.rest)) ∙ ap entries (oldest ∙ ap (λ (y : ℕ). get_or v.slots y []) (sym j_is)));
          }

    pub compacting_end : (budget i left slot : ℕ) (r : Room) {t : Image} → Compacting N B s budget i left slot t → i ≡ p.compactions → r.left ≡ left → r.slot ≡ slot → r.first.0 ≡ p.first.0 + i
        → r.used ≡ p.used → Roomed N B budget r s t
    compacting_end budget i left slot r {t} d h el es ef eu =
        let n : i ≡ compactions v.slots = h ∙ k.compactions f in
        let a = after_times N B v needs i (omega arith) in
        let room = room_times N B two slots_two v plan_clean none_left not_few in record {
          ran = rw (room, ← n, el) d.ran;
          first = rw (room, ← n) (omega (arith, ef, k.first, a.first));
          used = rw (room, ← n) (omega (arith, eu, k.used, a.rows));
          slot = λ z. rw (room, ← n) (es ∙ last_empty i slot n (d.last (omega (arith, el))));
        }

-- ---- any image

-- i compactions were done by the plan, as far as the budget went: some steps, and on a clean image those of the definition
pub record Progress (N B : ℕ) (p : Plan) (total : ℕ) (s : Image) (budget i left slot : ℕ) (t : Image) : Type 0 where
  pub bound : i ≤ p.compactions
  pub steps : List Step
  pub ran : Ran steps B budget left s t
  pub exact : Writable N B p total s → Compacting N B s budget i left slot t

module _ (N B : ℕ) (p : Plan) (total : ℕ) (s : Image) (a : Plannable N B p (length s)) (budget : ℕ) where
  pub targets_apart : (i o n : ℕ) → o ≡ p.first.0 + i → n ≡ p.first.0 + (p.used + i) → Apart N o n
  targets_apart i o n eo en e =
      let next : n ≡ o + p.used = omega arith in
      apart_before N p.used o (omega (arith, a.spare)) o (omega arith) (omega (arith, a.some)) (rw next at e)

  pub worked_there : (r : Room) → p.slot < B → r.left ≡ budget → r.first.0 ≡ p.first.0 → r.used ≡ p.used → r.slot ≡ p.slot → Worked N B p total budget r s s
  worked_there r h l f u j = record {
    steps = [];
    ran = rw l (ran_none B budget s);
    some = omega (arith, u, a.some);
    spare = omega (arith, u, a.spare);
    low = omega (arith, f, u);
    number = omega (arith, f, u);
    exact = λ w. room_there N B p s w.plan budget r h l f u j;
  }

  pub worked_opened : (n : ℕ) (r : Room) {t : Image} → B ≤ p.slot → p.used + 1 < N → n ≡ p.first.0 + p.used → r.first.0 ≡ p.first.0 → r.used ≡ p.used + 1 → r.slot ≡ 0
      → Programmed (open_segment N B (new_version total) n) budget r.left s t → Worked N B p total budget r s t
  worked_opened n r {t} h u e f g j d = record {
    steps = open_segment N B (new_version total) n;
    ran = d B;
    some = omega (arith, g);
    spare = omega (arith, g, u);
    low = omega (arith, f, g);
    number = omega (arith, f, g);
    exact = λ w. room_opened N B p s w.plan budget total n r (w.tally h) h u e f g j d;
  }

  module _ (f : Full N B p) where
    pub progress_start : Progress N B p total s budget 0 budget 0 s
    progress_start = record {
      bound = omega arith;
      steps = [];
      ran = ran_none B budget s;
      exact = λ w. compacting_start N B p s w.plan w.bytes w.second w.fresh f budget;
    }

    pub progress_next : (i left slot : ℕ) (t : Image) → Progress N B p total s budget i left slot t → i < p.compactions → (o n left₁ count : ℕ) {u : Image} → o ≡ p.first.0 + i → n ≡ p.first.0 + (p.used + i)
        → Compaction N B total o n left left₁ count t u → Progress N B p total s budget (i + 1) left₁ count u
    progress_next i left slot t d more o n left₁ count {u} eo en c = record {
      bound = omega arith;
      steps = d.steps ++ compact N B (new_version total) o n (live_entries N B o t);
      ran = ◌then◌ d.ran c.ran;
      exact = λ w. compacting_next N B p s w.plan w.bytes w.second w.fresh f budget i left slot t (d.exact w) more total o n left₁ count (w.tally f.top) eo en c;
    }

    pub progress_end : (i left slot : ℕ) (r : Room) {t : Image} → Progress N B p total s budget i left slot t → p.compactions ≤ i → r.left ≡ left → r.slot ≡ slot → r.first.0 ≡ p.first.0 + i
        → r.used ≡ p.used → Worked N B p total budget r s t
    progress_end i left slot r {t} d h el es ef eu =
        let all : i ≡ p.compactions = omega (arith, d.bound) in record {
          steps = d.steps;
          ran = rw el d.ran;
          some = omega (arith, eu, a.some);
          spare = omega (arith, eu, a.spare);
          low = omega (arith, ef, eu);
          number = omega (arith, ef, eu, all, a.few, a.spare, a.sized.segments);
          exact = λ w. compacting_end N B p s w.plan w.bytes w.second w.fresh f budget i left slot r (d.exact w) all el es ef eu;
        }
