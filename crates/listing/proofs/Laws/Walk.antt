-- The walk from the top down: one segment in use more was counted, and its live slots were put into the tables.
use Prim.Native.Nat.{ℕ, ◌+◌, ◌*◌, ◌≤◌, ◌<◌}
use mathlib.Core.Path.{◌≡◌, refl, sym, ap, ap₂, ◌∙◌, subst}
use mathlib.Core.Logic.{◌≢◌}
use mathlib.Core.Bool.{Bool, true, false, cond, false≢true, true≢false}
use mathlib.Core.List.{List, [], map}
use native.Mathlib.Omega.{arith}
use native.Mathlib.Decide.{ℕ_discrete}
use lib.ListN.{length, get_or, take, set, length-set}
use lib.Seq.{get_or-set_same, get_or-set_other, get_or-take, ext_get_or, length-take-le}
use Rattle.model.specs.Chip.{Image, most_segments}
use Rattle.model.specs.Slot.{Slot, kind_of}
use Rattle.model.specs.State.{Segment, blank, invalid, in_use, is_in_use, number_after, segments_of, slots_in, top_index, used_count}
use Rattle.model.specs.Laws.Lists.{map_length, map_get}
use Rattle.model.specs.declared.SlotKind.{SlotKind}
use Rattle.judge.specs.Rows.{kinds_at, slots_at}
use Rattle.judge.specs.Parts.{slots_offset}
use Rattle.judge.specs.declared.SegmentState.TheVariants.{Blank}
use Rattle.account_text.specs.Account.{LiveSlot, live_from, live_in, live_slots, shown}
use Rattle.index.specs.declared.Counts.{Counts}
use Rattle.index.specs.declared.Shown.{Shown}
use Rattle.index.specs.Shows.{no_counts, counts_of, shown_as, shown_of, uncounted, counted, after_shown}
use Rattle.index.specs.declared.Tables.{Tables}
use Rattle.index.specs.Tables.{link_row, linked, list_of}
use Rattle.index.proofs.Walks.{held_shown}
use Rattle.descent.specs.Descent.{largest, Descent}
use Rattle.descent.specs.Turns.{descent_start, turn_below, turn_used, turn_row, turn_gone, turn_live, turn, end_unused, end_live}
use Rattle.linking.specs.Counts.{count_row}
use Rattle.linking.proofs.Laws.{counts_of_lem, row_linked, linked_append}
use Rattle.listing.proofs.Laws.Shows.{uncounted_all}

kinds_of : (s : Image) (o c : ℕ) → kinds_at s o c ≡ map kind_of (slots_at s o c)
unfolding kinds_at
kinds_of s o c = refl

-- a table's element that is not asked for
abbrev pub none : Shown
none = shown_as Blank 0 no_counts

module _ (N B : ℕ) (s : Image) where
  abbrev pub whole : List Segment
  whole = shown N B (segments_of N B s)

  -- m is left to walk over: numbers has its numbers, next is the one after its top's, and t has what was left out
  pub record Walking (before : Tables) (m : List Segment) (table : List Shown) (left : List ℕ) (next : ℕ) (t : Tables) : Type 0 where
    pub descent : Descent N B s m left next
    pub tables : linked B (live_in N (used_count m) m) t ≡ linked B (list_of N B s) before
    pub kept : (i : ℕ) → i < N → is_in_use (get_or m i blank) ≡ true → get_or m i blank ≡ get_or whole i blank
    pub shows : (i : ℕ) → i < N → get_or table i none ≡ cond (is_in_use (get_or m i blank)) (uncounted (get_or whole i blank)) (shown_of (get_or whole i blank))
    pub rows : length table ≡ most_segments

module _ (N B : ℕ) (s : Image) (some : 0 < N) (least : N ≤ most_segments) where
  -- ---- the start

  uncounted_shown : (x : Segment) → is_in_use x ≡ false → uncounted x ≡ shown_of x
  unfolding is_in_use uncounted shown_of
  uncounted_shown blank h = refl
  uncounted_shown invalid h = refl
  uncounted_shown (in_use ver st n ks) h = absurd (true≢false h)

  pub walk_start : (before : Tables) (table : List Shown) (left : List ℕ) (next : ℕ) → length table ≡ most_segments → length left ≡ most_segments
      → take N table ≡ map uncounted (whole N B s) → take N left ≡ map after_shown (take N table) → next ≡ largest (take N left) → Walking N B s before (whole N B s) table left next before
  walk_start before table left next a b e f g =
      let h = held_shown N B s some in
      let n : take N left ≡ map number_after (whole N B s) = f ∙ (ap (map after_shown) e ∙ uncounted_all (whole N B s)) in
      record {
        descent = descent_start N B s some (whole N B s) left next h b n g;
        tables = unfold list_of live_slots in refl;
        kept = λ i p u. refl;
        shows = λ i p. sym (get_or-take N table i none p) ∙ (ap (λ (z : List Shown). get_or z i none) e ∙ (map_get uncounted (whole N B s) i blank none (rw h.count p) ∙ go (get_or (whole N B s) i blank)));
        rows = a;
      }
    where
      go : (x : Segment) → uncounted x ≡ cond (is_in_use x) (uncounted x) (shown_of x)
      go x = split (is_in_use x) refl
        where
          split : (t : Bool) → is_in_use x ≡ t → uncounted x ≡ cond t (uncounted x) (shown_of x)
          split true q = refl
          split false q = uncounted_shown x q

  -- ---- a turn

  counted_shown : (x : Segment) → is_in_use x ≡ true → counted (counts_of (slots_in x)) (uncounted x) ≡ shown_of x
  unfolding is_in_use counted uncounted shown_of shown_as slots_in
  counted_shown blank h = absurd (false≢true h)
  counted_shown invalid h = absurd (false≢true h)
  counted_shown (in_use ver st n ks) h = refl

  module _ (before : Tables) (m : List Segment) (table : List Shown) (left : List ℕ) (next : ℕ) (t : Tables) (w : Walking N B s before m table left next t) (more : 0 < next) where
    abbrev d : Descent N B s m left next
    d = w.descent

    below : top_index N m < N
    below = turn_below N B s some m left next d more

    row : slots_in (get_or m (top_index N m) blank) ≡ slots_at s (slots_offset B (top_index N m)) B
    row = turn_row N B s some m left next d more

    here : is_in_use (get_or m (top_index N m) blank) ≡ true
    here = turn_used N B s some m left next d more

    gone : is_in_use (get_or (set m (top_index N m) blank) (top_index N m) blank) ≡ false
    gone = turn_gone N B s some m left next d more

    -- what the tables hold now, and what is left for them
    linked_turn : (u : Tables) → u ≡ link_row (top_index N m * (B + 1) + 1) (kinds_at s (slots_offset B (top_index N m)) B) t
        → linked B (live_in N (used_count (set m (top_index N m) blank)) (set m (top_index N m) blank)) u ≡ linked B (list_of N B s) before
    linked_turn u e =
        let v = set m (top_index N m) blank in
        let x = live_in N (used_count v) v in
        let y = live_from (top_index N m) 1 (slots_at s (slots_offset B (top_index N m)) B) in
        let q : u ≡ linked B y t = e ∙ (ap (λ (ks : List SlotKind). link_row (top_index N m * (B + 1) + 1) ks t) (kinds_of s (slots_offset B (top_index N m)) B) ∙ row_linked B (top_index N m) 1 (slots_at s (slots_offset B (top_index N m)) B) t) in
        ap (linked B x) q ∙ (sym (linked_append B x y t) ∙ (ap (λ (r : List LiveSlot). linked B r t) (sym (turn_live N B s some m left next d more)) ∙ w.tables))

    shows_turn : (c : Counts) → c ≡ count_row (kinds_at s (slots_offset B (top_index N m)) B) → (x : Shown) → x ≡ counted c (get_or table (top_index N m) none) → (j : ℕ) → j < N
        → get_or (set table (top_index N m) x) j none ≡ cond (is_in_use (get_or (set m (top_index N m) blank) j blank)) (uncounted (get_or (whole N B s) j blank)) (shown_of (get_or (whole N B s) j blank))
    shows_turn c e x q j p = elim (ℕ_discrete j (top_index N m)) [ yes d ↦ same d | no d ↦ other d ]
      where
        k : c ≡ counts_of (slots_in (get_or (whole N B s) (top_index N m) blank))
        k = e ∙ (ap count_row (kinds_of s (slots_offset B (top_index N m)) B) ∙ (ap (λ (ks : List Slot). count_row (map kind_of ks)) (sym row) ∙ (counts_of_lem (slots_in (get_or m (top_index N m) blank)) ∙ ap (λ (y : Segment). counts_of (slots_in y)) (w.kept (top_index N m) below here))))

        used_there : is_in_use (get_or (whole N B s) (top_index N m) blank) ≡ true
        used_there = sym (ap is_in_use (w.kept (top_index N m) below here)) ∙ here

        value : x ≡ shown_of (get_or (whole N B s) (top_index N m) blank)
        value = q ∙ (ap₂ counted k (w.shows (top_index N m) below ∙ ap (λ (z : Bool). cond z (uncounted (get_or (whole N B s) (top_index N m) blank)) (shown_of (get_or (whole N B s) (top_index N m) blank))) here)
            ∙ counted_shown (get_or (whole N B s) (top_index N m) blank) used_there)

        same : j ≡ top_index N m → get_or (set table (top_index N m) x) j none ≡ cond (is_in_use (get_or (set m (top_index N m) blank) j blank)) (uncounted (get_or (whole N B s) j blank)) (shown_of (get_or (whole N B s) j blank))
        same d = rw (d, gone) (get_or-set_same table (top_index N m) x none (rw w.rows (omega (arith, below, least))) ∙ value)

        other : j ≢ top_index N m → get_or (set table (top_index N m) x) j none ≡ cond (is_in_use (get_or (set m (top_index N m) blank) j blank)) (uncounted (get_or (whole N B s) j blank)) (shown_of (get_or (whole N B s) j blank))
        other d = rw (get_or-set_other table (top_index N m) j x none d, get_or-set_other m (top_index N m) j blank blank d) (w.shows j p)

    kept_turn : (j : ℕ) → j < N → is_in_use (get_or (set m (top_index N m) blank) j blank) ≡ true → get_or (set m (top_index N m) blank) j blank ≡ get_or (whole N B s) j blank
    kept_turn j p u = elim (ℕ_discrete j (top_index N m)) [
      | yes d ↦ absurd (false≢true (sym gone ∙ (ap (λ (k : ℕ). is_in_use (get_or (set m (top_index N m) blank) k blank)) (sym d) ∙ u)))
      | no d ↦ get_or-set_other m (top_index N m) j blank blank d ∙ w.kept j p (sym (ap is_in_use (get_or-set_other m (top_index N m) j blank blank d)) ∙ u)
    ]

    pub walk_turn : (c : Counts) (x : Shown) (u : Tables) (later : ℕ) → c ≡ count_row (kinds_at s (slots_offset B (top_index N m)) B) → x ≡ counted c (get_or table (top_index N m) none)
        → u ≡ link_row (top_index N m * (B + 1) + 1) (kinds_at s (slots_offset B (top_index N m)) B) t → later ≡ largest (take N (set left (top_index N m) 0))
        → Walking N B s before (set m (top_index N m) blank) (set table (top_index N m) x) (set left (top_index N m) 0) later u
    walk_turn c x u later a b e f = record {
      descent = turn N B s some m left next d more (top_index N m) later refl f;
      tables = linked_turn u e;
      kept = kept_turn;
      shows = shows_turn c a x b;
      rows = length-set table (top_index N m) x ∙ w.rows;
    }

  -- ---- the end

  pub walk_end : (before : Tables) (m : List Segment) (table : List Shown) (left : List ℕ) (next : ℕ) (t : Tables) → Walking N B s before m table left next t → next ≡ 0
      → (take N table ≡ map shown_of (whole N B s)) × (t ≡ linked B (list_of N B s) before)
  walk_end before m table left next t w z =
      let l = (held_shown N B s some).count in
      let a : length (take N table) ≡ N = length-take-le N table (omega (arith, w.rows)) in (
        ext_get_or none (take N table) (map shown_of (whole N B s)) (a ∙ (sym l ∙ sym (map_length shown_of (whole N B s)))) (λ j p. one j (subst (λ (k : ℕ). j < k) a p)),
        sym nothing ∙ (ap (λ (r : List LiveSlot). linked B r t) (sym (end_live N B s some m left next w.descent z)) ∙ w.tables),
      )
    where
      nothing : linked B [] t ≡ t
      nothing = unfold linked in refl

      one : (j : ℕ) → j < N → get_or (take N table) j none ≡ get_or (map shown_of (whole N B s)) j none
      one j p = get_or-take N table j none p ∙ (w.shows j p ∙ (ap (λ (b : Bool). cond b (uncounted (get_or (whole N B s) j blank)) (shown_of (get_or (whole N B s) j blank))) (end_unused N B s some m left next w.descent z j)
          ∙ sym (map_get shown_of (whole N B s) j blank none (rw (held_shown N B s some).count p))))

  -- ---- a turn as the code has it

  pub again : (before : Tables) (m : List Segment) (table : List Shown) (left : List ℕ) (next : ℕ) (t : Tables) → Walking N B s before m table left next t → 0 < next → (i : ℕ) → i ≡ top_index N m
      → (c : Counts) (x : Shown) (u : Tables) (later : ℕ) → c ≡ count_row (kinds_at s ((i * (B + 1) + 1) * 256) B) → x ≡ counted c (get_or table i none) → u ≡ link_row (i * (B + 1) + 1) (kinds_at s ((i * (B + 1) + 1) * 256) B) t
      → later ≡ largest (take N (set left i 0)) → Walking N B s before (set m (top_index N m) blank) (set table i x) (set left i 0) later u
  again before m table left next t w more i e c x u later =
      subst (λ (k : ℕ). c ≡ count_row (kinds_at s ((k * (B + 1) + 1) * 256) B) → x ≡ counted c (get_or table k none) → u ≡ link_row (k * (B + 1) + 1) (kinds_at s ((k * (B + 1) + 1) * 256) B) t
      → later ≡ largest (take N (set left k 0)) → Walking N B s before (set m (top_index N m) blank) (set table k x) (set left k 0) later u) (sym e)
      (walk_turn before m table left next t w more c x u later)
