-- The frame from its parts, and tables with a summary changed.
use Prim.Native.Nat.{ℕ, ◌-◌, ◌%◌, ◌≤◌, ◌<◌}
use mathlib.Core.Path.{◌≡◌, refl, sym, ap, ap₂, ◌∙◌}
use mathlib.Core.Logic.{◌≢◌}
use mathlib.Core.Bool.{Bool, true, false, cond, ◌||◌, ◌&&◌, and-false, and-true, false≢true, true≢false}
use mathlib.Core.List.{List, map}
use native.Mathlib.Omega.{arith}
use native.Mathlib.Nat.{mod-lt}
use lib.ListN.{length, get_or, take, set}
use lib.Seq.{take-set-lt, set-get_or, set_comm}
use lib.Dec.{ltb}
use borrow.Author.Tests.{le-leb, lt-leb, ltb-true, ltb-false}
use Rattle.model.specs.State.{Segment, blank, invalid, in_use, is_invalid, is_owing, number_after, next_number, used_count, first_number, some_in_use, numbers_from, consecutive, one_version, next_index, top_index, next_blanked, settled, top_settled}
use Rattle.model.specs.Laws.Lists.{and_left, and_right, map_set, mod_inj}
use Rattle.model.proofs.Laws.Ring.{next_ge}
use Rattle.judge.specs.declared.SegmentState.{SegmentState}
use Rattle.judge.specs.declared.SegmentState.TheVariants.{Blank, Invalid, InUse, Owing}
use Rattle.judge.specs.declared.Summary.{Summary}
use Rattle.judge.specs.declared.HeaderCounts.{HeaderCounts}
use Rattle.judge.specs.declared.Frame.{Frame}
use Rattle.judge.specs.declared.Headers.{Headers}
use Rattle.judge.specs.Cases.{frame}
use Rattle.judge.specs.Heads.{bare_of, bare, outline, heads, all_settled, counts_of, may_be_fine, frame_of, heads_mended, headers_by, headers_of, outline_headers}
use Rattle.segments.proofs.Laws.Tables.{heads_get}

pub counted_next : (l : List Segment) (c : HeaderCounts) → c ≡ counts_of l → c.next ≡ next_number l
counted_next l c e = ap (λ (y : HeaderCounts). y.next) e ∙ (unfold counts_of in refl)

module _ (N : ℕ) (l : List Segment) where
  frame_none : used_count l ≡ 0 → frame N l ≡ false
  unfolding frame some_in_use
  frame_none e = rw (lt-leb 1 (used_count l) (omega arith))

  frame_many : 0 < N → N ≤ used_count l → frame N l ≡ false
  unfolding frame some_in_use
  frame_many p h = rw (le-leb 1 (used_count l) (omega arith), lt-leb (used_count l) (N - 1) (omega arith))

  frame_inside : 1 ≤ used_count l → used_count l < N → frame N l ≡ (numbers_from N l (used_count l) (first_number l) && (one_version l && all_settled l))
  unfolding frame some_in_use consecutive all_settled
  frame_inside p h = rw (le-leb 1 (used_count l) (omega arith), le-leb (used_count l) (N - 1) (omega arith))

  module _ (c : HeaderCounts) (e : c ≡ counts_of l) (f : ℕ) (q : f ≡ c.next - c.used) where
    used_is : c.used ≡ used_count l
    used_is = ap (λ (y : HeaderCounts). y.used) e ∙ (unfold counts_of in refl)

    rest_is : ((c.all_version_1 || c.all_version_2) && c.settled) ≡ (one_version l && all_settled l)
    rest_is = ap (λ (y : HeaderCounts). (y.all_version_1 || y.all_version_2) && y.settled) e ∙ (unfold counts_of one_version in refl)

    first_is : f ≡ first_number l
    first_is = q ∙ (ap (λ (y : HeaderCounts). y.next - y.used) e ∙ (unfold counts_of first_number in refl))

    frame_is : (t : Bool) → t ≡ frame N l → record { first = f; used = c.used; fine = t } ≡ frame_of N l
    unfolding frame_of
    frame_is t h = rw (← first_is, ← used_is, ← h)

    -- the test of the counts, and the numbers
    pub frame_refused : 0 < N → may_be_fine N c ≡ false → record { first = f; used = c.used; fine = false } ≡ frame_of N l
    unfolding may_be_fine
    frame_refused p h = frame_is false (sym (go (ltb 0 c.used) (ltb c.used N) ((c.all_version_1 || c.all_version_2) && c.settled) refl refl refl h))
      where
        go : (a b t : Bool) → ltb 0 c.used ≡ a → ltb c.used N ≡ b → ((c.all_version_1 || c.all_version_2) && c.settled) ≡ t → (a && (b && t)) ≡ false → frame N l ≡ false
        go false b t i j k z = frame_none (let e = ltb-false 0 c.used i in omega (arith, used_is))
        go true false t i j k z = frame_many p (let e = ltb-false c.used N j in omega (arith, used_is))
        go true true false i j k z =
            let d = ltb-true 0 c.used i in
            let e = ltb-true c.used N j in
            frame_inside (omega (arith, used_is)) (omega (arith, used_is)) ∙ rw (sym rest_is ∙ k) (and-false (numbers_from N l (used_count l) (first_number l)))
        go true true true i j k z = absurd (true≢false z)

    pub frame_tested : may_be_fine N c ≡ true → (t : Bool) → t ≡ numbers_from N l c.used f → record { first = f; used = c.used; fine = t } ≡ frame_of N l
    unfolding may_be_fine
    frame_tested h t w =
        let a = ltb 0 c.used in
        let b = ltb c.used N in
        let o = (c.all_version_1 || c.all_version_2) && c.settled in
        let i = ltb-true 0 c.used (and_left a (b && o) h) in
        let r = and_right a (b && o) h in
        let j = ltb-true c.used N (and_left b o r) in
        let k : (one_version l && all_settled l) ≡ true = sym rest_is ∙ and_right b o r in
        frame_is t (w ∙ (ap₂ (numbers_from N l) used_is first_is ∙ sym (frame_inside (omega (arith, used_is)) (omega (arith, used_is)) ∙ rw k (and-true (numbers_from N l (used_count l) (first_number l))))))

-- ---- a summary changed

heads_set : (N i : ℕ) (table : List Summary) (v : Summary) → i < N → heads N (set table i v) ≡ set (heads N table) i (bare v)
unfolding heads
heads_set N i table v h = ap (map bare) (take-set-lt N table i v h) ∙ map_set bare (take N table) i v

pub settled_owing : (x : SegmentState) (t : Bool) (n : ℕ) → is_owing (bare_of x t n) ≡ true → bare_of InUse t n ≡ settled (bare_of x t n)
unfolding bare_of is_owing settled
settled_owing Blank t n h = absurd (false≢true h)
settled_owing Invalid t n h = absurd (false≢true h)
settled_owing InUse t n h = absurd (false≢true h)
settled_owing Owing t n h = refl

pub settled_other : (x : SegmentState) (t : Bool) (n : ℕ) → is_owing (bare_of x t n) ≡ false → bare_of x t n ≡ settled (bare_of x t n)
unfolding bare_of is_owing settled
settled_other Blank t n h = refl
settled_other Invalid t n h = refl
settled_other InUse t n h = refl
settled_other Owing t n h = absurd (true≢false h)

settled_same : (x : Summary) → is_owing (bare x) ≡ false → settled (bare x) ≡ bare x
unfolding bare
settled_same x h = sym (settled_other x.state x.former x.number.0 h)

-- the segment before a number is not the one at it
apart : (N n : ℕ) → 2 ≤ N → 0 < n → (n - 1) % N ≢ n % N
apart N n two some e = let q = mod_inj N (n - 1) n (omega arith) (omega arith) e in omega arith

owing_some : (x : Segment) → is_owing x ≡ true → 0 < number_after x
unfolding is_owing number_after
owing_some blank h = absurd (false≢true h)
owing_some invalid h = absurd (false≢true h)
owing_some (in_use ver st n ks) h = omega arith

-- a table mended where it stands: the top as settled, then the segment after it
module _ (N : ℕ) (table : List Summary) (d : Summary) (two : 2 ≤ N) (long : N ≤ length table) (next top : ℕ) (e : next ≡ next_number (heads N table)) (t : top ≡ next - 1) where
  abbrev h : List Segment
  h = heads N table

  some : 0 < N
  some = omega arith

  pub top_get : get_or h (top_index N h) blank ≡ bare (get_or table (top % N) d)
  unfolding top_index
  top_get = let k : next_number h - 1 ≡ top = omega arith in rw k (heads_get N (top % N) table d (mod-lt top some) (omega (arith, mod-lt top some)))

  pub after_get : get_or h (next_index N h) blank ≡ bare (get_or table (next % N) d)
  unfolding next_index
  after_get = rw (← e) (heads_get N (next % N) table d (mod-lt next some) (omega (arith, mod-lt next some)))

  pub mended_table : (v w : Summary) → bare v ≡ settled (bare (get_or table (top % N) d))
      → bare w ≡ cond (is_owing (bare (get_or table (top % N) d)) || is_invalid (bare (get_or table (next % N) d))) blank (bare (get_or table (next % N) d))
      → heads N (set (set table (top % N) v) (next % N) w) ≡ heads_mended N h
  mended_table v w p q =
      heads_set N (next % N) (set table (top % N) v) w (mod-lt next some)
      ∙ (ap₂ (λ (x : List Segment) (y : Segment). set x (next % N) y) (heads_set N (top % N) table v (mod-lt top some)) q
      ∙ go (is_owing (bare (get_or table (top % N) d))) (is_invalid (bare (get_or table (next % N) d))) refl refl)
    where
      index : top_index N h ≡ top % N
      index = unfold top_index in (let k : next_number h - 1 ≡ top = omega arith in rw k)

      after : next_index N h ≡ next % N
      after = unfold next_index in rw e

      blanked : next_blanked N h ≡ set h (next % N) blank
      blanked = unfold next_blanked in rw after

      -- the top stays where it is not owing
      same : is_owing (bare (get_or table (top % N) d)) ≡ false → set h (top % N) (bare v) ≡ h
      same o =
          let b : bare v ≡ get_or h (top % N) blank = p ∙ (settled_same (get_or table (top % N) d) o ∙ (sym top_get ∙ ap (λ (k : ℕ). get_or h k blank) index)) in
          ap (λ (y : Segment). set h (top % N) y) b ∙ set-get_or h (top % N) blank

      go : (o i : Bool) → is_owing (bare (get_or table (top % N) d)) ≡ o → is_invalid (bare (get_or table (next % N) d)) ≡ i
          → set (set h (top % N) (bare v)) (next % N) (cond (o || i) blank (bare (get_or table (next % N) d))) ≡ heads_mended N h
      go true i a b =
          let n : 0 < next = omega (arith, owing_some (get_or h (top_index N h) blank) (ap is_owing top_get ∙ a), next_ge h (top_index N h)) in
          let f : top % N ≢ next % N = (λ z. apart N next two n (ap (λ (k : ℕ). k % N) (sym t) ∙ z)) in
          set_comm h (top % N) (next % N) (bare v) blank f
          ∙ (ap₂ (λ (x : List Segment) (y : Segment). set x (top % N) y) (sym blanked) (p ∙ ap settled (sym top_get))
          ∙ (unfold heads_mended top_settled in rw (ap is_owing top_get ∙ a, index)))
      go false true a b = ap (λ (x : List Segment). set x (next % N) blank) (same a) ∙ (sym blanked ∙ (unfold heads_mended in rw (ap is_owing top_get ∙ a, ap is_invalid after_get ∙ b)))
      go false false a b =
          ap₂ (λ (x : List Segment) (y : Segment). set x (next % N) y) (same a) (sym after_get ∙ ap (λ (k : ℕ). get_or h k blank) after)
          ∙ (set-get_or h (next % N) blank ∙ (unfold heads_mended in rw (ap is_owing top_get ∙ a, ap is_invalid after_get ∙ b)))

  -- all that the headers tell, once the table is mended
  pub headers_found : (l : List Segment) (v w : Summary) (f : Frame) → h ≡ map outline l → bare v ≡ settled (bare (get_or table (top % N) d))
      → bare w ≡ cond (is_owing (bare (get_or table (top % N) d)) || is_invalid (bare (get_or table (next % N) d))) blank (bare (get_or table (next % N) d))
      → f ≡ frame_of N (heads N (set (set table (top % N) v) (next % N) w)) → headers_by next (bare (get_or table (top % N) d)) (bare (get_or table (next % N) d)) f ≡ headers_of N l
  headers_found l v w f shown p q r = found ∙ (ap (headers_of N) shown ∙ outline_headers N l)
    where
      found : headers_by next (bare (get_or table (top % N) d)) (bare (get_or table (next % N) d)) f ≡ headers_of N h
      found = unfold headers_of in rw (top_get, after_get, ← e) (ap (headers_by next (bare (get_or table (top % N) d)) (bare (get_or table (next % N) d))) (r ∙ ap (frame_of N) (mended_table v w p q)))

-- the number and the frame that are told
module _ (next : ℕ) (x y : Segment) (f : Frame) (r : Headers) (e : r ≡ headers_by next x y f) where
  pub told_next : r.next ≡ next
  told_next = ap (λ (z : Headers). z.next) e ∙ (unfold headers_by in refl)

  pub told_frame : r.frame ≡ f
  told_frame = ap (λ (z : Headers). z.frame) e ∙ (unfold headers_by in refl)
