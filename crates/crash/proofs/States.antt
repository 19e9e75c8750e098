-- The state of an image by its segments. The four unfinished cases alike: each passes its test, is mended to clean segments, and is recovered to their rows.
-- An image that is mended to the same is recovered to the same rows, and shows the same.
use Rattle.std.specs.Prelude.{ℕ, ◌-◌, ◌%◌, ◌≤◌, ◌<◌, ◌≡◌, Bool, true, false, cond, ◌&&◌, length, get_or, set, ltb, eqb}
use Rattle.std.proofs.Math.Path.{refl, sym}
use Rattle.std.proofs.Common.{ap, ◌∙◌, subst, arith, mod-lt, length-set}
use mathlib.Core.List.{List, [], ◌∷◌, flatten}
use Rattle.model.specs.Lists.{count}
use Rattle.model.specs.Chip.{Image, right_size, run}
use Rattle.model.specs.Header.{is_former}
use Rattle.model.specs.Slot.{Slot, dead, cut, is_torn}
use Rattle.model.specs.State.{Segment, blank, is_invalid, is_owing, segments_of, next_number, next_index, top_index, top_version, used_count, View, view_of, entries, entries_in, is_clean, next_blanked, is_a, settled, top_settled, is_b, with_slot, last_slot, last_kind, torn_marked, is_c, last_block, copies, older, older_marked, is_d, Exception, case_a, case_b, case_c, case_d, State, clean, unfinished, damaged, state_of, state, view}
use Rattle.model.specs.Steps.{mend_steps, recover_steps}
use Rattle.model.specs.Table.{Table, Agree, table_of}
use Rattle.model.specs.Answers.{recover, is_damaged, first_of, refusals, steps_for, work_on, work_of}
use Rattle.model.specs.Histories.{recovered, shown}
use Rattle.model.specs.Laws.Lists.{and_right}
use Rattle.model.proofs.Laws.Chip.{size_facts}
use Rattle.model.proofs.Laws.Segments.{segments_length}
use Rattle.model.proofs.Laws.Tables.{agree_of, agree_trans}
use Rattle.model.proofs.Laws.Clean.{clean_state}
use Rattle.model.proofs.Laws.Exclusive.{exclusive}
use Rattle.model.proofs.Laws.Counted.{SameRows}
use Rattle.crash.specs.Sound.{SoundAs, Sound, Clean, former_in, former_shown, DoneWith}
use Rattle.crash.proofs.Requests.{recovered_clean, shown_clean, former_clean, sound_clean}
use Rattle.crash.specs.Alike.{Like, like_rows, like_clean, like_former}

-- ---- the cases

-- the test of a case, and the segments that its recovery leaves
unfoldable pub is_case : ℕ → ℕ → List Segment → Exception → Bool
is_case N B l case_a = is_a N B l
is_case N B l case_b = is_b N B l
is_case N B l case_c = is_c N B l
is_case N B l case_d = is_d N B l

unfoldable pub mended : ℕ → List Segment → Exception → List Segment
mended N l case_a = next_blanked N l
mended N l case_b = top_settled N l
mended N l case_c = torn_marked N l
mended N l case_d = older_marked N l

pub mended_clean : (N B : ℕ) (l : List Segment) (x : Exception) → is_case N B l x ≡ true → is_clean N B (mended N l x) ≡ true
unfolding is_case mended is_a is_b is_c is_d
mended_clean N B l case_a h = and_right (is_invalid (get_or l (next_index N l) blank)) (is_clean N B (next_blanked N l)) h
mended_clean N B l case_b h = and_right (eqb (used_count (top_settled N l)) (N - 1)) (is_clean N B (top_settled N l))
    (and_right (is_owing (get_or l (top_index N l) blank)) (eqb (used_count (top_settled N l)) (N - 1) && is_clean N B (top_settled N l)) h)
mended_clean N B l case_c h = and_right (is_torn (last_kind N l)) (is_clean N B (torn_marked N l)) h
mended_clean N B l case_d h = and_right (eqb (copies (last_block N l) (entries_in (view_of N l))) 2) (is_clean N B (older_marked N l))
    (and_right (ltb 0 (last_block N l)) (eqb (copies (last_block N l) (entries_in (view_of N l))) 2 && is_clean N B (older_marked N l)) h)

-- the first of five tests that passes
abbrev choice : Bool → Bool → Bool → Bool → Bool → State
choice p a b c d = cond p clean (cond a (unfinished case_a) (cond b (unfinished case_b) (cond c (unfinished case_c) (cond d (unfinished case_d) damaged))))

abbrev pick : Exception → Bool → Bool → Bool → Bool → Bool
pick case_a a b c d = a
pick case_b a b c d = b
pick case_c a b c d = c
pick case_d a b c d = d

pub case_of : (N B : ℕ) (l : List Segment) (x : Exception) → state_of N B l ≡ unfinished x → is_case N B l x ≡ true
unfolding state_of
case_of N B l x h = passed x ∙ go (is_clean N B l) (is_a N B l) (is_b N B l) (is_c N B l) (is_d N B l) h
  where
    passed : (y : Exception) → is_case N B l y ≡ pick y (is_a N B l) (is_b N B l) (is_c N B l) (is_d N B l)
    passed case_a = unfold is_case in refl
    passed case_b = unfold is_case in refl
    passed case_c = unfold is_case in refl
    passed case_d = unfold is_case in refl

    go : (p a b c d : Bool) → choice p a b c d ≡ unfinished x → pick x a b c d ≡ true
    go true a b c d e = cc
    go false true b c d e = let y : case_a ≡ x = cc in subst (λ w. pick w true b c d ≡ true) y refl
    go false false true c d e = let y : case_b ≡ x = cc in subst (λ w. pick w false true c d ≡ true) y refl
    go false false false true d e = let y : case_c ≡ x = cc in subst (λ w. pick w false false true d ≡ true) y refl
    go false false false false true e = let y : case_d ≡ x = cc in subst (λ w. pick w false false false true ≡ true) y refl
    go false false false false false e = cc

-- the cases exclude each other, so each is recognised by its test alone
abbrev passing : List Bool → ℕ
passing l = count (λ t. t) l

later : (t : Bool) (l : List Bool) → passing l ≤ passing (t ∷ l)
unfolding count
later true l = omega arith
later false l = omega arith

only_a : (p b c d : Bool) → passing (p ∷ true ∷ b ∷ c ∷ d ∷ []) ≤ 1 → choice p true b c d ≡ unfinished case_a
unfolding count
only_a true b c d n = absurd (omega arith)
only_a false b c d n = refl

only_b : (p a c d : Bool) → passing (p ∷ a ∷ true ∷ c ∷ d ∷ []) ≤ 1 → choice p a true c d ≡ unfinished case_b
unfolding count
only_b true a c d n = absurd (omega (arith, later a (true ∷ c ∷ d ∷ [])))
only_b false true c d n = absurd (omega arith)
only_b false false c d n = refl

only_c : (p a b d : Bool) → passing (p ∷ a ∷ b ∷ true ∷ d ∷ []) ≤ 1 → choice p a b true d ≡ unfinished case_c
unfolding count
only_c true a b d n = absurd (omega (arith, later a (b ∷ true ∷ d ∷ []), later b (true ∷ d ∷ [])))
only_c false true b d n = absurd (omega (arith, later b (true ∷ d ∷ [])))
only_c false false true d n = absurd (omega arith)
only_c false false false d n = refl

only_d : (p a b c : Bool) → passing (p ∷ a ∷ b ∷ c ∷ true ∷ []) ≤ 1 → choice p a b c true ≡ unfinished case_d
unfolding count
only_d true a b c n = absurd (omega (arith, later a (b ∷ c ∷ true ∷ []), later b (c ∷ true ∷ []), later c (true ∷ [])))
only_d false true b c n = absurd (omega (arith, later b (c ∷ true ∷ []), later c (true ∷ [])))
only_d false false true c n = absurd (omega (arith, later c (true ∷ [])))
only_d false false false true n = absurd (omega arith)
only_d false false false false n = refl

pub state_case : (N B : ℕ) (l : List Segment) (x : Exception) → length l ≡ N → is_case N B l x ≡ true → state_of N B l ≡ unfinished x
unfolding state_of is_case
state_case N B l case_a e h = rw h (only_a (is_clean N B l) (is_b N B l) (is_c N B l) (is_d N B l) (rw h at (exclusive N B l e)))
state_case N B l case_b e h = rw h (only_b (is_clean N B l) (is_a N B l) (is_c N B l) (is_d N B l) (rw h at (exclusive N B l e)))
state_case N B l case_c e h = rw h (only_c (is_clean N B l) (is_a N B l) (is_b N B l) (is_d N B l) (rw h at (exclusive N B l e)))
state_case N B l case_d e h = rw h (only_d (is_clean N B l) (is_a N B l) (is_b N B l) (is_c N B l) (rw h at (exclusive N B l e)))

-- ---- recovery

pub recover_steps_lem : (N B : ℕ) (s : Image) (x : Exception) → right_size N B s ≡ true → state N B s ≡ unfinished x → (work_of N B s recover).steps ≡ mend_steps N B (segments_of N B s) x
unfolding work_of work_on refusals first_of steps_for recover_steps is_damaged state
recover_steps_lem N B s x z e = rw (z, e)

pub recovered_run : (N B : ℕ) (s : Image) (x : Exception) → right_size N B s ≡ true → state N B s ≡ unfinished x → recovered N B s ≡ run B (mend_steps N B (segments_of N B s) x) s
unfolding recovered
recovered_run N B s x z e = ap (λ y. run B y s) (recover_steps_lem N B s x z e)

-- ---- what an image will show

-- sound, and a finished recovery shows this table, with version 1 or not
abbrev pub Shows : ℕ → ℕ → Image → Table → Bool → Type 0
Shows N B u t f = Sound N B u × Agree (shown N B u) t × (former_shown N B u ≡ f)

-- what a view holds
abbrev pub ShowsOf : ℕ → ℕ → Image → View → Type 0
ShowsOf N B u v = Shows N B u (entries_in v) (is_former v.version)

-- the view of the image that a finished recovery leaves
abbrev pub recovered_view : ℕ → ℕ → Image → View
recovered_view N B u = view N B (recovered N B u)

-- sound, and a finished recovery leaves the rows of this view, with version 1 or not
abbrev pub SoundWith : ℕ → ℕ → Image → View → Type 0
SoundWith N B u v = Sound N B u × SameRows (recovered_view N B u) v × (former_shown N B u ≡ is_former v.version)

-- what is promised of an image that a cut recovery left: a finished one leaves what it would have left
abbrev pub Kept : ℕ → ℕ → Image → Image → Type 0
Kept N B s u = SoundWith N B u (recovered_view N B s)

rows_sym : (v w : View) → SameRows v w → SameRows w v
rows_sym v w a = (sym a.0, sym a.1)

pub rows_trans : (v w x : View) → SameRows v w → SameRows w x → SameRows v x
rows_trans v w x a b = (a.0 ∙ b.0, a.1 ∙ b.1)

pub rows_table : (N B : ℕ) (u : Image) (v : View) → SameRows (recovered_view N B u) v → shown N B u ≡ entries_in v
unfolding shown table_of entries_in
rows_table N B u v r = ap (λ (y : List (List Slot)). entries (flatten y)) r.1

pub with_shows : (N B : ℕ) (u : Image) (v : View) → SoundWith N B u v → ShowsOf N B u v
with_shows N B u v r = (r.0, agree_of (shown N B u) (entries_in v) (rows_table N B u v r.1), r.2)

pub kept_shows : (N B : ℕ) (s u : Image) → Kept N B s u → Shows N B u (shown N B s) (former_shown N B s)
unfolding shown table_of
kept_shows N B s u k = with_shows N B u (recovered_view N B s) k

pub kept_same : (N B : ℕ) (s u : Image) → Sound N B s → u ≡ s → Kept N B s u
kept_same N B s u h e = subst (λ (y : Image). Kept N B s y) (sym e) (h, (refl, refl), refl)

-- of an image that keeps what another keeps, and so on
pub kept_with : (N B : ℕ) (s u : Image) (v : View) → SoundWith N B s v → Kept N B s u → SoundWith N B u v
kept_with N B s u v a b = (b.0, rows_trans (recovered_view N B u) (recovered_view N B s) v b.1 a.1, b.2 ∙ a.2)

-- a clean image with this table shows it
pub clean_shows : (N B : ℕ) (u : Image) (t : Table) (f : Bool) → DoneWith N B u t f → Shows N B u t f
clean_shows N B u t f d = (
  sound_clean N B u d.0,
  agree_trans (shown N B u) (table_of N B u) t (agree_of (shown N B u) (table_of N B u) (shown_clean N B u d.0)) d.1,
  former_clean N B u d.0 ∙ d.2,
)

-- the state, the table and the version are those of the segments
pub segments_state : (N B : ℕ) (s u : Image) (x : State) → segments_of N B u ≡ segments_of N B s → state N B s ≡ x → state N B u ≡ x
unfolding state
segments_state N B s u x e h = ap (λ y. state_of N B y) e ∙ h

pub table_in : (N B : ℕ) (s : Image) (l : List Segment) → segments_of N B s ≡ l → table_of N B s ≡ entries_in (view_of N l)
unfolding table_of view
table_in N B s l e = ap (λ (y : List Segment). entries_in (view_of N y)) e

pub former_in_lem : (N B : ℕ) (s : Image) (l : List Segment) → segments_of N B s ≡ l → former_in N B s ≡ is_former (top_version N l)
unfolding view view_of
former_in_lem N B s l e = ap (λ (y : List Segment). is_former (top_version N y)) e

-- a clean image is recovered as it is
pub clean_with : (N B : ℕ) (u : Image) (v : View) → Clean N B u → view N B u ≡ v → SoundWith N B u v
clean_with N B u v h e =
    let q : recovered_view N B u ≡ v = ap (λ y. view N B y) (recovered_clean N B u h) ∙ e in
    (sound_clean N B u h, (ap (λ (y : View). y.first) q, ap (λ (y : View). y.slots) q), ap (λ (y : View). is_former y.version) q)

-- an image has been recovered to the mended segments of the case, but for what was counted in the top
abbrev pub Mended : ℕ → ℕ → Image → Exception → Type 0
Mended N B s x = Like N (mended N (segments_of N B s) x) (segments_of N B (recovered N B s))

mended_length : (N : ℕ) (l : List Segment) (x : Exception) → length (mended N l x) ≡ length l
unfolding mended next_blanked top_settled torn_marked older_marked
mended_length N l case_a = length-set l (next_index N l) blank
mended_length N l case_b = length-set (set l (next_index N l) blank) (top_index N l) (settled (get_or l (top_index N l) blank)) ∙ length-set l (next_index N l) blank
mended_length N l case_c = length-set l (top_index N l) (with_slot (last_slot N l) cut (get_or l (top_index N l) blank))
mended_length N l case_d = let i = (older N l).number % N in length-set l i (with_slot (older N l).slot dead (get_or l i blank))

pub mended_inside : (N B : ℕ) (s : Image) (x : Exception) → right_size N B s ≡ true → top_index N (mended N (segments_of N B s) x) < length (mended N (segments_of N B s) x)
unfolding top_index
mended_inside N B s x z =
    let m = mended N (segments_of N B s) x in
    let p : 0 < N = omega (arith, (size_facts N B s z).two) in
    omega (arith, mod-lt (next_number m - 1) p, mended_length N (segments_of N B s) x, segments_length N B s)

module _ (N B : ℕ) (s : Image) (x : Exception) (z : right_size N B s ≡ true) (e : state N B s ≡ unfinished x) (m : Mended N B s x) where
  abbrev mends : List Segment
  mends = mended N (segments_of N B s) x

  inside : top_index N mends < length mends
  inside = mended_inside N B s x z

  pub mended_rows : SameRows (recovered_view N B s) (view_of N (mended N (segments_of N B s) x))
  unfolding view
  mended_rows = like_rows N mends (segments_of N B (recovered N B s)) m inside

  pub mended_shown : shown N B s ≡ entries_in (view_of N (mended N (segments_of N B s) x))
  mended_shown = rows_table N B s (view_of N mends) mended_rows

  pub mended_former : former_shown N B s ≡ is_former (top_version N (mended N (segments_of N B s) x))
  mended_former = former_in_lem N B (recovered N B s) (segments_of N B (recovered N B s)) refl ∙ like_former N mends (segments_of N B (recovered N B s)) m inside

  -- an image with the mended segments is clean, and has the same rows
  clean_like : (u : Image) → Like N (mended N (segments_of N B s) x) (segments_of N B u) → Clean N B u
  unfolding state
  clean_like u q = clean_state N B (segments_of N B u) (like_clean N mends (segments_of N B u) q inside B ∙ mended_clean N B (segments_of N B s) x (case_of N B (segments_of N B s) x e))

  pub kept_clean : (u : Image) → Like N (mended N (segments_of N B s) x) (segments_of N B u) → Kept N B s u
  kept_clean u q =
      let r = clean_with N B u (view N B u) (clean_like u q) refl in
      let rows : SameRows (view N B u) (view_of N mends) = (unfold view in like_rows N mends (segments_of N B u) q inside) in (
        r.0,
        rows_trans (recovered_view N B u) (view N B u) (recovered_view N B s) r.1 (rows_trans (view N B u) (view_of N mends) (recovered_view N B s) rows (rows_sym (recovered_view N B s) (view_of N mends) mended_rows)),
        r.2 ∙ (former_in_lem N B u (segments_of N B u) refl ∙ (like_former N mends (segments_of N B u) q inside ∙ sym mended_former)),
      )

  pub done : Clean N B (recovered N B s)
  done = clean_like (recovered N B s) m

-- an image in the same case with the same mended segments, but for what was counted, is recovered to the same rows
pub kept_case : (N B : ℕ) (s u : Image) (x : Exception) → right_size N B s ≡ true → right_size N B u ≡ true → state N B s ≡ unfinished x → Mended N B s x → state N B u ≡ unfinished x → Mended N B u x
    → Like N (mended N (segments_of N B s) x) (mended N (segments_of N B u) x) → SoundAs N B u (segments_of N B u) (unfinished x) → Kept N B s u
kept_case N B s u x z zu e m f n q h =
    let ms = mended N (segments_of N B s) x in
    let mu = mended N (segments_of N B u) x in (
      subst (λ y. SoundAs N B u (segments_of N B u) y) (sym f) h,
      rows_trans (recovered_view N B u) (view_of N mu) (recovered_view N B s) (mended_rows N B u x zu f n)
          (rows_trans (view_of N mu) (view_of N ms) (recovered_view N B s) (like_rows N ms mu q (mended_inside N B s x z)) (rows_sym (recovered_view N B s) (view_of N ms) (mended_rows N B s x z e m))),
      mended_former N B u x zu f n ∙ (like_former N ms mu q (mended_inside N B s x z) ∙ sym (mended_former N B s x z e m)),
    )
