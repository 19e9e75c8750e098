-- Segments as they are shown.
use Prim.Native.Nat.{ℕ, suc, ◌+◌, ◌-◌, ◌%◌, ◌<◌}
use mathlib.Core.Path.{◌≡◌, refl, sym, ap, ap₂, ◌∙◌}
use mathlib.Core.Bool.{Bool, true, false, cond, ◌||◌, ◌&&◌, not, false≢true}
use mathlib.Core.List.{List, [], ◌∷◌, map}
use native.Mathlib.Omega.{arith}
use native.Mathlib.Nat.{mod-lt}
use lib.ListN.{length, get_or, take, set}
use lib.Seq.{take-set-lt, map-set_same}
use lib.Dec.{eqb}
use Rattle.model.specs.Header.{erase_pending, compacted}
use Rattle.model.specs.State.{Segment, blank, invalid, in_use, is_in_use, is_invalid, is_owing, number_after, next_number, next_index, top_index, used_count, is_clean, top_settled, is_a, is_b, is_c, is_d, state_of, State, clean, unfinished, damaged, case_a, case_b, case_c, case_d}
use Rattle.model.specs.Laws.Lists.{and_left, map_set}
use Rattle.model.proofs.Laws.Ring.{next_ge}
use Rattle.judge.specs.Heads.{outline, state_seen}
use Rattle.judge.specs.declared.SegmentState.TheVariants.{Invalid, InUse, Owing}
use Rattle.scan.specs.Surveys.{mend_in, survey_in, survey_of}
use Rattle.account_text.specs.Account.{unseen, shown_in, shown}
use Rattle.index.specs.declared.Shown.{Shown}
use Rattle.index.specs.Shows.{no_counts, shown_as, uncounted, after_by, after_shown}
use Rattle.listing.specs.Walk.{hidden}

-- ---- uncounted

pub outline_uncounted : (x : Segment) → uncounted (outline x) ≡ uncounted x
unfolding outline uncounted state_seen
outline_uncounted blank = refl
outline_uncounted invalid = refl
outline_uncounted (in_use ver st n ks) = go (eqb st erase_pending)
  where
    go : (t : Bool) → shown_as (cond (eqb (cond t erase_pending compacted) erase_pending) Owing InUse) n no_counts ≡ shown_as (cond t Owing InUse) n no_counts
    go true = refl
    go false = refl

pub uncounted_after : (x : Segment) → after_shown (uncounted x) ≡ number_after x
unfolding after_shown after_by uncounted shown_as number_after state_seen
uncounted_after blank = refl
uncounted_after invalid = refl
uncounted_after (in_use ver st n ks) = go (eqb st erase_pending)
  where
    go : (t : Bool) → after_by (cond t Owing InUse) n ≡ suc n
    go true = refl
    go false = refl

pub uncounted_all : (l : List Segment) → map after_shown (map uncounted l) ≡ map number_after l
uncounted_all [] = refl
uncounted_all (x ∷ l) = ap₂ {C = List ℕ} (λ a b. a ∷ b) (uncounted_after x) (uncounted_all l)

-- ---- as the survey shows it

-- (b) has a top
abbrev by_b : State → Bool
by_b clean = false
by_b (unfinished case_a) = false
by_b (unfinished case_b) = true
by_b (unfinished case_c) = false
by_b (unfinished case_d) = false
by_b damaged = false

owing_some : (x : Segment) → is_owing x ≡ true → 0 < number_after x
unfolding is_owing number_after
owing_some blank h = absurd (false≢true h)
owing_some invalid h = absurd (false≢true h)
owing_some (in_use ver st n ks) h = omega arith

some_b : (N B : ℕ) (l : List Segment) → state_of N B l ≡ unfinished case_b → 0 < next_number l
unfolding state_of
some_b N B l e = go (is_clean N B l) (is_a N B l) (is_b N B l) (is_c N B l) (is_d N B l) refl (ap by_b e)
  where
    top : is_b N B l ≡ true → 0 < next_number l
    top h =
        let x = get_or l (top_index N l) blank in
        let o = owing_some x (and_left (is_owing x) (eqb (used_count (top_settled N l)) (N - 1) && is_clean N B (top_settled N l)) (unfold is_b in h)) in
        let g = next_ge l (top_index N l) in
        omega arith

    go : (c a b q d : Bool) → is_b N B l ≡ b → by_b (cond c clean (cond a (unfinished case_a) (cond b (unfinished case_b) (cond q (unfinished case_c) (cond d (unfinished case_d) damaged))))) ≡ true → 0 < next_number l
    go true a b q d z h = absurd (false≢true h)
    go false true b q d z h = absurd (false≢true h)
    go false false true q d z h = top z
    go false false false true d z h = absurd (false≢true h)
    go false false false false true z h = absurd (false≢true h)
    go false false false false false z h = absurd (false≢true h)

-- in (b) the segment after the top is torn, unless it is blank
unseen_shown : (x : Segment) → uncounted (unseen x) ≡ cond (not (is_in_use x || is_invalid x)) (uncounted x) (shown_as Invalid 0 no_counts)
unfolding unseen uncounted is_in_use is_invalid
unseen_shown blank = refl
unseen_shown invalid = refl
unseen_shown (in_use ver st n ks) = refl

pub hidden_shown : (N B : ℕ) (l : List Segment) (table : List Shown) → 0 < N → length l ≡ N → take N table ≡ map uncounted l → take N (hidden (survey_of N B l) N table) ≡ map uncounted (shown N B l)
unfolding survey_of shown
hidden_shown N B l table p z e = go (state_of N B l) refl
  where
    torn : (t : Bool) → t ≡ not (is_in_use (get_or l (next_index N l) blank) || is_invalid (get_or l (next_index N l) blank))
        → take N (cond t table (set table (next_index N l) (shown_as Invalid 0 no_counts))) ≡ map uncounted (set l (next_index N l) (unseen (get_or l (next_index N l) blank)))
    torn true q = e ∙ (sym (map-set_same uncounted l (next_index N l) (unseen (get_or l (next_index N l) blank)) blank
        (unseen_shown (get_or l (next_index N l) blank) ∙ ap (λ (b : Bool). cond b (uncounted (get_or l (next_index N l) blank)) (shown_as Invalid 0 no_counts)) (sym q))))
    torn false q = take-set-lt N table (next_index N l) (shown_as Invalid 0 no_counts) (unfold next_index in (mod-lt (next_number l) p))
        ∙ (ap (λ (y : List Shown). set y (next_index N l) (shown_as Invalid 0 no_counts)) e
        ∙ sym (map_set uncounted l (next_index N l) (unseen (get_or l (next_index N l) blank))
        ∙ ap (set (map uncounted l) (next_index N l)) (unseen_shown (get_or l (next_index N l) blank) ∙ ap (λ (b : Bool). cond b (uncounted (get_or l (next_index N l) blank)) (shown_as Invalid 0 no_counts)) (sym q))))

    after : state_of N B l ≡ unfinished case_b → take N (cond (not (is_in_use (get_or l (next_index N l) blank) || is_invalid (get_or l (next_index N l) blank))) table (set table ((next_number l - 1 + 1) % N) (shown_as Invalid 0 no_counts)))
        ≡ map uncounted (set l (next_index N l) (unseen (get_or l (next_index N l) blank)))
    after w =
        let k = some_b N B l w in
        let m : next_number l - 1 + 1 ≡ next_number l = omega arith in
        let n : (next_number l - 1 + 1) % N ≡ next_index N l = ap (λ (y : ℕ). y % N) m ∙ (unfold next_index in refl) in
        rw n (torn (not (is_in_use (get_or l (next_index N l) blank) || is_invalid (get_or l (next_index N l) blank))) refl)

    go : (st : State) → state_of N B l ≡ st → take N (hidden (survey_in N B l st) N table) ≡ map uncounted (shown_in N l st)
    go clean w = unfold survey_in hidden shown_in in e
    go (unfinished case_a) w = unfold survey_in mend_in hidden shown_in in e
    go (unfinished case_b) w = unfold survey_in mend_in hidden shown_in in (after w)
    go (unfinished case_c) w = unfold survey_in mend_in hidden shown_in in e
    go (unfinished case_d) w = unfold survey_in mend_in hidden shown_in in e
    go damaged w = unfold survey_in hidden shown_in in e
