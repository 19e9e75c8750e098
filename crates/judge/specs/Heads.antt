-- What a summary tells of a segment's header: the segment without its slots and its tally. The frame needs no more.
use Rattle.std.specs.Prelude.{ℕ, zero, suc, ◌+◌, ◌-◌, ◌%◌, max, ◌≡◌, refl, Bool, true, false, cond, ◌||◌, ◌&&◌, not, List, [], ◌∷◌, map, get_or, take, ltb, eqb}
use Rattle.std.proofs.Common.{sym, ap, ap₂, ◌∙◌}
use Rattle.std.proofs.Math.ListN.{get_or-map}
use Rattle.model.specs.Lists.{all, count}
use Rattle.model.specs.Header.{erase_pending, compacted, Version, version1, version2, version_number, is_former}
use Rattle.model.specs.State.{Segment, blank, invalid, in_use, is_in_use, is_invalid, is_owing, number_after, of_version, next_number, top_index, next_index, used_count, first_number, some_in_use, numbers_from, consecutive, one_version, none_owing, others_blank, next_blanked, settled, top_settled}
use Rattle.model.specs.Laws.Lists.{map_set}
use Rattle.judge.specs.declared.SegmentState.{SegmentState}
use Rattle.judge.specs.declared.SegmentState.TheVariants.{Blank, Invalid, InUse, Owing}
use Rattle.judge.specs.declared.Summary.{Summary}
use Rattle.judge.specs.declared.HeaderCounts.{HeaderCounts}
use Rattle.judge.specs.declared.Headers.{Headers}
use Rattle.judge.specs.declared.Frame.{Frame}
use Rattle.judge.specs.Cases.{frame}

-- a version without its tally
unfoldable pub bare_version : Bool → Version
bare_version true = version1
bare_version false = version2 0 []

-- the segment that a state, whether it is of version 1, and a number stand for, its slots left out
unfoldable pub bare_of : SegmentState → Bool → ℕ → Segment
bare_of Blank t n = blank
bare_of Invalid t n = invalid
bare_of InUse t n = in_use (bare_version t) compacted n []
bare_of Owing t n = in_use (bare_version t) erase_pending n []

unfoldable pub bare : Summary → Segment
bare s = bare_of s.state s.former s.number.0

-- a segment as a summary shows it
unfoldable pub outline : Segment → Segment
outline blank = blank
outline invalid = invalid
outline (in_use ver st n ks) = in_use (bare_version (is_former ver)) (cond (eqb st erase_pending) erase_pending compacted) n []

-- ---- what the frame looks at is kept

outline_number : (x : Segment) → number_after (outline x) ≡ number_after x
unfolding outline number_after
outline_number blank = refl
outline_number invalid = refl
outline_number (in_use ver st n ks) = refl

outline_use : (x : Segment) → is_in_use (outline x) ≡ is_in_use x
unfolding outline is_in_use
outline_use blank = refl
outline_use invalid = refl
outline_use (in_use ver st n ks) = refl

outline_invalid : (x : Segment) → is_invalid (outline x) ≡ is_invalid x
unfolding outline is_invalid
outline_invalid blank = refl
outline_invalid invalid = refl
outline_invalid (in_use ver st n ks) = refl

outline_owing : (x : Segment) → is_owing (outline x) ≡ is_owing x
unfolding outline is_owing
outline_owing blank = refl
outline_owing invalid = refl
outline_owing (in_use ver st n ks) = go (eqb st erase_pending)
  where
    go : (t : Bool) → eqb (cond t erase_pending compacted) erase_pending ≡ t
    go true = refl
    go false = refl

outline_of : (k : ℕ) (x : Segment) → of_version k (outline x) ≡ of_version k x
unfolding outline of_version version_number is_former bare_version
outline_of k blank = refl
outline_of k invalid = refl
outline_of k (in_use version1 st n ks) = refl
outline_of k (in_use (version2 total bits) st n ks) = refl

outline_settled : (x : Segment) → settled (outline x) ≡ outline (settled x)
unfolding outline settled
outline_settled blank = refl
outline_settled invalid = refl
outline_settled (in_use ver st n ks) = refl

pub outline_get : (l : List Segment) (i : ℕ) → get_or (map outline l) i blank ≡ outline (get_or l i blank)
unfolding outline
outline_get l i = get_or-map outline l i blank

pub outline_next : (l : List Segment) → next_number (map outline l) ≡ next_number l
unfolding next_number
outline_next [] = refl
outline_next (x ∷ l) = ap₂ (λ (a b : ℕ). max a b) (outline_number x) (outline_next l)

count_map : {A : Type 0} (f : A → Bool) (g : A → A) → ((x : A) → f (g x) ≡ f x) → (l : List A) → count f (map g l) ≡ count f l
unfolding count
count_map f g h [] = refl
count_map f g h (x ∷ l) = ap₂ (λ (t : Bool) (n : ℕ). cond t (suc n) n) (h x) (count_map f g h l)

all_map : {A : Type 0} (f : A → Bool) (g : A → A) → ((x : A) → f (g x) ≡ f x) → (l : List A) → all f (map g l) ≡ all f l
unfolding all
all_map f g h [] = refl
all_map f g h (x ∷ l) = ap₂ (λ (s t : Bool). s && t) (h x) (all_map f g h l)

pub outline_used : (l : List Segment) → used_count (map outline l) ≡ used_count l
unfolding used_count
outline_used l = count_map is_in_use outline outline_use l

outline_numbers : (N : ℕ) (l : List Segment) (u n : ℕ) → numbers_from N (map outline l) u n ≡ numbers_from N l u n
unfolding numbers_from
outline_numbers N l zero n = refl
outline_numbers N l (suc u) n = ap₂ (λ (a : ℕ) (t : Bool). eqb a (suc n) && t) (ap number_after (outline_get l (n % N)) ∙ outline_number (get_or l (n % N) blank)) (outline_numbers N l u (suc n))

pub outline_first : (l : List Segment) → first_number (map outline l) ≡ first_number l
unfolding first_number
outline_first l = rw (outline_next l, outline_used l)

pub outline_frame : (N : ℕ) (l : List Segment) → frame N (map outline l) ≡ frame N l
unfolding frame some_in_use consecutive one_version none_owing others_blank
outline_frame N l = rw (
  outline_used l,
  outline_first l,
  outline_numbers N l (used_count l) (first_number l),
  all_map (λ x. of_version 1 x) outline (λ x. outline_of 1 x) l,
  all_map (λ x. of_version 2 x) outline (λ x. outline_of 2 x) l,
  all_map (λ x. not (is_owing x)) outline (λ x. ap not (outline_owing x)) l,
  all_map (λ x. not (is_invalid x)) outline (λ x. ap not (outline_invalid x)) l,
)

-- ---- the top, and the segment after it

pub outline_top : (N : ℕ) (l : List Segment) → is_owing (get_or (map outline l) (top_index N (map outline l)) blank) ≡ is_owing (get_or l (top_index N l) blank)
unfolding top_index
outline_top N l = rw (outline_next l, outline_get l ((next_number l - 1) % N)) (outline_owing (get_or l ((next_number l - 1) % N) blank))

pub outline_after : (N : ℕ) (l : List Segment) → is_invalid (get_or (map outline l) (next_index N (map outline l)) blank) ≡ is_invalid (get_or l (next_index N l) blank)
unfolding next_index
outline_after N l = rw (outline_next l, outline_get l (next_number l % N)) (outline_invalid (get_or l (next_number l % N) blank))

pub outline_after_use : (N : ℕ) (l : List Segment) → is_in_use (get_or (map outline l) (next_index N (map outline l)) blank) ≡ is_in_use (get_or l (next_index N l) blank)
unfolding next_index
outline_after_use N l = rw (outline_next l, outline_get l (next_number l % N)) (outline_use (get_or l (next_number l % N) blank))

pub outline_blanked : (N : ℕ) (l : List Segment) → next_blanked N (map outline l) ≡ map outline (next_blanked N l)
unfolding next_blanked next_index outline
outline_blanked N l = rw (outline_next l) (sym (map_set outline l (next_number l % N) blank))

pub outline_settled_top : (N : ℕ) (l : List Segment) → top_settled N (map outline l) ≡ map outline (top_settled N l)
unfolding top_settled top_index
outline_settled_top N l = rw (outline_blanked N l, outline_next l, outline_get l ((next_number l - 1) % N), outline_settled (get_or l ((next_number l - 1) % N) blank))
    (sym (map_set outline (next_blanked N l) ((next_number l - 1) % N) (settled (get_or l ((next_number l - 1) % N) blank))))

-- ---- of a table of summaries

-- the segments that the first N summaries show
unfoldable pub heads : ℕ → List Summary → List Segment
heads N table = map bare (take N table)

-- the state of a segment in use, by its status
unfoldable pub state_seen : ℕ → SegmentState
state_seen st = cond (eqb st erase_pending) Owing InUse

-- ---- counted

-- none owing, all that are not in use blank
unfoldable pub all_settled : List Segment → Bool
all_settled l = none_owing l && others_blank l

unfoldable pub counts_of : List Segment → HeaderCounts
counts_of l = record { next = next_number l; used = used_count l; settled = all_settled l; all_version_1 = all (λ x. of_version 1 x) l; all_version_2 = all (λ x. of_version 2 x) l }

unfoldable pub no_counts : HeaderCounts
no_counts = record { next = 0; used = 0; settled = true; all_version_1 = true; all_version_2 = true }

-- one segment more
unfoldable pub count_one : HeaderCounts → Segment → HeaderCounts
count_one c x = record {
  next = max c.next (number_after x);
  used = cond (is_in_use x) (c.used + 1) c.used;
  settled = c.settled && (not (is_owing x) && not (is_invalid x));
  all_version_1 = c.all_version_1 && of_version 1 x;
  all_version_2 = c.all_version_2 && of_version 2 x;
}

-- what conditions 1 to 4 ask of the counts: some in use, not all, of one version, none owing and all others blank
unfoldable pub may_be_fine : ℕ → HeaderCounts → Bool
may_be_fine N c = ltb 0 c.used && (ltb c.used N && ((c.all_version_1 || c.all_version_2) && c.settled))

-- the segments in use: the smallest number, how many, and whether conditions 1 to 4 hold
unfoldable pub frame_of : ℕ → List Segment → Frame
frame_of N l = record { first = first_number l; used = used_count l; fine = frame N l }

outline_frame_of : (N : ℕ) (l : List Segment) → frame_of N (map outline l) ≡ frame_of N l
unfolding frame_of
outline_frame_of N l = rw (outline_first l, outline_used l, outline_frame N l)

-- ---- all that the headers tell

-- (b) or (a) mended, if the headers show it: an owing top settled and the segment after it taken for blank, or else a torn segment after the top
unfoldable pub heads_mended : ℕ → List Segment → List Segment
heads_mended N l = cond (is_owing (get_or l (top_index N l) blank)) (top_settled N l) (cond (is_invalid (get_or l (next_index N l) blank)) (next_blanked N l) l)

-- of the number after the top's, the top, the segment after it, and the frame
unfoldable pub headers_by : ℕ → Segment → Segment → Frame → Headers
headers_by next top after f = record { next = next; owing = is_owing top; torn = is_invalid after; blank = not (is_in_use after || is_invalid after); frame = f }

unfoldable pub headers_of : ℕ → List Segment → Headers
headers_of N l = headers_by (next_number l) (get_or l (top_index N l) blank) (get_or l (next_index N l) blank) (frame_of N (heads_mended N l))

outline_mended : (N : ℕ) (l : List Segment) → heads_mended N (map outline l) ≡ map outline (heads_mended N l)
unfolding heads_mended
outline_mended N l = rw (outline_top N l, outline_after N l, outline_settled_top N l, outline_blanked N l) (go (is_owing (get_or l (top_index N l) blank)) (is_invalid (get_or l (next_index N l) blank)))
  where
    go : (s t : Bool) → cond s (map outline (top_settled N l)) (cond t (map outline (next_blanked N l)) (map outline l)) ≡ map outline (cond s (top_settled N l) (cond t (next_blanked N l) l))
    go true t = refl
    go false true = refl
    go false false = refl

-- it does not look at slots
pub outline_headers : (N : ℕ) (l : List Segment) → headers_of N (map outline l) ≡ headers_of N l
unfolding headers_of headers_by
outline_headers N l = rw (outline_next l, outline_top N l, outline_after N l, outline_after_use N l, outline_mended N l, outline_frame_of N (heads_mended N l))
