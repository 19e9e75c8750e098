-- Laws of the blank test: bytes joined by `&`; bytes split in two; groups of eight before the first that differs.
use Prim.Native.Nat.{ℕ, zero, suc, ◌+◌, ◌-◌, ◌*◌, ◌/◌, ◌%◌, ◌≤◌, ◌<◌, min}
use mathlib.Core.Path.{◌≡◌, refl, sym, ap, ◌∙◌}
use mathlib.Core.Logic.{◌⊎◌, inl, inr, ⊎_elim}
use mathlib.Core.Bool.{Bool, true, false, cond, ◌&&◌, and-true, and_assoc, false≢true}
use mathlib.Core.List.{List, [], ◌∷◌, ◌++◌}
use native.Mathlib.Decide.{dec_lt}
use native.Mathlib.Nat.{zero-add, add_comm, suc-mul, mod-eq_of_lt, min-eq_left, min-eq_right}
use native.Mathlib.Numerals.{add-one}
use native.Mathlib.Omega.{arith}
use lib.ListN.{length, get_or, take, drop, take-append-drop, length-drop, drop_of_length-le}
use lib.Bits.{bit_and, and_comm, and_mask, and_le_l}
use lib.Dec.{eqb}
use lib.Seq.{length-take-le, take-suc, take_all, take-append-le, drop-append-le, take-take, take-add, drop-drop}
use borrow.Author.Tests.{eq-eqb, ne_eqb}
use Rattle.model.specs.Lists.{same, chunk}
use Rattle.model.specs.Laws.Lists.{and_left, and_right}
use Rattle.model.specs.Laws.Chunk.{chunk_length}
use Rattle.blank.specs.Leading.{leading_blank}
use Rattle.model.specs.Chip.{erased}
use Rattle.model.specs.Header.{is_blank}
use Rattle.model.specs.Blank.{groups_of, looked_at, blank_groups}

-- ---- bytes joined by `&`

and_255 : (a b : ℕ) → a < 256 → b < 256 → eqb (bit_and a b) 255 ≡ (eqb a 255 && eqb b 255)
and_255 a b h k = elim (dec_lt a 255) [ yes l ↦ less l | no l ↦ all (omega arith) ]
  where
    all : a ≡ 255 → eqb (bit_and a b) 255 ≡ (eqb a 255 && eqb b 255)
    all e =
        let f : bit_and 255 b ≡ b = and_comm 255 b ∙ and_mask b 8 ∙ mod-eq_of_lt k in
        rw (e, f)

    less : a < 255 → eqb (bit_and a b) 255 ≡ (eqb a 255 && eqb b 255)
    less l = rw (ne_eqb a 255 (λ q. omega arith), ne_eqb (bit_and a b) 255 (λ q. omega (arith, and_le_l a b)))

blank_append : (s t : List ℕ) → is_blank (s ++ t) ≡ (is_blank s && is_blank t)
unfolding is_blank
blank_append [] t = refl
blank_append (x ∷ s) t =
    ap (λ (b : Bool). eqb x 255 && b) (blank_append s t) ∙ sym (and_assoc (eqb x 255) (is_blank s) (is_blank t))

-- one byte more of those that are joined
pub joined_turn : (a i : ℕ) (s : List ℕ) → a < 256 → i < length s → get_or s i 0 < 256 → eqb a 255 ≡ is_blank (take i s) → eqb (bit_and a (get_or s i 0)) 255 ≡ is_blank (take (i + 1) s)
unfolding is_blank
joined_turn a i s h k l e =
    rw (add-one, take-suc s i 0 k, blank_append (take i s) (get_or s i 0 ∷ []), ← e, and-true) (and_255 a (get_or s i 0) h l)

pub joined_less : (a b : ℕ) → a < 256 → bit_and a b < 256
joined_less a b h = omega (arith, and_le_l a b)

-- eight bytes
pub group_joined : (s : List ℕ) → length s ≡ 8 → ((i : ℕ) → get_or s i 0 < 256)
    → eqb (bit_and (bit_and (bit_and (bit_and (bit_and (bit_and (bit_and (get_or s 0 0) (get_or s 1 0)) (get_or s 2 0)) (get_or s 3 0)) (get_or s 4 0)) (get_or s 5 0)) (get_or s 6 0)) (get_or s 7 0)) 255 ≡ is_blank s
unfolding is_blank
group_joined s l known =
    let e₁ : eqb (get_or s 0 0) 255 ≡ is_blank (take 1 s) = rw (take-suc s 0 0 (omega arith)) (sym (and-true (eqb (get_or s 0 0) 255))) in
    let e₂ = joined_turn _ 1 s (known 0) (omega arith) (known 1) e₁ in
    let a₂ = joined_less _ (get_or s 1 0) (known 0) in
    let e₃ = joined_turn _ 2 s a₂ (omega arith) (known 2) e₂ in
    let a₃ = joined_less _ (get_or s 2 0) a₂ in
    let e₄ = joined_turn _ 3 s a₃ (omega arith) (known 3) e₃ in
    let a₄ = joined_less _ (get_or s 3 0) a₃ in
    let e₅ = joined_turn _ 4 s a₄ (omega arith) (known 4) e₄ in
    let a₅ = joined_less _ (get_or s 4 0) a₄ in
    let e₆ = joined_turn _ 5 s a₅ (omega arith) (known 5) e₅ in
    let a₆ = joined_less _ (get_or s 5 0) a₅ in
    let e₇ = joined_turn _ 6 s a₆ (omega arith) (known 6) e₆ in
    joined_turn _ 7 s (joined_less _ (get_or s 6 0) a₆) (omega arith) (known 7) e₇ ∙ ap is_blank (take_all 8 s (omega arith))

-- bytes compared with erased ones
pub same_erased : (s : List ℕ) → same s (erased (length s)) ≡ is_blank s
unfolding same erased is_blank
same_erased [] = refl
same_erased (x ∷ s) = ap (λ (b : Bool). eqb x 255 && b) (same_erased s)

-- ---- bytes split in two

blank_split : (i : ℕ) (s : List ℕ) → is_blank s ≡ (is_blank (take i s) && is_blank (drop i s))
blank_split i s = ap is_blank (sym (take-append-drop i s)) ∙ blank_append (take i s) (drop i s)

blank_two : (n m : ℕ) (s : List ℕ) → is_blank (take (n + m) s) ≡ (is_blank (take n s) && is_blank (take m (drop n s)))
blank_two n m s = ap is_blank (take-add n m s) ∙ blank_append (take n s) (take m (drop n s))

-- blank up to a place: all turns on what follows it, and it is blank up to any place before
blank_rest : (i : ℕ) (s : List ℕ) → is_blank (take i s) ≡ true → is_blank s ≡ is_blank (drop i s)
blank_rest i s e = blank_split i s ∙ ap (λ (b : Bool). b && is_blank (drop i s)) e

blank_shorter : (i j : ℕ) (s : List ℕ) → i ≤ j → is_blank (take j s) ≡ true → is_blank (take i s) ≡ true
blank_shorter i j s h e =
    let k : i + (j - i) ≡ j = omega arith in
    and_left (is_blank (take i s)) (is_blank (take (j - i) (drop i s))) (sym (blank_two i (j - i) s) ∙ rw k e)

-- ---- groups

groups_next : (s : List ℕ) → 0 < length s → blank_groups s ≡ suc (cond (is_blank (take 8 s)) (blank_groups (drop 8 s)) 0)
unfolding blank_groups groups_of looked_at chunk
groups_next s h =
    let e : (length s + 7) / 8 ≡ suc ((length (drop 8 s) + 7) / 8) = rw length-drop (omega arith) in
    rw e

-- behind whole groups that are blank
groups_behind : (k : ℕ) (s : List ℕ) → k * 8 ≤ length s → is_blank (take (k * 8) s) ≡ true → blank_groups s ≡ k + blank_groups (drop (k * 8) s)
groups_behind zero s h e = sym (zero-add (blank_groups s))
groups_behind (suc k) s h e =
    let l : suc k * 8 ≡ 8 + k * 8 = omega arith in
    let two : (is_blank (take 8 s) && is_blank (take (k * 8) (drop 8 s))) ≡ true = sym (blank_two 8 (k * 8) s) ∙ rw (← l) e in
    let one : is_blank (take 8 s) ≡ true = and_left (is_blank (take 8 s)) (is_blank (take (k * 8) (drop 8 s))) two in
    let more = groups_behind k (drop 8 s) (omega (arith, length-drop 8 s)) (and_right (is_blank (take 8 s)) (is_blank (take (k * 8) (drop 8 s))) two) in
    groups_next s (omega arith) ∙ rw (one, more, drop-drop, l) (omega arith)

-- ---- parts before the first that differs

-- a part that is looked at, as it is lent
part_is : (at z : ℕ) (s : List ℕ) → take (at + z - at) (drop at s) ≡ take z (drop at s)
part_is at z s = let n : at + z - at ≡ z = omega arith in rw n

-- of c parts of z bytes the first k are blank, and the next is not, or there is none
pub record Leading (z c : ℕ) (s : List ℕ) (k : ℕ) : Type 0 where
  pub within : k ≤ c
  pub blank : is_blank (take (k * z) s) ≡ true
  pub stops : (k ≡ c) ⊎ (is_blank (take z (drop (k * z) s)) ≡ false)

-- so many parts come before the first that differs
abbrev pub Leads : ℕ → ℕ → List ℕ → ℕ → Type 0
Leads z c s k = k ≡ leading_blank (chunk c z s)

pub no_part : (z : ℕ) (s : List ℕ) → is_blank (take (0 * z) s) ≡ true
unfolding is_blank
no_part z s = let e : 0 * z ≡ 0 = omega arith in rw e

-- the two say the same
leading_is : (z c : ℕ) (s : List ℕ) (k : ℕ) → Leading z c s k → Leads z c s k
unfolding leading_blank chunk
leading_is z zero s k d = omega (arith, d.within)
leading_is z (suc c) s zero d = ⊎_elim (λ e. absurd (omega arith)) (λ e. rw (first e)) d.stops
  where
    first : is_blank (take z (drop (0 * z) s)) ≡ false → is_blank (take z s) ≡ false
    first e = let n : 0 * z ≡ 0 = omega arith in rw n at e
leading_is z (suc c) s (suc k) d =
    let n : suc k * z ≡ z + k * z = suc-mul k z ∙ add_comm (k * z) z in
    let two : (is_blank (take z s) && is_blank (take (k * z) (drop z s))) ≡ true = sym (blank_two z (k * z) s) ∙ rw (← n) d.blank in
    let one : is_blank (take z s) ≡ true = and_left (is_blank (take z s)) (is_blank (take (k * z) (drop z s))) two in
    let more : Leading z c (drop z s) k = record {
      within = omega (arith, d.within);
      blank = and_right (is_blank (take z s)) (is_blank (take (k * z) (drop z s))) two;
      stops = ⊎_elim (λ e. inl (omega arith)) (λ e. inr (rw (drop-drop (k * z) z s, ← n) e)) d.stops;
    } in
    rw one (ap suc (leading_is z c (drop z s) k more))

grow : (z c : ℕ) (s : List ℕ) (b : Bool) (r : ℕ) → is_blank (take z s) ≡ b → Leading z c (drop z s) r → Leading z (suc c) s (cond b (suc r) 0)
grow z c s false r f d = let n : 0 * z ≡ 0 = omega arith in record { within = omega arith; blank = no_part z s; stops = inr (rw n f) }
grow z c s true r f d =
    let n : suc r * z ≡ z + r * z = suc-mul r z ∙ add_comm (r * z) z in
    record {
      within = omega (arith, d.within);
      blank = rw (n, blank_two z (r * z) s, f) d.blank;
      stops = ⊎_elim (λ e. inl (ap suc e)) (λ e. inr (rw (n, ← drop-drop (r * z) z s) e)) d.stops;
    }

pub leads : (z c : ℕ) (s : List ℕ) (k : ℕ) → Leads z c s k → Leading z c s k
unfolding leading_blank chunk
leads z zero s k e = rw e (record { within = omega arith; blank = no_part z s; stops = inl refl })
leads z (suc c) s k e = rw e (grow z c s (is_blank (take z s)) (leading_blank (chunk c z (drop z s))) refl (leads z c (drop z s) (leading_blank (chunk c z (drop z s))) refl))

-- a loop over parts: a turn, and its ways out
module _ (z : ℕ) (s : List ℕ) (k : ℕ) (blank : is_blank (take (k * z) s) ≡ true) where
  pub part_turn : is_blank (take (k * z + z - k * z) (drop (k * z) s)) ≡ true → is_blank (take ((k + 1) * z) s) ≡ true
  part_turn e =
      let l : (k + 1) * z ≡ k * z + z = rw (add-one k, suc-mul k z) in
      rw (l, blank_two (k * z) z s, blank, ← part_is (k * z) z s) e

  pub part_differs : (c : ℕ) → k < c → is_blank (take (k * z + z - k * z) (drop (k * z) s)) ≡ false → Leads z c s k
  part_differs c h e = leading_is z c s k (record { within = omega arith; blank = blank; stops = inr (ap is_blank (sym (part_is (k * z) z s)) ∙ e) })

  pub parts_whole : (c : ℕ) → k ≡ c → Leads z c s k
  parts_whole c h = leading_is z c s k (record { within = omega arith; blank = blank; stops = inl h })

-- a part that differs stops it among more parts too
pub stops_among : (z c d : ℕ) (s : List ℕ) (k : ℕ) → Leads z c s k → k < c → c ≤ d → Leads z d s k
stops_among z c d s k e h m =
    let l = leads z c s k e in
    leading_is z d s k (record { within = omega arith; blank = l.blank; stops = ⊎_elim (λ q. absurd (omega arith)) inr l.stops })

-- ---- four groups at a time

module _ (s : List ℕ) (i k : ℕ) (blank : is_blank (take (i * 32) s) ≡ true) (more : i < length s / 32) where
  abbrev rest : List ℕ
  rest = drop (i * 32) s

  abbrev four : List ℕ
  four = take (i * 32 + 32 - i * 32) rest

  four_long : length (take 32 rest) ≡ 32
  four_long = length-take-le 32 rest (omega (arith, length-drop (i * 32) s))

  -- the groups of the four are groups of what is left
  group_same : k < 4 → take 8 (drop (k * 8) rest) ≡ take 8 (drop (k * 8) (take 32 rest))
  group_same h =
      let split : drop (k * 8) rest ≡ drop (k * 8) (take 32 rest) ++ drop 32 rest =
      ap (drop (k * 8)) (sym (take-append-drop 32 rest)) ∙ drop-append-le (k * 8) (take 32 rest) (drop 32 rest) (omega (arith, four_long)) in
      ap (take 8) split ∙ take-append-le 8 (drop (k * 8) (take 32 rest)) (drop 32 rest) (omega (arith, four_long, length-drop (k * 8) (take 32 rest)))

  pub four_turn : Leads 8 4 four k → 4 ≤ k → is_blank (take ((i + 1) * 32) s) ≡ true
  four_turn t h =
      let d = leads 8 4 four k t in
      let e : k * 8 ≡ 32 = omega (arith, d.within) in
      let f : four ≡ take 32 rest = part_is (i * 32) 32 s in
      part_turn 32 s i blank (rw f (ap is_blank (sym (take-take 32 32 rest (omega arith))) ∙ (rw (f, e) at d.blank)))

  pub four_stops : Leads 8 4 four k → k < 4 → Leads 8 (4 * (length s / 32)) s (4 * i + k)
  four_stops t h =
      let d = leads 8 4 four k t in
      let n : (4 * i + k) * 8 ≡ i * 32 + k * 8 = omega arith in
      let f : four ≡ take 32 rest = part_is (i * 32) 32 s in
      let b : is_blank (take (k * 8) rest) ≡ true = ap is_blank (sym (take-take (k * 8) 32 rest (omega arith))) ∙ (rw f at d.blank) in
      leading_is 8 (4 * (length s / 32)) s (4 * i + k) (record {
        within = omega arith;
        blank = rw (n, blank_two (i * 32) (k * 8) s, blank) b;
        stops = ⊎_elim (λ e. absurd (omega arith)) (λ e. inr (rw (n, ← drop-drop (k * 8) (i * 32) s, group_same h) (rw f at e))) d.stops;
      })

-- ---- with a shorter last group

module _ (s : List ℕ) where
  abbrev Before : ℕ → Type 0
  Before k = k ≡ leading_blank (groups_of s)

  -- as many groups as there are
  abbrev all : ℕ
  all = (length s + 7) / 8

  before : (k : ℕ) → Leading 8 all s k → Before k
  unfolding groups_of
  before k d = leading_is 8 all s k d

  pub before_whole : (k : ℕ) → length s % 8 ≡ 0 → Leads 8 (length s / 8) s k → Before k
  unfolding groups_of
  before_whole k h e = let c : all ≡ length s / 8 = omega arith in rw c e

  -- one group, and no whole one
  pub before_one : (length s % 8 ≡ 0 → ⊥) → length s < 8 → is_blank s ≡ true → Before 1
  before_one h l e = before 1 (record { within = omega arith; blank = rw (take_all 8 s (omega arith)) e; stops = inl (omega arith) })

  pub before_none : length s < 8 → is_blank s ≡ false → Before 0
  before_none l e = before 0 (record { within = omega arith; blank = no_part 8 s; stops = inr (rw (take_all 8 s (omega arith)) e) })

  pub before_stops : (k : ℕ) → Leads 8 (length s / 8) s k → k < length s / 8 → Before k
  unfolding groups_of
  before_stops k e h = stops_among 8 (length s / 8) all s k e h (omega arith)

  -- the last eight bytes decide, since those before are blank
  abbrev Last : List ℕ
  Last = take (length s - (length s - 8)) (drop (length s - 8) s)

  module _ (k : ℕ) (told : Leads 8 (length s / 8) s k) (none : length s / 8 ≤ k) (some : 8 ≤ length s) where
    whole_leads : Leading 8 (length s / 8) s k
    whole_leads = leads 8 (length s / 8) s k told

    last_decides : is_blank Last ≡ is_blank s
    last_decides =
        ap is_blank (take_all (length s - (length s - 8)) (drop (length s - 8) s) (omega (arith, length-drop (length s - 8) s)))
        ∙ sym (blank_rest (length s - 8) s (blank_shorter (length s - 8) (k * 8) s (omega (arith, whole_leads.within)) whole_leads.blank))

    pub before_all : (length s % 8 ≡ 0 → ⊥) → is_blank Last ≡ true → Before (k + 1)
    before_all h e =
        let whole : take ((k + 1) * 8) s ≡ s = take_all ((k + 1) * 8) s (omega (arith, whole_leads.within)) in
        before (k + 1) (record { within = omega (arith, whole_leads.within); blank = rw whole (sym last_decides ∙ e); stops = inl (omega (arith, whole_leads.within)) })

    pub before_rest : is_blank Last ≡ false → Before k
    before_rest e =
        let rest : take 8 (drop (k * 8) s) ≡ drop (k * 8) s = take_all 8 (drop (k * 8) s) (omega (arith, whole_leads.within, length-drop (k * 8) s)) in
        before k (record { within = omega (arith, whole_leads.within); blank = whole_leads.blank; stops = inr (rw rest (sym (blank_rest (k * 8) s whole_leads.blank) ∙ (sym last_decides ∙ e))) })

-- every group blank
groups_all : (c : ℕ) (s : List ℕ) → is_blank s ≡ true → looked_at (chunk c 8 s) ≡ c
unfolding looked_at chunk
groups_all zero s e = refl
groups_all (suc c) s e =
    let two : (is_blank (take 8 s) && is_blank (drop 8 s)) ≡ true = sym (blank_split 8 s) ∙ e in
    rw (and_left (is_blank (take 8 s)) (is_blank (drop 8 s)) two) (ap suc (groups_all c (drop 8 s) (and_right (is_blank (take 8 s)) (is_blank (drop 8 s)) two)))

-- what the groups before the first that differs tell
module _ (s : List ℕ) (k : ℕ) (told : k ≡ leading_blank (groups_of s)) where
  abbrev count : ℕ
  count = (length s + 7) / 8

  abbrev Tested : Type 0
  Tested = (eqb k count ≡ is_blank s) × (min (k + 1) count ≡ blank_groups s)

  before_leads : Leading 8 count s k
  unfolding groups_of
  before_leads = leads 8 count s k told

  pub before_within : k ≤ count
  before_within = before_leads.within

  none_differs : k ≡ count → Tested
  unfolding blank_groups groups_of
  none_differs e =
      let whole : take (k * 8) s ≡ s = take_all (k * 8) s (omega arith) in
      let blank : is_blank s ≡ true = rw whole at before_leads.blank in
      (eq-eqb k count e ∙ sym blank, min-eq_right {n = count} {m = k + 1} (omega arith) ∙ sym (groups_all count s blank))

  one_left : is_blank (take 8 (drop (k * 8) s)) ≡ false → k < count
  unfolding is_blank
  one_left e = elim (dec_lt k count) [ yes h ↦ h | no h ↦ absurd (none (omega (arith, before_leads.within))) ]
    where
      none : length s ≤ k * 8 → ⊥
      none l = false≢true (sym e ∙ rw (drop_of_length-le s {i = k * 8} l))

  one_differs : is_blank (take 8 (drop (k * 8) s)) ≡ false → k < count → Tested
  one_differs e h = (
    ne_eqb k count (λ q. omega arith) ∙ sym (blank_rest (k * 8) s before_leads.blank ∙ blank_split 8 (drop (k * 8) s) ∙ ap (λ (b : Bool). b && is_blank (drop 8 (drop (k * 8) s))) e),
    min-eq_left {n = k + 1} {m = count} (omega arith) ∙ sym (groups_behind k s (omega arith) before_leads.blank ∙ ap (λ (n : ℕ). k + n) (groups_next (drop (k * 8) s) (omega (arith, length-drop (k * 8) s)) ∙ rw e)),
  )

  pub tested : Tested
  tested = ⊎_elim none_differs (λ e. one_differs e (one_left e)) before_leads.stops

-- ---- how many groups there are at most

looked_most : (gs : List (List ℕ)) → looked_at gs ≤ length gs
unfolding looked_at
looked_most [] = omega arith
looked_most (g ∷ gs) = go (is_blank g) (looked_most gs)
  where
    go : (b : Bool) → looked_at gs ≤ length gs → suc (cond b (looked_at gs) 0) ≤ suc (length gs)
    go true h = omega arith
    go false h = omega arith

pub groups_most : (s : List ℕ) → blank_groups s ≤ (length s + 7) / 8
unfolding blank_groups groups_of
groups_most s = omega (arith, looked_most (chunk ((length s + 7) / 8) 8 s), chunk_length ((length s + 7) / 8) 8 s)
