-- The segments as a ring: how the numbers, the count and the slots of those in use change when one segment is replaced.
use Rattle.std.specs.Prelude.{ℕ, zero, suc, ◌+◌, ◌%◌, max, ◌≤◌, ◌<◌, ◌≡◌, refl, ◌≢◌, true, false, ◌&&◌, List, [], ◌∷◌, ◌++◌, length, get_or, set, eqb}
use Rattle.std.proofs.Common.{sym, ap, ap₂, ◌∙◌, subst, arith, mod-lt, length-set, set-set, get_or-set_same, get_or-set_other, eqb-true, eq-eqb}
use Rattle.std.proofs.lemmas.Bool.{false≢true}
use Rattle.std.proofs.Math.Decide.{dec_lt}
use Rattle.std.proofs.lemmas.List.{set-get_or}
use Rattle.model.specs.Slot.{Slot}
use Rattle.model.specs.State.{Segment, blank, invalid, in_use, is_in_use, is_owing, number_after, slots_in, next_number, used_count, slots_from, numbers_from}
use Rattle.model.specs.Laws.Lists.{and_left, and_right, and_both, one, count_set, count_none, mod_inj}

-- ---- the number after the largest

pub next_ge : (l : List Segment) (i : ℕ) → number_after (get_or l i blank) ≤ next_number l
unfolding next_number number_after
next_ge [] i = omega arith
next_ge (x ∷ l) zero = omega arith
next_ge (x ∷ l) (suc i) = let h = next_ge l i in omega arith

-- some segment has the largest number
pub next_at : (l : List Segment) → 0 < next_number l → (i : ℕ) × (i < length l) × (number_after (get_or l i blank) ≡ next_number l)
unfolding next_number
next_at [] h = absurd (omega arith)
next_at (x ∷ l) h = elim (dec_lt (number_after x) (next_number l)) [ yes p ↦ let r = next_at l (omega arith) in (suc r.0, omega (arith, r.1), r.2 ∙ omega arith) | no p ↦ (0, omega arith, omega arith) ]

pub next_set_le : (l : List Segment) (i : ℕ) (y : Segment) → next_number (set l i y) ≤ max (next_number l) (number_after y)
unfolding next_number
next_set_le [] i y = omega arith
next_set_le (x ∷ l) zero y = omega arith
next_set_le (x ∷ l) (suc i) y = let h = next_set_le l i y in omega arith

-- neither the old one nor the new one is beyond the others
pub next_same : (l : List Segment) (i : ℕ) (y : Segment) → number_after (get_or l i blank) < next_number l → number_after y ≤ next_number l → next_number (set l i y) ≡ next_number l
next_same l i y h g =
    let a = next_set_le l i y in
    let b : next_number l ≤ max (next_number (set l i y)) (number_after (get_or l i blank)) =
    subst (λ (v : List Segment). next_number v ≤ max (next_number (set l i y)) (number_after (get_or l i blank)))
    (set-set l i y (get_or l i blank) ∙ set-get_or l i blank) (next_set_le (set l i y) i (get_or l i blank)) in
    omega arith

-- the same number: nothing changes
pub next_kept : (l : List Segment) (i : ℕ) (y : Segment) → number_after y ≡ number_after (get_or l i blank) → next_number (set l i y) ≡ next_number l
unfolding next_number
next_kept [] i y e = refl
next_kept (x ∷ l) zero y e = ap (λ z. max z (next_number l)) e
next_kept (x ∷ l) (suc i) y e = ap (λ z. max (number_after x) z) (next_kept l i y e)

-- a larger number becomes the largest
pub next_raised : (l : List Segment) (i : ℕ) (y : Segment) → i < length l → next_number l ≤ number_after y → next_number (set l i y) ≡ number_after y
next_raised l i y h g =
    let a = next_set_le l i y in
    let b : number_after y ≤ next_number (set l i y) = subst (λ z. number_after z ≤ next_number (set l i y)) (get_or-set_same l i y blank h) (next_ge (set l i y) i) in
    omega arith

-- ---- how many are in use

pub used_set : (l : List Segment) (i : ℕ) (y : Segment) → i < length l → used_count (set l i y) + one (is_in_use (get_or l i blank)) ≡ used_count l + one (is_in_use y)
unfolding used_count
used_set l i y h = count_set is_in_use l i y blank h

pub used_kept : (l : List Segment) (i : ℕ) (y : Segment) → i < length l → is_in_use y ≡ is_in_use (get_or l i blank) → used_count (set l i y) ≡ used_count l
used_kept l i y h e = let k = used_set l i y h in let f : one (is_in_use y) ≡ one (is_in_use (get_or l i blank)) = ap one e in omega arith

-- one that was not in use is now
pub used_more : (l : List Segment) (i : ℕ) (y : Segment) → i < length l → is_in_use (get_or l i blank) ≡ false → is_in_use y ≡ true → used_count (set l i y) ≡ suc (used_count l)
unfolding one
used_more l i y h e f = let k = rw (e, f) at (used_set l i y h) in omega arith

-- one that was in use no longer is
pub used_less : (l : List Segment) (i : ℕ) (y : Segment) → i < length l → is_in_use (get_or l i blank) ≡ true → is_in_use y ≡ false → suc (used_count (set l i y)) ≡ used_count l
unfolding one
used_less l i y h e f = let k = rw (e, f) at (used_set l i y h) in omega arith

-- ---- the numbers and the slots from a number on

-- no number from n to n + u has this index
abbrev pub Apart : ℕ → ℕ → ℕ → ℕ → Type 0
Apart N u n i = (j : ℕ) → n ≤ j → j < n + u → j % N ≢ i

pub apart_later : (N u n i : ℕ) → Apart N (suc u) n i → Apart N u (suc n) i
apart_later N u n i h = λ j p q. h j (omega arith) (omega arith)

-- fewer than N numbers after k, or before it, have another index
pub apart_after : (N u k : ℕ) → u < N → Apart N u (suc k) (k % N)
apart_after N u k h = λ j p q e. omega (arith, mod_inj N k j (omega arith) (omega arith) (sym e))

pub apart_before : (N u n : ℕ) → u < N → Apart N u n ((n + u) % N)
apart_before N u n h = λ j p q e. omega (arith, mod_inj N j (n + u) (omega arith) (omega arith) e)

pub slots_apart : (N i : ℕ) (y : Segment) (l : List Segment) (u n : ℕ) → Apart N u n i → slots_from N (set l i y) u n ≡ slots_from N l u n
unfolding slots_from
slots_apart N i y l zero n h = refl
slots_apart N i y l (suc u) n h =
    ap₂ {C = List (List Slot)} (λ a b. slots_in a ∷ b) (get_or-set_other l i (n % N) y blank (h n (omega arith) (omega arith)))
    (slots_apart N i y l u (suc n) (apart_later N u n i h))

pub numbers_apart : (N i : ℕ) (y : Segment) (l : List Segment) (u n : ℕ) → Apart N u n i → numbers_from N (set l i y) u n ≡ numbers_from N l u n
unfolding numbers_from
numbers_apart N i y l zero n h = refl
numbers_apart N i y l (suc u) n h =
    ap₂ (λ a b. eqb (number_after a) (suc n) && b) (get_or-set_other l i (n % N) y blank (h n (omega arith) (omega arith)))
    (numbers_apart N i y l u (suc n) (apart_later N u n i h))

-- what a replaced segment keeps, every place of the list keeps
pub get_kept : {A : Type 0} (f : Segment → A) (l : List Segment) (i : ℕ) (y : Segment) → f y ≡ f (get_or l i blank) → (q : ℕ) → f (get_or (set l i y) q blank) ≡ f (get_or l q blank)
get_kept f [] i y e q = refl
get_kept f (x ∷ l) zero y e zero = e
get_kept f (x ∷ l) zero y e (suc q) = refl
get_kept f (x ∷ l) (suc i) y e zero = refl
get_kept f (x ∷ l) (suc i) y e (suc q) = get_kept f l i y e q

pub numbers_kept : (N i : ℕ) (y : Segment) (l : List Segment) (u n : ℕ) → number_after y ≡ number_after (get_or l i blank) → numbers_from N (set l i y) u n ≡ numbers_from N l u n
unfolding numbers_from
numbers_kept N i y l zero n e = refl
numbers_kept N i y l (suc u) n e = ap₂ (λ a b. eqb a (suc n) && b) (get_kept number_after l i y e (n % N)) (numbers_kept N i y l u (suc n) e)

pub slots_kept : (N i : ℕ) (y : Segment) (l : List Segment) (u n : ℕ) → slots_in y ≡ slots_in (get_or l i blank) → slots_from N (set l i y) u n ≡ slots_from N l u n
unfolding slots_from
slots_kept N i y l zero n e = refl
slots_kept N i y l (suc u) n e = ap₂ {C = List (List Slot)} (λ a b. a ∷ b) (get_kept slots_in l i y e (n % N)) (slots_kept N i y l u (suc n) e)

-- one more at the end
pub slots_snoc : (N : ℕ) (l : List Segment) (u n : ℕ) → slots_from N l (suc u) n ≡ slots_from N l u n ++ (slots_in (get_or l ((n + u) % N) blank) ∷ [])
unfolding slots_from
slots_snoc N l zero n = let e : n + 0 ≡ n = omega arith in rw e
slots_snoc N l (suc u) n = let e : n + suc u ≡ suc n + u = omega arith in
    rw e (ap {B = List (List Slot)} (λ y. slots_in (get_or l (n % N) blank) ∷ y) (slots_snoc N l u (suc n)))

pub numbers_snoc : (N : ℕ) (l : List Segment) (u n : ℕ) → numbers_from N l u n ≡ true → number_after (get_or l ((n + u) % N) blank) ≡ suc (n + u) → numbers_from N l (suc u) n ≡ true
unfolding numbers_from
numbers_snoc N l zero n h e = let f : n + 0 ≡ n = omega arith in and_both (eqb (number_after (get_or l (n % N) blank)) (suc n)) true (eq-eqb _ _ (rw f at e)) refl
numbers_snoc N l (suc u) n h e = let f : n + suc u ≡ suc n + u = omega arith in
    and_both (eqb (number_after (get_or l (n % N) blank)) (suc n)) (numbers_from N l (suc u) (suc n)) (and_left (eqb (number_after (get_or l (n % N) blank)) (suc n)) (numbers_from N l u (suc n)) h)
    (numbers_snoc N l u (suc n) (and_right (eqb (number_after (get_or l (n % N) blank)) (suc n)) (numbers_from N l u (suc n)) h) (rw f at e))

pub slots_length : (N : ℕ) (l : List Segment) (u n : ℕ) → length (slots_from N l u n) ≡ u
unfolding slots_from
slots_length N l zero n = refl
slots_length N l (suc u) n = ap suc (slots_length N l u (suc n))

pub slots_get : (N : ℕ) (l : List Segment) (u n k : ℕ) → k < u → get_or (slots_from N l u n) k [] ≡ slots_in (get_or l ((n + k) % N) blank)
unfolding slots_from
slots_get N l zero n k h = absurd (omega arith)
slots_get N l (suc u) n zero h = let e : n + 0 ≡ n = omega arith in rw e
slots_get N l (suc u) n (suc k) h = let e : n + suc k ≡ suc n + k = omega arith in rw e (slots_get N l u (suc n) k (omega arith))

pub numbers_get : (N : ℕ) (l : List Segment) (u n k : ℕ) → numbers_from N l u n ≡ true → k < u → number_after (get_or l ((n + k) % N) blank) ≡ suc (n + k)
unfolding numbers_from
numbers_get N l zero n k h b = absurd (omega arith)
numbers_get N l (suc u) n zero h b = let e : n + 0 ≡ n = omega arith in
    rw e (eqb-true (number_after (get_or l (n % N) blank)) (suc n) (and_left (eqb (number_after (get_or l (n % N) blank)) (suc n)) (numbers_from N l u (suc n)) h))
numbers_get N l (suc u) n (suc k) h b = let e : n + suc k ≡ suc n + k = omega arith in
    rw e (numbers_get N l u (suc n) k (and_right (eqb (number_after (get_or l (n % N) blank)) (suc n)) (numbers_from N l u (suc n)) h) (omega arith))

pub number_in_use : (x : Segment) (n : ℕ) → number_after x ≡ suc n → is_in_use x ≡ true
unfolding number_after is_in_use
number_in_use blank n e = absurd (omega arith)
number_in_use invalid n e = absurd (omega arith)
number_in_use (in_use ver st m ks) n e = refl

pub owing_number : (x : Segment) → is_owing x ≡ true → 0 < number_after x
unfolding is_owing number_after
owing_number blank e = absurd (false≢true e)
owing_number invalid e = absurd (false≢true e)
owing_number (in_use ver st n ks) e = omega arith

-- where as many are in use as are numbered, no other is in use
pub only_numbered : (N : ℕ) (l : List Segment) (u n i : ℕ) → length l ≡ N → u ≤ N → numbers_from N l u n ≡ true → used_count l ≡ u → i < N → Apart N u n i → is_in_use (get_or l i blank) ≡ false
unfolding used_count is_in_use
only_numbered N l zero n i len h c e b a = count_none is_in_use l i blank e (omega arith)
only_numbered N l (suc u) n i len h c e b a =
    let positive : 0 < N = omega arith in
    let inside : n % N < length l = omega (arith, mod-lt n positive) in
    let here : number_after (get_or l (n % N) blank) ≡ suc n = let z : n + 0 ≡ n = omega arith in rw z at (numbers_get N l (suc u) n 0 c (omega arith)) in
    let l' = set l (n % N) blank in
    let other : n % N ≢ i = a n (omega arith) (omega arith) in
    let fewer : suc (used_count l') ≡ used_count l = used_less l (n % N) blank inside (number_in_use (get_or l (n % N) blank) n here) refl in
    let rest : numbers_from N l' u (suc n) ≡ true = numbers_apart N (n % N) blank l u (suc n) (apart_after N u n (omega arith)) ∙ tail c in
    let r = only_numbered N l' u (suc n) i (length-set l (n % N) blank ∙ len) (omega arith) rest (omega arith) b (apart_later N u n i a) in
    sym (ap is_in_use (get_or-set_other l (n % N) i blank blank (λ q. other (sym q)))) ∙ r
  where
    tail : numbers_from N l (suc u) n ≡ true → numbers_from N l u (suc n) ≡ true
    tail q = unfold numbers_from in and_right (eqb (number_after (get_or l (n % N) blank)) (suc n)) (numbers_from N l u (suc n)) q
