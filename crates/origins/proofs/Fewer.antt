-- Two lists of segments, of which the second reads a kind nowhere that the first does not; and so for the segments in use of two images.
use Rattle.std.specs.Prelude.{ℕ, zero, suc, ◌-◌, ◌%◌, ◌≡◌, refl, ◌⊎◌, ◌≢◌, true, false, not, List, [], ◌∷◌, length, get_or, set}
use Rattle.std.proofs.Common.{sym, ap, ◌∙◌, subst, inl, inr, ⊎_elim}
use Rattle.std.proofs.lemmas.Bool.{not-true}
use Rattle.model.specs.Lists.{all}
use Rattle.model.specs.Chip.{Image}
use Rattle.model.specs.Slot.{Slot, empty}
use Rattle.model.specs.State.{Segment, blank, invalid, is_owing, segments_of, number_after, next_number, top_index, none_owing, is_clean, next_blanked, with_slot, Place}
use Rattle.model.specs.Laws.Lists.{and_left, and_right}
use Rattle.model.proofs.Laws.Ring.{get_kept, next_kept}
use Rattle.model.proofs.Laws.Clean.{RingFacts, clean_ring}
use Rattle.model.proofs.Laws.View.{with_slot_number, with_slot_owing}
use Rattle.origins.specs.Law.{read_at, in_force, slot_on}
use Rattle.origins.proofs.Readings.{slot_reads, Telling, blank_reads, invalid_reads, slot_elsewhere}

-- ---- two lists

abbrev pub Fewer : Slot → List Segment → List Segment → Type 0
Fewer k a b = (q : ℕ) (p : Place) → read_at (get_or b q blank) p ≡ k → read_at (get_or a q blank) p ≡ k

pub fewer_same : (k : Slot) (a b : List Segment) → b ≡ a → Fewer k a b
fewer_same k a b e = λ q p h. subst (λ (y : List Segment). read_at (get_or y q blank) p ≡ k) e h

pub fewer_trans : (k : Slot) (a b c : List Segment) → Fewer k a b → Fewer k b c → Fewer k a c
fewer_trans k a b c f g = λ q p h. f q p (g q p h)

-- what holds of every place of a list holds of one with a segment replaced, and back
get_set : (R : Segment → Type 0) (l : List Segment) (i : ℕ) (y : Segment) → (R y → R (get_or l i blank)) → (q : ℕ) → R (get_or (set l i y) q blank) → R (get_or l q blank)
get_set R [] i y f q h = h
get_set R (x ∷ l) zero y f zero h = f h
get_set R (x ∷ l) zero y f (suc q) h = h
get_set R (x ∷ l) (suc i) y f zero h = h
get_set R (x ∷ l) (suc i) y f (suc q) h = get_set R l i y f q h

set_get : (R : Segment → Type 0) (l : List Segment) (i : ℕ) (y : Segment) → (R (get_or l i blank) → R y) → (q : ℕ) → R (get_or l q blank) → R (get_or (set l i y) q blank)
set_get R [] i y f q h = h
set_get R (x ∷ l) zero y f zero h = f h
set_get R (x ∷ l) zero y f (suc q) h = h
set_get R (x ∷ l) (suc i) y f zero h = h
set_get R (x ∷ l) (suc i) y f (suc q) h = set_get R l i y f q h

pub fewer_set : (k : Slot) (a : List Segment) (i : ℕ) (y : Segment) → ((p : Place) → read_at y p ≡ k → read_at (get_or a i blank) p ≡ k) → Fewer k a (set a i y)
fewer_set k a i y f = λ q p h. get_set (λ x. read_at x p ≡ k) a i y (f p) q h

pub fewer_back : (k : Slot) (a : List Segment) (i : ℕ) (y : Segment) → ((p : Place) → read_at (get_or a i blank) p ≡ k → read_at y p ≡ k) → Fewer k (set a i y) a
fewer_back k a i y f = λ q p h. set_get (λ x. read_at x p ≡ k) a i y (f p) q h

-- ---- the segments in use

pub paid_force : (N : ℕ) (l : List Segment) → is_owing (get_or l (top_index N l) blank) ≡ false → in_force N l ≡ l
unfolding in_force
paid_force N l e = rw e

pub owing_force : (N : ℕ) (l : List Segment) → is_owing (get_or l (top_index N l) blank) ≡ true → in_force N l ≡ next_blanked N l
unfolding in_force
owing_force N l e = rw e

none_owing_lem : (l : List Segment) (i : ℕ) → none_owing l ≡ true → is_owing (get_or l i blank) ≡ false
unfolding none_owing all is_owing
none_owing_lem [] i h = refl
none_owing_lem (x ∷ l) zero h = not-true (is_owing x) (and_left (not (is_owing x)) (all (λ y. not (is_owing y)) l) h)
none_owing_lem (x ∷ l) (suc i) h = none_owing_lem l i (and_right (not (is_owing x)) (all (λ y. not (is_owing y)) l) h)

-- segments that form a ring owe nothing; clean ones form one
pub ring_paid : (N : ℕ) (l : List Segment) (i : ℕ) → RingFacts N l → is_owing (get_or l i blank) ≡ false
ring_paid N l i r = none_owing_lem l i r.paid

pub ring_force : (N : ℕ) (l : List Segment) → RingFacts N l → in_force N l ≡ l
ring_force N l r = paid_force N l (ring_paid N l (top_index N l) r)

pub clean_paid : (N B : ℕ) (l : List Segment) (i : ℕ) → length l ≡ N → is_clean N B l ≡ true → is_owing (get_or l i blank) ≡ false
clean_paid N B l i e h = ring_paid N l i (clean_ring N B l e h)

pub clean_force : (N B : ℕ) (l : List Segment) → length l ≡ N → is_clean N B l ≡ true → in_force N l ≡ l
clean_force N B l e h = ring_force N l (clean_ring N B l e h)

-- a segment replaced by one with its number that owes as it does, where the top is paid
pub replaced_force : (N : ℕ) (l : List Segment) (i : ℕ) (y : Segment) → is_owing (get_or l (top_index N l) blank) ≡ false → number_after y ≡ number_after (get_or l i blank) → is_owing y ≡ is_owing (get_or l i blank)
    → in_force N (set l i y) ≡ set l i y
unfolding top_index
replaced_force N l i y paid n o = paid_force N (set l i y)
    (ap (λ (x : ℕ). is_owing (get_or (set l i y) ((x - 1) % N) blank)) (next_kept l i y n) ∙ (get_kept is_owing l i y o ((next_number l - 1) % N) ∙ paid))

-- ---- two images

-- no slot in use newly reads k
abbrev pub NoNew : Slot → ℕ → ℕ → Image → Image → Type 0
NoNew k N B s u = Fewer k (in_force N (segments_of N B s)) (in_force N (segments_of N B u))

pub old_slot : (k : Slot) (N B : ℕ) (s u : Image) → NoNew k N B s u → (p : Place) → slot_on N B u p ≡ k → slot_on N B s p ≡ k
unfolding slot_on
old_slot k N B s u f p h = slot_reads N (segments_of N B s) p ∙ f (p.number % N) p (sym (slot_reads N (segments_of N B u) p) ∙ h)

pub no_new_same : (k : Slot) (N B : ℕ) (s u : Image) → segments_of N B u ≡ segments_of N B s → NoNew k N B s u
no_new_same k N B s u e = fewer_same k (in_force N (segments_of N B s)) (in_force N (segments_of N B u)) (ap (λ y. in_force N y) e)

pub no_new_image : (k : Slot) (N B : ℕ) (s u : Image) → u ≡ s → NoNew k N B s u
no_new_image k N B s u e = no_new_same k N B s u (ap (λ y. segments_of N B y) e)

pub no_new_trans : (k : Slot) (N B : ℕ) (s t u : Image) → NoNew k N B s t → NoNew k N B t u → NoNew k N B s u
no_new_trans k N B s t u f g = fewer_trans k (in_force N (segments_of N B s)) (in_force N (segments_of N B t)) (in_force N (segments_of N B u)) f g

-- one segment replaced, where the top is paid before and after
pub no_new_replaced : (k : Slot) (N B : ℕ) (s u : Image) (i : ℕ) (y : Segment) → segments_of N B u ≡ set (segments_of N B s) i y
    → is_owing (get_or (segments_of N B s) (top_index N (segments_of N B s)) blank) ≡ false → in_force N (set (segments_of N B s) i y) ≡ set (segments_of N B s) i y
    → ((p : Place) → read_at y p ≡ k → read_at (get_or (segments_of N B s) i blank) p ≡ k) → NoNew k N B s u
no_new_replaced k N B s u i y e paid after f = let l = segments_of N B s in
    rw (paid_force N l paid, ap (λ x. in_force N x) e ∙ after) (fewer_set k l i y f)

-- one slot changed to another kind
pub no_new_slot : (k : Slot) (N B : ℕ) (s u : Image) (i j : ℕ) (c : Slot) → c ≢ k → segments_of N B u ≡ set (segments_of N B s) i (with_slot j c (get_or (segments_of N B s) i blank))
    → is_owing (get_or (segments_of N B s) (top_index N (segments_of N B s)) blank) ≡ false → NoNew k N B s u
no_new_slot k N B s u i j c n e paid =
    let l = segments_of N B s in
    let x = get_or l i blank in
    no_new_replaced k N B s u i (with_slot j c x) e paid (replaced_force N l i (with_slot j c x) paid (with_slot_number j c x) (with_slot_owing j c x))
    (λ p h. ⊎_elim (λ q. absurd (n (sym q.1 ∙ h))) (λ q. sym q ∙ h) (slot_elsewhere j c x p))

-- a segment without slots replaced by another, blank or invalid
abbrev pub Unused : Segment → Type 0
Unused y = (y ≡ blank) ⊎ (y ≡ invalid)

unused_number : (y : Segment) → Unused y → number_after y ≡ 0
unfolding number_after
unused_number y (inl e) = ap number_after e
unused_number y (inr e) = ap number_after e

unused_owing : (y : Segment) → Unused y → is_owing y ≡ false
unfolding is_owing
unused_owing y (inl e) = ap is_owing e
unused_owing y (inr e) = ap is_owing e

pub unused_reads : (y : Segment) → Unused y → (p : Place) → read_at y p ≡ empty
unused_reads y (inl e) p = ap (λ x. read_at x p) e ∙ blank_reads p
unused_reads y (inr e) p = ap (λ x. read_at x p) e ∙ invalid_reads p

pub no_new_unused : (k : Slot) → Telling k → (N B : ℕ) (s u : Image) (i : ℕ) (y : Segment) → segments_of N B u ≡ set (segments_of N B s) i y → Unused (get_or (segments_of N B s) i blank) → Unused y
    → is_owing (get_or (segments_of N B s) (top_index N (segments_of N B s)) blank) ≡ false → NoNew k N B s u
no_new_unused k t N B s u i y e old new paid =
    let l = segments_of N B s in
    let x = get_or l i blank in
    no_new_replaced k N B s u i y e paid (replaced_force N l i y paid (unused_number y new ∙ sym (unused_number x old)) (unused_owing y new ∙ sym (unused_owing x old)))
    (λ p h. unused_reads x old p ∙ (sym (unused_reads y new p) ∙ h))
