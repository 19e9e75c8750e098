-- What one segment reads at a place, and what a slot set in it changes.
use Rattle.std.specs.Prelude.{ℕ, zero, suc, ◌%◌, ◌≡◌, refl, ◌⊎◌, ◌≢◌, Bool, true, false, cond, List, [], ◌∷◌, get_or, set, replicate, eqb}
use Rattle.std.proofs.Common.{sym, ap, ◌∙◌, subst, inl, inr, ⊎_elim, eqb-true, eq-eqb}
use Rattle.model.specs.Slot.{Slot, empty, torn, dead, cut, wrong, live}
use Rattle.model.specs.State.{Segment, blank, invalid, in_use, number_after, slots_in, with_slot, Place}
use Rattle.model.proofs.Laws.View.{with_slot_number}
use Rattle.origins.specs.Law.{read_at, in_force, slot_in}

-- ---- one segment

pub slot_reads : (N : ℕ) (l : List Segment) (p : Place) → slot_in N l p ≡ read_at (get_or (in_force N l) (p.number % N) blank) p
unfolding slot_in
slot_reads N l p = refl

-- kinds that neither an empty slot nor a live one is of
abbrev pub Telling : Slot → Type 0
Telling empty = ⊥
Telling torn = Unit {0}
Telling dead = Unit {0}
Telling cut = Unit {0}
Telling wrong = Unit {0}
Telling (live b c) = ⊥

-- a slot that is of no such kind does not read k
pub not_telling : (x k : Slot) → Telling k → (Telling x → ⊥) → x ≢ k
not_telling x k t n e = n (subst Telling (sym e) t)

-- the same number and the same slots
pub reads_same : (x y : Segment) (p : Place) → number_after y ≡ number_after x → slots_in y ≡ slots_in x → read_at y p ≡ read_at x p
unfolding read_at
reads_same x y p n s = rw (n, s)

empty_slots : (t : Bool) (j : ℕ) → cond t (get_or [] j empty) empty ≡ empty
empty_slots true j = refl
empty_slots false j = refl

pub blank_reads : (p : Place) → read_at blank p ≡ empty
unfolding read_at slots_in
blank_reads p = empty_slots (eqb (number_after blank) (suc p.number)) p.slot

pub invalid_reads : (p : Place) → read_at invalid p ≡ empty
unfolding read_at slots_in
invalid_reads p = empty_slots (eqb (number_after invalid) (suc p.number)) p.slot

pub empty_plain : (n j : ℕ) → Telling (get_or (replicate n empty) j empty) → ⊥
empty_plain zero j t = t
empty_plain (suc n) zero t = t
empty_plain (suc n) (suc j) t = empty_plain n j t

-- of a segment in use none of whose slots is of such a kind
pub plain_reads : (x : Segment) (p : Place) → ((j : ℕ) → Telling (get_or (slots_in x) j empty) → ⊥) → Telling (read_at x p) → ⊥
unfolding read_at
plain_reads x p none = go (eqb (number_after x) (suc p.number))
  where
    go : (t : Bool) → Telling (cond t (get_or (slots_in x) p.slot empty) empty) → ⊥
    go true h = none p.slot h
    go false h = h

-- what reads such a kind has the place's number, and that kind there
pub read_taken : (x : Segment) (p : Place) (k : Slot) → Telling k → read_at x p ≡ k → (number_after x ≡ suc p.number) × (get_or (slots_in x) p.slot empty ≡ k)
unfolding read_at
read_taken x p k t h = go (eqb (number_after x) (suc p.number)) refl h
  where
    go : (b : Bool) → eqb (number_after x) (suc p.number) ≡ b → cond b (get_or (slots_in x) p.slot empty) empty ≡ k → (number_after x ≡ suc p.number) × (get_or (slots_in x) p.slot empty ≡ k)
    go true e q = (eqb-true (number_after x) (suc p.number) e, q)
    go false e q = absurd (subst Telling (sym q) t)

-- and the other way round
pub read_there : (x : Segment) (p : Place) → number_after x ≡ suc p.number → read_at x p ≡ get_or (slots_in x) p.slot empty
unfolding read_at
read_there x p e = rw (eq-eqb (number_after x) (suc p.number) e)

-- ---- one slot set

elsewhere : {A : Type 0} (l : List A) (i q : ℕ) (y d : A) → ((q ≡ i) × (get_or (set l i y) q d ≡ y)) ⊎ (get_or (set l i y) q d ≡ get_or l q d)
elsewhere [] i q y d = inr refl
elsewhere (x ∷ l) zero zero y d = inl (refl, refl)
elsewhere (x ∷ l) zero (suc q) y d = inr refl
elsewhere (x ∷ l) (suc i) zero y d = inr refl
elsewhere (x ∷ l) (suc i) (suc q) y d = ⊎_elim (λ e. inl (ap suc e.0, e.1)) (λ e. inr e) (elsewhere l i q y d)

pub with_slots : (j : ℕ) (c : Slot) (x : Segment) → slots_in (with_slot j c x) ≡ set (slots_in x) j c
unfolding with_slot slots_in
with_slots j c blank = refl
with_slots j c invalid = refl
with_slots j c (in_use ver st n ks) = refl

-- the place is slot j of this segment
abbrev pub IsSlot : Segment → ℕ → Place → Type 0
IsSlot x j p = (number_after x ≡ suc p.number) × (p.slot ≡ j)

-- every other place reads as before
pub slot_elsewhere : (j : ℕ) (c : Slot) (x : Segment) (p : Place) → (IsSlot x j p × (read_at (with_slot j c x) p ≡ c)) ⊎ (read_at (with_slot j c x) p ≡ read_at x p)
unfolding read_at
slot_elsewhere j c x p = rw (with_slot_number j c x, with_slots j c x) (go (eqb (number_after x) (suc p.number)) refl)
  where
    go : (t : Bool) → eqb (number_after x) (suc p.number) ≡ t
        → (IsSlot x j p × (cond t (get_or (set (slots_in x) j c) p.slot empty) empty ≡ c)) ⊎ (cond t (get_or (set (slots_in x) j c) p.slot empty) empty ≡ cond t (get_or (slots_in x) p.slot empty) empty)
    go true e = ⊎_elim (λ q. inl ((eqb-true (number_after x) (suc p.number) e, q.0), q.1)) (λ q. inr q) (elsewhere (slots_in x) j p.slot c empty)
    go false e = inr refl

pub place_elsewhere : (l : List Segment) (i j q : ℕ) (c : Slot) (p : Place) → IsSlot (get_or l i blank) j p ⊎ (read_at (get_or (set l i (with_slot j c (get_or l i blank))) q blank) p ≡ read_at (get_or l q blank) p)
place_elsewhere l i j q c p = ⊎_elim
    (λ a. ⊎_elim (λ b. inl b.0) (λ b. inr (ap (λ x. read_at x p) a.1 ∙ (b ∙ ap (λ (y : ℕ). read_at (get_or l y blank) p) (sym a.0)))) (slot_elsewhere j c (get_or l i blank) p))
    (λ a. inr (ap (λ x. read_at x p) a))
    (elsewhere l i q (with_slot j c (get_or l i blank)) blank)
