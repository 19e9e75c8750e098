-- Laws of items and partitions: one item's bytes tested and copied; what steps in one partition leave in another.
use Prim.Native.Nat.{ℕ, zero, suc, ◌+◌, ◌-◌, ◌*◌, ◌≤◌, ◌<◌}
use mathlib.Core.Path.{◌≡◌, refl, sym, ap, ◌∙◌}
use mathlib.Core.Logic.{◌⊎◌, inl, inr, ⊎_elim}
use mathlib.Core.Bool.{Bool, true, false, cond}
use mathlib.Core.List.{List, [], ◌∷◌, ◌++◌}
use native.Mathlib.Nat.{suc-mul, mul-le-mul_right}
use native.Mathlib.Decide.{dec_le}
use native.Mathlib.Omega.{arith}
use lib.ListN.{length, get_or, take, drop, set, replicate, length-take, length-drop, length-replicate, get_or-append}
use lib.Dec.{leb}
use lib.Bits.{bit_and}
use lib.Seq.{get_or-take, get_or-drop, get_or-set_other, get_or-append-add, length-take-le, ext_get_or}
use borrow.Author.Tests.{leb-true}
use Rattle.model.specs.Chip.{Image, Step, program, erase, clear, erased}
use Rattle.model.specs.Steps.{programs}
use Rattle.flash.specs.Units.{with_unit, step_in, run_in, RanIn}
use Rattle.model.proofs.Laws.Programs.{Outside, spares_programs, spared_run}
use Rattle.flash.specs.Ran.{Within}
use Rattle.flash.proofs.Laws.{ProgrammedTo, programs_turn}
use Rattle.partitions.specs.Writes.{item_steps}
use Rattle.partition_items.specs.Carrying.{Disjoint}

-- ---- one item's bytes

-- a byte that is still to be copied is as it was: those programmed so far are others
copied_next : (from to size i : ℕ) (s t : Image) → from + size ≤ length s → Disjoint from to size → i < size → ProgrammedTo to i (take size (drop from s)) s t
    → get_or t (from + i) 0 ≡ get_or (take size (drop from s)) i 0
copied_next from to size i s t b a h e =
    let bs : List ℕ = take size (drop from s) in
    let few = length-take i bs in
    let outside : Outside (from + i) to (length (take i bs)) = ⊎_elim (λ l. inl (omega arith)) (λ l. inr (omega arith)) a in
    ap (λ (y : Image). get_or y (from + i) 0) (e 0)
    ∙ (spared_run 0 (from + i) (programs to (take i bs)) s (spares_programs (from + i) to (take i bs) outside)
    ∙ (sym (get_or-drop from s i 0) ∙ sym (get_or-take size (drop from s) i 0 h)))

pub copied_length : (from size : ℕ) (s : Image) → from + size ≤ length s → length (take size (drop from s)) ≡ size
copied_length from size s b = length-take-le size (drop from s) (omega (arith, length-drop from s))

-- one byte more
pub copied_turn : (from to size i : ℕ) (s t : Image) → from + size ≤ length s → Disjoint from to size → i < size → ProgrammedTo to i (take size (drop from s)) s t
    → ProgrammedTo to (i + 1) (take size (drop from s)) s (set t (to + i) (bit_and (get_or t (to + i) 0) (get_or t (from + i) 0)))
copied_turn from to size i s t b a h e =
    rw (copied_next from to size i s t b a h e) (programs_turn to i (take size (drop from s)) s t (omega (arith, copied_length from size s b)) e)

-- ---- steps in one partition, and the bytes of another

-- every step programs a byte of partition p
abbrev pub Inside : ℕ → ℕ → List Step → Type 0
Inside S p [] = Unit {0}
Inside S p (program at v ∷ xs) = (p * S ≤ at) × (at < p * S + S) × Inside S p xs
Inside S p (erase i ∷ xs) = ⊥

pub inside_within : (S p : ℕ) (xs : List Step) → Inside S p xs → Within (p * S + S) xs
inside_within S p [] w = tt
inside_within S p (program at v ∷ xs) w = (w.1, inside_within S p xs w.2)
inside_within S p (erase i ∷ xs) w = w

inside_append : (S p : ℕ) (xs ys : List Step) → Inside S p xs → Inside S p ys → Inside S p (xs ++ ys)
inside_append S p [] ys v w = w
inside_append S p (program at b ∷ xs) ys v w = (v.0, v.1, inside_append S p xs ys v.2 w)
inside_append S p (erase i ∷ xs) ys v w = v

inside_programs : (S p at : ℕ) (bs : List ℕ) → p * S ≤ at → at + length bs ≤ p * S + S → Inside S p (programs at bs)
unfolding programs
inside_programs S p at [] h k = tt
inside_programs S p at (b ∷ bs) h k = (h, omega arith, inside_programs S p (suc at) bs (omega arith) (omega arith))

pub inside_item : (S p at item : ℕ) (bs : List ℕ) → p * S ≤ at → at + 1 + length bs ≤ p * S + S → Inside S p (item_steps at item bs)
inside_item S p at item bs h k = inside_append S p (programs (at + 1) bs) (program at item ∷ []) (inside_programs S p (at + 1) bs (omega arith) k) (h, omega arith, tt)

-- two images have the same bytes in partition p
abbrev pub Same : ℕ → ℕ → Image → Image → Type 0
Same S p s t = (k : ℕ) → k < S → get_or s (p * S + k) 0 ≡ get_or t (p * S + k) 0

apart : (S p q : ℕ) → (q ≡ p → ⊥) → (q * S + S ≤ p * S) ⊎ (p * S + S ≤ q * S)
apart S p q n = elim (dec_le p q) [ yes l ↦ inr (before p q (omega arith)) | no l ↦ inl (before q p (omega arith)) ]
  where
    before : (i j : ℕ) → i < j → i * S + S ≤ j * S
    before i j l = omega (arith, mul-le-mul_right S l, suc-mul i S)

elsewhere : (S p q k : ℕ) → (q ≡ p → ⊥) → k < S → (q * S + k < p * S) ⊎ (p * S + S ≤ q * S + k)
elsewhere S p q k n h = ⊎_elim (λ l. inl (omega arith)) (λ l. inr (omega arith)) (apart S p q n)

-- the same place of two partitions
pub places_disjoint : (S from to at n : ℕ) → (from ≡ to → ⊥) → at + n ≤ S → Disjoint (from * S + at) (to * S + at) n
places_disjoint S from to at n d h = ⊎_elim (λ l. inl (omega arith)) (λ l. inr (omega arith)) (apart S to from d)

-- programs in one partition, as far as a budget goes
programs_kept : (S p q n : ℕ) (xs : List Step) (s : Image) → (q ≡ p → ⊥) → Inside S p xs → Same S q (run_in S (take n xs) s) s
unfolding run_in step_in
programs_kept S p q zero xs s a w k h = refl
programs_kept S p q (suc n) [] s a w k h = refl
programs_kept S p q (suc n) (program at v ∷ xs) s a w k h =
    programs_kept S p q n xs (set s at (clear (get_or s at 0) v)) a w.2 k h
    ∙ get_or-set_other s at (q * S + k) (clear (get_or s at 0) v) 0 (λ e. ⊎_elim (λ l. omega (arith, w.0)) (λ l. omega (arith, w.1)) (elsewhere S p q k a h))
programs_kept S p q (suc n) (erase i ∷ xs) s a w k h = absurd w

pub ran_kept : (S p q : ℕ) {xs : List Step} {n m : ℕ} {s t : Image} → (q ≡ p → ⊥) → Inside S p xs → RanIn xs S n m s t → Same S q t s
ran_kept S p q {xs} {n} {m} {s} a w d k h = ap (λ (y : Image). get_or y (q * S + k) 0) d.image ∙ programs_kept S p q n xs s a w k h

-- an erase of one partition
erase_elsewhere : (S p j : ℕ) (s : Image) → p * S + S ≤ length s → (j < p * S) ⊎ (p * S + S ≤ j) → get_or (with_unit S p (erased S) s) j 0 ≡ get_or s j 0
unfolding with_unit erased
erase_elsewhere S p j s b (inl l) =
    let la : length (take (p * S) s) ≡ p * S = length-take-le (p * S) s (omega arith) in
    get_or-append (take (p * S) s) _ 0 j (omega arith) ∙ get_or-take (p * S) s j 0 l
erase_elsewhere S p j s b (inr l) =
    let front : List ℕ = take (p * S) s in
    let blank : List ℕ = replicate S 255 in
    let back : List ℕ = drop (p * S + S) s in
    let m : ℕ = j - (p * S + S) in
    let one : j ≡ length front + (length blank + m) = omega (arith, length-take-le (p * S) s (omega arith), length-replicate {A = ℕ} S 255) in
    let two : p * S + S + m ≡ j = omega arith in
    ap (λ (i : ℕ). get_or (front ++ (blank ++ back)) i 0) one
    ∙ (get_or-append-add front (blank ++ back) (length blank + m) 0
    ∙ (get_or-append-add blank back m 0
    ∙ (get_or-drop (p * S + S) s m 0 ∙ ap (λ (i : ℕ). get_or s i 0) two)))

erase_step : (S p q k : ℕ) (s : Image) → (q ≡ p → ⊥) → k < S → get_or (step_in S (erase p) s) (q * S + k) 0 ≡ get_or s (q * S + k) 0
unfolding step_in
erase_step S p q k s a h = go (leb (p * S + S) (length s)) refl
  where
    go : (t : Bool) → leb (p * S + S) (length s) ≡ t → get_or (cond t (with_unit S p (erased S) s) s) (q * S + k) 0 ≡ get_or s (q * S + k) 0
    go true e = erase_elsewhere S p (q * S + k) s (leb-true (p * S + S) (length s) e) (elsewhere S p q k a h)
    go false e = refl

pub erase_kept : (S p q n : ℕ) {m : ℕ} {s t : Image} → (q ≡ p → ⊥) → RanIn (erase p ∷ []) S n m s t → Same S q t s
unfolding run_in
erase_kept S p q zero a d k h = ap (λ (y : Image). get_or y (q * S + k) 0) d.image
erase_kept S p q (suc zero) {m} {s} a d k h = ap (λ (y : Image). get_or y (q * S + k) 0) d.image ∙ erase_step S p q k s a h
erase_kept S p q (suc (suc n)) {m} {s} a d k h = ap (λ (y : Image). get_or y (q * S + k) 0) d.image ∙ erase_step S p q k s a h

-- bytes of a partition that are the same, as a piece
pub piece_same : (at n : ℕ) (s t : Image) → length s ≡ length t → ((k : ℕ) → k < n → get_or s (at + k) 0 ≡ get_or t (at + k) 0) → take n (drop at s) ≡ take n (drop at t)
piece_same at n s t l h =
    let same : length (take n (drop at s)) ≡ length (take n (drop at t)) = simp (length-take, length-drop) (omega arith) in
    ext_get_or 0 (take n (drop at s)) (take n (drop at t)) same (λ k b. each k (omega (arith, length-take n (drop at s))))
  where
    each : (k : ℕ) → k < n → get_or (take n (drop at s)) k 0 ≡ get_or (take n (drop at t)) k 0
    each k b = get_or-take n (drop at s) k 0 b ∙ (get_or-drop at s k 0 ∙ (h k b ∙ (sym (get_or-drop at t k 0) ∙ sym (get_or-take n (drop at t) k 0 b))))
