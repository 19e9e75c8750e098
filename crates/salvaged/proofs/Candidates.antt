-- The candidates of any image: every slot of live form in the segments regarded, by rising segment number, then place.
use Rattle.std.specs.Prelude.{ℕ, zero, suc, ◌+◌, ◌-◌, ◌%◌, ◌<◌, ◌≡◌, ◌≢◌, ◌⊎◌, Bool, true, false, cond, length, set}
use Rattle.std.proofs.Math.Path.{refl, ap, ap₂}
use Rattle.std.proofs.Common.{sym, ◌∙◌, subst, inl, inr, ⊎_elim, arith, length-set, get_or-set_other}
use Rattle.std.proofs.lemmas.Bool.{false≢true}
use mathlib.Core.List.{List, [], ◌∷◌, ◌++◌, map}
use Rattle.std.proofs.Math.Decide.{ℕ_discrete, dec_lt}
use Rattle.std.proofs.Math.Nat.{mod-lt}
use Rattle.std.proofs.Math.ListN.{get_or, get_or-eq_default}
use Rattle.model.specs.Chip.{Image, right_size}
use Rattle.model.specs.Slot.{Slot, empty, torn, dead, cut, wrong, live, entry_of}
use Rattle.model.specs.State.{Segment, blank, invalid, in_use, is_in_use, is_owing, number_after, slots_in, segments_of, next_number, top_index, next_index, top_slots, used_count, next_blanked}
use Rattle.model.specs.Laws.Lists.{count_none}
use Rattle.model.proofs.Laws.Chip.{size_facts}
use Rattle.model.proofs.Laws.Segments.{segments_length}
use Rattle.model.proofs.Laws.Effects.{numbered_at}
use Rattle.model.proofs.Laws.Ring.{next_ge, next_at, used_less, number_in_use}
use Rattle.account_text.specs.Account.{LiveSlot, live_at, live_from, live_in, live_slots}
use Rattle.salvage.specs.Salvage.{regarded, candidates}
use Rattle.salvaged.specs.Law.{Among, IsLive, Aside, EveryCandidate}

-- ---- members

pub among_left : (e : LiveSlot) (x y : List LiveSlot) → Among e x → Among e (x ++ y)
among_left e [] y h = absurd h
among_left e (z ∷ x) y (inl h) = inl h
among_left e (z ∷ x) y (inr h) = inr (among_left e x y h)

pub among_right : (e : LiveSlot) (x y : List LiveSlot) → Among e y → Among e (x ++ y)
among_right e [] y h = h
among_right e (z ∷ x) y h = inr (among_right e x y h)

pub among_either : (e : LiveSlot) (x y : List LiveSlot) → Among e (x ++ y) → Among e x ⊎ Among e y
among_either e [] y h = inr h
among_either e (z ∷ x) y (inl h) = inl (inl h)
among_either e (z ∷ x) y (inr h) = ⊎_elim (λ p. inl (inr p)) (λ p. inr p) (among_either e x y h)

-- ---- one segment

never : (b : ℕ) (c : List ℕ) → empty ≡ live b c → ⊥
never b c q = let y : ◌≡◌ {A = ℕ} 0 1 = cc in omega arith

-- its live slots, from place j on
abbrev pub InRow : ℕ → ℕ → List Slot → LiveSlot → Type 0
InRow i j ks e = (e.segment ≡ i) × ((k : ℕ) × (e.slot ≡ j + k) × (get_or ks k empty ≡ live e.block e.contents))

row_later : (i j : ℕ) (k : Slot) (ks : List Slot) (e : LiveSlot) → InRow i (suc j) ks e → InRow i j (k ∷ ks) e
row_later i j k ks e h = (h.0, (suc h.1.0, h.1.1 ∙ omega arith, h.1.2))

pub from_row : (i j : ℕ) (ks : List Slot) (e : LiveSlot) → Among e (live_from i j ks) → InRow i j ks e
unfolding live_from live_at entry_of map
from_row i j [] e h = absurd h
from_row i j (empty ∷ ks) e h = row_later i j empty ks e (from_row i (suc j) ks e h)
from_row i j (torn ∷ ks) e h = row_later i j torn ks e (from_row i (suc j) ks e h)
from_row i j (dead ∷ ks) e h = row_later i j dead ks e (from_row i (suc j) ks e h)
from_row i j (cut ∷ ks) e h = row_later i j cut ks e (from_row i (suc j) ks e h)
from_row i j (wrong ∷ ks) e h = row_later i j wrong ks e (from_row i (suc j) ks e h)
from_row i j (live b c ∷ ks) e (inl h) = (ap (λ (x : LiveSlot). x.segment) h, (0, ap (λ (x : LiveSlot). x.slot) h ∙ omega arith, sym (ap (λ (x : LiveSlot). live x.block x.contents) h)))
from_row i j (live b c ∷ ks) e (inr h) = row_later i j (live b c) ks e (from_row i (suc j) ks e h)

in_row_lem : (i j k : ℕ) (ks : List Slot) (b : ℕ) (c : List ℕ) → get_or ks k empty ≡ live b c → Among (record { block = b; contents = c; segment = i; slot = j + k }) (live_from i j ks)
unfolding live_from live_at entry_of map
in_row_lem i j k [] b c e = absurd (never b c e)
in_row_lem i j zero (x ∷ ks) b c e =
    let q : j + 0 ≡ j = omega arith in
    subst (λ (y : Slot). Among (record { block = b; contents = c; segment = i; slot = j + 0 }) (map (live_at i j) (entry_of y) ++ live_from i (suc j) ks)) (sym e) (inl (ap (λ (m : ℕ). record { block = b; contents = c; segment = i; slot = m }) q))
in_row_lem i j (suc k) (x ∷ ks) b c e =
    let q : suc j + k ≡ j + suc k = omega arith in
    among_right (record { block = b; contents = c; segment = i; slot = j + suc k }) (map (live_at i j) (entry_of x)) (live_from i (suc j) ks)
    (subst (λ (n : ℕ). Among (record { block = b; contents = c; segment = i; slot = n }) (live_from i (suc j) ks)) q (in_row_lem i (suc j) k ks b c e))

-- ---- the segments of an image, some of them left out

pub record Seen (N : ℕ) (l : List Segment) : Type 0 where
  pub size : length l ≡ N
  pub some : 0 < N
  -- a number stands at its index
  pub index : (i n : ℕ) → number_after (get_or l i blank) ≡ suc n → n % N ≡ i

blank_here : (l : List Segment) (i : ℕ) → get_or (set l i blank) i blank ≡ blank
blank_here [] i = refl
blank_here (x ∷ l) zero = refl
blank_here (x ∷ l) (suc i) = blank_here l i

blank_none : (n : ℕ) → number_after blank ≡ suc n → ⊥
unfolding number_after
blank_none n h = omega arith

pub seen_less : (N : ℕ) (l : List Segment) (i : ℕ) → Seen N l → Seen N (set l i blank)
seen_less N l i s = record {
  size = length-set l i blank ∙ s.size;
  some = s.some;
  index = λ j n h. elim (ℕ_discrete j i) [
    | yes e ↦ absurd (blank_none n (sym (ap number_after (ap (λ (k : ℕ). get_or (set l i blank) k blank) e ∙ blank_here l i)) ∙ h))
    | no e ↦ s.index j n (sym (ap number_after (get_or-set_other l i j blank blank e)) ∙ h)
  ];
}

pub seen_all : (N B : ℕ) (s : Image) → right_size N B s ≡ true → Seen N (segments_of N B s)
seen_all N B s z = record {
  size = segments_length N B s;
  some = omega (arith, (size_facts N B s z).two);
  index = λ i n h. elim (dec_lt i N) [
    | yes p ↦ (numbered_at N B s i n p h).0
    | no p ↦ absurd (blank_none n (sym (ap number_after (get_or-eq_default (segments_of N B s) blank (omega (arith, segments_length N B s)))) ∙ h))
  ];
}

pub seen_regarded : (N : ℕ) (l : List Segment) → Seen N l → Seen N (regarded N l)
unfolding regarded next_blanked
seen_regarded N l s = go (is_owing (get_or l (top_index N l) blank))
  where
    go : (t : Bool) → Seen N (cond t (set l (next_index N l) blank) l)
    go true = seen_less N l (next_index N l) s
    go false = s

-- the segment of a live slot has a number
pub stands_number : (l : List Segment) (e : LiveSlot) → IsLive l e → (n : ℕ) × (number_after (get_or l e.segment blank) ≡ suc n)
stands_number l e h = go (get_or l e.segment blank) h.2
  where
    go : (x : Segment) → get_or (slots_in x) h.0 empty ≡ live e.block e.contents → (n : ℕ) × (number_after x ≡ suc n)
    go blank q = absurd (never e.block e.contents (unfold slots_in in q))
    go invalid q = absurd (never e.block e.contents (unfold slots_in in q))
    go (in_use ver st n ks) q = (n, (unfold number_after in refl))

-- one that stands where a segment was left out stands elsewhere
pub stands_other : (l : List Segment) (i : ℕ) (e : LiveSlot) → IsLive (set l i blank) e → e.segment ≢ i
stands_other l i e h q = blank_none n.0 (sym (ap number_after (ap (λ (k : ℕ). get_or (set l i blank) k blank) q ∙ blank_here l i)) ∙ n.1)
  where
    n : (k : ℕ) × (number_after (get_or (set l i blank) e.segment blank) ≡ suc k)
    n = stands_number (set l i blank) e h

pub stands_more : (l : List Segment) (i : ℕ) (e : LiveSlot) → IsLive (set l i blank) e → IsLive l e
stands_more l i e h = (h.0, h.1, ap (λ (x : Segment). get_or (slots_in x) h.0 empty) (sym (get_or-set_other l i e.segment blank blank (stands_other l i e h))) ∙ h.2)

-- ---- every one, and no other

pub lives_stand : (N u : ℕ) (l : List Segment) (e : LiveSlot) → Among e (live_in N u l) → IsLive l e
unfolding live_in top_slots
lives_stand N zero l e h = absurd h
lives_stand N (suc u) l e h =
    let i = top_index N l in
    ⊎_elim (λ p. stands_more l i e (lives_stand N u (set l i blank) e p))
    (λ p. let r = from_row i 1 (slots_in (get_or l i blank)) e p in (r.1.0, omega (arith, r.1.1), ap (λ (k : ℕ). get_or (slots_in (get_or l k blank)) r.1.0 empty) r.0 ∙ r.1.2))
    (among_either e (live_in N u (set l i blank)) (live_from i 1 (slots_in (get_or l i blank))) h)

top_number_lem : (N : ℕ) (l : List Segment) → Seen N l → 0 < next_number l → number_after (get_or l (top_index N l) blank) ≡ next_number l
unfolding top_index
top_number_lem N l s h =
    let r = next_at l h in
    let q : (next_number l - 1) % N ≡ r.0 = s.index r.0 (next_number l - 1) (r.2 ∙ omega arith) in
    ap (λ (k : ℕ). number_after (get_or l k blank)) q ∙ r.2

stands_inside : (l : List Segment) (e : LiveSlot) → IsLive l e → e.segment < length l
stands_inside l e h = elim (dec_lt e.segment (length l)) [
  | yes p ↦ p
  | no p ↦ let n = stands_number l e h in absurd (blank_none n.0 (sym (ap number_after (get_or-eq_default l blank (omega arith))) ∙ n.1))
]

-- the top of segments of which one holds a live slot
module _ (N : ℕ) (l : List Segment) (s : Seen N l) (e : LiveSlot) (h : IsLive l e) where
  pub numbered_top : number_after (get_or l (top_index N l) blank) ≡ suc (next_number l - 1)
  numbered_top =
      let n = stands_number l e h in
      let some : 0 < next_number l = omega (arith, n.1, next_ge l e.segment) in
      top_number_lem N l s some ∙ omega (arith, some)

  top_fewer : suc (used_count (set l (top_index N l) blank)) ≡ used_count l
  unfolding top_index is_in_use
  top_fewer =
      let i = (next_number l - 1) % N in
      used_less l i blank (omega (arith, mod-lt (next_number l - 1) s.some, s.size)) (number_in_use (get_or l i blank) (next_number l - 1) numbered_top) refl

  -- in the top, or in what is left
  top_or_rest : (u : ℕ) → (IsLive (set l (top_index N l) blank) e → Among e (live_in N u (set l (top_index N l) blank))) → Among e (live_in N (suc u) l)
  unfolding live_in top_slots
  top_or_rest u ih =
      let i = top_index N l in
      let rest = live_in N u (set l i blank) in
      let row = live_from i 1 (slots_in (get_or l i blank)) in
      elim (ℕ_discrete e.segment i) [
        | yes q ↦ among_right e rest row (subst (λ (x : LiveSlot). Among x row) (named i q) (in_row_lem i 1 h.0 (slots_in (get_or l i blank)) e.block e.contents (ap (λ (k : ℕ). get_or (slots_in (get_or l k blank)) h.0 empty) (sym q) ∙ h.2)))
        | no q ↦ among_left e rest row (ih (h.0, h.1, ap (λ (x : Segment). get_or (slots_in x) h.0 empty) (get_or-set_other l i e.segment blank blank q) ∙ h.2))
      ]
    where
      named : (i : ℕ) → e.segment ≡ i → record { block = e.block; contents = e.contents; segment = i; slot = 1 + h.0 } ≡ e
      named i q = ap₂ {C = LiveSlot} (λ x y. record { block = e.block; contents = e.contents; segment = x; slot = y }) (sym q) (omega (arith, h.1))

stand_lives : (N u : ℕ) (l : List Segment) → Seen N l → used_count l ≡ u → (e : LiveSlot) → IsLive l e → Among e (live_in N u l)
stand_lives N zero l s c e h =
    let n = stands_number l e h in
    let k = stands_inside l e h in
    absurd (false≢true (sym (unused k) ∙ number_in_use (get_or l e.segment blank) n.0 n.1))
  where
    unused : e.segment < length l → is_in_use (get_or l e.segment blank) ≡ false
    unused k = unfold used_count in (count_none is_in_use l e.segment blank (unfold used_count in c) k)
stand_lives N (suc u) l s c e h =
    top_or_rest N l s e h u (stand_lives N u (set l (top_index N l) blank) (seen_less N l (top_index N l) s) (omega (arith, c, top_fewer N l s e h)) e)

-- ---- those that are looked at

aside_less : (N : ℕ) (l : List Segment) (e : LiveSlot) → IsLive (regarded N l) e → IsLive l e × (Aside N l e → ⊥)
unfolding regarded next_blanked
aside_less N l e = go (is_owing (get_or l (top_index N l) blank)) refl
  where
    go : (t : Bool) → is_owing (get_or l (top_index N l) blank) ≡ t → IsLive (cond t (set l (next_index N l) blank) l) e → IsLive l e × (Aside N l e → ⊥)
    go true q h = (stands_more l (next_index N l) e h, λ a. stands_other l (next_index N l) e h a.1)
    go false q h = (h, λ a. false≢true (sym q ∙ a.0))

not_aside : (N : ℕ) (l : List Segment) (e : LiveSlot) → IsLive l e → (Aside N l e → ⊥) → IsLive (regarded N l) e
unfolding regarded next_blanked
not_aside N l e h n = go (is_owing (get_or l (top_index N l) blank)) refl
  where
    go : (t : Bool) → is_owing (get_or l (top_index N l) blank) ≡ t → IsLive (cond t (set l (next_index N l) blank) l) e
    go true q = (h.0, h.1, ap (λ (x : Segment). get_or (slots_in x) h.0 empty) (get_or-set_other l (next_index N l) e.segment blank blank (λ k. n (q, k))) ∙ h.2)
    go false q = h

pub every_candidate : EveryCandidate
unfolding candidates live_slots
every_candidate = λ N B s e z.
    let l = segments_of N B s in
    let m = regarded N l in
    (λ h. aside_less N l e (lives_stand N (used_count m) m e h), λ h n. stand_lives N (used_count m) m (seen_regarded N l (seen_all N B s z)) refl e (not_aside N l e h n))
