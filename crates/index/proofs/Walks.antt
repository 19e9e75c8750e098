-- The segments in use of an image, from the top down: what is left of them after the top was taken, and their live slots.
use Prim.Native.Nat.{ℕ, zero, suc, ◌+◌, ◌-◌, ◌*◌, ◌%◌, ◌≤◌, ◌<◌}
use Rattle.std.specs.Prelude.{◌≡◌, refl, ◌≢◌, Bool, false, cond, List, [], ◌∷◌}
use Rattle.std.proofs.Common.{sym, ◌∙◌, suc-mul, mul-le-mul_right, mod-lt, get_or-set_other}
use Rattle.std.proofs.Math.Path.{ap, subst}
use Rattle.std.proofs.Math.Bool.{true}
use Rattle.std.proofs.lemmas.Bool.{false≢true}
use native.Mathlib.Omega.{arith}
use Rattle.std.proofs.Math.Decide.{ℕ_discrete, dec_lt}
use lib.ListN.{length, get_or, set, length-append, length-set}
use Rattle.std.proofs.Math.Seq.{get_or-set_same}
use Rattle.model.specs.Lists.{chunk, count}
use Rattle.model.specs.Chip.{Image, most_segments, most_slots}
use Rattle.model.specs.Slot.{Slot, slot_of}
use Rattle.model.specs.State.{Segment, blank, invalid, in_use, is_in_use, number_after, segments_of, slots_in, top_index, top_slots, next_index, next_number, used_count, State, clean, unfinished, damaged, case_a, case_b, case_c, case_d, state_of}
use Rattle.model.specs.Laws.Lists.{map_length}
use Rattle.model.specs.Laws.Chunk.{chunk_length}
use Rattle.model.proofs.Laws.Ring.{next_at, used_less}
use Rattle.model.proofs.Laws.Segments.{segments_length}
use Rattle.model.proofs.Laws.Effects.{numbered_at}
use Rattle.judge.specs.Rows.{slots_at}
use Rattle.judge.specs.Parts.{slots_offset, used_slots}
use Rattle.account_text.specs.Account.{LiveSlot, live_from, live_in, live_slots, unseen, shown_in, shown}
use Rattle.index.specs.declared.Tables.{Tables}
use Rattle.index.specs.Tables.{linked, page_of, Stands, AllStand, list_of, Indexed}
use Rattle.index.proofs.Chains.{Free, AllApart, Whole, Bare, linked_listed}
use Rattle.index.proofs.Lives.{Each, each_join, each_more, all_stand, apart_join, From, from_all, apart_from, from_few, row_stands}

-- ---- segments of an image, some of them left out

pub record Held (N B : ℕ) (s : Image) (l : List Segment) : Type 0 where
  pub count : length l ≡ N
  pub slots : (i : ℕ) → i < N → is_in_use (get_or l i blank) ≡ true → slots_in (get_or l i blank) ≡ slots_at s (slots_offset B i) B
  pub index : (i n : ℕ) → i < N → number_after (get_or l i blank) ≡ suc n → n % N ≡ i

use_number : (x : Segment) → is_in_use x ≡ true → (n : ℕ) × (number_after x ≡ suc n)
unfolding is_in_use number_after
use_number blank h = absurd (false≢true h)
use_number invalid h = absurd (false≢true h)
use_number (in_use ver st n ks) h = (n, refl)

pub number_use : (x : Segment) (n : ℕ) → number_after x ≡ suc n → is_in_use x ≡ true
unfolding is_in_use number_after
number_use blank n h = absurd (omega arith)
number_use invalid n h = absurd (omega arith)
number_use (in_use ver st m ks) n h = refl

pub held_all : (N B : ℕ) (s : Image) → Held N B s (segments_of N B s)
held_all N B s = record {
  count = segments_length N B s;
  slots = λ i h u. let q = use_number (get_or (segments_of N B s) i blank) u in used_slots N B i q.0 s h q.1;
  index = λ i n h e. (numbered_at N B s i n h e).0;
}

-- one replaced by another that is not in use
pub held_without : (N B : ℕ) (s : Image) (l : List Segment) (i : ℕ) (y : Segment) → is_in_use y ≡ false → i < N → Held N B s l → Held N B s (set l i y)
held_without N B s l i y f b h = record {
  count = length-set l i y ∙ h.count;
  slots = λ j p u. elim (ℕ_discrete j i) [
    | yes e ↦ absurd (false≢true (sym f ∙ (sym (ap is_in_use (here j e)) ∙ u)))
    | no e ↦ ap slots_in (get_or-set_other l i j y blank e) ∙ h.slots j p (sym (ap is_in_use (get_or-set_other l i j y blank e)) ∙ u)
  ];
  index = λ j n p u. elim (ℕ_discrete j i) [
    | yes e ↦ absurd (false≢true (sym f ∙ (sym (ap is_in_use (here j e)) ∙ number_use (get_or (set l i y) j blank) n u)))
    | no e ↦ h.index j n p (sym (ap number_after (get_or-set_other l i j y blank e)) ∙ u)
  ];
}
  where
    here : (j : ℕ) → j ≡ i → get_or (set l i y) j blank ≡ y
    here j e = ap (λ (k : ℕ). get_or (set l i y) k blank) e ∙ get_or-set_same l i y blank (rw h.count b)

blank_unused : is_in_use blank ≡ false
unfolding is_in_use
blank_unused = refl

unseen_not : (x : Segment) → is_in_use (unseen x) ≡ false
unfolding is_in_use unseen
unseen_not blank = refl
unseen_not invalid = refl
unseen_not (in_use ver st n ks) = refl

pub held_shown : (N B : ℕ) (s : Image) → 0 < N → Held N B s (shown N B (segments_of N B s))
unfolding shown next_index
held_shown N B s p = go (state_of N B (segments_of N B s))
  where
    go : (st : State) → Held N B s (shown_in N (segments_of N B s) st)
    go clean = unfold shown_in in held_all N B s
    go (unfinished case_a) = unfold shown_in in held_all N B s
    go (unfinished case_b) = unfold shown_in next_index in held_without N B s (segments_of N B s) (next_number (segments_of N B s) % N) (unseen (get_or (segments_of N B s) (next_number (segments_of N B s) % N) blank))
        (unseen_not (get_or (segments_of N B s) (next_number (segments_of N B s) % N) blank)) (mod-lt (next_number (segments_of N B s)) p) (held_all N B s)
    go (unfinished case_c) = unfold shown_in in held_all N B s
    go (unfinished case_d) = unfold shown_in in held_all N B s
    go damaged = unfold shown_in in held_all N B s

-- ---- the top

pub top_below : (N : ℕ) (l : List Segment) → 0 < N → top_index N l < N
unfolding top_index
top_below N l p = mod-lt (next_number l - 1) p

pub held_less : (N B : ℕ) (s : Image) (l : List Segment) → 0 < N → Held N B s l → Held N B s (set l (top_index N l) blank)
held_less N B s l p h = held_without N B s l (top_index N l) blank blank_unused (top_below N l p) h

pub some_next : (l : List Segment) → 0 < used_count l → 0 < next_number l
unfolding used_count count next_number
some_next [] h = h
some_next (x ∷ l) h = go (is_in_use x) refl h (some_next l)
  where
    go : (t : Bool) → is_in_use x ≡ t → 0 < cond t (suc (count is_in_use l)) (count is_in_use l) → (0 < count is_in_use l → 0 < next_number l) → 0 < Prim.Native.Nat.max (number_after x) (next_number l)
    go true e q ih = let u = use_number x e in omega (arith, u.1)
    go false e q ih = let r = ih q in omega arith

pub top_number_lem : (N B : ℕ) (s : Image) (l : List Segment) → 0 < N → Held N B s l → 0 < used_count l → number_after (get_or l (top_index N l) blank) ≡ next_number l
unfolding top_index
top_number_lem N B s l p h u =
    let r = next_at l (some_next l u) in
    let m = some_next l u in
    let e : next_number l ≡ suc (next_number l - 1) = omega arith in
    let q : (next_number l - 1) % N ≡ r.0 = h.index r.0 (next_number l - 1) (subst (λ (k : ℕ). r.0 < k) h.count r.1) (r.2 ∙ e) in
    ap (λ (k : ℕ). number_after (get_or l k blank)) q ∙ r.2

pub top_used : (N B : ℕ) (s : Image) (l : List Segment) → 0 < N → Held N B s l → 0 < used_count l → is_in_use (get_or l (top_index N l) blank) ≡ true
top_used N B s l p h u =
    let m = some_next l u in
    number_use (get_or l (top_index N l) blank) (next_number l - 1) (top_number_lem N B s l p h u ∙ omega arith)

pub used_fewer : (N B : ℕ) (s : Image) (l : List Segment) → 0 < N → Held N B s l → 0 < used_count l → suc (used_count (set l (top_index N l) blank)) ≡ used_count l
used_fewer N B s l p h u = used_less l (top_index N l) blank (rw h.count (top_below N l p)) (top_used N B s l p h u) blank_unused

-- ---- the live slots

-- the top's slots, if it is in use; otherwise it has none
top_row_lem : (N B : ℕ) (s : Image) (l : List Segment) → 0 < N → Held N B s l → (P : List Slot → Type 0) → P [] → P (slots_at s (slots_offset B (top_index N l)) B) → P (top_slots N l)
unfolding top_slots
top_row_lem N B s l p h P a b = go (get_or l (top_index N l) blank) refl
  where
    go : (x : Segment) → get_or l (top_index N l) blank ≡ x → P (slots_in x)
    go blank e = unfold slots_in in a
    go invalid e = unfold slots_in in a
    go (in_use ver st n ks) e =
        let u : is_in_use (get_or l (top_index N l) blank) ≡ true = ap is_in_use e ∙ (unfold is_in_use in refl) in
        subst P (sym (h.slots (top_index N l) (top_below N l p) u) ∙ ap slots_in e) b

-- what holds of the live slots of every segment, holds of all
pub in_each : (P : LiveSlot → Type 0) (N B : ℕ) (s : Image) → 0 < N → ((i : ℕ) → i < N → Each P (live_from i 1 (slots_at s (slots_offset B i) B))) → (u : ℕ) (l : List Segment) → Held N B s l → Each P (live_in N u l)
unfolding live_in
in_each P N B s p f zero l h = tt
in_each P N B s p f (suc u) l h =
    each_join P (live_in N u (set l (top_index N l) blank)) (live_from (top_index N l) 1 (top_slots N l)) (in_each P N B s p f u (set l (top_index N l) blank) (held_less N B s l p h))
    (top_row_lem N B s l p h (λ (ks : List Slot). Each P (live_from (top_index N l) 1 ks)) (unfold live_from in tt) (f (top_index N l) (top_below N l p)))

pub in_stands : (N B : ℕ) (s : Image) → 0 < N → (u : ℕ) (l : List Segment) → Held N B s l → Each (λ e. Stands N B e) (live_in N u l)
in_stands N B s p = in_each (λ e. Stands N B e) N B s p (λ i h. row_stands N B i s h B 1 (omega arith) (omega arith))

-- each is in a segment in use
in_use_lem : (N B : ℕ) (s : Image) → 0 < N → (u : ℕ) (l : List Segment) → Held N B s l → Each (λ e. is_in_use (get_or l e.segment blank) ≡ true) (live_in N u l)
unfolding live_in top_slots
in_use_lem N B s p zero l h = tt
in_use_lem N B s p (suc u) l h =
    each_join (λ e. is_in_use (get_or l e.segment blank) ≡ true) (live_in N u (set l (top_index N l) blank)) (live_from (top_index N l) 1 (top_slots N l))
    (each_more (λ e. is_in_use (get_or (set l (top_index N l) blank) e.segment blank) ≡ true) (λ e. is_in_use (get_or l e.segment blank) ≡ true) (λ e q. before e q)
    (live_in N u (set l (top_index N l) blank)) (in_use_lem N B s p u (set l (top_index N l) blank) (held_less N B s l p h)))
    (last (get_or l (top_index N l) blank) refl)
  where
    before : (e : LiveSlot) → is_in_use (get_or (set l (top_index N l) blank) e.segment blank) ≡ true → is_in_use (get_or l e.segment blank) ≡ true
    before e q = elim (ℕ_discrete e.segment (top_index N l)) [
      | yes d ↦ absurd (false≢true (sym blank_unused ∙ (sym (ap is_in_use (ap (λ (k : ℕ). get_or (set l (top_index N l) blank) k blank) d ∙ get_or-set_same l (top_index N l) blank blank (rw h.count (top_below N l p)))) ∙ q)))
      | no d ↦ sym (ap is_in_use (get_or-set_other l (top_index N l) e.segment blank blank d)) ∙ q
    ]

    last : (x : Segment) → get_or l (top_index N l) blank ≡ x → Each (λ e. is_in_use (get_or l e.segment blank) ≡ true) (live_from (top_index N l) 1 (slots_in (get_or l (top_index N l) blank)))
    last blank e = subst (λ (x : Segment). Each (λ y. is_in_use (get_or l y.segment blank) ≡ true) (live_from (top_index N l) 1 (slots_in x))) (sym e) (unfold slots_in live_from in tt)
    last invalid e = subst (λ (x : Segment). Each (λ y. is_in_use (get_or l y.segment blank) ≡ true) (live_from (top_index N l) 1 (slots_in x))) (sym e) (unfold slots_in live_from in tt)
    last (in_use ver st n ks) e =
        let u : is_in_use (get_or l (top_index N l) blank) ≡ true = ap is_in_use e ∙ (unfold is_in_use in refl) in
        each_more (λ y. From (top_index N l) 1 y) (λ y. is_in_use (get_or l y.segment blank) ≡ true) (λ y q. ap (λ (k : ℕ). is_in_use (get_or l k blank)) q.0 ∙ u) (live_from (top_index N l) 1 (slots_in (get_or l (top_index N l) blank))) (from_all (top_index N l) 1 (slots_in (get_or l (top_index N l) blank)))

-- pages of different segments differ
pages_differ : (B i j a b : ℕ) → i ≢ j → a ≤ B → b ≤ B → i * (B + 1) + a ≢ j * (B + 1) + b
pages_differ B i j a b d h k e = elim (dec_lt i j) [
  | yes p ↦ omega (arith, suc-mul i (B + 1), mul-le-mul_right (B + 1) p)
  | no p ↦ omega (arith, suc-mul j (B + 1), mul-le-mul_right (B + 1) (less i j d p))
]
  where
    less : (i j : ℕ) → i ≢ j → (i < j → ⊥) → suc j ≤ i
    less i j d p = elim (dec_lt j i) [ yes q ↦ q | no q ↦ absurd (d (omega arith)) ]

pub in_apart : (N B : ℕ) (s : Image) → 0 < N → (u : ℕ) (l : List Segment) → Held N B s l → AllApart B (live_in N u l)
unfolding live_in
in_apart N B s p zero l h = tt
in_apart N B s p (suc u) l h =
    let m = set l (top_index N l) blank in
    let k = held_less N B s l p h in
    let r = live_from (top_index N l) 1 (top_slots N l) in
    let rs : Each (λ e. Stands N B e) r = top_row_lem N B s l p h (λ (ks : List Slot). Each (λ e. Stands N B e) (live_from (top_index N l) 1 ks)) (unfold live_from in tt) (row_stands N B (top_index N l) s (top_below N l p) B 1 (omega arith) (omega arith)) in
    apart_join B (live_in N u m) r (in_apart N B s p u m k) (apart_from B (top_index N l) 1 (top_slots N l))
    (cross (live_in N u m) (in_use_lem N B s p u m k) (in_stands N B s p u m k) r (from_all (top_index N l) 1 (top_slots N l)) rs)
  where
    other : (e : LiveSlot) → is_in_use (get_or (set l (top_index N l) blank) e.segment blank) ≡ true → e.segment ≢ top_index N l
    other e q d = absurd (false≢true (sym blank_unused ∙ (sym (ap is_in_use (ap (λ (k : ℕ). get_or (set l (top_index N l) blank) k blank) d ∙ get_or-set_same l (top_index N l) blank blank (rw h.count (top_below N l p)))) ∙ q)))

    one : (e : LiveSlot) → e.segment ≢ top_index N l → e.slot ≤ B → (r : List LiveSlot) → Each (λ y. From (top_index N l) 1 y) r → Each (λ y. Stands N B y) r → Free B (page_of B e) r
    one e d a [] f g = tt
    one e d a (y ∷ r) f g = (λ z. pages_differ B e.segment y.segment e.slot y.slot (λ w. d (w ∙ f.0.0)) a g.0.slot (unfold page_of in (sym z)), one e d a r f.1 g.1)

    cross : (x : List LiveSlot) → Each (λ e. is_in_use (get_or (set l (top_index N l) blank) e.segment blank) ≡ true) x → Each (λ e. Stands N B e) x
        → (r : List LiveSlot) → Each (λ y. From (top_index N l) 1 y) r → Each (λ y. Stands N B y) r → Each (λ e. Free B (page_of B e) r) x
    cross [] a b r f g = tt
    cross (e ∷ x) a b r f g = (one e (other e a.0) b.0.slot r f g, cross x a.1 b.1 r f g)

pub in_few : (N B : ℕ) (s : Image) → 0 < N → (u : ℕ) (l : List Segment) → Held N B s l → length (live_in N u l) ≤ u * B
unfolding live_in
in_few N B s p zero l h = omega arith
in_few N B s p (suc u) l h =
    let m = set l (top_index N l) blank in
    let k = in_few N B s p u m (held_less N B s l p h) in
    let f = from_few (top_index N l) 1 (top_slots N l) in
    let w : length (top_slots N l) ≤ B = top_row_lem N B s l p h (λ (ks : List Slot). length ks ≤ B) (omega arith) (row_length (slots_offset B (top_index N l)) B) in
    let e = length-append (live_in N u m) (live_from (top_index N l) 1 (top_slots N l)) in
    let q = suc-mul u B in
    omega arith
  where
    row_length : (o c : ℕ) → length (slots_at s o c) ≤ c
    row_length o c = let e : length (slots_at s o c) ≡ c = (unfold slots_at in (map_length slot_of (chunk c 256 (lib.ListN.drop o s)) ∙ chunk_length c 256 (lib.ListN.drop o s))) in omega arith

-- ---- the tables that they are put into

pub used_most : (l : List Segment) → used_count l ≤ length l
unfolding used_count count
used_most [] = omega arith
used_most (x ∷ l) = go (is_in_use x) (used_most l)
  where
    go : (t : Bool) → count is_in_use l ≤ length l → cond t (suc (count is_in_use l)) (count is_in_use l) ≤ suc (length l)
    go true h = omega arith
    go false h = omega arith

pub indexed : (N B : ℕ) (s : Image) → 0 < N → N ≤ most_segments → B ≤ most_slots → (t : Tables) → Whole t → Bare t → Indexed N B s (linked B (list_of N B s) t)
unfolding list_of live_slots
indexed N B s p n b t w z =
    let l = shown N B (segments_of N B s) in
    let h = held_shown N B s p in
    let u = used_count l in
    let a : AllStand N B (live_in N u l) = all_stand N B (live_in N u l) (in_stands N B s p u l h) in
    let m = used_most l in
    let k = in_few N B s p u l h in
    let c = h.count in
    let v : u * B ≤ N * B = mul-le-mul_right B (omega arith) in
    let y : N * B ≤ most_segments * B = mul-le-mul_right B n in
    record { listed = linked_listed N B n b (live_in N u l) t a (in_apart N B s p u l h) w z; stands = a; few = omega arith }
