-- Of the candidates of any image the one given is in the highest segment number and the last there, and its line tells whether another one disagrees.
use Rattle.std.specs.Prelude.{ℕ, zero, suc, ◌-◌, ◌%◌, ◌<◌, ◌≡◌, ◌≢◌, ◌⊎◌, Bool, cond, ◌||◌, ◌&&◌, not, get_or, set, eqb}
use Rattle.std.proofs.Math.Path.{refl}
use Rattle.std.proofs.Common.{sym, ap, ◌∙◌, subst, ⊎_elim, true≢false, arith, get_or-set_other, eqb-true, eq-eqb}
use Rattle.std.proofs.Math.Logic.{inl, inr}
use Rattle.std.proofs.Math.Bool.{true, false}
use Rattle.std.proofs.lemmas.Bool.{false≢true}
use mathlib.Core.List.{List, [], ◌∷◌, ◌++◌, map}
use Rattle.model.specs.Lists.{same, all}
use Rattle.model.specs.Slot.{Slot, empty, torn, dead, cut, wrong, live, entry_of}
use Rattle.model.specs.State.{Segment, blank, number_after, is_owing, slots_in, segments_of, next_number, top_index, next_index, next_blanked, top_slots, used_count, holds}
use Rattle.model.specs.Laws.Lists.{and_left, and_right}
use Rattle.model.proofs.Laws.Bytes.{same_eq, same_refl}
use Rattle.model.proofs.Laws.Ring.{next_ge}
use Rattle.account_text.specs.Account.{LiveSlot, live_at, live_from, live_in, live_slots}
use Rattle.salvage.specs.Salvage.{regarded, candidates, held_in, given, agreed}
use Rattle.salvage.proofs.Given.{given_distinct}
use Rattle.salvaged.specs.Law.{Among, IsLive, NotAfter, HighestGiven, Disagreement}
use Rattle.salvaged.proofs.Candidates.{among_either, from_row, Seen, seen_less, seen_all, seen_regarded, stands_number, stands_other, stands_more, lives_stand, numbered_top}

-- ---- the candidates rise by segment number, then place

abbrev Rising : List Segment → List LiveSlot → Type 0
Rising l [] = Unit {0}
Rising l (e ∷ r) = ((g : LiveSlot) → Among g r → NotAfter l e g) × Rising l r

rising_join : (l : List Segment) (x y : List LiveSlot) → Rising l x → Rising l y → ((a b : LiveSlot) → Among a x → Among b y → NotAfter l a b) → Rising l (x ++ y)
rising_join l [] y p q f = q
rising_join l (e ∷ x) y p q f =
    (λ g h. ⊎_elim (λ k. p.0 g k) (λ k. f e g (inl refl) k) (among_either g x y h), rising_join l x y p.1 q (λ a b h k. f a b (inr h) k))

rising_row : (l : List Segment) (i j : ℕ) (ks : List Slot) → Rising l (live_from i j ks)
unfolding live_from live_at entry_of map
rising_row l i j [] = tt
rising_row l i j (empty ∷ ks) = rising_row l i (suc j) ks
rising_row l i j (torn ∷ ks) = rising_row l i (suc j) ks
rising_row l i j (dead ∷ ks) = rising_row l i (suc j) ks
rising_row l i j (cut ∷ ks) = rising_row l i (suc j) ks
rising_row l i j (wrong ∷ ks) = rising_row l i (suc j) ks
rising_row l i j (live b c ∷ ks) = (λ g h. let r = from_row i (suc j) ks g h in inr (sym r.0, omega (arith, r.1.1)), rising_row l i (suc j) ks)

-- the numbers of those that stand where a segment was left out are the same
rising_more : (l : List Segment) (i : ℕ) (r : List LiveSlot) → ((e : LiveSlot) → Among e r → IsLive (set l i blank) e) → Rising (set l i blank) r → Rising l r
rising_more l i [] f p = tt
rising_more l i (e ∷ r) f p = (λ g h. carry g (f g (inr h)) (p.0 g h), rising_more l i r (λ x h. f x (inr h)) p.1)
  where
    number : (x : LiveSlot) → IsLive (set l i blank) x → number_after (get_or (set l i blank) x.segment blank) ≡ number_after (get_or l x.segment blank)
    number x h = ap number_after (get_or-set_other l i x.segment blank blank (stands_other l i x h))

    carry : (g : LiveSlot) → IsLive (set l i blank) g → NotAfter (set l i blank) e g → NotAfter l e g
    carry g h (inl q) = inl (omega (arith, q, number e (f e (inl refl)), number g h))
    carry g h (inr q) = inr q

-- what is left has lower numbers than the top
below_top : (N : ℕ) (l : List Segment) → Seen N l → (a b : LiveSlot) → IsLive (set l (top_index N l) blank) a → IsLive l b → b.segment ≡ top_index N l
    → number_after (get_or l a.segment blank) < number_after (get_or l b.segment blank)
below_top N l s a b h k e =
    let n = stands_number l a (stands_more l (top_index N l) a h) in
    let top : number_after (get_or l b.segment blank) ≡ suc (next_number l - 1) = ap (λ (i : ℕ). number_after (get_or l i blank)) e ∙ numbered_top N l s b k in
    let other : n.0 ≢ next_number l - 1 = (λ q. stands_other l (top_index N l) a h (sym (s.index a.segment n.0 n.1) ∙ same_index n.0 q)) in
    omega (arith, n.1, top, other, next_ge l a.segment)
  where
    same_index : (m : ℕ) → m ≡ next_number l - 1 → m % N ≡ top_index N l
    same_index m q = unfold top_index in (ap (λ (i : ℕ). i % N) q)

rising_lives : (N u : ℕ) (l : List Segment) → Seen N l → Rising l (live_in N u l)
unfolding live_in top_slots
rising_lives N zero l s = tt
rising_lives N (suc u) l s =
    let i = top_index N l in
    let rest = live_in N u (set l i blank) in
    let row = live_from i 1 (slots_in (get_or l i blank)) in
    rising_join l rest row (rising_more l i rest (λ e h. lives_stand N u (set l i blank) e h) (rising_lives N u (set l i blank) (seen_less N l i s))) (rising_row l i 1 (slots_in (get_or l i blank)))
    (λ a b h k. let r = from_row i 1 (slots_in (get_or l i blank)) b k in
    inl (below_top N l s a b (lives_stand N u (set l i blank) a h) (r.1.0, omega (arith, r.1.1), ap (λ (m : ℕ). get_or (slots_in (get_or l m blank)) r.1.0 empty) r.0 ∙ r.1.2) r.0))

-- ---- the one given

given_among : (r : List LiveSlot) (g : LiveSlot) → Among g (given r) → Among g r
unfolding given
given_among [] g h = h
given_among (e ∷ r) g h = go (holds e.block (map held_in r)) h (given_among r g)
  where
    go : (u : Bool) → Among g (cond u (given r) (e ∷ given r)) → (Among g (given r) → Among g r) → (g ≡ e) ⊎ Among g r
    go true k ih = inr (ih k)
    go false (inl q) ih = inl q
    go false (inr k) ih = inr (ih k)

holder : (b : ℕ) (r : List LiveSlot) → holds b (map held_in r) ≡ true → (y : LiveSlot) × Among y r × (y.block ≡ b)
unfolding holds held_in
holder b [] h = absurd (false≢true h)
holder b (e ∷ r) h = go (eqb b e.block) refl h (holder b r)
  where
    go : (u : Bool) → eqb b e.block ≡ u → (u || holds b (map held_in r)) ≡ true → (holds b (map held_in r) ≡ true → (y : LiveSlot) × Among y r × (y.block ≡ b)) → (y : LiveSlot) × Among y (e ∷ r) × (y.block ≡ b)
    go true q k ih = (e, inl refl, sym (eqb-true b e.block q))
    go false q k ih = let y = ih k in (y.0, inr y.1, y.2)

abbrev Gives : List Segment → List LiveSlot → LiveSlot → Type 0
Gives l r x = (g : LiveSlot) × Among g (given r) × (g.block ≡ x.block) × NotAfter l x g

highest : (l : List Segment) (r : List LiveSlot) → Rising l r → (x : LiveSlot) → Among x r → Gives l r x
highest l [] p x h = absurd h
highest l (e ∷ r) p x h = go (holds e.block (map held_in r)) refl h (highest l r p.1)
  where
    kept : (g : LiveSlot) (u : Bool) → Among g (given r) → Among g (cond u (given r) (e ∷ given r))
    kept g true k = k
    kept g false k = inr k

    more : (g : LiveSlot) → Among g (given r) → Among g (given (e ∷ r))
    more g k = unfold given in (kept g (holds e.block (map held_in r)) k)

    itself : holds e.block (map held_in r) ≡ false → Among e (given (e ∷ r))
    itself q = unfold given in (rw q (inl refl))

    go : (u : Bool) → holds e.block (map held_in r) ≡ u → (x ≡ e) ⊎ Among x r → ((y : LiveSlot) → Among y r → Gives l r y) → Gives l (e ∷ r) x
    go true q (inl k) ih =
        let y = holder e.block r q in
        let g = ih y.0 y.1 in
        (g.0, more g.0 g.1, g.2 ∙ (y.2 ∙ sym (ap (λ (z : LiveSlot). z.block) k)), subst (λ (z : LiveSlot). NotAfter l z g.0) (sym k) (p.0 g.0 (given_among r g.0 g.1)))
    go false q (inl k) ih = (e, itself q, sym (ap (λ (z : LiveSlot). z.block) k), subst (λ (z : LiveSlot). NotAfter l z e) (sym k) (inr (refl, omega arith)))
    go u q (inr k) ih = let g = ih x k in (g.0, more g.0 g.1, g.2, g.3)

rising_candidates : (N : ℕ) (l : List Segment) → Seen N l → Rising l (candidates N l)
unfolding candidates live_slots regarded next_blanked
rising_candidates N l s = go (is_owing (get_or l (top_index N l) blank)) (rising_lives N (used_count (regarded N l)) (regarded N l) (seen_regarded N l s)) (lives_stand N (used_count (regarded N l)) (regarded N l))
  where
    go : (t : Bool) → let m = cond t (set l (next_index N l) blank) l in Rising m (live_in N (used_count m) m) → ((e : LiveSlot) → Among e (live_in N (used_count m) m) → IsLive m e) → Rising l (live_in N (used_count m) m)
    go true p f = rising_more l (next_index N l) (live_in N (used_count (set l (next_index N l) blank)) (set l (next_index N l) blank)) f p
    go false p f = p

pub highest_given : HighestGiven
highest_given = λ N B s z.
    let l = segments_of N B s in
    let r = candidates N l in
    (given_distinct r, given_among r, highest l r (rising_candidates N l (seen_all N B s z)))

-- ---- whether others disagree

module _ (g : LiveSlot) where
  abbrev fits : LiveSlot → Bool
  fits x = not (eqb x.block g.block) || same x.contents g.contents

  fits_same : (x : LiveSlot) → fits x ≡ true → x.block ≡ g.block → x.contents ≡ g.contents
  fits_same x h e = let k : eqb x.block g.block ≡ true = eq-eqb x.block g.block e in same_eq x.contents g.contents (rw k at h)

  fits_not : (x : LiveSlot) → fits x ≡ false → (x.block ≡ g.block) × (x.contents ≢ g.contents)
  fits_not x h = go (eqb x.block g.block) refl h
    where
      go : (u : Bool) → eqb x.block g.block ≡ u → (not u || same x.contents g.contents) ≡ false → (x.block ≡ g.block) × (x.contents ≢ g.contents)
      go true q k = (eqb-true x.block g.block q, λ e. false≢true (sym k ∙ (ap (λ (c : List ℕ). same c g.contents) e ∙ same_refl g.contents)))
      go false q k = absurd (true≢false k)

  all_same : (r : List LiveSlot) → all fits r ≡ true → (x : LiveSlot) → Among x r → x.block ≡ g.block → x.contents ≡ g.contents
  unfolding all
  all_same [] h x a e = absurd a
  all_same (y ∷ r) h x (inl q) e = fits_same x (ap fits q ∙ and_left (fits y) (all fits r) h) e
  all_same (y ∷ r) h x (inr a) e = all_same r (and_right (fits y) (all fits r) h) x a e

  one_other : (r : List LiveSlot) → all fits r ≡ false → (x : LiveSlot) × Among x r × (x.block ≡ g.block) × (x.contents ≢ g.contents)
  unfolding all
  one_other [] h = absurd (true≢false h)
  one_other (y ∷ r) h = go (fits y) refl h (one_other r)
    where
      go : (u : Bool) → fits y ≡ u → (u && all fits r) ≡ false → (all fits r ≡ false → (x : LiveSlot) × Among x r × (x.block ≡ g.block) × (x.contents ≢ g.contents))
          → (x : LiveSlot) × Among x (y ∷ r) × (x.block ≡ g.block) × (x.contents ≢ g.contents)
      go true q k ih = let x = ih k in (x.0, inr x.1, x.2, x.3)
      go false q k ih = let f = fits_not y q in (y, inl refl, f.0, f.1)

pub disagreement : Disagreement
unfolding agreed
disagreement = λ r g. (all_same g r, one_other g r)
