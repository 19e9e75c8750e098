-- Where the segments in use have consecutive numbers, the live slots by rising number are the entries of the view.
use Rattle.std.specs.Prelude.{ℕ, zero, suc, ◌+◌, ◌-◌, ◌%◌, ◌≤◌, ◌<◌, ◌≡◌, true, get_or, set, eqb}
use Rattle.std.proofs.Math.Path.{refl}
use Rattle.std.proofs.Common.{sym, ap, ◌∙◌, arith}
use Rattle.std.proofs.lemmas.Bool.{false≢true}
use mathlib.Core.List.{List, [], ◌∷◌, ◌++◌, map, flatten, flat_map}
use Rattle.std.proofs.Math.Decide.{dec_lt}
use Rattle.std.proofs.Math.Nat.{mod-lt}
use Rattle.std.proofs.Math.ListN.{length, length-set}
use Rattle.model.specs.Slot.{Slot, empty, torn, dead, cut, wrong, live, entry_of}
use Rattle.model.specs.State.{Segment, blank, is_in_use, number_after, slots_in, next_number, top_index, top_slots, used_count, first_number, slots_from, view_of, entries, entries_in, numbers_from, is_clean}
use Rattle.model.specs.Table.{Table}
use Rattle.model.specs.Laws.Lists.{and_left, and_right, and_both, flatten_last}
use Rattle.model.proofs.Laws.Ring.{next_ge, next_at, used_less, Apart, apart_before, slots_apart, numbers_apart, slots_snoc, numbers_get, number_in_use, only_numbered}
use Rattle.model.proofs.Laws.Clean.{RingFacts, clean_ring}
use Rattle.bridge.specs.Views.Slots.{entries_append}
use Rattle.account_text.specs.Account.{LiveSlot, live_at, live_from, live_in, live_slots}
use Rattle.salvage.specs.Salvage.{held_in}

-- so that a wrong definition is refused by what it computes before it is by a law

-- ---- one segment

pub held_append : (x y : List LiveSlot) → map held_in (x ++ y) ≡ map held_in x ++ map held_in y
held_append [] y = refl
held_append (e ∷ x) y = ap {B = Table} (λ z. held_in e ∷ z) (held_append x y)

pub held_from : (i j : ℕ) (ks : List Slot) → map held_in (live_from i j ks) ≡ entries ks
unfolding live_from live_at entry_of held_in entries flat_map
held_from i j [] = refl
held_from i j (empty ∷ ks) = held_from i (suc j) ks
held_from i j (torn ∷ ks) = held_from i (suc j) ks
held_from i j (dead ∷ ks) = held_from i (suc j) ks
held_from i j (cut ∷ ks) = held_from i (suc j) ks
held_from i j (wrong ∷ ks) = held_from i (suc j) ks
held_from i j (live b c ∷ ks) = ap {B = Table} (λ z. record { block = b; contents = c } ∷ z) (held_from i (suc j) ks)

-- ---- the segments in use

-- as many are in use as are numbered from n on
pub record Chained (N : ℕ) (l : List Segment) (u n : ℕ) : Type 0 where
  pub size : length l ≡ N
  pub used : used_count l ≡ u
  pub few : u ≤ N
  pub chain : numbers_from N l u n ≡ true

numbers_front : (N : ℕ) (l : List Segment) (u n : ℕ) → numbers_from N l (suc u) n ≡ true → numbers_from N l u n ≡ true
unfolding numbers_from
numbers_front N l zero n h = refl
numbers_front N l (suc u) n h =
    let here = eqb (number_after (get_or l (n % N) blank)) (suc n) in
    and_both here (numbers_from N l u (suc n)) (and_left here (numbers_from N l (suc u) (suc n)) h) (numbers_front N l u (suc n) (and_right here (numbers_from N l (suc u) (suc n)) h))

module _ (N : ℕ) (l : List Segment) (u n : ℕ) (c : Chained N l (suc u) n) where
  last_number : number_after (get_or l ((n + u) % N) blank) ≡ suc (n + u)
  last_number = numbers_get N l (suc u) n u c.chain (omega arith)

  -- no other is in use, so that the last one numbered is the top
  pub chained_next : next_number l ≡ suc (n + u)
  chained_next = elim (dec_lt (suc (n + u)) (next_number l)) [ yes p ↦ absurd (beyond p) | no p ↦ omega (arith, last_number, next_ge l ((n + u) % N)) ]
    where
      beyond : suc (n + u) < next_number l → ⊥
      beyond p =
          let r = next_at l (omega arith) in
          let apart : Apart N (suc u) n r.0 = (λ j lo hi e. let k : n + (j - n) ≡ j = omega arith in
          omega (arith, p, r.2, ap (λ (i : ℕ). number_after (get_or l i blank)) e, rw k at (numbers_get N l (suc u) n (j - n) c.chain (omega arith)))) in
          let unused = only_numbered N l (suc u) n r.0 c.size c.few c.chain c.used (omega (arith, r.1, c.size)) apart in
          let number : number_after (get_or l r.0 blank) ≡ suc (next_number l - 1) = r.2 ∙ omega arith in
          false≢true (sym unused ∙ number_in_use (get_or l r.0 blank) (next_number l - 1) number)

  chained_top : top_index N l ≡ (n + u) % N
  unfolding top_index
  chained_top = let e : next_number l - 1 ≡ n + u = omega (arith, chained_next) in rw e

  top_apart : Apart N u n ((n + u) % N)
  top_apart = apart_before N u n (omega (arith, c.few))

  -- what is left without the top
  chained_less : Chained N (set l ((n + u) % N) blank) u n
  unfolding is_in_use
  chained_less =
      let positive : 0 < N = omega (arith, c.few) in
      let inside : (n + u) % N < length l = omega (arith, mod-lt (n + u) positive, c.size) in
      record {
        size = length-set l ((n + u) % N) blank ∙ c.size;
        used = omega (arith, used_less l ((n + u) % N) blank inside (number_in_use (get_or l ((n + u) % N) blank) (n + u) last_number) refl, c.used);
        few = omega (arith, c.few);
        chain = numbers_apart N ((n + u) % N) blank l u n top_apart ∙ numbers_front N l u n c.chain;
      }

  one_more : map held_in (live_in N u (set l ((n + u) % N) blank)) ≡ entries (flatten (slots_from N (set l ((n + u) % N) blank) u n)) → map held_in (live_in N (suc u) l) ≡ entries (flatten (slots_from N l (suc u) n))
  unfolding live_in top_slots
  one_more ih =
      rw (
        chained_top,
        held_append (live_in N u (set l ((n + u) % N) blank)) (live_from ((n + u) % N) 1 (slots_in (get_or l ((n + u) % N) blank))),
        held_from ((n + u) % N) 1 (slots_in (get_or l ((n + u) % N) blank)),
        ih,
        slots_apart N ((n + u) % N) blank l u n top_apart,
        slots_snoc N l u n,
        flatten_last (slots_from N l u n) (slots_in (get_or l ((n + u) % N) blank)),
      )
      (sym (entries_append (flatten (slots_from N l u n)) (slots_in (get_or l ((n + u) % N) blank))))

pub chained_lives : (N : ℕ) (l : List Segment) (u n : ℕ) → Chained N l u n → map held_in (live_in N u l) ≡ entries (flatten (slots_from N l u n))
chained_lives N l zero n c = unfold live_in slots_from flatten entries flat_map in refl
chained_lives N l (suc u) n c = one_more N l u n c (chained_lives N (set l ((n + u) % N) blank) u n (chained_less N l u n c))

pub chained_view : (N : ℕ) (l : List Segment) → Chained N l (used_count l) (first_number l) → map held_in (live_slots N l) ≡ entries_in (view_of N l)
unfolding live_slots entries_in view_of
chained_view N l c = chained_lives N l (used_count l) (first_number l) c

-- conditions 1 and 2 of Clean
pub ring_chained : (N : ℕ) (l : List Segment) → RingFacts N l → Chained N l (used_count l) (first_number l)
ring_chained N l r = record { size = r.size; used = refl; few = omega (arith, r.spare); chain = r.chain }

pub clean_lives : (N B : ℕ) (l : List Segment) → length l ≡ N → is_clean N B l ≡ true → map held_in (live_slots N l) ≡ entries_in (view_of N l)
clean_lives N B l e h = chained_view N l (ring_chained N l (clean_ring N B l e h))
