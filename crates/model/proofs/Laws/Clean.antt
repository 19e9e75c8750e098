-- Clean, taken apart: conditions 1 to 4 make the segments in use a ring, and 5 to 8 speak of the view.
use Prim.Native.Nat.{ℕ, zero, suc, ◌+◌, ◌-◌, ◌%◌, ◌≤◌, ◌<◌}
use Rattle.std.specs.Prelude.{◌≡◌, Bool, true, cond, ◌&&◌, List, length, get_or, leb}
use Rattle.std.proofs.Math.Path.{refl}
use Rattle.std.proofs.Common.{ap, true≢false, mod-lt, leb-true, le-leb}
use Rattle.std.proofs.Math.Bool.{false, not}
use native.Mathlib.Omega.{arith}
use Rattle.std.proofs.lemmas.Bool.{not-true}
use Rattle.model.specs.Lists.{all}
use Rattle.model.specs.State.{Segment, blank, invalid, in_use, is_in_use, is_invalid, number_after, slots_in, version_in, next_number, next_index, used_count, first_number, View, view_of, some_in_use, numbers_from, consecutive, one_version, none_owing, others_blank, none_wrong_or_torn, blocks_distinct, empty_slots_last, within_capacity, conditions, is_clean, is_a, is_b, is_c, is_d, case_a, case_b, case_c, case_d, clean, unfinished, damaged, state_of}
use Rattle.model.specs.Laws.Lists.{and_left, and_right, all_get}
use Rattle.model.proofs.Laws.Ring.{next_ge, numbers_get, only_numbered, Apart, apart_before, slots_length}

-- conditions 1 to 4
pub record RingFacts (N : ℕ) (l : List Segment) : Type 0 where
  pub size : length l ≡ N
  pub some : 1 ≤ used_count l
  pub spare : used_count l ≤ N - 1
  pub chain : numbers_from N l (used_count l) (first_number l) ≡ true
  pub one : one_version l ≡ true
  pub paid : none_owing l ≡ true
  pub others : others_blank l ≡ true

-- conditions 5 to 8
pub record SlotFacts (N B : ℕ) (v : View) : Type 0 where
  pub sound : none_wrong_or_torn v ≡ true
  pub once : blocks_distinct v ≡ true
  pub last : empty_slots_last v ≡ true
  pub within : within_capacity N B v ≡ true

condition : (N B : ℕ) (l : List Segment) (i : ℕ) → is_clean N B l ≡ true → i < 8 → get_or (conditions N B l) i true ≡ true
unfolding is_clean
condition N B l i h b = all_get (λ t. t) (conditions N B l) i true h (unfold conditions in b)

pub clean_ring : (N B : ℕ) (l : List Segment) → length l ≡ N → is_clean N B l ≡ true → RingFacts N l
unfolding conditions some_in_use consecutive
clean_ring N B l e h =
    let first : some_in_use N l ≡ true = condition N B l 0 h (omega arith) in
    let second : (consecutive N l && one_version l) ≡ true = condition N B l 1 h (omega arith) in record {
      size = e;
      some = leb-true 1 (used_count l) (and_left (leb 1 (used_count l)) (leb (used_count l) (N - 1)) first);
      spare = leb-true (used_count l) (N - 1) (and_right (leb 1 (used_count l)) (leb (used_count l) (N - 1)) first);
      chain = and_left (consecutive N l) (one_version l) second;
      one = and_right (consecutive N l) (one_version l) second;
      paid = condition N B l 2 h (omega arith);
      others = condition N B l 3 h (omega arith);
    }

pub clean_slots : (N B : ℕ) (l : List Segment) → is_clean N B l ≡ true → SlotFacts N B (view_of N l)
unfolding conditions
clean_slots N B l h = record {
  sound = condition N B l 4 h (omega arith);
  once = condition N B l 5 h (omega arith);
  last = condition N B l 6 h (omega arith);
  within = condition N B l 7 h (omega arith);
}

-- and together again
pub ring_clean : (N B : ℕ) (l : List Segment) → RingFacts N l → SlotFacts N B (view_of N l) → is_clean N B l ≡ true
unfolding is_clean conditions all some_in_use consecutive
ring_clean N B l r s = rw (le-leb 1 (used_count l) r.some, le-leb (used_count l) (N - 1) r.spare, r.chain, r.one, r.paid, r.others, s.sound, s.once, s.last, s.within)

-- the state is clean exactly if Clean holds
pub state_clean : (N B : ℕ) (l : List Segment) → state_of N B l ≡ clean → is_clean N B l ≡ true
unfolding state_of
state_clean N B l h = go (is_clean N B l) (is_a N B l) (is_b N B l) (is_c N B l) (is_d N B l) h
  where
    go : (p a b c d : Bool) → cond p clean (cond a (unfinished case_a) (cond b (unfinished case_b) (cond c (unfinished case_c) (cond d (unfinished case_d) damaged)))) ≡ clean → p ≡ true
    go true a b c d q = refl
    go false true b c d q = cc
    go false false true c d q = cc
    go false false false true d q = cc
    go false false false false true q = cc
    go false false false false false q = cc

pub clean_state : (N B : ℕ) (l : List Segment) → is_clean N B l ≡ true → state_of N B l ≡ clean
unfolding state_of
clean_state N B l h = rw h

module _ (N : ℕ) (l : List Segment) (r : RingFacts N l) where
  -- the numbers in use run from the first to the one before the next
  pub used_next : first_number l + used_count l ≡ next_number l
  unfolding first_number
  used_next = go (used_count l) refl
    where
      go : (u : ℕ) → used_count l ≡ u → next_number l - used_count l + used_count l ≡ next_number l
      go zero e = absurd (omega (arith, r.some))
      go (suc u) e =
          let f = next_number l - used_count l in
          let last : number_after (get_or l ((f + u) % N) blank) ≡ suc (f + u) = numbers_get N l (used_count l) f u r.chain (omega arith) in
          let le = next_ge l ((f + u) % N) in
          omega arith

  pub two_segments : 2 ≤ N
  two_segments = let a = r.some in let b = r.spare in omega arith

  pub index_inside : (n : ℕ) → n % N < length l
  index_inside n = let p : 0 < N = omega (arith, two_segments) in let h = mod-lt n p in let e = r.size in omega arith

  -- the segment with number k is in use
  pub numbered : (k : ℕ) → first_number l ≤ k → k < next_number l → number_after (get_or l (k % N) blank) ≡ suc k
  numbered k a b =
      let e : first_number l + (k - first_number l) ≡ k = omega arith in
      rw e at (numbers_get N l (used_count l) (first_number l) (k - first_number l) r.chain (omega (arith, used_next)))

  -- fewer than N are in use, so that the index after the top's is not
  pub next_apart : Apart N (used_count l) (first_number l) (next_index N l)
  unfolding next_index
  next_apart = rw (← used_next) (apart_before N (used_count l) (first_number l) (omega (arith, two_segments, r.spare)))

  pub next_unused : is_in_use (get_or l (next_index N l) blank) ≡ false
  unfolding next_index
  next_unused = only_numbered N l (used_count l) (first_number l) (next_index N l) r.size (omega (arith, r.spare)) r.chain refl (omega (arith, index_inside (next_number l), r.size)) next_apart

  pub next_blank : get_or l (next_index N l) blank ≡ blank
  unfolding next_index others_blank
  next_blank = go (get_or l (next_index N l) blank) next_unused
      (not-true (is_invalid (get_or l (next_index N l) blank)) (all_get (λ x. not (is_invalid x)) l (next_index N l) blank r.others (index_inside (next_number l))))
    where
      go : (x : Segment) → is_in_use x ≡ false → is_invalid x ≡ false → x ≡ blank
      go blank p q = refl
      go invalid p q = absurd (true≢false (unfold is_invalid in q))
      go (in_use ver st n ks) p q = absurd (true≢false (unfold is_in_use in p))

  -- the view has a row for each segment in use
  pub view_length : length (view_of N l).slots ≡ used_count l
  unfolding view_of
  view_length = slots_length N l (used_count l) (first_number l)

-- a segment by its number
pub in_use_numbered : (x : Segment) (n : ℕ) → number_after x ≡ suc n → (st : ℕ) × (x ≡ in_use (version_in x) st n (slots_in x))
unfolding number_after slots_in version_in
in_use_numbered blank n e = absurd (omega arith)
in_use_numbered invalid n e = absurd (omega arith)
in_use_numbered (in_use ver st m ks) n e = (st, ap (λ (y : ℕ). in_use ver st y ks) (omega arith))
