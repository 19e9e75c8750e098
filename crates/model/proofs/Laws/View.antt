-- The view after one segment is replaced: a slot changed, a segment opened, erased, or compacted to another.
use Prim.Native.Nat.{ℕ, zero, suc, ◌+◌, ◌-◌, ◌%◌, ◌≤◌, ◌<◌}
use Rattle.std.specs.Prelude.{◌≡◌, ◌≢◌, Bool, true, ◌||◌, eqb}
use Rattle.std.proofs.Math.Path.{refl, sym, ap}
use Rattle.std.proofs.Common.{ap₂, ◌∙◌, get_or-set_other}
use Rattle.std.proofs.Math.Bool.{false, not, true≢false, or-true}
use mathlib.Core.List.{List, [], ◌∷◌, ◌++◌}
use native.Mathlib.Omega.{arith}
use Rattle.std.proofs.Math.Decide.{dec_lt}
use Rattle.std.proofs.Math.ListN.{length, get_or, drop, set, length-set}
use Rattle.std.proofs.Math.Seq.{get_or-set_same}
use Rattle.model.specs.Lists.{all}
use Rattle.model.specs.Header.{erase_pending, Version, version1, version2, is_former, version_number}
use Rattle.model.specs.Slot.{Slot}
use Rattle.model.specs.State.{Segment, blank, invalid, in_use, is_in_use, is_invalid, is_owing, number_after, slots_in, version_in, of_version, next_number, top_index, next_index, top_version, used_count, first_number, slots_from, numbers_from, View, view_of, one_version, none_owing, others_blank, with_slot}
use Rattle.model.specs.Laws.Lists.{and_right, all_get, all_set, all_same, mod_inj}
use Rattle.model.proofs.Laws.Ring.{Apart, apart_after, get_kept, next_kept, next_raised, next_same, used_kept, used_more, used_less, slots_apart, slots_kept, slots_get, slots_snoc, slots_length, numbers_apart, numbers_kept, numbers_snoc, number_in_use}
use Rattle.model.proofs.Laws.Clean.{RingFacts, used_next, two_segments, index_inside, numbered, next_unused, next_apart}

-- slot j of the segment with number n changed
unfoldable pub slot_changed : ℕ → ℕ → Slot → View → View
slot_changed n j k v = record { first = v.first; slots = set v.slots (n - v.first) (set (get_or v.slots (n - v.first) []) j k); version = v.version }

-- ---- a segment replaced by one that counts alike

pub with_slot_number : (j : ℕ) (k : Slot) (x : Segment) → number_after (with_slot j k x) ≡ number_after x
unfolding with_slot number_after
with_slot_number j k blank = refl
with_slot_number j k invalid = refl
with_slot_number j k (in_use ver st n ks) = refl

pub with_slot_use : (j : ℕ) (k : Slot) (x : Segment) → is_in_use (with_slot j k x) ≡ is_in_use x
unfolding with_slot is_in_use
with_slot_use j k blank = refl
with_slot_use j k invalid = refl
with_slot_use j k (in_use ver st n ks) = refl

pub with_slot_owing : (j : ℕ) (k : Slot) (x : Segment) → is_owing (with_slot j k x) ≡ is_owing x
unfolding with_slot is_owing
with_slot_owing j k blank = refl
with_slot_owing j k invalid = refl
with_slot_owing j k (in_use ver st n ks) = refl

pub with_slot_invalid : (j : ℕ) (k : Slot) (x : Segment) → is_invalid (with_slot j k x) ≡ is_invalid x
unfolding with_slot is_invalid
with_slot_invalid j k blank = refl
with_slot_invalid j k invalid = refl
with_slot_invalid j k (in_use ver st n ks) = refl

with_slot_slots : (j : ℕ) (k : Slot) (x : Segment) → slots_in (with_slot j k x) ≡ set (slots_in x) j k
unfolding with_slot slots_in
with_slot_slots j k blank = refl
with_slot_slots j k invalid = refl
with_slot_slots j k (in_use ver st n ks) = refl

pub with_slot_version : (j : ℕ) (k : Slot) (x : Segment) → version_in (with_slot j k x) ≡ version_in x
unfolding with_slot version_in
with_slot_version j k blank = refl
with_slot_version j k invalid = refl
with_slot_version j k (in_use ver st n ks) = refl

pub with_slot_of : (j : ℕ) (k : Slot) (n : ℕ) (x : Segment) → of_version n (with_slot j k x) ≡ of_version n x
unfolding with_slot of_version
with_slot_of j k n blank = refl
with_slot_of j k n invalid = refl
with_slot_of j k n (in_use ver st m ks) = refl

-- one version stays one
pub one_kept : (l : List Segment) (i : ℕ) (y : Segment) → ((k : ℕ) → of_version k y ≡ of_version k (get_or l i blank)) → one_version (set l i y) ≡ one_version l
unfolding one_version
one_kept l i y e = rw (all_same (λ x. of_version 1 x) l i y blank (e 1), all_same (λ x. of_version 2 x) l i y blank (e 2))

-- the top's version stays
pub version_kept : (N : ℕ) (l : List Segment) (i : ℕ) (y : Segment) → number_after y ≡ number_after (get_or l i blank) → version_in y ≡ version_in (get_or l i blank) → top_version N (set l i y) ≡ top_version N l
unfolding top_version top_index
version_kept N l i y e f = rw (next_kept l i y e) (get_kept version_in l i y f ((next_number l - 1) % N))

-- the row of number k replaced
slots_at : (N : ℕ) (l : List Segment) (u n k : ℕ) (y : Segment) → u ≤ N → n ≤ k → k < n + u → k % N < length l
    → slots_from N (set l (k % N) y) u n ≡ set (slots_from N l u n) (k - n) (slots_in y)
unfolding slots_from
slots_at N l zero n k y a b c d = absurd (omega arith)
slots_at N l (suc u) n k y a b c d =
    elim (dec_lt n k) [ yes lt ↦ later lt (slots_at N l u (suc n) k y (omega arith) lt (omega arith) d) | no ge ↦ here (omega arith) ]
  where
    here : n ≡ k → slots_from N (set l (k % N) y) (suc u) n ≡ set (slots_from N l (suc u) n) (k - n) (slots_in y)
    here e = let z : k - k ≡ 0 = omega arith in
        rw (e, z, get_or-set_same l (k % N) y blank d, slots_apart N (k % N) y l u (suc k) (apart_after N u k (omega arith)))

    later : n < k → slots_from N (set l (k % N) y) u (suc n) ≡ set (slots_from N l u (suc n)) (k - suc n) (slots_in y)
        → slots_from N (set l (k % N) y) (suc u) n ≡ set (slots_from N l (suc u) n) (k - n) (slots_in y)
    later lt ih =
        let f : k - n ≡ suc (k - suc n) = omega arith in
        let g : n % N ≢ k % N = (λ q. omega (arith, mod_inj N n k (omega arith) (omega arith) q)) in
        rw (f, get_or-set_other l (k % N) (n % N) y blank g, ih)

-- ---- a slot changed

module _ (N : ℕ) (l : List Segment) (r : RingFacts N l) (k j : ℕ) (x : Slot) (lo : first_number l ≤ k) (hi : k < next_number l) where
  changed : Segment
  changed = with_slot j x (get_or l (k % N) blank)

  slot_next : next_number (set l (k % N) changed) ≡ next_number l
  unfolding changed
  slot_next = next_kept l (k % N) (with_slot j x (get_or l (k % N) blank)) (with_slot_number j x (get_or l (k % N) blank))

  slot_used : used_count (set l (k % N) changed) ≡ used_count l
  unfolding changed
  slot_used = used_kept l (k % N) (with_slot j x (get_or l (k % N) blank)) (index_inside N l r k) (with_slot_use j x (get_or l (k % N) blank))

  pub slot_ring : RingFacts N (set l (k % N) (with_slot j x (get_or l (k % N) blank)))
  unfolding changed first_number none_owing others_blank
  slot_ring = record {
    size = length-set l (k % N) changed ∙ r.size;
    some = rw slot_used r.some;
    spare = rw slot_used r.spare;
    chain = rw (slot_used, slot_next) (numbers_kept N (k % N) changed l (used_count l) (next_number l - used_count l) (with_slot_number j x (get_or l (k % N) blank)) ∙ r.chain);
    one = one_kept l (k % N) changed (λ n. with_slot_of j x n (get_or l (k % N) blank)) ∙ r.one;
    paid = all_same (λ y. not (is_owing y)) l (k % N) changed blank (ap not (with_slot_owing j x (get_or l (k % N) blank))) ∙ r.paid;
    others = all_same (λ y. not (is_invalid y)) l (k % N) changed blank (ap not (with_slot_invalid j x (get_or l (k % N) blank))) ∙ r.others;
  }

  pub slot_view : view_of N (set l (k % N) (with_slot j x (get_or l (k % N) blank))) ≡ slot_changed k j x (view_of N l)
  unfolding changed first_number view_of slot_changed
  slot_view =
      let n = used_next N l r in
      let row : slots_in changed ≡ set (get_or (slots_from N l (used_count l) (next_number l - used_count l)) (k - (next_number l - used_count l)) []) j x =
      with_slot_slots j x (get_or l (k % N) blank) ∙ ap (λ (y : List Slot). set y j x) (sym found) in
      rw (slot_used, slot_next, version_kept N l (k % N) changed (with_slot_number j x (get_or l (k % N) blank)) (with_slot_version j x (get_or l (k % N) blank)))
      (ap (λ (y : List (List Slot)). record { first = next_number l - used_count l; slots = y; version = top_version N l })
      (slots_at N l (used_count l) (next_number l - used_count l) k changed (omega (arith, r.spare, two_segments N l r)) lo (omega arith) (index_inside N l r k)
      ∙ ap (λ (y : List Slot). set (slots_from N l (used_count l) (next_number l - used_count l)) (k - (next_number l - used_count l)) y) row))
    where
      found : get_or (slots_from N l (used_count l) (next_number l - used_count l)) (k - (next_number l - used_count l)) [] ≡ slots_in (get_or l (k % N) blank)
      found =
          let n = used_next N l r in
          let e : next_number l - used_count l + (k - (next_number l - used_count l)) ≡ k = omega arith in
          rw e at (slots_get N l (used_count l) (next_number l - used_count l) (k - (next_number l - used_count l)) (omega arith))

-- ---- all of version 2

pub seconds_one : (l : List Segment) → all (λ x. of_version 2 x) l ≡ true → one_version l ≡ true
unfolding one_version
seconds_one l h = rw h (or-true (all (λ x. of_version 1 x) l))

-- they are, if the top is
pub all_seconds : (N : ℕ) (l : List Segment) → RingFacts N l → is_former (top_version N l) ≡ false → all (λ x. of_version 2 x) l ≡ true
unfolding one_version top_version top_index
all_seconds N l r h = go (all (λ x. of_version 1 x) l) refl r.one
  where
    top : Segment
    top = get_or l ((next_number l - 1) % N) blank

    former : (x : Segment) (n : ℕ) → number_after x ≡ suc n → is_former (version_in x) ≡ false → of_version 1 x ≡ true → ⊥
    former blank n e f g = unfold number_after in omega (arith, e)
    former invalid n e f g = unfold number_after in omega (arith, e)
    former (in_use version1 st m ks) n e f g = true≢false (unfold version_in is_former in f)
    former (in_use (version2 t b) st m ks) n e f g = true≢false (sym (unfold of_version version_number in g))

    go : (t : Bool) → all (λ x. of_version 1 x) l ≡ t → (t || all (λ x. of_version 2 x) l) ≡ true → all (λ x. of_version 2 x) l ≡ true
    go false e q = q
    go true e q =
        let number : number_after top ≡ suc (next_number l - 1) = numbered N l r (next_number l - 1) (omega (arith, used_next N l r, r.some)) (omega (arith, used_next N l r, r.some)) in
        absurd (former top (next_number l - 1) number h (all_get (λ x. of_version 1 x) l ((next_number l - 1) % N) blank e (index_inside N l r (next_number l - 1))))

-- ---- a segment opened: one more in use, with the next number

module _ (N : ℕ) (l : List Segment) (r : RingFacts N l) (ver : Version) (st : ℕ) (ks : List Slot) where
  abbrev taken : List Segment
  taken = set l (next_index N l) (in_use ver st (next_number l) ks)

  taken_inside : next_index N l < length l
  unfolding next_index
  taken_inside = index_inside N l r (next_number l)

  taken_used : used_count taken ≡ suc (used_count l)
  unfolding is_in_use
  taken_used = used_more l (next_index N l) (in_use ver st (next_number l) ks) taken_inside (next_unused N l r) refl

  taken_next : next_number taken ≡ suc (next_number l)
  unfolding number_after
  taken_next = next_raised l (next_index N l) (in_use ver st (next_number l) ks) taken_inside (omega arith)

  taken_first : first_number taken ≡ first_number l
  unfolding first_number
  taken_first = rw (taken_used, taken_next) (omega arith)

  taken_here : get_or taken ((first_number l + used_count l) % N) blank ≡ in_use ver st (next_number l) ks
  taken_here = rw (used_next N l r) (unfold next_index in get_or-set_same l (next_number l % N) (in_use ver st (next_number l) ks) blank (unfold next_index in taken_inside))

  taken_chain : numbers_from N taken (suc (used_count l)) (first_number l) ≡ true
  taken_chain = numbers_snoc N taken (used_count l) (first_number l)
      (numbers_apart N (next_index N l) (in_use ver st (next_number l) ks) l (used_count l) (first_number l) (next_apart N l r) ∙ r.chain)
      (ap number_after taken_here ∙ (unfold number_after in ap suc (sym (used_next N l r))))

  taken_slots : slots_from N taken (suc (used_count l)) (first_number l) ≡ slots_from N l (used_count l) (first_number l) ++ (ks ∷ [])
  taken_slots = slots_snoc N taken (used_count l) (first_number l)
      ∙ ap₂ {C = List (List Slot)} (λ a b. a ++ (b ∷ [])) (slots_apart N (next_index N l) (in_use ver st (next_number l) ks) l (used_count l) (first_number l) (next_apart N l r))
      (ap slots_in taken_here ∙ (unfold slots_in in refl))

  taken_version : top_version N taken ≡ ver
  unfolding top_version top_index next_index version_in
  taken_version = let e : suc (next_number l) - 1 ≡ next_number l = omega arith in
      rw (taken_next, e) (ap version_in (get_or-set_same l (next_number l % N) (in_use ver st (next_number l) ks) blank taken_inside))

  pub taken_view : view_of N (set l (next_index N l) (in_use ver st (next_number l) ks)) ≡ record { first = (view_of N l).first; slots = (view_of N l).slots ++ (ks ∷ []); version = ver }
  unfolding view_of
  taken_view = rw (taken_first, taken_used, taken_version) (ap (λ (y : List (List Slot)). record { first = first_number l; slots = y; version = ver }) taken_slots)

  pub taken_ring : all (λ x. of_version 2 x) l ≡ true → version_number ver ≡ 2 → used_count l < N - 1 → eqb st erase_pending ≡ false → RingFacts N (set l (next_index N l) (in_use ver st (next_number l) ks))
  unfolding none_owing others_blank is_owing is_invalid of_version
  taken_ring seconds second few e = record {
    size = length-set l (next_index N l) (in_use ver st (next_number l) ks) ∙ r.size;
    some = rw taken_used (omega arith);
    spare = rw taken_used few;
    chain = rw (taken_used, taken_first) taken_chain;
    one = seconds_one taken (all_set (λ y. of_version 2 y) l (next_index N l) (in_use ver st (next_number l) ks) seconds (rw second refl));
    paid = all_set (λ y. not (is_owing y)) l (next_index N l) (in_use ver st (next_number l) ks) r.paid (rw e);
    others = all_set (λ y. not (is_invalid y)) l (next_index N l) (in_use ver st (next_number l) ks) r.others refl;
  }

-- ---- a segment erased

-- one that is not in use: the view stays
pub erased_unused_view : (N : ℕ) (l : List Segment) (i : ℕ) → i < length l → is_in_use (get_or l i blank) ≡ false → view_of N (set l i blank) ≡ view_of N l
unfolding view_of first_number
erased_unused_view N l i h e =
    rw (used_kept l i blank h (unfold is_in_use in sym e), next_kept l i blank (number (get_or l i blank) e), version_kept N l i blank (number (get_or l i blank) e) (version (get_or l i blank) e))
    (ap (λ (y : List (List Slot)). record { first = next_number l - used_count l; slots = y; version = top_version N l }) (slots_kept N i blank l (used_count l) (next_number l - used_count l) (slots (get_or l i blank) e)))
  where
    number : (x : Segment) → is_in_use x ≡ false → number_after blank ≡ number_after x
    number blank q = refl
    number invalid q = unfold number_after in refl
    number (in_use ver st n ks) q = absurd (true≢false (unfold is_in_use in q))

    version : (x : Segment) → is_in_use x ≡ false → version_in blank ≡ version_in x
    version blank q = refl
    version invalid q = unfold version_in in refl
    version (in_use ver st n ks) q = absurd (true≢false (unfold is_in_use in q))

    slots : (x : Segment) → is_in_use x ≡ false → slots_in blank ≡ slots_in x
    slots blank q = refl
    slots invalid q = unfold slots_in in refl
    slots (in_use ver st n ks) q = absurd (true≢false (unfold is_in_use in q))

-- ---- a compaction: one more in use with the next number, and the oldest erased

module _ (N : ℕ) (l : List Segment) (r : RingFacts N l) (ver : Version) (st : ℕ) (ks : List Slot) (full : used_count l ≡ N - 1) where
  abbrev taken' : List Segment
  taken' = set l (next_index N l) (in_use ver st (next_number l) ks)

  abbrev oldest : ℕ
  oldest = first_number l % N

  abbrev moved : List Segment
  moved = set taken' oldest blank

  oldest_apart : oldest ≢ next_index N l
  oldest_apart = next_apart N l r (first_number l) (omega arith) (omega (arith, r.some))

  oldest_number : number_after (get_or taken' oldest blank) ≡ suc (first_number l)
  oldest_number = ap number_after (get_or-set_other l (next_index N l) oldest (in_use ver st (next_number l) ks) blank oldest_apart)
      ∙ numbered N l r (first_number l) (omega arith) (omega (arith, used_next N l r, r.some))

  oldest_inside : oldest < length taken'
  oldest_inside = omega (arith, index_inside N l r (first_number l), length-set l (next_index N l) (in_use ver st (next_number l) ks))

  moved_used : used_count moved ≡ used_count l
  moved_used =
      let a = used_less taken' oldest blank oldest_inside (number_in_use (get_or taken' oldest blank) (first_number l) oldest_number) (unfold is_in_use in refl) in
      let b = taken_used N l r ver st ks in omega arith

  moved_next : next_number moved ≡ suc (next_number l)
  moved_next =
      let b = taken_next N l r ver st ks in
      let c = oldest_number in
      let d = used_next N l r in
      let e = r.some in
      next_same taken' oldest blank (omega arith) (unfold number_after in omega arith) ∙ b

  moved_first : first_number moved ≡ suc (first_number l)
  unfolding first_number
  moved_first =
      let d : next_number l - used_count l + used_count l ≡ next_number l = used_next N l r in
      rw (moved_used, moved_next) (omega arith)

  moved_apart : Apart N (used_count l) (suc (first_number l)) oldest
  moved_apart = apart_after N (used_count l) (first_number l) (omega (arith, two_segments N l r))

  moved_chain : numbers_from N moved (used_count l) (suc (first_number l)) ≡ true
  moved_chain = numbers_apart N oldest blank taken' (used_count l) (suc (first_number l)) moved_apart ∙ tail (taken_chain N l r ver st ks)
    where
      tail : numbers_from N taken' (suc (used_count l)) (first_number l) ≡ true → numbers_from N taken' (used_count l) (suc (first_number l)) ≡ true
      tail q = unfold numbers_from in and_right (eqb (number_after (get_or taken' (first_number l % N) blank)) (suc (first_number l))) (numbers_from N taken' (used_count l) (suc (first_number l))) q

  moved_slots : slots_from N moved (used_count l) (suc (first_number l)) ≡ drop 1 (slots_from N l (used_count l) (first_number l)) ++ (ks ∷ [])
  unfolding slots_from
  moved_slots =
      let whole : drop 1 (slots_from N taken' (suc (used_count l)) (first_number l)) ≡ drop 1 (slots_from N l (used_count l) (first_number l) ++ (ks ∷ [])) =
      ap (λ (y : List (List Slot)). drop 1 y) (taken_slots N l r ver st ks) in
      slots_apart N oldest blank taken' (used_count l) (suc (first_number l)) moved_apart
      ∙ (whole ∙ shift (slots_from N l (used_count l) (first_number l)) (omega (arith, slots_length N l (used_count l) (first_number l), r.some)))
    where
      shift : (y : List (List Slot)) → 0 < length y → drop 1 (y ++ (ks ∷ [])) ≡ drop 1 y ++ (ks ∷ [])
      shift [] h = absurd (omega arith)
      shift (a ∷ y) h = refl

  moved_version : top_version N moved ≡ ver
  unfolding top_version top_index next_index version_in
  moved_version = let e : suc (next_number l) - 1 ≡ next_number l = omega arith in
      rw (moved_next, e) (ap version_in (get_or-set_other taken' oldest (next_number l % N) blank blank (λ q. oldest_apart (sym q))
      ∙ get_or-set_same l (next_number l % N) (in_use ver st (next_number l) ks) blank (taken_inside N l r ver st ks)))

  pub moved_view : view_of N (set (set l (next_index N l) (in_use ver st (next_number l) ks)) (first_number l % N) blank)
      ≡ record { first = suc (view_of N l).first; slots = drop 1 (view_of N l).slots ++ (ks ∷ []); version = ver }
  unfolding view_of
  moved_view = rw (moved_first, moved_used, moved_version) (ap (λ (y : List (List Slot)). record { first = suc (first_number l); slots = y; version = ver }) moved_slots)

  pub moved_ring : all (λ x. of_version 2 x) l ≡ true → version_number ver ≡ 2 → eqb st erase_pending ≡ false → RingFacts N (set (set l (next_index N l) (in_use ver st (next_number l) ks)) (first_number l % N) blank)
  unfolding none_owing others_blank is_owing is_invalid of_version
  moved_ring seconds second e = record {
    size = length-set taken' oldest blank ∙ (length-set l (next_index N l) (in_use ver st (next_number l) ks) ∙ r.size);
    some = rw moved_used r.some;
    spare = rw moved_used r.spare;
    chain = rw (moved_used, moved_first) moved_chain;
    one = seconds_one moved (all_set (λ y. of_version 2 y) taken' oldest blank (all_set (λ y. of_version 2 y) l (next_index N l) (in_use ver st (next_number l) ks) seconds (rw second refl)) refl);
    paid = all_set (λ y. not (is_owing y)) taken' oldest blank (all_set (λ y. not (is_owing y)) l (next_index N l) (in_use ver st (next_number l) ks) r.paid (rw e)) refl;
    others = all_set (λ y. not (is_invalid y)) taken' oldest blank (all_set (λ y. not (is_invalid y)) l (next_index N l) (in_use ver st (next_number l) ks) r.others refl) refl;
  }
