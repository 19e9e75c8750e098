-- A segment replaced by one that counts alike: the same number, in use as it was. What mends an unfinished image is such a replacement, but for the segment after an owing top.
use Rattle.std.specs.Prelude.{ℕ, zero, suc, ◌%◌, ◌<◌, ◌≡◌, refl, Bool, true, false, length, get_or, set}
use Rattle.std.proofs.Math.Path.{sym, ap}
use Rattle.std.proofs.Common.{ap₂, ◌∙◌, arith, length-set}
use Rattle.std.proofs.Math.Bool.{not}
use mathlib.Core.List.{List, [], ◌∷◌, ◌++◌, map, flatten}
use Rattle.model.specs.Slot.{Slot, empty, Entry, entry_of}
use Rattle.model.specs.State.{Segment, blank, invalid, in_use, is_in_use, is_invalid, is_owing, number_after, slots_in, of_version, used_count, first_number, slots_from, view_of, entries, entries_in, none_owing, others_blank, is_clean, with_slot, blocks_distinct}
use Rattle.model.specs.Laws.Lists.{all_same}
use Rattle.model.proofs.Laws.Ring.{next_kept, used_kept, get_kept, numbers_kept}
use Rattle.model.proofs.Laws.Clean.{RingFacts, clean_ring, clean_slots}
use Rattle.model.proofs.Laws.View.{one_kept}
use Rattle.model.proofs.Laws.Exclusive.{no_owing}
use Rattle.bridge.specs.Views.Slots.{entries_append, entries_cons}
use Rattle.account_text.specs.Account.{live_slots}
use Rattle.salvage.specs.Salvage.{held_in}
use Rattle.salvage.proofs.Given.{lasts, lasts_distinct}
use Rattle.salvage.proofs.Ring.{Chained, chained_view, ring_chained}

-- ---- the entries of rows

pub entries_set : (ks : List Slot) (j : ℕ) (k : Slot) → entry_of k ≡ entry_of (get_or ks j empty) → entries (set ks j k) ≡ entries ks
entries_set [] j k e = refl
entries_set (x ∷ ks) zero k e = entries_cons k ks ∙ (ap (λ (y : List Entry). y ++ entries ks) e ∙ sym (entries_cons x ks))
entries_set (x ∷ ks) (suc j) k e = entries_cons x (set ks j k) ∙ (ap (λ (y : List Entry). entry_of x ++ y) (entries_set ks j k e) ∙ sym (entries_cons x ks))

pub with_slots : (j : ℕ) (k : Slot) (x : Segment) → slots_in (with_slot j k x) ≡ set (slots_in x) j k
unfolding with_slot slots_in
with_slots j k blank = refl
with_slots j k invalid = refl
with_slots j k (in_use ver st n ks) = refl

rows_kept : (N i : ℕ) (y : Segment) (l : List Segment) (u n : ℕ) → entries (slots_in y) ≡ entries (slots_in (get_or l i blank)) → entries (flatten (slots_from N (set l i y) u n)) ≡ entries (flatten (slots_from N l u n))
unfolding slots_from flatten
rows_kept N i y l zero n e = refl
rows_kept N i y l (suc u) n e =
    let a = slots_in (get_or (set l i y) (n % N) blank) in
    let b = slots_in (get_or l (n % N) blank) in
    entries_append a (flatten (slots_from N (set l i y) u (suc n)))
    ∙ (ap₂ {C = List Entry} (λ p q. p ++ q) (get_kept (λ x. entries (slots_in x)) l i y e (n % N)) (rows_kept N i y l u (suc n) e) ∙ sym (entries_append b (flatten (slots_from N l u (suc n)))))

-- ---- the ring

module _ (N : ℕ) (l : List Segment) (i : ℕ) (y : Segment) (inside : i < length l) (number : number_after y ≡ number_after (get_or l i blank)) (served : is_in_use y ≡ is_in_use (get_or l i blank)) where
  abbrev m : List Segment
  m = set l i y

  count_kept : used_count m ≡ used_count l
  count_kept = used_kept l i y inside served

  first_kept : first_number m ≡ first_number l
  unfolding first_number
  first_kept = rw (next_kept l i y number, count_kept)

  pub chained_kept : Chained N (set l i y) (used_count (set l i y)) (first_number (set l i y)) → Chained N l (used_count l) (first_number l)
  chained_kept c = record {
    size = sym (length-set l i y) ∙ c.size;
    used = refl;
    few = omega (arith, c.few, count_kept);
    chain = sym (numbers_kept N i y l (used_count l) (first_number l) number) ∙ (rw (count_kept, first_kept) at c.chain);
  }

  -- all of it, where neither is owing or invalid unless both are, and the version is one
  pub ring_kept : is_owing y ≡ is_owing (get_or l i blank) → is_invalid y ≡ is_invalid (get_or l i blank) → ((k : ℕ) → of_version k y ≡ of_version k (get_or l i blank)) → RingFacts N (set l i y) → RingFacts N l
  unfolding none_owing others_blank
  ring_kept o v e r = let c = chained_kept (ring_chained N m r) in record {
    size = c.size;
    some = omega (arith, r.some, count_kept);
    spare = omega (arith, r.spare, count_kept);
    chain = c.chain;
    one = sym (one_kept l i y e) ∙ r.one;
    paid = sym (all_same (λ x. not (is_owing x)) l i y blank (ap not o)) ∙ r.paid;
    others = sym (all_same (λ x. not (is_invalid x)) l i y blank (ap not v)) ∙ r.others;
  }

  pub entries_kept : entries (slots_in y) ≡ entries (slots_in (get_or l i blank)) → entries_in (view_of N (set l i y)) ≡ entries_in (view_of N l)
  unfolding entries_in view_of
  entries_kept e = rw (count_kept, first_kept) (rows_kept N i y l (used_count l) (first_number l) e)

  -- where the list is clean with the other one in its place, the last of each block are all, and they are what it holds
  pub clean_kept : (B : ℕ) → length l ≡ N → is_clean N B (set l i y) ≡ true → entries (slots_in y) ≡ entries (slots_in (get_or l i blank)) → lasts (map held_in (live_slots N l)) ≡ entries_in (view_of N (set l i y))
  unfolding blocks_distinct
  clean_kept B size h e =
      let held : map held_in (live_slots N l) ≡ entries_in (view_of N m) = chained_view N l (chained_kept (ring_chained N m (clean_ring N B m (length-set l i y ∙ size) h))) ∙ sym (entries_kept e) in
      ap lasts held ∙ lasts_distinct (entries_in (view_of N m)) (clean_slots N B m h).once

-- none is owing, since none is once the one is replaced
pub none_owing_lem : (N B : ℕ) (l : List Segment) (i : ℕ) (y : Segment) (q : ℕ) → length l ≡ N → is_owing y ≡ is_owing (get_or l i blank) → is_clean N B (set l i y) ≡ true → is_owing (get_or l q blank) ≡ false
none_owing_lem N B l i y q size o h = go (is_owing (get_or l q blank)) refl
  where
    go : (t : Bool) → is_owing (get_or l q blank) ≡ t → t ≡ false
    go true e = absurd (no_owing N B (set l i y) (length-set l i y ∙ size) h q (get_kept is_owing l i y o q ∙ e))
    go false e = refl
