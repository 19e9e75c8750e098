-- What the code makes is the filled table. The count of entries is a variable where it can be: nothing computes a list of 65,536.
use Prim.Native.Nat.{ℕ, ◌+◌, ◌≤◌, ◌<◌}
use mathlib.Core.Path.{◌≡◌, refl, sym, ap, ◌∙◌}
use mathlib.Core.Bool.{Bool, true, false, cond}
use mathlib.Core.List.{◌++◌, flatten}
use native.Mathlib.Omega.{arith}
use lib.ListN.{length, get_or, take, drop, set, replicate, length-append, length-drop, length-set, length-replicate, get_or-replicate, get_or-append}
use lib.Seq.{length-take-le, get_or-set_same, get_or-set_other, drop-set-lt, drop_at}
use Rattle.model.specs.Chip.{Image, Bytes, number_limit}
use Rattle.model.specs.State.{View, entries, holds, view}
use Rattle.model.specs.Steps.{top_number}
use Rattle.model.specs.Mounted.{Places, least_places, place_entry, filled_places}
use Rattle.model.proofs.Laws.Chip.{size_facts}
use Rattle.bridge.specs.Held.{Held, held_of_clean, clean_view}
use Rattle.bridge.specs.Requests.{held_below}
use Rattle.bridge.specs.Mounting.{filled_is}
use Rattle.bridge.specs.Views.Entries.{rows_entry, view_entry}
use Rattle.places.specs.Places.{entered_from, emptied, Fillable}
use Rattle.places.proofs.Laws.Entered.{entered_from_length, entered_from_past, entered_entry, entered_zero}

-- n entries emptied
module _ (n : ℕ) (t : Places) where
  emptied_length : n ≤ length t → length (emptied n t) ≡ length t
  unfolding emptied
  emptied_length h = omega (arith, length-append (replicate n 0) (drop n t), length-replicate {A = ℕ} n 0, length-drop n t)

  emptied_get : (i : ℕ) → i < n → get_or (emptied n t) i 0 ≡ 0
  unfolding emptied
  emptied_get i h = get_or-append (replicate n 0) (drop n t) 0 i (omega (arith, length-replicate {A = ℕ} n 0)) ∙ get_or-replicate n i 0 0 h

  emptied_past : drop n (emptied n t) ≡ drop n t
  unfolding emptied
  emptied_past = drop_at (replicate n 0) (drop n t) n (length-replicate {A = ℕ} n 0)

  -- its first n filled with 0
  pub filled_zero : (x : Places) → n ≤ length t → x ≡ replicate (length (take n t)) 0 → x ++ drop n t ≡ emptied n t
  unfolding emptied
  filled_zero x h e = rw (e, length-take-le n t h) refl

-- the length stays, also once segments are entered
module _ (t : Places) (l : least_places ≤ length t) (w : Places) (empties : w ≡ emptied least_places t) where
  pub begun_length : length (set w 0 1) ≡ length t
  begun_length = length-set w 0 1 ∙ ap length empties ∙ emptied_length least_places t l

  pub fill_length : (N B : ℕ) (s : Image) (used first : ℕ) (u : Places) → u ≡ entered_from N B s used first (set w 0 1) → length u ≡ length t
  fill_length N B s used first u e = ap length e ∙ entered_from_length N B s used first (set w 0 1) ∙ begun_length

module _ (N B : ℕ) (s : Image) (first used : ℕ) (f : Fillable N B s first used) where
  abbrev v : View
  v = view N B s

  held : Held N B s v
  held = held_of_clean N B s f.size f.fine

  -- the numbers stay small
  pub fill_number : first + used ≤ 4294967296
  unfolding number_limit top_number
  fill_number = omega (arith, f.oldest, f.count, held_below N B s v held (clean_view N B s f.size f.fine), (size_facts N B s f.size).most)

  module _ (bytes : Bytes s) (t : Places) (l : least_places ≤ length t) where
    abbrev begun : Places
    begun = set (emptied least_places t) 0 1

    made_is : entered_from N B s (length v.slots) (v.first + 0) begun ≡ filled_places N B v t
    made_is = filled_is N B v t made l (entered_from_length N B s (length v.slots) (v.first + 0) begun ∙ begun_length t l (emptied least_places t) refl) past zeroth entry
      where
        made : Places
        made = entered_from N B s (length v.slots) (v.first + 0) begun

        long : least_places ≤ length begun
        long = omega (arith, begun_length t l (emptied least_places t) refl)

        past : drop least_places made ≡ drop least_places t
        past = entered_from_past N B s bytes (length v.slots) (v.first + 0) begun ∙ drop-set-lt least_places (emptied least_places t) 0 1 (omega arith) ∙ emptied_past least_places t

        zeroth : get_or made 0 0 ≡ 1
        zeroth = entered_zero N B s v held 0 (length v.slots) (omega arith) (clean_view N B s f.size f.fine) begun long
            ∙ get_or-set_same (emptied least_places t) 0 1 0 (omega (arith, emptied_length least_places t l))

        both : (x : Bool) (n k e : ℕ) → holds k (entries (flatten v.slots)) ≡ x → e ≡ 0 → cond (holds k (entries (flatten v.slots))) (rows_entry N B n v.slots k) e ≡ rows_entry N B n v.slots k
        both true n k e q z = rw q
        both false n k e q z = rw (q, z) (sym (unfold rows_entry in rw q))

        entry : (k : ℕ) → 0 < k → k < least_places → get_or made k 0 ≡ place_entry N B v k
        entry k a b =
            let m : v.first + 0 ≡ v.first = omega arith in
            let z : get_or begun k 0 ≡ 0 = get_or-set_other (emptied least_places t) 0 k 1 0 (λ q. omega arith) ∙ emptied_get least_places t k b in
            entered_entry N B s v held 0 (length v.slots) (omega arith) (clean_view N B s f.size f.fine) begun long k b
            ∙ both (holds k (entries (flatten v.slots))) (v.first + 0) k (get_or begun k 0) refl z
            ∙ rw m (sym (view_entry N B v k))

    -- emptied, entry 0 made 1, the segments in use entered
    module _ (w u : Places) (empties : w ≡ emptied least_places t) (enters : u ≡ entered_from N B s used first (set w 0 1)) where
      pub fill_made : u ≡ filled_places N B v t
      fill_made = let e : v.first + 0 ≡ first = omega (arith, f.oldest) in enters ∙ rw (empties, f.count) (rw e at made_is)
