-- Parts of a text, one after the other: how far the first reaches, and what is left behind it.
use Prim.Native.Nat.{ℕ, suc, ◌+◌, ◌≤◌, ◌<◌}
use mathlib.Core.Path.{◌≡◌, refl}
use mathlib.Core.Bool.{Bool, true, false}
use mathlib.Core.List.{List, [], ◌∷◌}
use native.Mathlib.Numerals.{add-one}
use lib.ListN.{length, take, drop, get_or, drop_of_length-le}
use lib.Seq.{drop-cons}
use Rattle.qbx_share_file.specs.AnyFile.{before, parts}
use Rattle.qbx_share_file.specs.ShareFile.{filled}
use Rattle.qbx_share_file.specs.Steps.{reach}

-- ---- how far a part reaches

pub reach_here : (f : ℕ → Bool) (s : List ℕ) (i : ℕ) → i < length s → f (get_or s i 0) ≡ true → reach f (drop i s) ≡ 0
unfolding reach
reach_here f s i h e = rw (drop-cons s i 0 h, e)

pub reach_on : (f : ℕ → Bool) (s : List ℕ) (i : ℕ) → i < length s → f (get_or s i 0) ≡ false → reach f (drop i s) ≡ suc (reach f (drop (i + 1) s))
unfolding reach
reach_on f s i h e = rw (drop-cons s i 0 h, e, add-one)

pub reach_none : (f : ℕ → Bool) (s : List ℕ) (i : ℕ) → length s ≤ i → reach f (drop i s) ≡ 0
unfolding reach
reach_none f s i h = rw (drop_of_length-le s h)

-- ---- the first part, and the others

-- what stands behind the byte that ends a part
unfoldable pub others : (ℕ → Bool) → List ℕ → List (List ℕ)
others f [] = []
others f (b ∷ s) = parts f s

abbrev FirstOf : (ℕ → Bool) → List ℕ → Type 0
FirstOf f s = parts f s ≡ take (reach f s) s ∷ others f (drop (reach f s) s)

first_by : (f : ℕ → Bool) (b : ℕ) (s : List ℕ) (t : Bool) → f b ≡ t → FirstOf f s → FirstOf f (b ∷ s)
unfolding parts reach others before
first_by f b s true e h = rw e
first_by f b s false e h = rw (e, h)

pub parts_first : (f : ℕ → Bool) (s : List ℕ) → parts f s ≡ take (reach f s) s ∷ others f (drop (reach f s) s)
unfolding parts reach others
parts_first f [] = refl
parts_first f (b ∷ s) = first_by f b s (f b) refl (parts_first f s)

abbrev FilledOf : (ℕ → Bool) → List ℕ → Type 0
FilledOf f s = filled (others f (drop (reach f s) s)) ≡ filled (parts f (drop (reach f s) s))

filled_by : (f : ℕ → Bool) (b : ℕ) (s : List ℕ) (t : Bool) → f b ≡ t → FilledOf f s → FilledOf f (b ∷ s)
unfolding parts reach others filled
filled_by f b s true e h = rw (e, e)
filled_by f b s false e h = rw e h

-- of the parts that are not empty, the same stand behind that byte as from it on
pub filled_others : (f : ℕ → Bool) (s : List ℕ) → FilledOf f s
unfolding parts reach others filled
filled_others f [] = refl
filled_others f (b ∷ s) = filled_by f b s (f b) refl (filled_others f s)
