-- A wrong size and a right one; the parts of a picture in a row.
use Prim.Native.Nat.{ℕ}
use mathlib.Core.Path.{◌≡◌, refl, sym, ap, ◌∙◌}
use mathlib.Core.Bool.{Bool, true, false, ◌&&◌}
use mathlib.Core.List.{List, ◌++◌, map}
use lib.ListN.{length, take}
use lib.Dec.{eqb}
use Rattle.model.specs.Chip.{Image, image_length, in_range, right_size}
use Rattle.model.specs.State.{Segment, segments_of, next_number}
use Rattle.account_text.specs.Account.{shown, wrong_size}
use Rattle.account_text.specs.Map.{legend, all_rows, map_on, map_text}
use Rattle.index.specs.declared.Shown.{Shown}
use Rattle.index.specs.Shows.{uncounted, after_shown}
use Rattle.descent.specs.Descent.{largest, largest_next}
use Rattle.listing.proofs.Laws.Shows.{uncounted_all}

pub wrong_map : (N B : ℕ) (s : Image) (t : Bool) → t ≡ (in_range N B && eqb (length s) (image_length N B)) → t ≡ false → wrong_size ≡ map_text N B s
unfolding map_text right_size
wrong_map N B s t e h = rw (sym e ∙ h)

pub right_map : (N B : ℕ) (s : Image) → right_size N B s ≡ true → map_on N B (segments_of N B s) ≡ map_text N B s
unfolding map_text
right_map N B s h = rw h

pub drawn : (N B : ℕ) (l : List Segment) → all_rows N B l ++ legend ≡ map_on N B l
unfolding map_on
drawn N B l = refl

pub next_is : (N B : ℕ) (l : List Segment) (table : List Shown) (n : ℕ) → take N table ≡ map uncounted (shown N B l) → n ≡ largest (map after_shown (take N table)) → n ≡ next_number (shown N B l)
next_is N B l table n e h = h ∙ (ap (λ (t : List Shown). largest (map after_shown t)) e ∙ (ap largest (uncounted_all (shown N B l)) ∙ largest_next (shown N B l)))
