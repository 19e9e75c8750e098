-- The table after a call for a block: by the answer, and what stays.
use Prim.Native.Nat.{ℕ, ◌≤◌, ◌<◌}
use mathlib.Core.Path.{◌≡◌, refl}
use mathlib.Core.Logic.{◌≢◌}
use mathlib.Core.Bool.{Bool, true, false, cond}
use native.Mathlib.Omega.{arith}
use lib.ListN.{length, get_or, drop, set}
use lib.Seq.{drop-set-lt, get_or-set_same}
use lib.Dec.{eqb}
use borrow.Author.Tests.{ne_eqb}
use Rattle.model.specs.Answers.{code_of}
use Rattle.model.specs.Mounted.{Places, least_places, unusable}
use Rattle.model.specs.declared.Answer.{Answer}
use Rattle.model.specs.declared.Answer.TheVariants.{Done, Size, Number, Length, Damaged, Unfinished, Absent, Full, Worn, Cut, ShortTable, FormerVersion, Foreign, Shares, ShortBuffer}
use Rattle.places.specs.Places.{noted}

-- ---- by the answer

-- an answer other than 0
other_code : (a : Answer) → (a ≡ Done → ⊥) → eqb (code_of a) 0 ≡ false
unfolding code_of
other_code Done h = absurd (h refl)
other_code Size h = refl
other_code Number h = refl
other_code Length h = refl
other_code Damaged h = refl
other_code Unfinished h = refl
other_code Absent h = refl
other_code Full h = refl
other_code Worn h = refl
other_code Cut h = refl
other_code ShortTable h = refl
other_code FormerVersion h = refl
other_code Foreign h = refl
other_code Shares h = refl
other_code ShortBuffer h = refl

-- an answer other than 9
uncut_code : (a : Answer) → (a ≡ Cut → ⊥) → eqb (code_of a) 9 ≡ false
unfolding code_of
uncut_code Done h = refl
uncut_code Size h = refl
uncut_code Number h = refl
uncut_code Length h = refl
uncut_code Damaged h = refl
uncut_code Unfinished h = refl
uncut_code Absent h = refl
uncut_code Full h = refl
uncut_code Worn h = refl
uncut_code Cut h = absurd (h refl)
uncut_code ShortTable h = refl
uncut_code FormerVersion h = refl
uncut_code Foreign h = refl
uncut_code Shares h = refl
uncut_code ShortBuffer h = refl

module _ (t : Places) (b place : ℕ) (a : Answer) where
  pub noted_done : a ≡ Done → set t b place ≡ noted t b place (code_of a)
  unfolding noted code_of
  noted_done e = rw e

  pub noted_cut_lem : a ≡ Cut → set t 0 0 ≡ noted t b place (code_of a)
  unfolding noted unusable code_of
  noted_cut_lem e = rw e

  pub noted_refused : (a ≡ Done → ⊥) → (a ≡ Cut → ⊥) → t ≡ noted t b place (code_of a)
  unfolding noted
  noted_refused h k = rw (other_code a h, uncut_code a k)

-- ---- what callers know

module _ (t : Places) (b place code : ℕ) where
  -- the entries past the block numbers stay
  pub noted_past : b < least_places → drop least_places (noted t b place code) ≡ drop least_places t
  unfolding noted unusable
  noted_past h = go (eqb code 0) (eqb code 9)
    where
      go : (x y : Bool) → drop least_places (cond x (set t b place) (cond y (set t 0 0) t)) ≡ drop least_places t
      go true y = drop-set-lt least_places t b place h
      go false true = drop-set-lt least_places t 0 0 (omega arith)
      go false false = refl

  pub noted_unusable : least_places ≤ length t → code ≡ 9 → get_or (noted t b place code) 0 0 ≡ 0
  unfolding noted unusable
  noted_unusable l e = rw e (get_or-set_same t 0 0 0 (omega arith))

  pub noted_zero : code ≡ 0 → noted t b place code ≡ set t b place
  unfolding noted
  noted_zero e = rw e

  pub noted_kept : code ≢ 0 → code ≢ 9 → noted t b place code ≡ t
  unfolding noted
  noted_kept n m = rw (ne_eqb code 0 n, ne_eqb code 9 m)
