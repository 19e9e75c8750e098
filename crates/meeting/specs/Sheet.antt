-- Candidates by block number, in three tables: the place of the one given, where 0 is none; the length of its contents; and whether another disagrees with it.
use Rattle.std.specs.Prelude.{ℕ, zero, suc, ◌+◌, ◌*◌, ◌≤◌, ◌≡◌, Bool, true, false, cond, List, [], ◌∷◌, length, get_or, take, drop, set, eqb}
use Rattle.std.proofs.Common.{arith}
use Rattle.model.specs.Lists.{same}
use Rattle.model.specs.Chip.{Image, Page}
use Rattle.model.specs.declared.SlotKind.{SlotKind}
use Rattle.model.specs.declared.SlotKind.TheVariants.{Empty, Torn, Live, Dead, Cut, Wrong}
use Rattle.meeting.specs.declared.Sheet.{Sheet}

abbrev pub sheet : List ℕ → List ℕ → List Bool → Sheet
sheet p n d = record { places = p; lengths = n; differs = d }

-- 256 bytes of an image, from an offset on
abbrev pub page_at : Image → ℕ → Page
page_at s at = take 256 (drop at s)

-- a candidate met at an offset, of block b with contents of n bytes: the first of its block is given, and another is compared with that one
unfoldable pub met : Image → ℕ → ℕ → ℕ → Sheet → Sheet
met s at b n t = let g = get_or t.places b 0 in
    cond (eqb g 0) (sheet (set t.places b at) (set t.lengths b n) t.differs)
    (cond (same (page_at s g) (page_at s at)) t (sheet t.places t.lengths (set t.differs b true)))

unfoldable pub met_kind : Image → ℕ → SlotKind → Sheet → Sheet
met_kind s p Empty t = t
met_kind s p Torn t = t
met_kind s p (Live n b) t = met s (p * 256) b.0 n t
met_kind s p Dead t = t
met_kind s p Cut t = t
met_kind s p Wrong t = t

-- the slots on the pages from p on, the last one first
unfoldable pub met_row : Image → ℕ → List SlotKind → Sheet → Sheet
met_row s p [] t = t
met_row s p (k ∷ ks) t = met_kind s p k (met_row s (suc p) ks t)

-- ---- the places are in the image

pub record Within (places : List ℕ) (bytes : ℕ) : Type 0 where
  pub page : (b : ℕ) → get_or places b 0 + 256 ≤ bytes

set_within : (places : List ℕ) (b at bytes : ℕ) → at + 256 ≤ bytes → Within places bytes → Within (set places b at) bytes
set_within places b at bytes h w = record { page = λ c. go places b c (λ k. w.page k) }
  where
    go : (p : List ℕ) (b c : ℕ) → ((k : ℕ) → get_or p k 0 + 256 ≤ bytes) → get_or (set p b at) c 0 + 256 ≤ bytes
    go [] b c f = f c
    go (x ∷ p) zero zero f = h
    go (x ∷ p) zero (suc c) f = f (suc c)
    go (x ∷ p) (suc b) zero f = f 0
    go (x ∷ p) (suc b) (suc c) f = go p b c (λ k. f (suc k))

pub met_within : (s : Image) (at b n : ℕ) (t : Sheet) (bytes : ℕ) → at + 256 ≤ bytes → Within t.places bytes → Within (met s at b n t).places bytes
unfolding met
met_within s at b n t bytes h w = go (eqb (get_or t.places b 0) 0) (same (page_at s (get_or t.places b 0)) (page_at s at))
  where
    go : (x y : Bool) → Within (cond x (sheet (set t.places b at) (set t.lengths b n) t.differs) (cond y t (sheet t.places t.lengths (set t.differs b true)))).places bytes
    go true y = set_within t.places b at bytes h w
    go false true = w
    go false false = w

pub kind_within : (s : Image) (p : ℕ) (k : SlotKind) (t : Sheet) (bytes : ℕ) → p * 256 + 256 ≤ bytes → Within t.places bytes → Within (met_kind s p k t).places bytes
unfolding met_kind
kind_within s p Empty t bytes h w = w
kind_within s p Torn t bytes h w = w
kind_within s p (Live n b) t bytes h w = met_within s (p * 256) b.0 n t bytes h w
kind_within s p Dead t bytes h w = w
kind_within s p Cut t bytes h w = w
kind_within s p Wrong t bytes h w = w

pub row_within : (s : Image) (p : ℕ) (ks : List SlotKind) (t : Sheet) (bytes : ℕ) → (p + length ks) * 256 ≤ bytes → Within t.places bytes → Within (met_row s p ks t).places bytes
unfolding met_row
row_within s p [] t bytes h w = w
row_within s p (k ∷ ks) t bytes h w = kind_within s p k (met_row s (suc p) ks t) bytes (omega arith) (row_within s (suc p) ks t bytes (let e : suc p + length ks ≡ p + suc (length ks) = omega arith in rw e h) w)
