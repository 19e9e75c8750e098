-- Laws of header pages: numbers and the version in them, and the fields made up byte by byte.
use Prim.Native.Nat.{ℕ, suc, ◌+◌, ◌-◌, ◌*◌, ◌/◌, ◌%◌, ◌≤◌}
use mathlib.Core.Path.{◌≡◌, refl}
use mathlib.Core.Logic.{◌⊎◌, inl, inr}
use mathlib.Core.Bool.{Bool, true, false, cond, not}
use mathlib.Core.List.{[], ◌∷◌}
use native.Mathlib.Nat.{add-zero}
use native.Mathlib.Omega.{arith}
use lib.ListN.{length, get_or, take, drop, replicate}
use lib.Seq.{drop-cons}
use lib.Dec.{eqb}
use Rattle.model.specs.Chip.{Page, erased}
use Rattle.model.specs.Header.{number_bytes, inverted, value, Version, version1, version2, new_version, is_former, version_number, header_page, header_number, header_version}
use Rattle.header.specs.Parts.{header_total, header_fields}

-- ---- numbers

pub four_bytes : (h : Page) (k : ℕ) → k + 4 ≤ length h → take 4 (drop k h) ≡ get_or h k 0 ∷ get_or h (suc k) 0 ∷ get_or h (suc (suc k)) 0 ∷ get_or h (suc (suc (suc k))) 0 ∷ []
four_bytes h k l =
    rw (drop-cons h k 0 (omega arith), drop-cons h (suc k) 0 (omega arith), drop-cons h (suc (suc k)) 0 (omega arith), drop-cons h (suc (suc (suc k))) 0 (omega arith))

value_read : (h : Page) (k : ℕ) → length h ≡ 256 → k + 4 ≤ 256
    → get_or h k 0 + 256 * (get_or h (suc k) 0 + 256 * (get_or h (suc (suc k)) 0 + 256 * get_or h (suc (suc (suc k))) 0)) ≡ value (take 4 (drop k h))
unfolding value
value_read h k e l = rw (four_bytes h k (omega arith), add-zero)

pub number_read : (h : Page) → length h ≡ 256 → get_or h 8 0 + 256 * (get_or h 9 0 + 256 * (get_or h 10 0 + 256 * get_or h 11 0)) ≡ header_number h
unfolding header_number
number_read h e = value_read h 8 e (omega arith)

pub total_read : (h : Page) → length h ≡ 256 → get_or h 17 0 + 256 * (get_or h 18 0 + 256 * (get_or h 19 0 + 256 * get_or h 20 0)) ≡ header_total h
unfolding header_total
total_read h e = value_read h 17 e (omega arith)

-- ---- the page

pub fields_made : (N B : ℕ) (former : Bool) (st n old v a b c d : ℕ) → v ≡ cond former 1 2 → a ≡ n % 256 → b ≡ n / 256 % 256 → c ≡ n / 256 / 256 % 256 → d ≡ n / 256 / 256 / 256 % 256
    → 0x53 ∷ 0x4C ∷ 0x54 ∷ v ∷ 0 ∷ st ∷ B ∷ N ∷ a ∷ b ∷ c ∷ d ∷ (255 - a) ∷ (255 - b) ∷ (255 - c) ∷ (255 - d) ∷ old ∷ replicate 239 255 ≡ header_fields N B former st n old
unfolding header_fields header_page number_bytes inverted erased new_version version_number
fields_made N B true st n old v a b c d ev ea eb ec ed = rw (ev, ea, eb, ec, ed)
fields_made N B false st n old v a b c d ev ea eb ec ed = rw (ev, ea, eb, ec, ed)

-- ---- version

pub former_read : (h : Page) → not (eqb (get_or h 3 0) 2) ≡ is_former (header_version h)
unfolding header_version is_former
former_read h = go (eqb (get_or h 3 0) 2)
  where
    go : (t : Bool) → not t ≡ is_former (cond t (version2 (value (take 4 (drop 17 h))) (drop 32 h)) version1)
    go true = refl
    go false = refl

pub either_version : (h : Page) → (header_version h ≡ version1) ⊎ (header_version h ≡ version2 (header_total h) (drop 32 h))
unfolding header_version header_total
either_version h = go (eqb (get_or h 3 0) 2) (version2 (value (take 4 (drop 17 h))) (drop 32 h))
  where
    go : (t : Bool) (e : Version) → (cond t e version1 ≡ version1) ⊎ (cond t e version1 ≡ e)
    go true e = inr refl
    go false e = inl refl
