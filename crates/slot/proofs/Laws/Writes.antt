-- Laws of slots that are made up and then programmed, where they belong in the image.
use Prim.Native.Nat.{ℕ, zero, suc, ◌+◌, ◌-◌, ◌/◌, ◌%◌, ◌≤◌}
use mathlib.Core.Path.{◌≡◌, refl, sym, ap, ◌∙◌}
use mathlib.Core.List.{List, [], ◌∷◌, ◌++◌}
use native.Mathlib.Nat.{add-zero, sub-zero, zero-sub, suc-sub-suc}
use native.Mathlib.Omega.{arith}
use lib.ListN.{length, take, drop, replicate}
use Rattle.model.specs.Chip.{Image, Page, program, erased}
use Rattle.model.specs.Slot.{most_contents, slot_page}
use Rattle.model.specs.Steps.{program_part, write_slot, mark_dead}
use Rattle.flash.specs.Ran.{Programmed, shifted, Within}
use Rattle.flash.specs.Pages.{OnPageAt}
use Rattle.flash.proofs.Laws.{◌then◌, within_append}
use Rattle.flash.proofs.Pages.{within_part, on_page_lem}
use Rattle.slot.specs.Parts.{slot_parts}

pub programmed_slot : (p : Page) (k : ℕ) {n n₁ n₂ n₃ n₄ : ℕ} {s s₁ s₂ s₃ s₄ : Image} → Programmed (program 0 0x7F ∷ []) n n₁ s s₁ → Programmed (program_part p 1 3) n₁ n₂ s₁ s₂
    → Programmed (program_part p 8 k) n₂ n₃ s₂ s₃ → Programmed (program 0 0x3F ∷ []) n₃ n₄ s₃ s₄ → Programmed (slot_parts p k) n n₄ s s₄
unfolding slot_parts
programmed_slot p k d₁ d₂ d₃ d₄ B = ◌then◌ (d₁ B) (◌then◌ (d₂ B) (◌then◌ (d₃ B) (d₄ B)))

slot_within : (p : Page) (k : ℕ) → k ≤ 248 → Within 256 (slot_parts p k)
unfolding slot_parts
slot_within p k h = (
  omega arith,
  within_append 256 (program_part p 1 3) (program_part p 8 k ++ (program 0 0x3F ∷ [])) (within_part p 1 3 (omega arith))
      (within_append 256 (program_part p 8 k) (program 0 0x3F ∷ []) (within_part p 8 k (omega arith)) (omega arith, tt)),
)

pub slot_parts_lem : (b : ℕ) (c : List ℕ) → slot_parts (slot_page b c) (length c) ≡ write_slot b c
unfolding slot_parts write_slot
slot_parts_lem b c = refl

pub write_within : (b : ℕ) (c : List ℕ) → length c ≤ 248 → Within 256 (write_slot b c)
write_within b c h = rw (← (slot_parts_lem b c)) (slot_within (slot_page b c) (length c) h)

-- a page programmed where it belongs
pub page_written : (at k : ℕ) (s : Image) (p : Page) {n r : ℕ} {q : Page} → at + 256 ≤ length s → k ≤ 248
    → Programmed (slot_parts p k) n r (take (at + 256 - at) (drop at s)) q → OnPageAt at (slot_parts p k) n r s (take at s ++ (q ++ drop (at + 256 - at) (drop at s)))
page_written at k s p h l d = on_page_lem at s (slot_parts p k) h (slot_within p k l) d

-- the page of a live slot writes that slot
pub slot_written : (at b : ℕ) (c : List ℕ) (p : Page) {n r : ℕ} {s t : Image} → p ≡ slot_page b c → OnPageAt at (slot_parts p (length c)) n r s t → OnPageAt at (write_slot b c) n r s t
slot_written at b c p e d = rw (← (slot_parts_lem b c), ← e) d

pub marked : (at : ℕ) {n r : ℕ} {s t : Image} → Programmed (program at 0xDF ∷ []) n r s t → OnPageAt at mark_dead n r s t
unfolding mark_dead shifted
marked at d = rw (add-zero at) d

-- the page of a slot: the bytes before the contents, then the contents one by one
drop_replicate : (n k v : ℕ) → drop n (replicate k v) ≡ replicate (k - n) v
drop_replicate zero k v = ap (λ (j : ℕ). replicate j v) (sym (sub-zero k))
drop_replicate (suc n) zero v = ap (λ (j : ℕ). replicate j v) (sym (zero-sub (suc n)))
drop_replicate (suc n) (suc k) v = drop_replicate n k v ∙ ap (λ (j : ℕ). replicate j v) (sym (suc-sub-suc k n))

abbrev pub slot_head : ℕ → ℕ → ℕ → Page
slot_head l x y = 0x3F ∷ l ∷ x ∷ y ∷ replicate 252 255

pub slot_made : (b x y n : ℕ) (c : List ℕ) → x ≡ b % 256 → y ≡ b / 256 → n ≡ length c → take 8 (slot_head (length c) x y) ++ (c ++ drop n (drop 8 (slot_head (length c) x y))) ≡ slot_page b c
unfolding slot_page most_contents erased
slot_made b x y n c d e k = rw (d, e, k, drop_replicate (length c) 248 255) refl
