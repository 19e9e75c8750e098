-- Laws of segments erased one after the other.
use Prim.Native.Nat.{ℕ, ◌+◌, ◌≤◌, ◌<◌}
use mathlib.Core.Path.{◌≡◌, ◌∙◌, subst}
use mathlib.Core.List.{[], ◌∷◌}
use native.Mathlib.Numerals.{add-one}
use native.Mathlib.Omega.{arith}
use lib.ListN.{length}
use Rattle.model.specs.Chip.{Image, erase}
use Rattle.model.specs.Steps.{erase_first}
use Rattle.flash.specs.Ran.{Ran}
use Rattle.flash.proofs.Laws.{◌then◌, ran_length}

pub erase_next_lem : (N B i n : ℕ) {left left₁ : ℕ} {s t u : Image} → i < N → length t ≡ length s → Ran (erase_first i) B n left s t → Ran (erase i ∷ []) B left left₁ t u
    → Ran (erase_first (i + 1)) B n left₁ s u × (i + 1 ≤ N) × (length u ≡ length s)
unfolding erase_first
erase_next_lem N B i n h l d e = (rw add-one (◌then◌ d e), omega arith, ran_length e ∙ l)

pub erase_end : (N B i n : ℕ) {left : ℕ} {s t : Image} → i ≤ N → N ≤ i → Ran (erase_first i) B n left s t → Ran (erase_first N) B n left s t
erase_end N B i n {left} {s} {t} h k d = subst (λ (j : ℕ). Ran (erase_first j) B n left s t) (omega arith) d
