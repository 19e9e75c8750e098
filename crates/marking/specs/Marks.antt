-- The character of a slot by its kind.
use Rattle.std.specs.Prelude.{ℕ, ◌≡◌, refl, []}
use Rattle.model.specs.Slot.{Slot, empty, torn, dead, cut, wrong, live, kind_of}
use Rattle.model.specs.declared.SlotKind.{SlotKind}
use Rattle.model.specs.declared.SlotKind.TheVariants.{Empty, Torn, Live, Dead, Cut, Wrong}
use Rattle.account_text.specs.Map.{mark}

unfoldable pub mark_kind : SlotKind → ℕ
mark_kind Empty = mark empty
mark_kind Torn = mark torn
mark_kind (Live n b) = mark (live 0 [])
mark_kind Dead = mark dead
mark_kind Cut = mark cut
mark_kind Wrong = mark wrong

pub mark_kind_lem : (k : Slot) → mark_kind (kind_of k) ≡ mark k
unfolding mark_kind kind_of mark
mark_kind_lem empty = refl
mark_kind_lem torn = refl
mark_kind_lem dead = refl
mark_kind_lem cut = refl
mark_kind_lem wrong = refl
mark_kind_lem (live b c) = refl
