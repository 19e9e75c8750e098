-- A fresh image as it is written: one slot after the other, and a segment opened only when an entry needs it.
use Rattle.std.specs.Prelude.{ℕ, suc, cond, List, [], ◌∷◌, ◌++◌, ltb}
use Rattle.model.specs.Chip.{Step}
use Rattle.model.specs.Header.{new_version}
use Rattle.model.specs.Steps.{on_page, slot_at, write_slot, open_segment}
use Rattle.model.specs.Table.{Table}

-- so that a wrong definition is refused by what it computes before it is by a law

-- the entries written to a fresh image, the first to slot j of the segment with number n if it has so many slots, and else to the next segment, which is opened
unfoldable pub placed : ℕ → ℕ → ℕ → ℕ → Table → List Step
placed N B n j [] = []
placed N B n j (e ∷ t) =
    cond (ltb j B)
    (on_page (slot_at N B n j) (write_slot e.block e.contents) ++ placed N B n (suc j) t)
    (open_segment N B (new_version 0) (suc n) ++ (on_page (slot_at N B (suc n) 0) (write_slot e.block e.contents) ++ placed N B (suc n) 1 t))
