-- What the contracts of this crate say beside the definitions of the model.
use Rattle.std.specs.Prelude.{ℕ, ◌%◌, ◌≡◌, refl, List, [], ◌∷◌, ◌++◌}
use Rattle.model.specs.Chip.{Page, Step, program}
use Rattle.model.specs.Header.{compaction_begun, erase_pending, Version, header_page}
use Rattle.model.specs.Slot.{Entry}
use Rattle.model.specs.Steps.{program_part, on_page, header_at, copy_entries, copy_out}

-- the first steps in a header, and the last, with the bytes of a page that was made up
unfoldable pub header_begun : Page → ℕ → List Step
header_begun h st = program 5 st ∷ (program_part h 0 5 ++ program_part h 6 2)

unfoldable pub header_finished : Page → ℕ → List Step
header_finished h st = program_part h 17 4 ++ (program_part h 8 8 ++ (program 5 st ∷ []))

-- the steps of a compaction in the target's header, before the slots are copied and after
unfoldable pub begin_compaction : ℕ → ℕ → Version → ℕ → ℕ → List Step
begin_compaction N B e o n = let h = header_page N B e erase_pending n (o % N) in
    on_page (header_at N B n) (program 5 compaction_begun ∷ (program_part h 0 5 ++ (program_part h 6 2 ++ program_part h 16 1)))

unfoldable pub finish_copy : ℕ → ℕ → Version → ℕ → ℕ → List Step
finish_copy N B e o n = let h = header_page N B e erase_pending n (o % N) in
    on_page (header_at N B n) (program_part h 17 4 ++ (program_part h 8 8 ++ (program 5 erase_pending ∷ [])))

-- they are what the definition of the copying has around the copied slots
pub copy_out_parts : (N B : ℕ) (e : Version) (o n : ℕ) (es : List Entry) → copy_out N B e o n es ≡ begin_compaction N B e o n ++ (copy_entries N B n 0 es ++ finish_copy N B e o n)
unfolding copy_out begin_compaction finish_copy
copy_out_parts N B e o n es = refl
