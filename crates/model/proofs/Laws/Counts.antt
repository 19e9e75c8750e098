-- What a sequence counts, on a short one: rewrites and deletes that answer 0 are counted, refused requests are not, and L is the most that was stored.
-- And what a cut has begun: the owing marks reached, and the erases.
use Rattle.std.specs.Prelude.{ℕ, ◌+◌, ◌≡◌, refl, List, [], ◌∷◌}
use Rattle.std.proofs.Common.{inl, inr}
use Rattle.model.specs.Lists.{same, count}
use Rattle.model.specs.Chip.{Image, Step, program, erase, clear, segment_bytes, with_segment, step}
use Rattle.model.specs.Answers.{Request, put, delete, read, recover}
use Rattle.model.specs.Sequences.{erases_in, Observed, among, removed, inserted, stored_after, replaces, start, noted, ledger, erase_count, erases_of}
use Rattle.model.specs.Begun.{is_mark, marks_in, CutBegun}

abbrev saw : Request → ℕ → List ℕ → Observed
saw r code erases = record { request = r; code = code; erases = erases }

-- two blocks stored, one rewritten with an erase, one deleted; a delete of what is absent, a put refused as full, a read and a recover count for nothing
short : List Observed
short = saw (put 1 (9 ∷ [])) 0 [] ∷ saw (put 2 (9 ∷ [])) 0 [] ∷ saw (put 1 (9 ∷ [])) 0 (2 ∷ []) ∷ saw (delete 2) 0 [] ∷ saw (delete 2) 6 [] ∷ saw (put 3 (9 ∷ [])) 7 []
    ∷ saw (read 1) 0 [] ∷ saw recover 0 [] ∷ []

counted : ledger short start ≡ record { stored = 1 ∷ []; largest = 2; replaced = 2; erased = 2 ∷ [] }
unfolding short among removed inserted stored_after replaces start noted ledger
counted = refl

erases_counted : erase_count (ledger short start) ∷ erases_of 2 (ledger short start) ∷ erases_of 1 (ledger short start) ∷ [] ≡ 1 ∷ 1 ∷ 0 ∷ []
unfolding short count among removed inserted stored_after replaces start noted ledger erase_count erases_of
erases_counted = refl

-- ---- what a cut has begun: a chip of one page, of which the first bytes are enough

abbrev begun : Image
begun = 255 ∷ 255 ∷ 255 ∷ 255 ∷ 255 ∷ 0xDF ∷ []

abbrev mark : List Step
mark = program 5 0x9F ∷ []

-- a cut inside the step of the owing mark that has cleared nothing has not reached it; one that has cleared its bit has
unreached : CutBegun 0 mark begun begun [] 0
unfolding same count clear step erases_in is_mark marks_in
unreached = inr (inl ((0xDF, (refl, refl), refl), refl, refl))

reached : CutBegun 0 mark begun (255 ∷ 255 ∷ 255 ∷ 255 ∷ 255 ∷ 0x9F ∷ []) [] 1
unfolding same count clear step erases_in is_mark marks_in
reached = inr (inl ((0x9F, (refl, refl), refl), refl, refl))

-- no other status is the mark, and the same byte elsewhere is none
others : marks_in 0 (program 5 0x8F ∷ program 5 0xDF ∷ program 6 0x9F ∷ []) + marks_in 1 (program 261 0x9F ∷ []) ≡ 0
unfolding count is_mark marks_in
others = refl

-- a cut inside an erase has begun it, even if it changed no bit
fallen : CutBegun 0 (erase 0 ∷ []) (0x53 ∷ []) (0x53 ∷ []) (0 ∷ []) 0
unfolding same count clear segment_bytes with_segment step erases_in is_mark marks_in
fallen = inr (inl ((0x53 ∷ [], ((refl, refl), refl), refl), refl, refl))
