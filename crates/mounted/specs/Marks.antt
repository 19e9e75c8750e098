-- The slot that an entry of the table tells of, marked.
use Rattle.std.specs.Prelude.{ℕ, ◌≡◌, None, Some, Ok, Err}
use Rattle.model.specs.Chip.{Image}
use Rattle.model.specs.declared.Answer.TheVariants.{Damaged, Absent as NotStored}
use Rattle.model.specs.declared.Performed.{Performed}
use Rattle.request.specs.Request.{Refused}
use Rattle.mend.specs.Marks.{PageAt, MarkedAt}
use Rattle.places.specs.Places.{Entry}

-- a place is that of a page of the image
abbrev pub EntryInside : Entry → ℕ → Type 0
EntryInside (Ok (Some x)) bytes = PageAt x.place.0 bytes
EntryInside (Ok None) bytes = Unit {0}
EntryInside (Err e) bytes = Unit {0}

-- marked under the budget; or refused, and the image stays
abbrev pub MarkedEntry : Entry → ℕ → Performed → Image → Image → Type 0
MarkedEntry (Ok (Some x)) budget p from to = MarkedAt x.place.0 budget p from to
MarkedEntry (Ok None) budget p from to = Refused NotStored p × (to ≡ from)
MarkedEntry (Err e) budget p from to = Refused Damaged p × (to ≡ from)
