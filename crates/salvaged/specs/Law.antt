-- Request #113: what salvage gives, on every image and after every history; and what a rebuilt image is.
-- The source s has N segments with B slots; in the second part the target t has M with D.
use Rattle.std.specs.Prelude.{ℕ, suc, ◌+◌, ◌-◌, ◌*◌, ◌/◌, ◌≤◌, ◌<◌, ◌≡◌, ◌⊎◌, ◌≢◌, true, false, length, get_or}
use mathlib.Core.List.{List, [], ◌∷◌, ◌++◌, flat_map, map}
use Rattle.model.specs.Chip.{Image, Bytes, right_size}
use Rattle.model.specs.Header.{new_version, is_former}
use Rattle.model.specs.Slot.{empty, live}
use Rattle.model.specs.State.{Segment, blank, is_owing, number_after, top_index, next_index, slots_in, segments_of, distinct, clean, damaged, state, view}
use Rattle.model.specs.Table.{Table, Agree, table_of}
use Rattle.model.specs.Histories.{Event, History, shown}
use Rattle.model.specs.Sequences.{Call, observed, Uncut}
use Rattle.model.specs.Mounted.{Places}
use Rattle.crash.specs.Machine.{Promise, settled, interrupted, unknown, next, IsCut, Holds, PlainRuns, NoFormat}
use Rattle.crash.specs.Sound.{Sound, former_shown}
use Rattle.crash.specs.Demand2.{Keeps, board}
use Rattle.crash.proofs.ReadingRuns.{FinishedFormat}
use Rattle.wear.specs.Demand3.{stocked, Bounded}
use Rattle.sessions.specs.Law.{Turn, Session, events_in, Observes, Unbroken}
use Rattle.text.specs.Text.{text}
use Rattle.account_text.specs.Account.{LiveSlot, live_slots, by_block, block_text}
use Rattle.moves.specs.Moves.{by_number, move_outcome}
use Rattle.moves.proofs.Counted.{slot_steps}
use Rattle.moved.specs.Law.{Tried}
use Rattle.salvage.specs.Salvage.{candidates, held_in, given, agreed, salvage_text, salvaged, rebuild_work, rebuild_outcome}

-- ---- on any image of a right size, damaged ones too

abbrev pub Among : LiveSlot → List LiveSlot → Type 0
Among e [] = ⊥
Among e (x ∷ r) = (e ≡ x) ⊎ Among e r

-- the slot that it names has live form, with its block number and contents; a segment that is not in use has no slots
abbrev pub IsLive : List Segment → LiveSlot → Type 0
IsLive l e = (j : ℕ) × (e.slot ≡ suc j) × (get_or (slots_in (get_or l e.segment blank)) j empty ≡ live e.block e.contents)

-- "where the top is owing, the segment after it is left aside"
abbrev pub Aside : ℕ → List Segment → LiveSlot → Type 0
Aside N l e = (is_owing (get_or l (top_index N l) blank) ≡ true) × (e.segment ≡ next_index N l)

-- "Every slot of live form in a segment whose header is in use is a candidate", but for those left aside, and nothing else
abbrev pub EveryCandidate : Type 0
EveryCandidate = (N B : ℕ) (s : Image) (e : LiveSlot) → right_size N B s ≡ true → let l = segments_of N B s in
    (Among e (candidates N l) → IsLive l e × (Aside N l e → ⊥)) × (IsLive l e → (Aside N l e → ⊥) → Among e (candidates N l))

-- of a lower segment number; or in the same segment, before it or the same
abbrev pub NotAfter : List Segment → LiveSlot → LiveSlot → Type 0
NotAfter l x g = (number_after (get_or l x.segment blank) < number_after (get_or l g.segment blank)) ⊎ ((x.segment ≡ g.segment) × (x.slot ≤ g.slot))

-- "For each block number give the candidate in the highest segment number, within a segment the last": one for each block number that a candidate has, and no candidate of that number comes after it
abbrev pub HighestGiven : Type 0
HighestGiven = (N B : ℕ) (s : Image) → right_size N B s ≡ true → let l = segments_of N B s in let r = candidates N l in
    (distinct (map held_in (given r)) ≡ true)
    × ((g : LiveSlot) → Among g (given r) → Among g r)
    × ((x : LiveSlot) → Among x r → (g : LiveSlot) × Among g (given r) × (g.block ≡ x.block) × NotAfter l x g)

-- "say whether others disagreed with it in contents": it says same if each candidate of its number has its contents, and differs if one has others
abbrev pub Disagreement : Type 0
Disagreement = (r : List LiveSlot) (g : LiveSlot) →
    (agreed r g ≡ true → (x : LiveSlot) → Among x r → x.block ≡ g.block → x.contents ≡ g.contents)
    × (agreed r g ≡ false → (x : LiveSlot) × Among x r × (x.block ≡ g.block) × (x.contents ≢ g.contents))

-- ---- on an image that is not damaged

-- "On a clean image salvage gives exactly the stored table [..], and on an unfinished one the table that recovery would": entry by entry, in one order
abbrev pub SalvagedTable : Type 0
SalvagedTable = (N B : ℕ) (s : Image) → right_size N B s ≡ true → state N B s ≢ damaged → salvaged N B s ≡ shown N B s

unfoldable pub same_line : LiveSlot → List ℕ
same_line e = block_text e.block (length e.contents) e.segment e.slot ++ text " same\n"

-- "On a clean image salvage gives exactly the stored table with no disagreement": the lines of all its live slots, each `same`
abbrev pub CleanTable : Type 0
CleanTable = (N B : ℕ) (s : Image) → right_size N B s ≡ true → state N B s ≡ clean
    → (salvaged N B s ≡ table_of N B s) × (salvage_text N B s ≡ text "salvage promises nothing\n" ++ flat_map same_line (by_block (live_slots N (segments_of N B s))))

-- ---- after every history

-- what is salvaged from an image of which this is promised: where it is a table, that table
abbrev pub Salvages : ℕ → ℕ → Image → Promise → Type 0
Salvages N B u (settled t) = Agree (salvaged N B u) t
Salvages N B u (interrupted t) = Agree (salvaged N B u) t
Salvages N B u unknown = Unit {0}

-- Every history of the store is one of the plain table, and what is salvaged from its last image is the table promised.
abbrev pub SalvagedHistories : Type 0
SalvagedHistories = (N B : ℕ) (s u : Image) (es : List Event) → right_size N B s ≡ true → History N B s es u
    → (x : Promise) × PlainRuns (board N B false) unknown es x × Keeps N B u x × Salvages N B u x

-- The same from any clean image of version 2; from one of version 1, until it is formatted; and from one of version 1 as a power cut left it.
abbrev pub SalvagedFromClean : Type 0
SalvagedFromClean = (N B : ℕ) (s u : Image) (es : List Event) → right_size N B s ≡ true → Bytes s → state N B s ≡ clean → is_former (view N B s).version ≡ false → History N B s es u
    → (x : Promise) × PlainRuns (board N B false) (settled (table_of N B s)) es x × Keeps N B u x × Salvages N B u x

abbrev pub SalvagedFromFormer : Type 0
SalvagedFromFormer = (N B : ℕ) (s u : Image) (es : List Event) → right_size N B s ≡ true → Bytes s → state N B s ≡ clean → is_former (view N B s).version ≡ true → History N B s es u → NoFormat es
    → (x : Promise) × PlainRuns (board N B true) (settled (table_of N B s)) es x × Keeps N B u x × Salvages N B u x

abbrev pub SalvagedFromFormerLeft : Type 0
SalvagedFromFormerLeft = (N B : ℕ) (s u : Image) (es : List Event) → right_size N B s ≡ true → Bytes s → Sound N B s → former_shown N B s ≡ true → History N B s es u → NoFormat es
    → (x : Promise) × PlainRuns (board N B true) (interrupted (shown N B s)) es x × Keeps N B u x × Salvages N B u x

-- The same of sessions with mounts and mounted calls (request #102).
abbrev pub SalvagedSessions : Type 0
SalvagedSessions = (N B : ℕ) (s u : Image) (p : Places) (es : List Turn) → right_size N B s ≡ true → Session N B false s p es u
    → (x : Promise) × PlainRuns (board N B false) unknown (events_in es) x × Keeps N B u x × Salvages N B u x

-- After any history from a finished format, cut anywhere, between steps or inside one, salvage gives the table before the interrupted request or the one after it, whole.
abbrev pub CutAnywhere : Type 0
CutAnywhere = (N B : ℕ) (s u : Image) (past es : List Event) (f e : Event) → right_size N B s ≡ true → History N B s (past ++ (f ∷ (es ++ (e ∷ [])))) u
    → FinishedFormat f → NoFormat (es ++ (e ∷ [])) → IsCut e.seen
    → (x : Promise) × (t : Table) × PlainRuns (board N B false) (settled []) es x × Holds x t × (Agree (salvaged N B u) t ⊎ Agree (salvaged N B u) (next (board N B false) e.worn t e.request))

-- ---- "A second part builds a fresh image from the candidates given, by the rules of #106 without its 4 and 5"

-- the target as a rebuild leaves it
abbrev pub target_after : ℕ → ℕ → Image → ℕ → ℕ → Image → ℕ → Image
target_after N B s M D t allowance = (rebuild_outcome N B s M D t allowance).image

-- a rebuild that answers 0
abbrev pub Rebuilds : ℕ → ℕ → Image → ℕ → ℕ → Image → ℕ → Type 0
Rebuilds N B s M D t allowance = (rebuild_outcome N B s M D t allowance).code ≡ 0

-- From any source of bytes, damaged ones too: clean, of version 2 with a tally of 0, and with what salvage gives of each block.
abbrev pub RebuiltTable : Type 0
RebuiltTable = (N B : ℕ) (s : Image) (M D : ℕ) (t : Image) (allowance : ℕ) → Bytes s → Rebuilds N B s M D t allowance → let u = target_after N B s M D t allowance in
    (state M D u ≡ clean) × ((view M D u).version ≡ new_version 0) × Agree (table_of M D u) (salvaged N B s)

-- From one that is clean or unfinished: with the table that recovery would show.
abbrev pub RebuiltShown : Type 0
RebuiltShown = (N B : ℕ) (s : Image) (M D : ℕ) (t : Image) (allowance : ℕ) → Bytes s → Rebuilds N B s M D t allowance → state N B s ≢ damaged
    → Agree (table_of M D (target_after N B s M D t allowance)) (shown N B s)

-- "by the rules of #106 without its 4 and 5": where those don't apply, a rebuild is a move.
abbrev pub RebuiltAsMoved : Type 0
RebuiltAsMoved = (N B : ℕ) (s : Image) (M D : ℕ) (t : Image) (allowance : ℕ) → state N B s ≡ clean → rebuild_outcome N B s M D t allowance ≡ move_outcome N B s M D t allowance

-- "No refusal changes a byte" (#106): it takes no step. The source is written by none: "The image is not written"
abbrev pub RebuiltRefused : Type 0
RebuiltRefused = (N B : ℕ) (s : Image) (M D : ℕ) (t : Image) (allowance : ℕ) → let o = rebuild_outcome N B s M D t allowance in
    o.code ≢ 0 → o.code ≢ 9 → (o.count ≡ 0) × (o.image ≡ t)

-- Equal tables give equal targets of one geometry, byte for byte, whatever the targets held before.
abbrev pub RebuiltEqual : Type 0
RebuiltEqual = (N B : ℕ) (s : Image) (P Q : ℕ) (r : Image) (M D : ℕ) (t u : Image) (a b : ℕ) → Bytes s → Bytes r → Rebuilds N B s M D t a → Rebuilds P Q r M D u b
    → Agree (salvaged N B s) (salvaged P Q r) → target_after N B s M D t a ≡ target_after P Q r M D u b

-- The steps: M erases, 21 for the opening of the first segment and of each further one, which is opened when a block needs it, and 5 and its length for each block.
abbrev pub RebuiltSteps : Type 0
RebuiltSteps = (N B : ℕ) (s : Image) (M D : ℕ) (t : Image) (allowance : ℕ) → Bytes s → Rebuilds N B s M D t allowance
    → let blocks = salvaged N B s in (rebuild_outcome N B s M D t allowance).count ≡ M + 21 * (1 + (length blocks - 1) / D) + slot_steps blocks

-- "after a 9 it is begun again": it answers and steps as if none had been cut, and if it finishes, it leaves the same bytes
abbrev pub RebuiltAgain : Type 0
RebuiltAgain = (N B : ℕ) (s : Image) (M D k : ℕ) (t u : Image) (allowance : ℕ) → Bytes s → Tried (rebuild_work N B s M D) D k t u → let o = rebuild_outcome N B s M D t allowance in let again = rebuild_outcome N B s M D u allowance in
    (again.code ≡ o.code) × (again.count ≡ o.count) × (o.code ≡ 0 → again.image ≡ o.image)

-- "Demands 2 and 3 count from the finished target as from a format, with the blocks carried over stored at its start"

abbrev pub RebuiltDemand2 : Type 0
RebuiltDemand2 = (N B : ℕ) (s : Image) (M D : ℕ) (t u : Image) (allowance : ℕ) (es : List Event) → Bytes s → Rebuilds N B s M D t allowance → History M D (target_after N B s M D t allowance) es u
    → (x : Promise) × PlainRuns (board M D false) (settled (by_number (salvaged N B s))) es x × Keeps M D u x

abbrev pub RebuiltDemand3 : Type 0
RebuiltDemand3 = (N B : ℕ) (s : Image) (M D : ℕ) (t : Image) (allowance : ℕ) (xs : List Call) → Bytes s → Rebuilds N B s M D t allowance → Uncut (observed M D (target_after N B s M D t allowance) xs)
    → Bounded M D (stocked (salvaged N B s)) (observed M D (target_after N B s M D t allowance) xs)

-- The same of sessions with mounts and mounted calls on the finished target.
abbrev pub RebuiltSessions2 : Type 0
RebuiltSessions2 = (N B : ℕ) (s : Image) (M D : ℕ) (t u : Image) (allowance : ℕ) (p : Places) (es : List Turn) → Bytes s → Rebuilds N B s M D t allowance → Session M D false (target_after N B s M D t allowance) p es u
    → (x : Promise) × PlainRuns (board M D false) (settled (by_number (salvaged N B s))) (events_in es) x × Keeps M D u x

abbrev pub RebuiltSessions3 : Type 0
RebuiltSessions3 = (N B : ℕ) (s : Image) (M D : ℕ) (t u : Image) (allowance : ℕ) (p : Places) (es : List Turn) → Bytes s → Rebuilds N B s M D t allowance → Session M D false (target_after N B s M D t allowance) p es u → Unbroken (events_in es)
    → (xs : List Call) × Observes (events_in es) (observed M D (target_after N B s M D t allowance) xs) × Bounded M D (stocked (salvaged N B s)) (observed M D (target_after N B s M D t allowance) xs)
