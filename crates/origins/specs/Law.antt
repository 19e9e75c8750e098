-- Request #107, "5F came from a cut, 1F from a rewrite or delete", as statements over histories of any length, with cuts anywhere.
use Rattle.std.specs.Prelude.{ℕ, suc, ◌-◌, ◌%◌, ◌≡◌, ◌⊎◌, ◌≢◌, true, cond, List, [], ◌∷◌, get_or, eqb}
use Rattle.model.specs.Chip.{Image, right_size, run}
use Rattle.model.specs.Slot.{Slot, empty, torn, dead, cut}
use Rattle.model.specs.State.{Segment, blank, is_owing, segments_of, number_after, slots_in, next_number, top_index, next_blanked, last_slot, holds, Place, case_c, case_d, unfinished, state}
use Rattle.model.specs.Steps.{format_steps}
use Rattle.model.specs.Table.{table_of}
use Rattle.model.specs.Answers.{Request, put, delete, recover}
use Rattle.model.specs.Histories.{Seen, Proper, Does, Event, History, recovered}
use Rattle.model.specs.Sequences.{Call, play, observed, Uncut}
use Rattle.crash.specs.Machine.{OnTable, IsCut}

-- ---- the slots in use

-- the segments in use; where the top is owing, the erase of the one after it is owed and may have begun, and that one is left aside
unfoldable pub in_force : ℕ → List Segment → List Segment
in_force N l = cond (is_owing (get_or l (top_index N l) blank)) (next_blanked N l) l

-- what a segment has at a place: nothing, if it has another number
unfoldable pub read_at : Segment → Place → Slot
read_at x p = cond (eqb (number_after x) (suc p.number)) (get_or (slots_in x) p.slot empty) empty

-- the slot at a place, by its segment's number; empty if no segment in use has that number
unfoldable pub slot_in : ℕ → List Segment → Place → Slot
slot_in N l p = read_at (get_or (in_force N l) (p.number % N) blank) p

unfoldable pub slot_on : ℕ → ℕ → Image → Place → Slot
slot_on N B s p = slot_in N (segments_of N B s) p

-- the last slot of the top that is not empty
unfoldable pub last_place : ℕ → ℕ → Image → Place
last_place N B s = let l = segments_of N B s in record { number = next_number l - 1; slot = last_slot N l }

-- ---- without another format

abbrev pub Unformatted : List Event → Type 0
Unformatted [] = Unit {0}
Unformatted (e ∷ es) = OnTable e.request × Unformatted es

abbrev pub IsPut : Request → Type 0
IsPut r = (b : ℕ) × (c : List ℕ) × (r ≡ put b c)

-- a put of a block that is stored
abbrev pub IsRewrite : ℕ → ℕ → Image → Request → Type 0
IsRewrite N B s r = (b : ℕ) × (c : List ℕ) × (r ≡ put b c) × (holds b (table_of N B s) ≡ true)

abbrev pub IsDelete : Request → Type 0
IsDelete r = (b : ℕ) × (r ≡ delete b)

-- ---- where a slot that reads 5F comes from

-- an event that leads from image s to image m: a put that a loss of power, or its allowance, cut. No slot was torn before, and it left this one torn, and no other
pub record Tore (N B : ℕ) (s m : Image) (e : Event) (p : Place) : Type 0 where
  pub puts : IsPut e.request
  pub cuts : IsCut e.seen
  pub untorn : (q : Place) → slot_on N B s q ≢ torn
  pub left : slot_on N B m p ≡ torn
  pub only : (q : Place) → slot_on N B m q ≡ torn → q ≡ p

-- a recovery that found it torn, in an image unfinished by (c), and marked it
pub record Marked (N B : ℕ) (s m : Image) (e : Event) (p : Place) : Type 0 where
  pub recovers : e.request ≡ recover
  pub case : state N B s ≡ unfinished case_c
  pub found : slot_on N B s p ≡ torn
  pub marks : slot_on N B m p ≡ cut

-- one of the events of a history is such a recovery
abbrev pub MarkedIn : (N B : ℕ) (s : Image) (es : List Event) (u : Image) → History N B s es u → Place → Type 0
MarkedIn N B s [] u h p = ⊥
MarkedIn N B s (e ∷ es) u (proper, worn, (m, does, rest)) p = Marked N B s m e p ⊎ MarkedIn N B m es u rest p

-- one is such a put, and a later one such a recovery
abbrev pub CutIn : (N B : ℕ) (s : Image) (es : List Event) (u : Image) → History N B s es u → Place → Type 0
CutIn N B s [] u h p = ⊥
CutIn N B s (e ∷ es) u (proper, worn, (m, does, rest)) p = (Tore N B s m e p × MarkedIn N B m es u rest p) ⊎ CutIn N B m es u rest p

-- From a finished format on, whatever but another format is asked and wherever it is cut: a slot in use that reads 5F comes from a cut, in that very history.
abbrev pub CutTells : Type 0
CutTells = (N B : ℕ) (s u : Image) (es : List Event) → right_size N B s ≡ true → (h : History N B (run B (format_steps N B) s) es u) → Unformatted es
    → (p : Place) → slot_on N B u p ≡ cut → CutIn N B (run B (format_steps N B) s) es u h p

-- In a sequence without a cut no slot in use ever reads 5F.
abbrev pub NoneUncut : Type 0
NoneUncut = (N B : ℕ) (s : Image) (xs : List Call) → right_size N B s ≡ true → let f = run B (format_steps N B) s in Uncut (observed N B f xs) → (p : Place) → slot_on N B (play N B f xs) p ≢ cut

-- A recovery of (c) makes exactly one: of the slot that was torn. Every other slot in use is as it was.
abbrev pub OneMade : Type 0
OneMade = (N B : ℕ) (s : Image) → right_size N B s ≡ true → state N B s ≡ unfinished case_c
    → (slot_on N B s (last_place N B s) ≡ torn) × (slot_on N B (recovered N B s) (last_place N B s) ≡ cut) × ((p : Place) → p ≢ last_place N B s → slot_on N B (recovered N B s) p ≡ slot_on N B s p)

-- Nothing else makes one: after such a history, whatever but a format is asked next and wherever it is cut, a slot in use that reads 5F read so before, or it is the one that a recovery of (c) has marked.
abbrev pub NothingElse : Type 0
NothingElse = (N B : ℕ) (s u m : Image) (es : List Event) (r : Request) (o : Seen) → right_size N B s ≡ true → History N B (run B (format_steps N B) s) es u → Unformatted es
    → OnTable r → Proper r → Does N B r o u m
    → (p : Place) → slot_on N B m p ≡ cut → (slot_on N B u p ≡ cut) ⊎ ((r ≡ recover) × (state N B u ≡ unfinished case_c) × (p ≡ last_place N B u))

-- ---- where a slot that reads 1F comes from

-- a rewrite, a delete, or a recovery of (d), where a block has two live slots: the slot did not read 1F before, and does after it
pub record Replaced (N B : ℕ) (s m : Image) (e : Event) (p : Place) : Type 0 where
  pub replaces : IsRewrite N B s e.request ⊎ (IsDelete e.request ⊎ ((e.request ≡ recover) × (state N B s ≡ unfinished case_d)))
  pub undead : slot_on N B s p ≢ dead
  pub marks : slot_on N B m p ≡ dead

abbrev pub ReplacedIn : (N B : ℕ) (s : Image) (es : List Event) (u : Image) → History N B s es u → Place → Type 0
ReplacedIn N B s [] u h p = ⊥
ReplacedIn N B s (e ∷ es) u (proper, worn, (m, does, rest)) p = Replaced N B s m e p ⊎ ReplacedIn N B m es u rest p

-- From a finished format on, whatever but another format is asked and wherever it is cut: a slot in use that reads 1F comes from such an event of that history.
abbrev pub DeadTells : Type 0
DeadTells = (N B : ℕ) (s u : Image) (es : List Event) → right_size N B s ≡ true → (h : History N B (run B (format_steps N B) s) es u) → Unformatted es
    → (p : Place) → slot_on N B u p ≡ dead → ReplacedIn N B (run B (format_steps N B) s) es u h p
