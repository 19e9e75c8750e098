-- What the contracts of this crate say beside the definitions of `moves`: how far a fresh image has come.
use Rattle.std.specs.Prelude.{ℕ, ◌+◌, ◌-◌, ◌≤◌, ◌<◌, ◌≡◌, List, ◌∷◌, ◌++◌, length}
use Rattle.model.specs.Chip.{Image, Page, Step}
use Rattle.model.specs.Slot.{live, slot_of, Entry}
use Rattle.model.specs.Table.{Table}
use Rattle.moves.specs.Placed.{placed}
use Rattle.flash.specs.Ran.{Ran}
use Rattle.flash.specs.Pages.{Sized}
use Rattle.adding.specs.declared.Progress.{Progress}

-- a page of a live slot
abbrev pub LivePage : Page → Type 0
LivePage p = (b : ℕ) × (c : List ℕ) × (slot_of p ≡ live b c)

-- entries as they are written from there on
abbrev pub onward : ℕ → ℕ → Progress → Table → List Step
onward N B p es = placed N B p.top.0 (B - p.free) es

-- a writing that can go on, in an image of so many bytes
pub record Going (N B : ℕ) (p : Progress) (bytes : ℕ) : Type 0 where
  pub sized : Sized N B bytes
  pub some : 0 < B
  pub free : p.free ≤ B
  pub number : p.top.0 ≤ 65535
  pub few : p.steps ≤ 4294967295

-- from p to q some steps were done under the budget, and are counted
pub record Came (B : ℕ) (steps : List Step) (p q : Progress) (from to : Image) : Type 0 where
  pub ran : Ran steps B p.left q.left from to
  pub counted : q.steps ≡ p.steps + length steps
  pub free : q.free ≤ B
  pub number : q.top.0 ≤ p.top.0 + 1

-- the top has an empty slot, and the next entry is written after these steps
pub record Opened (N B : ℕ) (p q : Progress) (from to : Image) : Type 0 where
  pub steps : List Step
  pub came : Came B steps p q from to
  pub some : 0 < q.free
  pub few : length steps ≤ 21
  pub next : (e : Entry) (es : Table) → onward N B p (e ∷ es) ≡ steps ++ onward N B q (e ∷ es)

-- an entry was written, and the next come after these steps
pub record Added (N B : ℕ) (added : Table) (p q : Progress) (from to : Image) : Type 0 where
  pub steps : List Step
  pub came : Came B steps p q from to
  pub few : length steps ≤ 274
  pub next : (es : Table) → onward N B p (added ++ es) ≡ steps ++ onward N B q es
