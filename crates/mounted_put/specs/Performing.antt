-- A mounted put performed on any image with any table, with what it is on an image and a table in step.
use Rattle.std.specs.Prelude.{ℕ, ◌≤◌, ◌≡◌, ◌⊎◌, List, get_or, drop, Option}
use Rattle.model.specs.Chip.{Image}
use Rattle.model.specs.Answers.{code_of, put, performed, outcome_of}
use Rattle.model.specs.Mounted.{Places, least_places}
use Rattle.model.specs.declared.Performed.{Performed}
use Rattle.find.specs.declared.FoundSlot.{FoundSlot}
use Rattle.bridge.specs.Mounting.{Kept}
use Rattle.room.specs.declared.Plan.{Plan}
use Rattle.put.specs.Writing.{Accepted}

-- A put of block b by a plan, on image s with table t, leaves image u and table w. Out of step only the first four hold.
pub record Performs (N B : ℕ) (p : Plan) (total b : ℕ) (c : List ℕ) (budget : ℕ) (q : Performed) (s u : Image) (t w : Places) : Type 0 where
  pub codes : (code_of q.answer ≡ 0) ⊎ (code_of q.answer ≡ 9)
  pub cut : code_of q.answer ≡ 9 → get_or w 0 0 ≡ 0
  -- the entries past the block numbers stay
  pub past : drop least_places w ≡ drop least_places t
  pub few : q.steps ≤ budget
  -- in step, where nothing refuses it: the put of the definition, and in step again unless it answers 9
  pub exact : Kept N B s t → (f : Option FoundSlot) → Accepted N B p total f b c s → (performed q u ≡ outcome_of N B s budget (put b c)) × (code_of q.answer ≡ 0 → Kept N B u w)
