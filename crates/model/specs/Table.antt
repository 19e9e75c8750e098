-- The plain table of demand 2: from block number to contents.
use Rattle.std.specs.Prelude.{ℕ, ◌≡◌, cond, ◌&&◌, List, [], ◌∷◌, leb, eqb}
use Rattle.model.specs.Lists.{count}
use Rattle.model.specs.Chip.{Image}
use Rattle.model.specs.Slot.{Entry}
use Rattle.model.specs.State.{entries_in, view}

abbrev pub Table : Type 0
Table = List Entry

-- the contents of a block, or none
pub data Found : Type 0 where
  absent : Found
  present : List ℕ → Found

unfoldable pub lookup : ℕ → Table → Found
lookup b [] = absent
lookup b (e ∷ t) = cond (eqb b e.block) (present e.contents) (lookup b t)

unfoldable pub without : ℕ → Table → Table
without b [] = []
without b (e ∷ t) = cond (eqb b e.block) (without b t) (e ∷ without b t)

unfoldable pub store : ℕ → List ℕ → Table → Table
store b c t = record { block = b; contents = c } ∷ without b t

-- its block numbers
unfoldable pub blocks : Table → List ℕ
blocks [] = []
blocks (e ∷ t) = e.block ∷ blocks t

-- the same contents for every block number at once
abbrev pub Agree : Table → Table → Type 0
Agree t u = (b : ℕ) → lookup b t ≡ lookup b u

-- the contents found, or none
unfoldable pub contents_found : Found → List ℕ
contents_found absent = []
contents_found (present c) = c

-- request #110: how many of its blocks have a number from first to last
unfoldable pub live_between : ℕ → ℕ → Table → ℕ
live_between first last t = count (λ e. leb first e.block && leb e.block last) t

-- the table that a clean image holds
unfoldable pub table_of : ℕ → ℕ → Image → Table
table_of N B s = entries_in (view N B s)
