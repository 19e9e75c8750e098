-- The invariant of demand 2: how an image stands to what the machine promises of it, and what an event has to give.
use Rattle.std.specs.Prelude.{ℕ, ◌≡◌, Bool, true}
use Rattle.model.specs.Chip.{Image, Bytes, right_size}
use Rattle.model.specs.State.{distinct, clean}
use Rattle.model.specs.Table.{Table, Agree, table_of}
use Rattle.model.specs.Answers.{Request}
use Rattle.model.specs.Histories.{Seen, shown}
use Rattle.crash.specs.Machine.{Promise, settled, interrupted, unknown, Moves}
use Rattle.crash.specs.Demand2.{board}
use Rattle.crash.specs.Sound.{Sound, Clean, former_in, former_shown}

pub record Stores (N B : ℕ) (f : Bool) (s : Image) (t : Table) : Type 0 where
  pub clean : Clean N B s
  pub version : former_in N B s ≡ f
  pub table : Agree (table_of N B s) t
  pub once : distinct t ≡ true
  pub bytes : Bytes s

pub record WillShow (N B : ℕ) (f : Bool) (s : Image) (t : Table) : Type 0 where
  pub sound : Sound N B s
  pub version : former_shown N B s ≡ f
  pub table : Agree (shown N B s) t
  pub once : distinct t ≡ true
  pub bytes : Bytes s

abbrev pub Upholds : ℕ → ℕ → Bool → Image → Promise → Type 0
Upholds N B f s (settled t) = Stores N B f s t
Upholds N B f s (interrupted t) = WillShow N B f s t
Upholds N B f s unknown = Unit {0}

abbrev pub Invariant : ℕ → ℕ → Bool → Image → Promise → Type 0
Invariant N B f s x = (right_size N B s ≡ true) × Upholds N B f s x

-- what an event has to give: a move of the machine, and the invariant after it
abbrev pub Follows : ℕ → ℕ → Bool → Bool → Request → Seen → Promise → Image → Type 0
Follows N B f w r o x m = (y : Promise) × Moves (board N B f) w r o x y × Invariant N B f m y
