-- A block looked for, by delete and by both forms of reading.
use Rattle.std.specs.Prelude.{ℕ, ◌+◌, ◌*◌, ◌≤◌, ◌≡◌, false, length, eqb, Result, Ok, Err}
use Rattle.model.specs.Chip.{Image}
use Rattle.model.specs.State.{entries_in, place_of, view}
use Rattle.model.specs.Steps.{slot_at}
use Rattle.model.specs.Table.{lookup, contents_found}
use Rattle.model.specs.Answers.{code_of, read}
use Rattle.model.specs.declared.Answer.{Answer}
use Rattle.bridge.specs.Accepted.{refusal}
use Rattle.find.specs.declared.FoundSlot.{FoundSlot}

-- nothing refuses a read of the block, and its slot is there
pub record There (N B : ℕ) (s : Image) (b at size : ℕ) : Type 0 where
  pub code : refusal N B s (read b) ≡ 0
  pub place : at ≡ slot_at N B (place_of b (view N B s)).number (place_of b (view N B s)).slot * 256
  pub count : size ≡ length (contents_found (lookup b (entries_in (view N B s))))
  pub inside : at + 256 ≤ length s
  pub short : size ≤ 248

-- a read of the block is refused with an answer that is not 0
pub record Kept (N B : ℕ) (s : Image) (b : ℕ) (a : Answer) : Type 0 where
  pub code : refusal N B s (read b) ≡ code_of a
  pub some : eqb (code_of a) 0 ≡ false

abbrev pub Looks : ℕ → ℕ → Image → ℕ → Result FoundSlot Answer → Type 0
Looks N B s b (Ok x) = There N B s b x.place.0 x.length
Looks N B s b (Err a) = Kept N B s b a
