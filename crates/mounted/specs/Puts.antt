-- What is known of a put before it is decided.
use Rattle.std.specs.Prelude.{ℕ, ◌≡◌, List, length, get_or, Option, is_some, Ok}
use Rattle.model.specs.Chip.{Image}
use Rattle.model.specs.State.{entries_in, holds, view}
use Rattle.model.specs.Answers.{length_ok}
use Rattle.model.specs.Mounted.{Places, mounted_refusal, InStep}
use Rattle.find.specs.declared.FoundSlot.{FoundSlot}
use Rattle.places.specs.Places.{entry_seen}

-- nothing that binds every call refuses it; the block's slot is what the table says, and in step it was found just if the block is stored
pub record Puts (N B : ℕ) (f : Option FoundSlot) (b : ℕ) (c : List ℕ) (s : Image) (t : Places) : Type 0 where
  pub passed : mounted_refusal N B s t b (length_ok (length c)) ≡ 0
  pub seen : entry_seen B s (get_or t b 0) ≡ Ok f
  pub told : InStep N B s t → is_some f ≡ holds b (entries_in (view N B s))
