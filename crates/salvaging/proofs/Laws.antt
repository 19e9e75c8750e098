-- The report by the image's size.
use Prim.Native.Nat.{ℕ}
use mathlib.Core.Path.{◌≡◌}
use mathlib.Core.Bool.{true, false}
use mathlib.Core.List.{List}
use Rattle.model.specs.Chip.{Image, right_size}
use Rattle.model.specs.Answers.{code_of}
use Rattle.model.specs.declared.Answer.TheVariants.{Size}
use Rattle.text.specs.Buffer.{printed, print_in}
use Rattle.salvage.specs.Salvage.{salvage_text, salvage_outcome}

pub size_refused : (N B : ℕ) (s : Image) (buffer : List ℕ) → right_size N B s ≡ false → printed (record { answer = Size; length = 0 }) buffer ≡ salvage_outcome N B s buffer
unfolding printed salvage_outcome code_of
size_refused N B s buffer z = rw z

pub size_right : (N B : ℕ) (s : Image) (buffer : List ℕ) → right_size N B s ≡ true → print_in (salvage_text N B s) buffer ≡ salvage_outcome N B s buffer
unfolding salvage_outcome
size_right N B s buffer z = rw z
