-- What the contracts of this crate say beside the definitions of the model.
use Rattle.std.specs.Prelude.{ℕ, ◌-◌, ◌≡◌, cond, List, ◌++◌, length, ltb}
use Rattle.model.specs.Chip.{Image, Step, in_range, image_length}
use Rattle.model.specs.Answers.{code_of}
use Rattle.model.specs.declared.Answer.{Answer}
use Rattle.model.specs.declared.Performed.{Performed}
use Rattle.flash.specs.Ran.{Ran}

-- the bytes of an image with so many segments and slots; none if there is no such image
unfoldable pub size_of : ℕ → ℕ → ℕ
size_of N B = cond (in_range N B) (image_length N B) 0

pub record Refused (answer : Answer) (p : Performed) : Type 0 where
  pub code : code_of p.answer ≡ code_of answer
  pub none : p.steps ≡ 0

-- the last part of the list has `last` steps, and `before` is what was left of the budget before it
pub record Finished (budget left before last : ℕ) (p : Performed) : Type 0 where
  pub code : code_of p.answer ≡ cond (ltb before last) 9 0
  pub count : p.steps ≡ budget - left

-- a list of steps was performed, and what comes back is right if the list is that of the request
pub record Carried (xs ys : List Step) (B budget : ℕ) (p : Performed) (from to : Image) : Type 0 where
  pub left : ℕ
  pub ran : Ran (xs ++ ys) B budget left from to
  pub finished : Finished budget left (budget - length xs) (length ys) p
