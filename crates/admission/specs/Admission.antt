-- A tenant's request before the image is looked at: it has a share that the block is of, or it is refused.
use Rattle.std.specs.Prelude.{ℕ, ◌≡◌, false, List, eqb, Result, Ok, Err}
use Rattle.model.specs.Chip.{Image}
use Rattle.model.specs.Answers.{code_of, first_of}
use Rattle.model.specs.declared.Answer.{Answer}
use Rattle.shares.specs.Shares.{shares_of, share_of}
use Rattle.shares.specs.Layer.{bounds}
use Rattle.share_list.specs.Places.{share_in}
use Rattle.share_list.specs.declared.Part.{Part}

-- nothing refuses it, and this is the tenant's share
pub record Allowed (N B : ℕ) (ns : List ℕ) (s : Image) (a b : ℕ) (p : Part) : Type 0 where
  pub code : first_of (bounds N B ns s a b) ≡ 0
  pub share : share_in p ≡ share_of (shares_of ns) a

-- it is refused with an answer that is not 0
pub record Kept (N B : ℕ) (ns : List ℕ) (s : Image) (a b : ℕ) (x : Answer) : Type 0 where
  pub code : first_of (bounds N B ns s a b) ≡ code_of x
  pub some : eqb (code_of x) 0 ≡ false

abbrev pub Admits : ℕ → ℕ → List ℕ → Image → ℕ → ℕ → Result Part Answer → Type 0
Admits N B ns s a b (Ok p) = Allowed N B ns s a b p
Admits N B ns s a b (Err x) = Kept N B ns s a b x
