-- A wrong size and a right one; the parts of an account in a row.
use Prim.Native.Nat.{ℕ}
use mathlib.Core.Path.{◌≡◌, refl, sym, ◌∙◌}
use mathlib.Core.Bool.{Bool, true, false, ◌&&◌}
use mathlib.Core.List.{List, ◌++◌, map}
use lib.ListN.{length, take}
use lib.Dec.{eqb}
use Rattle.model.specs.Chip.{Image, image_length, in_range, right_size}
use Rattle.model.specs.State.{Segment, segments_of}
use Rattle.account_text.specs.Account.{shown, by_block, block_lines, last_line, account_on, account_text, wrong_size}
use Rattle.index.specs.declared.Shown.{Shown}
use Rattle.index.specs.Shows.{shown_of, shown_lines}
use Rattle.index.specs.Tables.{list_of}
use Rattle.index.specs.Lines.{shown_lines_lem}
use Rattle.std.specs.Prelude.{Result, Ok, Err}
use Rattle.prognosis.specs.declared.FailedCondition.{FailedCondition}
use Rattle.prognosis.specs.Foretold.{prognosis_of}
use Rattle.prognosis.proofs.Laws.{line_recovers, line_fails}
use Rattle.accounts.specs.Foretells.{foretold}

-- ---- sizes

pub wrong_account : (N B : ℕ) (s : Image) (t : Bool) → t ≡ (in_range N B && eqb (length s) (image_length N B)) → t ≡ false → wrong_size ≡ account_text N B s
unfolding account_text right_size
wrong_account N B s t e h = rw (sym e ∙ h)

pub right_account : (N B : ℕ) (s : Image) → right_size N B s ≡ true → account_on N B (segments_of N B s) ≡ account_text N B s
unfolding account_text
right_account N B s h = rw h

-- ---- the account

last_is : (N B : ℕ) (l : List Segment) (p : Result ℕ FailedCondition) → p ≡ prognosis_of N B l → foretold p ≡ last_line N B l
unfolding foretold
last_is N B l (Ok n) e = sym (line_recovers N B l (Ok n) e n refl)
last_is N B l (Err c) e = sym (line_fails N B l (Err c) e c.0 refl)

pub composed : (N B : ℕ) (s : Image) (table : List Shown) (p : Result ℕ FailedCondition) → take N table ≡ map shown_of (shown N B (segments_of N B s)) → p ≡ prognosis_of N B (segments_of N B s)
    → shown_lines 0 (take N table) ++ (block_lines (by_block (list_of N B s)) ++ foretold p) ≡ account_on N B (segments_of N B s)
unfolding account_on list_of
composed N B s table p e q = rw (e, shown_lines_lem 0 (shown N B (segments_of N B s)), last_is N B (segments_of N B s) p q)
