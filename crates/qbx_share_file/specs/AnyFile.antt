-- A file of lines of numbers, by what is said of a line: of this a file of shares is one kind, and a file of a layout table (request #109) another.
-- What its text says, and what is left of that in a lent list.
use Rattle.std.specs.Prelude.{ℕ, suc, min, Bool, cond, List, [], ◌∷◌, ◌++◌, length, Option, Some, None, Result, Ok, Err, eqb}
use Rattle.qbx_share_file.specs.declared.lines.OddLine.{OddLine}
use Rattle.qbx_share_file.specs.declared.lines.WrongLine.{WrongLine}

-- ---- lines

-- a byte before the first of some parts
unfoldable pub before : ℕ → List (List ℕ) → List (List ℕ)
before b [] = (b ∷ []) ∷ []
before b (p ∷ ps) = (b ∷ p) ∷ ps

-- what stands between the bytes of a kind, with nothing between two that touch
unfoldable pub parts : (ℕ → Bool) → List ℕ → List (List ℕ)
parts parted [] = [] ∷ []
parts parted (b ∷ s) = cond (parted b) ([] ∷ parts parted s) (before b (parts parted s))

unfoldable pub is_line_end : ℕ → Bool
is_line_end b = eqb b 10

-- what a line says: numbers, nothing, or something else
abbrev pub LineSaid : Type 0 → Type 0
LineSaid T = Result (Option (List T)) OddLine

abbrev pub odd : OddLine
odd = record {}

-- ---- what a file says

-- the numbers up to the first line that is wrong, and which one that is, from 1; 0 if none is
pub record Said (T : Type 0) : Type 0 where
  pub numbers : List T
  pub wrong : ℕ

-- line k, before what the lines behind it say
unfoldable pub on_any : {T : Type 0} → ℕ → LineSaid T → Said T → Said T
on_any k (Ok None) x = x
on_any k (Ok (Some ns)) x = record { numbers = ns ++ x.numbers; wrong = x.wrong }
on_any k (Err e) x = record { numbers = []; wrong = k }

-- the lines from number k on
unfoldable pub any_from : {T : Type 0} → (List ℕ → LineSaid T) → ℕ → List (List ℕ) → Said T
any_from f k [] = record { numbers = []; wrong = 0 }
any_from f k (l ∷ ls) = on_any k (f l) (any_from f (suc k) ls)

unfoldable pub file_says : {T : Type 0} → (List ℕ → LineSaid T) → List ℕ → Said T
file_says f text = any_from f 1 (parts is_line_end text)

-- ---- what comes back, and the lent list afterwards

-- how many numbers are there, as far as the list goes; or the line that is wrong
unfoldable pub listing : {T : Type 0} → ℕ → Said T → Result ℕ WrongLine
listing room x = cond (eqb x.wrong 0) (Ok (min (length x.numbers) room)) (Err (record { 0 = x.wrong }))

-- numbers over the first of a list, as far as it goes
unfoldable pub over : {T : Type 0} → List T → List T → List T
over [] lent = lent
over (n ∷ ns) [] = []
over (n ∷ ns) (x ∷ lent) = n ∷ over ns lent
