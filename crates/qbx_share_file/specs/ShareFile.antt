-- A file of shares, three numbers to a line: what its text says, and what is left of that in a lent list.
use Rattle.std.specs.Prelude.{ℕ, ◌≡◌, refl, Bool, ◌||◌, List, [], ◌∷◌, Option, Some, None, Ok, Err, eqb}
use Rattle.qbx_numbers.specs.Number.{number32_of}
use Rattle.qbx_share_file.specs.AnyFile.{parts, LineSaid, Said, odd, file_says}

-- ---- lines, and the words of a line

-- a space or a tab, or the byte before a line end in files of other systems
unfoldable pub is_blank : ℕ → Bool
is_blank b = eqb b 32 || (eqb b 9 || eqb b 13)

unfoldable pub filled : List (List ℕ) → List (List ℕ)
filled [] = []
filled ([] ∷ ps) = filled ps
filled ((b ∷ p) ∷ ps) = (b ∷ p) ∷ filled ps

unfoldable pub words_of : List ℕ → List (List ℕ)
words_of line = filled (parts is_blank line)

-- ---- what a line says

unfoldable pub share_of : Option ℕ → Option ℕ → Option ℕ → LineSaid ℕ
share_of (Some f) (Some l) (Some q) = Ok (Some (f ∷ l ∷ q ∷ []))
share_of (Some f) (Some l) None = Err odd
share_of (Some f) None z = Err odd
share_of None y z = Err odd

-- three numbers are a share; no word is a line that is passed over
unfoldable pub line_of : List (List ℕ) → LineSaid ℕ
line_of [] = Ok None
line_of (x ∷ []) = Err odd
line_of (x ∷ y ∷ []) = Err odd
line_of (x ∷ y ∷ z ∷ []) = share_of (number32_of x) (number32_of y) (number32_of z)
line_of (x ∷ y ∷ z ∷ w ∷ ws) = Err odd

unfoldable pub share_line : List ℕ → LineSaid ℕ
share_line l = line_of (words_of l)

-- a line with nothing on it
pub share_quiet : share_line [] ≡ Ok None
unfolding share_line line_of words_of filled parts
share_quiet = refl

-- ---- what a file says

unfoldable pub said_in : List ℕ → Said ℕ
said_in text = file_says share_line text
