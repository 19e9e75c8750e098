-- A file of a layout table, two numbers to a line: what its text says.
use Rattle.std.specs.Prelude.{ℕ, ◌≡◌, refl, List, [], ◌∷◌, Option, Some, None, Ok, Err}
use Rattle.qbx_share_file.specs.AnyFile.{parts, LineSaid, Said, odd, file_says}
use Rattle.qbx_share_file.specs.ShareFile.{filled, words_of}
use Rattle.settings_numbers.specs.Byte.{byte_of}

-- ---- what a line says

unfoldable pub pair_of : Option ℕ → Option ℕ → LineSaid ℕ
pair_of (Some i) (Some n) = Ok (Some (i ∷ n ∷ []))
pair_of (Some i) None = Err odd
pair_of None y = Err odd

-- two numbers are a pair; no word is a line that is passed over
unfoldable pub line_of : List (List ℕ) → LineSaid ℕ
line_of [] = Ok None
line_of (x ∷ []) = Err odd
line_of (x ∷ y ∷ []) = pair_of (byte_of x) (byte_of y)
line_of (x ∷ y ∷ z ∷ ws) = Err odd

unfoldable pub layout_line : List ℕ → LineSaid ℕ
layout_line l = line_of (words_of l)

-- a line with nothing on it
pub quiet : layout_line [] ≡ Ok None
unfolding layout_line line_of words_of filled parts
quiet = refl

-- ---- what a file says

unfoldable pub layout_in : List ℕ → Said ℕ
layout_in text = file_says layout_line text
