-- Files of a few bytes, computed: what the definitions give, and so which wrong ones they are not.
use Rattle.std.specs.Prelude.{ℕ, ◌≡◌, refl, List, [], ◌∷◌, map}
use Prim.Native.String.{String}
use Rattle.text.specs.Text.{text}
use Rattle.qbx_numbers.specs.Number.{is_digit, all_digits, value_from, number_bound, number_from, number_of, fits}
use Rattle.qbx_share_file.specs.AnyFile.{before, parts, is_line_end, Said, on_any, any_from, file_says}
use Rattle.qbx_share_file.specs.ShareFile.{is_blank, filled, words_of}
use Rattle.settings_numbers.specs.Byte.{byte_of}
use Rattle.settings_layout_file.specs.LayoutFile.{pair_of, line_of, layout_line, layout_in}

abbrev says : String → Said ℕ
says s = layout_in (text s)

abbrev right : List ℕ → Said ℕ
right bs = record { numbers = bs; wrong = 0 }

abbrev wrong_at : ℕ → List ℕ → Said ℕ
wrong_at k bs = record { numbers = bs; wrong = k }

-- no item; one; two, with blanks around the numbers and a line between that says nothing; every byte is listed, whether the table allows it or not; and lines of another system
pub right_files : map says ("" ∷ "\n" ∷ "7 2" ∷ "7 2\n" ∷ "7 2\n \n\t9\t 004 \n" ∷ "255 0\n255 0" ∷ "7 2\r\n\r\n9 4\r\n" ∷ [])
    ≡ right [] ∷ right [] ∷ right (7 ∷ 2 ∷ []) ∷ right (7 ∷ 2 ∷ []) ∷ right (7 ∷ 2 ∷ 9 ∷ 4 ∷ []) ∷ right (255 ∷ 0 ∷ 255 ∷ 0 ∷ []) ∷ right (7 ∷ 2 ∷ 9 ∷ 4 ∷ []) ∷ []
unfolding text layout_in file_says any_from on_any layout_line line_of pair_of words_of filled is_blank is_line_end parts before byte_of fits number_of number_from number_bound value_from all_digits is_digit
right_files = refl

-- one number, three, no number, one that is too large, other separators; the first wrong line is told, and those before it are listed
pub wrong_files : map says ("7" ∷ "7 2 3" ∷ "7 x" ∷ "-7 2" ∷ "256 2" ∷ "7 256" ∷ "7,2" ∷ "\n7 2\n9\n8\n" ∷ [])
    ≡ wrong_at 1 [] ∷ wrong_at 1 [] ∷ wrong_at 1 [] ∷ wrong_at 1 [] ∷ wrong_at 1 [] ∷ wrong_at 1 [] ∷ wrong_at 1 [] ∷ wrong_at 3 (7 ∷ 2 ∷ []) ∷ []
unfolding text layout_in file_says any_from on_any layout_line line_of pair_of words_of filled is_blank is_line_end parts before byte_of fits number_of number_from number_bound value_from all_digits is_digit
wrong_files = refl
