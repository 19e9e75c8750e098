-- Files of a few bytes, computed: what the definitions give, and so which wrong ones they are not.
use Rattle.std.specs.Prelude.{ℕ, ◌≡◌, refl, List, [], ◌∷◌, map}
use Prim.Native.String.{String}
use Rattle.text.specs.Text.{text}
use Rattle.std.specs.Prelude.{Ok, Err}
use Rattle.qbx_numbers.specs.Number.{is_digit, all_digits, value_from, number_bound, number_from, number_of, fits, number32_of}
use Rattle.qbx_share_file.specs.AnyFile.{before, parts, is_line_end, Said, on_any, any_from, file_says, listing, over}
use Rattle.qbx_share_file.specs.ShareFile.{is_blank, filled, words_of, share_of, line_of, share_line, said_in}

abbrev says : String → Said ℕ
says s = said_in (text s)

abbrev right : List ℕ → Said ℕ
right ns = record { numbers = ns; wrong = 0 }

abbrev wrong_at : ℕ → List ℕ → Said ℕ
wrong_at k ns = record { numbers = ns; wrong = k }

-- no tenant; one; two, with blanks around the numbers and a line between that says nothing; the largest number; and lines of another system
pub right_files : map says ("" ∷ "\n" ∷ "1 100 7" ∷ "1 100 7\n" ∷ "1 100 7\n \n\t101\t 200  009 \n" ∷ "0 4294967295 0" ∷ "1 2 3\r\n\r\n4 5 6\r\n" ∷ [])
    ≡ right [] ∷ right [] ∷ right (1 ∷ 100 ∷ 7 ∷ []) ∷ right (1 ∷ 100 ∷ 7 ∷ []) ∷ right (1 ∷ 100 ∷ 7 ∷ 101 ∷ 200 ∷ 9 ∷ []) ∷ right (0 ∷ 4294967295 ∷ 0 ∷ []) ∷ right (1 ∷ 2 ∷ 3 ∷ 4 ∷ 5 ∷ 6 ∷ []) ∷ []
unfolding text said_in file_says any_from on_any share_line line_of share_of words_of filled is_blank is_line_end parts before number32_of fits number_of number_from number_bound value_from all_digits is_digit
right_files = refl

-- two numbers, four, no number, one that is too large, other separators; the first wrong line is told, and those before it are listed
pub wrong_files : map says ("1 2" ∷ "1 2 3 4" ∷ "1 2 x" ∷ "1 2 -3" ∷ "1 2 4294967296" ∷ "1,2,3" ∷ "\n1 2 3\n4 5\n6\n" ∷ [])
    ≡ wrong_at 1 [] ∷ wrong_at 1 [] ∷ wrong_at 1 [] ∷ wrong_at 1 [] ∷ wrong_at 1 [] ∷ wrong_at 1 [] ∷ wrong_at 3 (1 ∷ 2 ∷ 3 ∷ []) ∷ []
unfolding text said_in file_says any_from on_any share_line line_of share_of words_of filled is_blank is_line_end parts before number32_of fits number_of number_from number_bound value_from all_digits is_digit
wrong_files = refl

-- in a list of two, of three and of four
pub lent : map (over {T = ℕ} (1 ∷ 2 ∷ 3 ∷ [])) ((8 ∷ 9 ∷ []) ∷ (7 ∷ 8 ∷ 9 ∷ []) ∷ (6 ∷ 7 ∷ 8 ∷ 9 ∷ []) ∷ []) ≡ (1 ∷ 2 ∷ []) ∷ (1 ∷ 2 ∷ 3 ∷ []) ∷ (1 ∷ 2 ∷ 3 ∷ 9 ∷ []) ∷ []
unfolding over
lent = refl

pub listed : map (listing 4) (right (1 ∷ 2 ∷ 3 ∷ []) ∷ right (1 ∷ 2 ∷ 3 ∷ 4 ∷ 5 ∷ 6 ∷ []) ∷ wrong_at 3 (1 ∷ 2 ∷ 3 ∷ []) ∷ []) ≡ Ok 3 ∷ Ok 4 ∷ Err (record { 0 = 3 }) ∷ []
unfolding listing
listed = refl
