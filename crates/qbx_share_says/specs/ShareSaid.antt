-- What a tenant is told: an answer, an image of a wrong size, and a line of the file of shares that is wrong.
use Rattle.std.specs.Prelude.{ℕ, List, ◌++◌}
use Rattle.model.specs.declared.Answer.{Answer}
use Rattle.model.specs.declared.Answer.TheVariants.{Size}
use Rattle.text.specs.Text.{text}
use Rattle.text.specs.Decimal.{decimal}
use Rattle.qbx_says.specs.Said.{answer_text, asked_text}

-- as "refused: 12 foreign". No steps: their count shows others' tidying
unfoldable pub shared_line : Answer → List ℕ
shared_line a = answer_text a ++ text "\n"

-- as "refused: 1 size: N and B ask for 1536 bytes; 1280 bytes are there"
unfoldable pub shared_size_line : ℕ → ℕ → ℕ → List ℕ
shared_size_line N B there = answer_text Size ++ asked_text N B ++ (text "; " ++ decimal there) ++ text " bytes are there\n"

unfoldable pub wrong_line : ℕ → List ℕ
wrong_line k = (text "qbx: line " ++ decimal k) ++ text " of SHARES is not three numbers up to 4294967295\n"
