-- What a move or a rebuild says: an image of a wrong size, and a target that would be its source.
use Rattle.std.specs.Prelude.{ℕ, Bool, true, false, List, [], ◌++◌}
use Rattle.model.specs.declared.Answer.TheVariants.{Size}
use Rattle.text.specs.Text.{text}
use Rattle.text.specs.Decimal.{decimal}
use Rattle.qbx_says.specs.Said.{performed_text, asked_text}
use Rattle.qbx_same.specs.declared.Clash.{Clash}
use Rattle.qbx_same.specs.declared.Clash.TheVariants.{Apart, IsSource, SourceBeside, InTheWay, NoSource, NoTarget, NoBeside}

-- the image that is meant, by its word on the command line
unfoldable pub name_text : Bool → List ℕ
name_text true = text ": TARGET"
name_text false = text ": IMAGE"

-- as "refused: 1 size, 0 steps: TARGET: N and B ask for 1536 bytes; 1280 bytes are there"
unfoldable pub move_size_line : Bool → ℕ → ℕ → ℕ → List ℕ
move_size_line target N B there = performed_text Size 0 ++ name_text target ++ asked_text N B ++ (text "; " ++ decimal there) ++ text " bytes are there\n"

unfoldable pub clash_text : Clash → List ℕ
clash_text IsSource = text "qbx: TARGET is IMAGE's own file, which is only read\n"
clash_text SourceBeside = text "qbx: TARGET.new, as which TARGET is written at first, is IMAGE's own file\n"
clash_text InTheWay = text "qbx: TARGET.new, as which TARGET is written at first, is there and no plain file\n"
clash_text Apart = []
clash_text NoSource = []
clash_text NoTarget = []
clash_text NoBeside = []
