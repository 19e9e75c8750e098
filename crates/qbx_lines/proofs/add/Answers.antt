-- `qbx_lines::add`: the bytes of the text stand behind what the line said. Assumes nothing.
use mathlib.Core.Path.{◌≡◌, refl}
use native.Mathlib.Omega.{arith}
use lib.ListN.{length}
use borrow.Author.Rules.{rules}
use Rattle.qbx_lines.specs.Lines.{most_line}
use Rattle.qbx_lines.proofs.Laws.Lines.{put_behind}
use Rattle.qbx_lines.proofs.add.Goals as goal

pub returns : goal.returns
returns c =
    let l : length c.args.line.bytes ≡ most_line = search rules in
    record {
      says = rw c.copy_from_slice.ensures.after (put_behind c.args.line.bytes c.args.text.now c.args.line.count _ _ _ (omega arith) refl refl);
      counts = omega arith;
    }
