-- `settings_item_lines::add_line`: the bytes that the line says. Assumes nothing.
use mathlib.Core.Path.{◌≡◌, sym}
use native.Mathlib.Omega.{arith}
use lib.ListN.{length}
use lib.Seq.{length-take-le}
use Rattle.qbx_lines.specs.Lines.{most_line}
use borrow.Author.Rules.{rules}
use Rattle.settings_item_lines.proofs.add_line.Goals as goal

pub slice_bounds-bytes-end : goal.slice_bounds-bytes-end
slice_bounds-bytes-end c =
    let l : length c.args.line.bytes ≡ most_line = search rules in
    omega arith

pub slice_bounds-add-end : goal.slice_bounds-add-end
slice_bounds-add-end c =
    let l : length c.args.line.bytes ≡ most_line = search rules in
    sym (length-take-le c.args.line.count c.args.line.bytes (omega (arith, c.requires.1)))

pub add-requires : goal.add-requires
add-requires c =
    let l : length c.args.line.bytes ≡ most_line = search rules in
    (c.requires.0, omega (arith, c.requires.1, length-take-le c.args.line.count c.args.line.bytes (omega (arith, c.requires.1))))

pub returns : goal.returns
returns c =
    let l : length c.args.line.bytes ≡ most_line = search rules in
    (c.add.ensures, omega (arith, c.add.ensures.ends, length-take-le c.args.line.count c.args.line.bytes (omega (arith, c.requires.1))))
