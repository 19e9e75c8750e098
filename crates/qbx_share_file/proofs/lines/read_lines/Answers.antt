-- `qbx_share_file::lines::read_lines`. The invariant: what is left to be read gives what the whole text does. Assumes nothing.
use mathlib.Core.Path.{ap, ◌∙◌}
use Rattle.std.specs.Prelude.{Ok}
use Rattle.qbx_share_file.proofs.Laws.Lines.{left_all, left_none, left_wrong, left_blank, left_next}
use Rattle.qbx_share_file.proofs.lines.read_lines.Goals.{in-Some, in_default-line}
use Rattle.qbx_share_file.proofs.lines.read_lines.Goals as goal

pub loop-at-init : goal.loop-at-init
loop-at-init g c = left_all g.L.Lines.says _ _

-- what comes back stands first: an edit is refused for that
pub returns-in_default : goal.returns-in_default
returns-in_default g c =
    let f = c.find-end in
    left_wrong g.L.Lines.says g.met.L.Lines.quiet c.args.text.now _ c.loop-at.at c.loop-at.number c.loop-at.count c.loop-at.list c.loop-at.invariant f.result c.read_line.result f.ensures.value c.read_line.ensures c.in_default.is

pub loop-at-preserved : goal.loop-at-preserved
loop-at-preserved g c =
    let f = c.find-end in
    let line = c.read_line.ensures in
    elim c.match-line.branch [
      | in-Some w ↦
          rw (w.list-is, w.count-is) (left_next g.L.Lines.says g.met.L.Lines.quiet c.args.text.now _ c.loop-at.at c.loop-at.number c.loop-at.count c.loop-at.list c.loop-at.invariant f.result c.read_line.result f.ensures.value line
          w.in-Some.numbers _ _ (c.in-Ok.is ∙ ap Ok w.in-Some.is) w.keep-count.ensures)
      | in_default-line w ↦
          rw (w.list-is, w.count-is) (left_blank g.L.Lines.says g.met.L.Lines.quiet c.args.text.now _ c.loop-at.at c.loop-at.number c.loop-at.count c.loop-at.list c.loop-at.invariant f.result c.read_line.result f.ensures.value line
          (c.in-Ok.is ∙ ap Ok w.in_default-line.is))
    ]

pub returns : goal.returns
returns g c =
    left_none g.L.Lines.says g.met.L.Lines.quiet c.args.text.now _ c.loop-at.at c.loop-at.number c.loop-at.count c.loop-at.list c.loop-at.invariant c.loop-at-test.false
