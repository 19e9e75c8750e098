-- `accounts::compose`: three parts in a row. Assumes nothing.
use native.Mathlib.Omega.{arith}
use Rattle.text.proofs.Laws.{◌then◌, wrote_as}
use Rattle.accounts.proofs.Laws.{composed}
use Rattle.accounts.proofs.compose.Goals as goal

pub returns : goal.returns
returns c =
    let a = c.args in
    let w = c.segment_lines-listed.ensures.0 then (c.block_lines-blocks.ensures.0 then c.last_line.ensures.0) in
    (wrote_as _ (composed a.geometry.segments a.geometry.slots a.image.now a.table a.prognosis c.requires.1 c.requires.3) w, omega (arith, c.last_line.ensures.1, c.block_lines-blocks.ensures.1, c.segment_lines-listed.ensures.1, c.requires.0.segments))
