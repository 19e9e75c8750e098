-- `qanbillox::qbx_is_blank` gives what the definitions say, packed. Assumes nothing.
use Rattle.qanbillox.specs.Packed.{packed_blank}
use Rattle.qanbillox.proofs.qbx_is_blank.Goals as goal

pub returns : goal.returns
unfolding packed_blank
returns c = rw (c.packed_blank.ensures, c.blank_test.ensures.0, c.blank_test.ensures.1)
