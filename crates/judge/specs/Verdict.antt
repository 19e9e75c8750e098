-- The state of the slots by the sums of the rows, and where the top ends.
use Rattle.std.specs.Prelude.{ℕ, ◌+◌, Bool, cond, ◌&&◌, leb}
use Rattle.model.specs.State.{case_c, case_d, State, clean, unfinished, damaged}
use Rattle.judge.specs.declared.Sum.{Sum}
use Rattle.judge.specs.Endings.{in_order, ends_torn, ends_twin}

-- ---- the state of the slots, by how they end and whether few enough are live

unfoldable pub orderly : ℕ → Sum → Bool
orderly C f = in_order f.ending && leb f.live C

unfoldable pub torn_within : ℕ → Sum → Bool
torn_within C f = ends_torn f.ending && leb f.live C

unfoldable pub twin_within : ℕ → Sum → Bool
twin_within C f = ends_twin f.ending && leb f.live C

unfoldable pub verdict : ℕ → Sum → State
verdict C f = cond (orderly C f) clean (cond (torn_within C f) (unfinished case_c) (cond (twin_within (C + 1) f) (unfinished case_d) damaged))
