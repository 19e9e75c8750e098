-- `live_slots::index_of` is the number's remainder. Assumes nothing.
use mathlib.Core.Path.{refl}
use native.Mathlib.Nat.{mod-lt}
use Rattle.live_slots.proofs.index_of.Goals as goal

pub returns : goal.returns
returns c = (refl, mod-lt c.args.number.0 {m = c.args.segments} c.requires)
