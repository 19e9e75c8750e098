-- Counts that begin at nothing.
use Rattle.std.specs.Prelude.{◌≡◌}
use Rattle.index.specs.declared.Counts.{Counts}
use Rattle.index.specs.Shows.{no_counts}

pub none_counted : (c : Counts) → (c.live ≡ 0) × ((c.dead ≡ 0) × ((c.cut ≡ 0) × (c.empty ≡ 0))) → c ≡ no_counts
unfolding no_counts
none_counted c e = λ i. record { live = e.0 i; dead = e.1.0 i; cut = e.1.1.0 i; empty = e.1.1.1 i }
