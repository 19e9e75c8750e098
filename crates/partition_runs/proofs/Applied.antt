-- The theorem applied to a board's life that is computed: what it asks for is met.
use Rattle.std.specs.Prelude.{ℕ, ◌≡◌, refl, ◌≢◌}
use Rattle.std.proofs.Common.{arith}
use Rattle.partitions.specs.Partitions.{nothing, no_run}
use Rattle.partitions.proofs.Instances.{computes, two}
use Rattle.partition_runs.specs.Law.{play, answers, stored_all, map_of, reply_to, reply_of, Accepted, ByTable}
use Rattle.partition_runs.proofs.Instances.{board, writes}
use Rattle.partition_runs.proofs.Theorem.{plain_map}

differs : nothing ≢ no_run
differs e = let z : ◌≡◌ {A = ℕ} 0 1 = cc in omega arith

accepted : Accepted 2 two board
unfolding computes board
accepted = record {
  right = refl;
  layout_right = refl;
  single = λ e. differs e;
  bytes = (omega arith, (omega arith, (omega arith, (omega arith, tt))));
  image = (omega arith, (omega arith, (omega arith, (omega arith, (omega arith, (omega arith, (omega arith, (omega arith, (omega arith, (omega arith, (omega arith, (omega arith, tt))))))))))));
}

by_table : ByTable two writes
unfolding writes
by_table = (refl, (omega arith, tt), (refl, (omega arith, (omega arith, tt)), (refl, (omega arith, (omega arith, tt)), (refl, (omega arith, tt), (refl, (omega arith, tt), tt)))))

board_lives : (i : ℕ) → reply_to 2 two (play 2 board writes) i ≡ reply_of two (stored_all writes (answers 2 board writes) (map_of 2 two board)) i
board_lives = plain_map 2 two board writes accepted by_table
