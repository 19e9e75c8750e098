-- Compactions done one after the other: after each the image has the predicted view, so that the next is of the row that is now the oldest.
use Prim.Native.Nat.{ℕ, zero, suc, ◌+◌, ◌-◌, ◌≤◌, ◌<◌}
use Rattle.std.specs.Prelude.{◌≡◌, length}
use Rattle.std.proofs.Common.{◌∙◌, arith}
use Rattle.model.specs.Chip.{Image, Bytes, number_limit, run}
use Rattle.model.specs.State.{View}
use Rattle.model.specs.Steps.{top_number, compact_oldest, compactions}
use Rattle.model.proofs.Laws.Chip.{run_append}
use Rattle.model.proofs.Laws.Bytes.{run_bytes}
use Rattle.bridge.specs.Predicted.{Carries}
use Rattle.bridge.specs.Held.{Held}
use Rattle.bridge.specs.Requests.{carries_next, one_compaction}
use Rattle.bridge.specs.Views.Times.{compact_times, Needs, after_times}

module _ (N B : ℕ) (s : Image) (v : View) (h : Held N B s v) (bs : Bytes s) (n : Needs N B v) (full : length v.slots ≡ N - 1) (carries : Carries v)
    (below : top_number v + compactions v.slots < number_limit N) where
  -- the number of the top after i of them
  pub times_number : (i : ℕ) → i ≤ compactions v.slots → top_number (compact_times N B i v).result ≡ top_number v + i
  unfolding top_number
  times_number i b = let a = after_times N B v n i b in omega (arith, a.first, a.rows, n.clean.some)

  times_carries : (i : ℕ) → Carries (compact_times N B i v).result
  unfolding compact_times
  times_carries zero = carries
  times_carries (suc i) = carries_next N B (compact_times N B i v).result (times_carries i)

  pub times_held : (i : ℕ) → i ≤ compactions v.slots → Held N B (run B (compact_times N B i v).steps s) (compact_times N B i v).result
  unfolding compact_times run
  times_held zero b = h
  times_held (suc i) b =
      let a = after_times N B v n i (omega arith) in
      let w = (compact_times N B i v).result in
      let t = run B (compact_times N B i v).steps s in
      rw (run_append B (compact_times N B i v).steps (compact_oldest N B w).steps s)
      (one_compaction N B t w (times_held i (omega arith)) (run_bytes B (compact_times N B i v).steps s bs) a.clean (a.rows ∙ full) (times_carries i) (omega (arith, times_number i (omega arith))))
