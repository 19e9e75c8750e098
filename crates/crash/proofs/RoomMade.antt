-- A cut while room is made for a put: the image is sound, with the old table.
use Rattle.std.specs.Prelude.{ℕ, ◌<◌, ◌≡◌, false}
use Rattle.std.proofs.Common.{ap}
use Rattle.model.specs.Chip.{Image, Bytes, number_limit, Cut}
use Rattle.model.specs.State.{segments_of, View}
use Rattle.model.specs.Steps.{top_number, has_room, open_next, compact_oldest, room_for}
use Rattle.model.proofs.Laws.Begun.{begun_cut, cut_begun}
use Rattle.bridge.specs.Predicted.{CleanView, Carries}
use Rattle.bridge.specs.Held.{Held}
use Rattle.crash.proofs.States.{ShowsOf, with_shows}
use Rattle.crash.proofs.RoomTorn.{held_shows}
use Rattle.crash.proofs.RoomOwing.{compacted_shows}
use Rattle.crash.proofs.RoomCuts.{open_cut, compact_cut}
use Rattle.crash.proofs.RoomSteps.{RoomLaws, making_room}

module _ (N B : ℕ) where
  shows_room : RoomLaws N B (λ s v u es f. ShowsOf N B u v)
  shows_room = record {
    nothing = λ s v h c u e. with_shows N B u v (held_shows N B s v u h c (ap (λ y. segments_of N B y) e));
    opened = λ s v h c carries full few below u es f d. open_cut N B s v h c carries full few below u (begun_cut B (open_next N B v).steps s u es f d);
    compacted = λ s v f u es m d. compact_cut N B s v f u (begun_cut B (compact_oldest N B v).steps s u es m d);
    behind = λ s v f u es m r. compacted_shows N B s v f u r;
  }

  pub room_cut : (s : Image) (v : View) → Held N B s v → Bytes s → CleanView N B v → (has_room v ≡ false → Carries v) → top_number (room_for N B v).result < number_limit N
      → (u : Image) → Cut B (room_for N B v).steps s u → ShowsOf N B u v
  room_cut s v h y c carries below u cut = let (es, f, d) = cut_begun B (room_for N B v).steps s u cut in making_room N B (λ s v u es f. ShowsOf N B u v) shows_room s v h y c carries below u es f d
