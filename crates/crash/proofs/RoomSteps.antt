-- Making room for a put, by nothing, an opening, or compactions until the top has an empty slot, cut anywhere:
-- what holds of each of these, and goes on behind a whole compaction, holds of all of it.
use Prim.Native.Nat.{ℕ, zero, suc, ◌+◌, ◌-◌, ◌<◌}
use Rattle.std.specs.Prelude.{◌≡◌, ltb}
use Rattle.std.proofs.Math.Path.{refl}
use Rattle.std.proofs.Common.{◌∙◌, arith, ltb-true, ltb-false}
use Rattle.std.proofs.Math.Logic.{⊎_elim}
use Rattle.std.proofs.Math.Bool.{Bool, true, false, cond}
use mathlib.Core.List.{List, [], ◌++◌}
use Rattle.std.proofs.Math.ListN.{length}
use Rattle.model.specs.Chip.{Image, Bytes, run, number_limit}
use Rattle.model.specs.State.{View}
use Rattle.model.specs.Steps.{top_number, has_room, Room, open_next, compact_oldest, compact_until_room, room_for}
use Rattle.model.specs.Sequences.{erases_in}
use Rattle.model.specs.Begun.{marks_in, CutBegun}
use Rattle.model.proofs.Laws.Bytes.{run_bytes}
use Rattle.model.proofs.Laws.Begun.{begun_append}
use Rattle.bridge.specs.Predicted.{CleanView, Carries}
use Rattle.bridge.specs.Views.Shape.{opened_top}
use Rattle.bridge.specs.Views.Room.{tidied}
use Rattle.bridge.specs.Held.{Held}
use Rattle.bridge.specs.Requests.{until_room, until_more, top_rises, carries_next, one_compaction, compacted_rows}
use Rattle.crash.proofs.RoomOwing.{Full}

-- P s v u es f: from image s with view v it came to image u, with these erases begun and so many owing marks reached
pub record RoomLaws (N B : ℕ) (P : Image → View → Image → List ℕ → ℕ → Type 0) : Type 0 where
  pub nothing : (s : Image) (v : View) → Held N B s v → CleanView N B v → (u : Image) → u ≡ s → P s v u [] 0
  pub opened : (s : Image) (v : View) → Held N B s v → CleanView N B v → Carries v → has_room v ≡ false → length v.slots < N - 1 → suc (top_number v) < number_limit N
      → (u : Image) (es : List ℕ) (f : ℕ) → CutBegun B (open_next N B v).steps s u es f → P s v u es f
  pub compacted : (s : Image) (v : View) → Full N B s v → (u : Image) (es : List ℕ) (f : ℕ) → CutBegun B (compact_oldest N B v).steps s u es f → P s v u es f
  pub behind : (s : Image) (v : View) → Full N B s v → (u : Image) (es : List ℕ) (f : ℕ)
      → P (run B (compact_oldest N B v).steps s) (compact_oldest N B v).result u es f → P s v u (erases_in (compact_oldest N B v).steps ++ es) (marks_in B (compact_oldest N B v).steps + f)

module _ (N B : ℕ) (P : Image → View → Image → List ℕ → ℕ → Type 0) (laws : RoomLaws N B P) where
  idle : (s : Image) (v : View) → Held N B s v → CleanView N B v → (u : Image) (es : List ℕ) (f : ℕ) → CutBegun B [] s u es f → P s v u es f
  idle s v h c u es f d = rw (d.1, d.2) (laws.nothing s v h c u d.0)

  compactions : (k : ℕ) (s : Image) (v : View) → Held N B s v → Bytes s → CleanView N B v → length v.slots ≡ N - 1 → Carries v
      → top_number (compact_until_room N B k v).result < number_limit N → (u : Image) (es : List ℕ) (f : ℕ) → CutBegun B (compact_until_room N B k v).steps s u es f → P s v u es f
  compactions zero s v h y c all carries below u es f d = idle s v h c u es f (unfold compact_until_room in d)
  compactions (suc k) s v h y c all carries below u es f d =
      go (has_room v) refl (λ t ht yt ct at bt r m x. compactions k t (compact_oldest N B v).result ht yt ct at (carries_next N B v carries) bt u r m x)
    where
      go : (t : Bool) → has_room v ≡ t
          → ((t : Image) → Held N B t (compact_oldest N B v).result → Bytes t → CleanView N B (compact_oldest N B v).result → length (compact_oldest N B v).result.slots ≡ N - 1
          → top_number (compact_until_room N B k (compact_oldest N B v).result).result < number_limit N → (r : List ℕ) (m : ℕ)
          → CutBegun B (compact_until_room N B k (compact_oldest N B v).result).steps t u r m → P t (compact_oldest N B v).result u r m)
          → P s v u es f
      go true e ih = idle s v h c u es f (rw (until_room N B k v e) at d)
      go false e ih =
          let a = tidied N B v c e in
          let more = until_more N B k v e in
          let b : top_number (compact_until_room N B k (compact_oldest N B v).result).result < number_limit N = rw more at below in
          let low : suc (top_number v) < number_limit N = omega (arith, top_rises N B k (compact_oldest N B v).result a.clean, a.number, b) in
          let xs = (compact_oldest N B v).steps in
          let full : Full N B s v = record { held = h; clean = c; no_room = e; all = all; bytes = y; carries = carries; below = low } in
          ⊎_elim (λ x. laws.compacted s v full u es f x)
          (λ x. rw (x.2, x.3) (laws.behind s v full u x.0 x.1
          (ih (run B xs s) (one_compaction N B s v h y c all carries low) (run_bytes B xs s y) a.clean (compacted_rows N B v c.some ∙ all) b x.0 x.1 x.4)))
          (begun_append B xs (compact_until_room N B k (compact_oldest N B v).result).steps s u es f (rw more at d))

  pub making_room : (s : Image) (v : View) → Held N B s v → Bytes s → CleanView N B v → (has_room v ≡ false → Carries v) → top_number (room_for N B v).result < number_limit N
      → (u : Image) (es : List ℕ) (f : ℕ) → CutBegun B (room_for N B v).steps s u es f → P s v u es f
  unfolding room_for
  making_room s v h y c carries below u es f d = go (has_room v) (ltb (length v.slots) (N - 1)) refl refl below d
    where
      chosen : Bool → Bool → Room
      chosen t w = cond t (record { steps = []; result = v }) (cond w (open_next N B v) (compact_until_room N B (N - 1) v))

      go : (t w : Bool) → has_room v ≡ t → ltb (length v.slots) (N - 1) ≡ w → top_number (chosen t w).result < number_limit N → CutBegun B (chosen t w).steps s u es f → P s v u es f
      go true w e q b x = idle s v h c u es f x
      go false true e q b x = laws.opened s v h c (carries e) e (ltb-true (length v.slots) (N - 1) q) (omega (arith, opened_top N B v c.some, b)) u es f x
      go false false e q b x = compactions (N - 1) s v h y c (omega (arith, ltb-false (length v.slots) (N - 1) q, c.spare)) (carries e) b u es f x
