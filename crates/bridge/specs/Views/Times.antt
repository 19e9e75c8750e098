-- Compactions, counted: those that make room are exactly as many as the wear rule says, one after the other from the oldest segment.
use Prim.Native.Nat.{ℕ, zero, suc, ◌+◌, ◌-◌, ◌≤◌, ◌<◌}
use Rattle.std.specs.Prelude.{◌≡◌, Bool, true, false, ltb}
use Rattle.std.proofs.Math.Path.{refl, ap}
use Rattle.std.proofs.Common.{sym, ◌∙◌}
use mathlib.Core.List.{List, [], ◌∷◌, ◌++◌, append_assoc, append-nil, map, flatten}
use native.Mathlib.Omega.{arith}
use lib.ListN.{length, get_or, drop, replicate}
use borrow.Author.Tests.{ltb-false}
use Rattle.model.specs.Chip.{Step}
use Rattle.model.specs.Slot.{Slot, empty, is_empty, Entry, holding}
use Rattle.model.specs.State.{View, entries}
use Rattle.model.specs.Steps.{top_row, has_room, first_empty, copied, next_version, Room, compact_oldest, compact_until_room, room_for, compactions}
use Rattle.bridge.specs.Predicted.{CleanView}
use Rattle.bridge.specs.Views.Slots.{none_dead, same_rows, top_row_lem}
use Rattle.bridge.specs.Views.Room.{compactions_some, compactions_length, Tidied, tidied, some_dead}

-- k compactions
unfoldable pub compact_times : ℕ → ℕ → ℕ → View → Room
compact_times N B zero v = record { steps = []; result = v }
compact_times N B (suc k) v =
    let before = compact_times N B k v in
    let one = compact_oldest N B before.result in
    record { steps = before.steps ++ one.steps; result = one.result }

module _ (N B : ℕ) where
  -- the first compaction apart
  times_first : (k : ℕ) (v : View) → compact_times N B (suc k) v
      ≡ record { steps = (compact_oldest N B v).steps ++ (compact_times N B k (compact_oldest N B v).result).steps; result = (compact_times N B k (compact_oldest N B v).result).result }
  unfolding compact_times
  times_first zero v = ap (λ (y : List Step). record { steps = y; result = (compact_oldest N B v).result }) (sym (append-nil (compact_oldest N B v).steps))
  times_first (suc k) v =
      let w = (compact_oldest N B v).result in
      ap (λ (r : Room). record { steps = r.steps ++ (compact_oldest N B r.result).steps; result = (compact_oldest N B r.result).result }) (times_first k v)
      ∙ ap (λ (y : List Step). record { steps = y; result = (compact_oldest N B (compact_times N B k w).result).result }) (append_assoc (compact_oldest N B v).steps (compact_times N B k w).steps _)

  -- a clean view without room, with a dead slot somewhere
  pub record Needs (v : View) : Type 0 where
    pub clean : CleanView N B v
    pub none : has_room v ≡ false
    pub dead : none_dead (flatten v.slots) ≡ false

  -- with room there is nothing to do
  room_idle : (k : ℕ) (v : View) → has_room v ≡ true → compact_until_room N B k v ≡ compact_times N B 0 v
  unfolding compact_until_room compact_times
  room_idle zero v h = refl
  room_idle (suc k) v h = rw h

  until_times : (k : ℕ) (v : View) → Needs v → compactions v.slots ≤ k → compact_until_room N B k v ≡ compact_times N B (compactions v.slots) v
  unfolding compact_until_room
  until_times zero v n h = absurd (omega (arith, compactions_some v.slots n.clean.some))
  until_times (suc k) v n h = go (has_room w) refl (λ m q. until_times k w m q)
    where
      w : View
      w = (compact_oldest N B v).result

      t : Tidied N B v w
      t = tidied N B v n.clean n.none

      joined : compact_until_room N B (suc k) v ≡ record { steps = (compact_oldest N B v).steps ++ (compact_until_room N B k w).steps; result = (compact_until_room N B k w).result }
      joined = rw n.none

      after : (m : ℕ) → compact_until_room N B k w ≡ compact_times N B m w → compactions v.slots ≡ suc m → compact_until_room N B (suc k) v ≡ compact_times N B (compactions v.slots) v
      after m e c = joined ∙ (ap (λ (r : Room). record { steps = (compact_oldest N B v).steps ++ r.steps; result = r.result }) e ∙ (sym (times_first m v) ∙ ap (λ (y : ℕ). compact_times N B y v) (sym c)))

      go : (b : Bool) → has_room w ≡ b → (Needs w → compactions w.slots ≤ k → compact_until_room N B k w ≡ compact_times N B (compactions w.slots) w)
          → compact_until_room N B (suc k) v ≡ compact_times N B (compactions v.slots) v
      go true e ih = after 0 (room_idle k w e) (t.done e)
      go false e ih = let f = t.further e n.dead in after (compactions w.slots) (ih (record { clean = t.clean; none = e; dead = f.0 }) (omega (arith, f.1))) f.1

  pub room_times : 2 ≤ N → 2 ≤ B → (v : View) → CleanView N B v → has_room v ≡ false → ltb (length v.slots) (N - 1) ≡ false
      → room_for N B v ≡ compact_times N B (compactions v.slots) v
  unfolding room_for
  room_times n b v c h full =
      let all : N - 1 ≤ length v.slots = ltb-false (length v.slots) (N - 1) full in
      rw (h, full) (until_times (N - 1) v (record { clean = c; none = h; dead = some_dead N B n b v c h all }) (omega (arith, compactions_length v.slots, c.spare)))

  -- ---- what i of them leave

  -- up to the count that makes room: clean, as many rows, and each time the oldest row is the next of the rows that there were
  pub record After (v : View) (i : ℕ) : Type 0 where
    pub clean : CleanView N B (compact_times N B i v).result
    pub first : (compact_times N B i v).result.first ≡ v.first + i
    pub rows : length (compact_times N B i v).result.slots ≡ length v.slots
    pub left : (j : ℕ) → i + j < length v.slots → get_or (compact_times N B i v).result.slots j [] ≡ get_or v.slots (i + j) []
    -- the rest of the count is still to come
    pub more : i < compactions v.slots → Needs (compact_times N B i v).result × (compactions (compact_times N B i v).result.slots + i ≡ compactions v.slots)

  compacted_view : (v : View) → (compact_oldest N B v).result ≡ record { first = suc v.first; slots = drop 1 v.slots ++ (copied B (entries (get_or v.slots 0 [])) ∷ []); version = next_version v }
  unfolding compact_oldest
  compacted_view v = refl

  shifted : (l : List (List Slot)) (x : List Slot) (j : ℕ) → suc j < length l → get_or (drop 1 l ++ (x ∷ [])) j [] ≡ get_or l (suc j) []
  shifted [] x j h = absurd (omega arith)
  shifted (y ∷ l) x j h = lib.ListN.get_or-append l (x ∷ []) [] j (omega arith)

  pub after_times : (v : View) → Needs v → (i : ℕ) → i ≤ compactions v.slots → After v i
  unfolding compact_times
  after_times v n zero h = record {
    clean = n.clean;
    first = omega arith;
    rows = refl;
    left = λ j b. ap (λ (y : ℕ). get_or v.slots y []) (omega arith);
    more = λ b. (n, omega arith);
  }
  after_times v n (suc i) h = go (after_times v n i (omega arith))
    where
      w : View
      w = (compact_times N B i v).result

      go : After v i → After v (suc i)
      go a =
          let m = a.more (omega arith) in
          let t = tidied N B w a.clean m.0.none in
          let some = n.clean.some in record {
            clean = t.clean;
            first = ap (λ (y : View). y.first) (compacted_view w) ∙ omega (arith, a.first);
            rows = ap (λ (y : View). length y.slots) (compacted_view w) ∙ (same_rows w.slots _ (omega (arith, a.rows)) ∙ a.rows);
            left = λ j b. ap (λ (y : View). get_or y.slots j []) (compacted_view w) ∙ (shifted w.slots _ j (omega (arith, a.rows)) ∙ (a.left (suc j) (omega arith) ∙ ap (λ (y : ℕ). get_or v.slots y []) (omega arith)));
            more = λ b. still t m b (has_room (compact_oldest N B w).result) refl;
          }
        where
          still : Tidied N B w (compact_oldest N B w).result → Needs w × (compactions w.slots + i ≡ compactions v.slots) → suc i < compactions v.slots → (x : Bool) → has_room (compact_oldest N B w).result ≡ x
              → Needs (compact_oldest N B w).result × (compactions (compact_oldest N B w).result.slots + suc i ≡ compactions v.slots)
          still t m b true e = absurd (omega (arith, t.done e, m.1))
          still t m b false e = let f = t.further e m.0.dead in (record { clean = t.clean; none = e; dead = f.0 }, omega (arith, f.1, m.1))

  -- ---- the top once room is made

  empty_at : (es : List Entry) (c : ℕ) → first_empty (map holding es ++ replicate (suc c) empty) ≡ length es
  unfolding first_empty holding is_empty
  empty_at [] c = refl
  empty_at (e ∷ es) c = ap suc (empty_at es c)

  pub copied_empty : (es : List Entry) → length es < B → first_empty (copied B es) ≡ length es
  unfolding copied
  copied_empty es h = let e : B - length es ≡ suc (B - length es - 1) = omega arith in rw e (empty_at es (B - length es - 1))

  -- the last of them was of row k
  pub times_top : (v : View) → Needs v → (k : ℕ) → suc k ≡ compactions v.slots → top_row (compact_times N B (suc k) v).result.slots ≡ copied B (entries (get_or v.slots k []))
  unfolding compact_times
  times_top v n k e =
      let a = after_times v n k (omega arith) in
      let w = (compact_times N B k v).result in
      let some = n.clean.some in
      let z : k + 0 ≡ k = omega arith in
      ap (λ (y : View). top_row y.slots) (compacted_view w) ∙ (top_row_lem (drop 1 w.slots) _ ∙ ap (λ (y : List Slot). copied B (entries y)) (rw z at (a.left 0 (omega (arith, compactions_length v.slots)))))
