-- The invariant of demand 3's bound, and that making room keeps it.
use Rattle.std.specs.Prelude.{ℕ, zero, suc, ◌+◌, ◌-◌, ◌*◌, ◌/◌, ◌%◌, ◌≤◌, ◌<◌, ◌≡◌, Bool, cond, length, get_or, drop, replicate}
use Rattle.std.proofs.Math.Path.{refl}
use Rattle.std.proofs.Common.{sym, ◌∙◌, mul-le-mul_left, mul-le-mul_right}
use Rattle.std.proofs.Math.Bool.{true, false}
use mathlib.Core.List.{List, [], ◌∷◌, ◌++◌, append-nil, append_assoc}
use native.Mathlib.Omega.{arith}
use Rattle.std.proofs.Math.Nat.{div-le_of_le-mul}
use Rattle.std.proofs.Math.Dec.{ltb}
use borrow.Author.Tests.{ltb-false}
use Rattle.model.specs.Chip.{Step}
use Rattle.model.specs.Slot.{Slot, empty}
use Rattle.model.specs.State.{View, entries, entries_in}
use Rattle.model.specs.Steps.{top_number, has_room, copied, Room, next_version, open_next, compact_oldest, compact_until_room, room_for}
use Rattle.model.specs.Sequences.{erases_in}
use Rattle.bridge.specs.Predicted.{CleanView}
use Rattle.bridge.specs.Views.Slots.{copied_none}
use Rattle.bridge.specs.Views.Room.{tidied, full_view}
use Rattle.bridge.specs.Requests.{until_room, until_more, compacted_rows}
use Rattle.wear.specs.Counting.{deads, deads_behind, drop_behind, copied_dead}
use Rattle.wear.specs.Erases.{erases_append, open_none, compact_one, turns}

-- With n = N-1, X = nB - L and E erases, E is the smallest number in use, and k is E/n rounded up.
-- R pays for k times X and for the dead slots in segments numbered kn or more, which are all but the p oldest
pub record Paid (n X E : ℕ) (rows : List (List Slot)) (R : ℕ) : Type 0 where
  pub k : ℕ
  pub p : ℕ
  pub boundary : E + p ≡ k * n
  pub part : p < n
  pub paid : k * X + deads (drop p rows) ≤ R

-- a greater L, and rows with at most m dead slots more
pub paid_after : {n X E : ℕ} {rows : List (List Slot)} {R : ℕ} (Y S m : ℕ) (next : List (List Slot)) → Y ≤ X → R + m ≤ S → ((p : ℕ) → deads (drop p next) ≤ m + deads (drop p rows))
    → Paid n X E rows R → Paid n Y E next S
paid_after Y S m next h r d v =
    record { k = v.k; p = v.p; boundary = v.boundary; part = v.part; paid = omega (arith, v.paid, mul-le-mul_left v.k h, d v.p) }

-- the whole part of E/n, times X, is at most R
pub paid_bound : {n X E : ℕ} {rows : List (List Slot)} {R : ℕ} → Paid n X E rows R → E / n * X ≤ R
paid_bound {n} {X} {E} p = let d : E / n ≤ p.k = div-le_of_le-mul n (omega (arith, p.boundary)) in omega (arith, p.paid, mul-le-mul_right X d)

module _ (n B L R : ℕ) where
  abbrev Good : ℕ → List (List Slot) → Type 0
  Good E rows = Paid n (n * B - L) E rows R

  pub paid_open : (E : ℕ) (rows : List (List Slot)) → Good E rows → Good E (rows ++ (replicate B empty ∷ []))
  paid_open E rows v = paid_after (n * B - L) R 0 _ (omega arith) (omega arith) (λ p. omega (arith, drop_behind p rows (replicate B empty) (rw (copied_none B) (copied_dead B [])))) v

  -- the oldest is tidied. At a boundary all segments are full and at most L slots are live, so that nB - L or more are dead
  paid_tidy : (E : ℕ) (rows : List (List Slot)) → length rows ≡ n → n * B ≤ L + deads rows → Good E rows → Good (suc E) (drop 1 rows ++ (copied B (entries (get_or rows 0 [])) ∷ []))
  paid_tidy E rows len full v = go v.p rows len full v.boundary v.part v.paid
    where
      go : (p : ℕ) (l : List (List Slot)) → length l ≡ n → n * B ≤ L + deads l → E + p ≡ v.k * n → p < n → v.k * (n * B - L) + deads (drop p l) ≤ R
          → Good (suc E) (drop 1 l ++ (copied B (entries (get_or l 0 [])) ∷ []))
      go p [] len full b h d = absurd (omega arith)
      go (suc p) (s ∷ r) len full b h d = record { k = v.k; p = p; boundary = omega arith; part = omega arith; paid = omega (arith, drop_behind p r (copied B (entries s)) (copied_dead B (entries s))) }
      go zero (s ∷ r) len full b h d = record {
        k = suc v.k;
        p = length r;
        boundary = omega arith;
        part = omega arith;
        paid = omega (arith, drop_behind (length r) r (copied B (entries s)) (copied_dead B (entries s)), deads_behind r);
      }

-- ---- at most N-1 erases, one for each tidying

oldest_one : (N B : ℕ) (v : View) (xs : List Step) → length (erases_in ((compact_oldest N B v).steps ++ xs)) ≡ suc (length (erases_in xs))
unfolding compact_oldest
oldest_one N B v xs = simp (erases_append, compact_one)

series_few : (N B k : ℕ) (v : View) → length (erases_in (compact_until_room N B k v).steps) ≤ k
unfolding erases_in compact_until_room
series_few N B zero v = omega arith
series_few N B (suc k) v = go (has_room v) refl (series_few N B k (compact_oldest N B v).result)
  where
    go : (t : Bool) → has_room v ≡ t → length (erases_in (compact_until_room N B k (compact_oldest N B v).result).steps) ≤ k → length (erases_in (compact_until_room N B (suc k) v).steps) ≤ suc k
    go true e ih = rw (until_room N B k v e) (unfold erases_in in omega arith)
    go false e ih = rw (until_more N B k v e) (omega (arith, ih, oldest_one N B v (compact_until_room N B k (compact_oldest N B v).result).steps))

pub room_few : (N B : ℕ) (v : View) → length (erases_in (room_for N B v).steps) ≤ N - 1
unfolding room_for open_next
room_few N B v = go (has_room v) (ltb (length v.slots) (N - 1))
  where
    go : (t u : Bool) → length (erases_in (cond t (record { steps = []; result = v }) (cond u (open_next N B v) (compact_until_room N B (N - 1) v))).steps) ≤ N - 1
    go true u = unfold erases_in in omega arith
    go false true = unfold open_next in (rw (open_none N B (next_version v) (suc (top_number v))) (omega arith))
    go false false = series_few N B (N - 1) v

-- ---- what making room, by these steps, does to a view

pub record Moved (N B L R : ℕ) (v : View) (r : Room) : Type 0 where
  pub in_turn : turns N v.first ++ erases_in r.steps ≡ turns N r.result.first
  pub paid : Paid (N - 1) ((N - 1) * B - L) r.result.first r.result.slots R

module _ (N B L R : ℕ) where
  abbrev pub PaidView : View → Type 0
  PaidView v = Paid (N - 1) ((N - 1) * B - L) v.first v.slots R

  -- no step
  unmoved : (v : View) → PaidView v → Moved N B L R v (record { steps = []; result = v })
  unfolding erases_in
  unmoved v p = record { in_turn = append-nil (turns N v.first); paid = p }

  abbrev oldest : View → Room
  oldest v = compact_oldest N B v

  -- a tidying, then more of them
  again : (v : View) (more : Room) → Moved N B L R (oldest v).result more → Moved N B L R v (record { steps = (oldest v).steps ++ more.steps; result = more.result })
  unfolding compact_oldest turns
  again v more m =
      let one = compact_one N B (next_version v) v.first (suc (top_number v)) (entries (get_or v.slots 0 [])) in
      record {
        in_turn = simp (erases_append, one) (sym (append_assoc (turns N v.first) (v.first % N ∷ []) (erases_in more.steps)) ∙ m.in_turn);
        paid = m.paid;
      }

  -- N-1 segments in use, and at most L slots live
  pub record Ready (v : View) : Type 0 where
    pub clean : CleanView N B v
    pub all : length v.slots ≡ N - 1
    pub few : length (entries_in v) ≤ L
    pub paid : PaidView v

  paid_oldest : (v : View) → length v.slots ≡ N - 1 → (N - 1) * B ≤ L + deads v.slots → PaidView v → PaidView (oldest v).result
  unfolding compact_oldest
  paid_oldest v all full p = paid_tidy (N - 1) B L R v.first v.slots all full p

  pub ready_after : (v : View) → has_room v ≡ false → Ready v → Ready (oldest v).result
  ready_after v full h =
      let t = tidied N B v h.clean full in
      let c : length (entries_in v) + deads v.slots ≡ (N - 1) * B = rw h.all at (full_view h.clean full) in record {
        clean = t.clean;
        all = compacted_rows N B v h.clean.some ∙ h.all;
        few = omega (arith, t.size, h.few);
        paid = paid_oldest v h.all (omega (arith, c, h.few)) h.paid;
      }

  series_moved : (most : ℕ) (v : View) → Ready v → Moved N B L R v (compact_until_room N B most v)
  series_moved zero v h = unfold compact_until_room in unmoved v h.paid
  series_moved (suc most) v h = go (has_room v) refl (λ x. series_moved most (oldest v).result x)
    where
      go : (t : Bool) → has_room v ≡ t → (Ready (oldest v).result → Moved N B L R (oldest v).result (compact_until_room N B most (oldest v).result))
          → Moved N B L R v (compact_until_room N B (suc most) v)
      go true e ih = rw (until_room N B most v e) (unmoved v h.paid)
      go false e ih = rw (until_more N B most v e) (again v (compact_until_room N B most (oldest v).result) (ih (ready_after v e h)))

  -- making room erases in turn, and keeps what is paid
  pub room_moved : (v : View) → CleanView N B v → length (entries_in v) ≤ L → PaidView v → Moved N B L R v (room_for N B v)
  unfolding room_for open_next erases_in
  room_moved v c few p = go (has_room v) (ltb (length v.slots) (N - 1)) refl
    where
      go : (t u : Bool) → ltb (length v.slots) (N - 1) ≡ u
          → Moved N B L R v (cond t (record { steps = []; result = v }) (cond u (open_next N B v) (compact_until_room N B (N - 1) v)))
      go true u e = unmoved v p
      go false true e =
          let none = open_none N B (next_version v) (suc (top_number v)) in
          record { in_turn = rw none (append-nil (turns N v.first)); paid = paid_open (N - 1) B L R v.first v.slots p }
      go false false e = series_moved (N - 1) v (record { clean = c; all = omega (arith, ltb-false (length v.slots) (N - 1) e, c.spare); few = few; paid = p })
