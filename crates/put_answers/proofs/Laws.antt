-- Laws of what a put is refused for on a clean image, from the numbers of a plan, the top's tally and a search.
use Prim.Native.Nat.{ℕ, ◌+◌, ◌-◌, ◌/◌, ◌≤◌, ◌<◌}
use mathlib.Core.Path.{◌≡◌, refl, ap, ◌∙◌}
use mathlib.Core.Bool.{Bool, true, false, cond, ◌||◌, ◌&&◌, not}
use native.Mathlib.Omega.{arith}
use lib.Dec.{ltb, leb}
use lib.ListN.{length}
use borrow.Author.Tests.{lt-ltb, le-ltb, ltb-false}
use Rattle.model.specs.Chip.{Image, erase_limit, right_size}
use Rattle.model.specs.Header.{is_former, tally_of, no_bit_left, header_version}
use Rattle.model.specs.State.{segments_of, next_number, View, view_of, entries_in, capacity, view}
use Rattle.model.specs.Steps.{top_number, compactions, new_numbers, is_worn}
use Rattle.model.specs.Answers.{is_full}
use Rattle.model.proofs.Laws.Chip.{size_facts}
use Rattle.bridge.specs.Held.{Held, held_top}
use Rattle.std.specs.Prelude.{Option, None, Some}
use Rattle.std.specs.declared.option.Option.{Option}
use Rattle.find.specs.declared.FoundSlot.{FoundSlot}
use Rattle.find.specs.Search.{rows_at, found_in}
use Rattle.find.proofs.Callers.{found_at, found_nothing}
use Rattle.tally.specs.declared.Tally.{Tally}
use Rattle.tally.specs.Seen.{header_in, tally_seen}
use Rattle.tally.proofs.Laws.{top_version_lem}
use Rattle.room.specs.declared.Plan.{Plan}
use Rattle.room.specs.Room.{Plannable, Planned}
use Rattle.put_answers.specs.Answering.{Ranged, new_numbers_by, worn_by, full_by, found_before}
use Rattle.room.proofs.Laws.{plan_held, room_test, top_is}

-- ---- ranges

pub ranged : (N B : ℕ) (p : Plan) (s : Image) → right_size N B s ≡ true → Plannable N B p (length s) → Ranged N B p
ranged N B p s e a =
    let z = size_facts N B s e in record
    { least = z.two; most = z.most; slots = z.slots; few = omega (arith, z.most_b); some = a.some; spare = omega (arith, z.most, a.spare); compactions = omega (arith, z.most, a.spare, a.few) }

-- ---- the top's header

held_version : (N B : ℕ) (s : Image) (v : View) → Held N B s v → header_version (header_in N B (top_number v) s) ≡ v.version
unfolding view view_of
held_version N B s v h =
    let top : top_number v ≡ next_number (segments_of N B s) - 1 = omega (arith, held_top N B s v h) in
    rw top (top_version_lem N B s (omega (arith, (size_facts N B s h.size).two)) (omega (arith, held_top N B s v h))) ∙ ap (λ (y : View). y.version) h.view

-- ---- worn

pub few_numbers : (N : ℕ) (p : Plan) → p.used + 1 < N → 1 ≡ new_numbers_by N p
unfolding new_numbers_by
few_numbers N p h = rw (lt-ltb p.used (N - 1) (omega arith))

pub all_numbers : (N : ℕ) (p : Plan) → N ≤ p.used + 1 → p.compactions ≡ new_numbers_by N p
unfolding new_numbers_by
all_numbers N p h = rw (le-ltb p.used (N - 1) (omega arith))

module _ (N B : ℕ) (p : Plan) (t : Tally) where
  pub worn_room : p.slot < B → false ≡ worn_by N B p t
  unfolding worn_by
  worn_room h = rw (lt-ltb p.slot B h)

  pub worn_bits : B ≤ p.slot → t.no_bit_left ≡ true → true ≡ worn_by N B p t
  unfolding worn_by
  worn_bits h u = rw (le-ltb p.slot B h, u)

  pub worn_number : (top new : ℕ) → B ≤ p.slot → t.no_bit_left ≡ false → top ≡ p.first.0 + p.used - 1 → new ≡ new_numbers_by N p → leb erase_limit ((top + new) / N + t.count) ≡ worn_by N B p t
  unfolding worn_by
  worn_number top new h u d e = rw (le-ltb p.slot B h, u, d, e)

-- ---- a clean image and its plan

module _ (N B : ℕ) (p : Plan) (s : Image) (k : Planned N B p s) where
  abbrev v : View
  v = view N B s

  top_number_lem : p.first.0 + p.used - 1 ≡ top_number v
  top_number_lem = omega (arith, top_is N B p s k)

  -- what was read of the top's header
  pub top_seen : (n : ℕ) (t : Tally) → n ≡ p.first.0 + p.used - 1 → t ≡ tally_seen (header_version (header_in N B n s)) → t ≡ tally_seen (view N B s).version
  top_seen n t e w = w ∙ (ap (λ (y : ℕ). tally_seen (header_version (header_in N B y s))) (e ∙ top_number_lem) ∙ ap tally_seen (held_version N B s v (plan_held N B p s k)))

  pub former_same : (t : Tally) → t ≡ tally_seen (view N B s).version → t.former ≡ is_former (view N B s).version
  unfolding tally_seen
  former_same t seen = ap (λ (y : Tally). y.former) seen

  numbers_same : B ≤ p.slot → new_numbers_by N p ≡ cond (ltb (length v.slots) (N - 1)) 1 (compactions v.slots)
  unfolding new_numbers_by
  numbers_same h = rw (← k.used) (go (ltb p.used (N - 1)) refl)
    where
      go : (u : Bool) → ltb p.used (N - 1) ≡ u → cond u 1 p.compactions ≡ cond u 1 (compactions v.slots)
      go true e = refl
      go false e = k.compactions (record { top = h; used = omega (arith, ltb-false p.used (N - 1) e) })

  -- the tally is asked for only where there will be a new header
  pub worn_same : (t : Tally) → (B ≤ p.slot → t ≡ tally_seen (view N B s).version) → worn_by N B p t ≡ is_worn N (view N B s)
  unfolding worn_by is_worn new_numbers tally_seen
  worn_same t seen = rw (room_test N B p s k) (go (ltb p.slot B) refl)
    where
      reckoned : ℕ → Bool
      reckoned x = no_bit_left v.version || leb erase_limit ((top_number v + x) / N + tally_of v.version)

      go : (u : Bool) → ltb p.slot B ≡ u
          → (not u && (t.no_bit_left || leb erase_limit ((p.first.0 + p.used - 1 + new_numbers_by N p) / N + t.count))) ≡ (not u && reckoned (cond u 0 (cond (ltb (length v.slots) (N - 1)) 1 (compactions v.slots))))
      go true e = refl
      go false e = let h = ltb-false p.slot B e in rw (seen h, numbers_same h, top_number_lem)

  module _ (live b : ℕ) where
    -- what a search finds
    abbrev there : Option FoundSlot
    there = found_in N B p.first.0 (rows_at N B s p.used p.first.0) b

    pub full_found : live ≡ length (entries_in (view N B s)) → (r : Option FoundSlot) → r ≡ found_in N B p.first.0 (rows_at N B s p.used p.first.0) b → full_by N B live r ≡ is_full N B b (view N B s)
    unfolding full_by is_full
    full_found l (Some x) e = rw (found_at N B b s v (plan_held N B p s k) k.first k.used e x refl).held
    full_found l None e = rw (found_nothing N B b s v (plan_held N B p s k) k.first k.used e refl) (ap (leb (capacity N B)) l)

    -- where the search is left out, its result would not have mattered
    pub full_before_lem : full_by N B live (found_before N B p live s b) ≡ full_by N B live there
    unfolding full_by found_before
    full_before_lem = go (ltb p.slot B) (leb (capacity N B) live) refl there
      where
        go : (x y : Bool) → leb (capacity N B) live ≡ y → (r : Option FoundSlot) → full_by N B live (cond (x || y) r None) ≡ full_by N B live r
        go true y e r = refl
        go false true e r = refl
        go false false e (Some x) = e
        go false false e None = refl
