-- Slots tested one by one, and rows one by one.
use Prim.Native.Nat.{ℕ, suc, ◌+◌, ◌-◌, ◌*◌, ◌%◌, ◌≤◌, ◌<◌}
use mathlib.Core.Path.{◌≡◌, refl, ap, ◌∙◌}
use mathlib.Core.List.{List, map}
use native.Mathlib.Omega.{arith}
use native.Mathlib.Nat.{sub-zero}
use lib.ListN.{take, drop}
use Rattle.model.specs.Lists.{chunk}
use Rattle.model.specs.Slot.{slot_of, kind_of}
use Rattle.model.specs.declared.SlotKind.{SlotKind}
use Rattle.model.specs.declared.SlotKind.TheVariants.{Empty, Torn, Live, Dead, Cut, Wrong}
use Rattle.judge.specs.Rows.{slots_at, kinds_at}
use Rattle.judge.specs.Parts.{slots_offset, rows_on}
use Rattle.judge.specs.Tally.{none_met}
use Rattle.rows.proofs.Laws.Rows.{kinds_next}
use Rattle.faults.specs.declared.SlotTests.{SlotTests}
use Rattle.faults.specs.Tests.{Look, look, no_tests, wrote, test_slot, test_slots, next_row, test_rows, rows_tested}

-- ---- one slot more, and the end of a row

pub slot_live : (k : SlotKind) (p : Look) → (test_slot k p).tests.live ≤ p.tests.live + 1
unfolding test_slot wrote
slot_live Empty p = omega arith
slot_live Torn p = omega arith
slot_live (Live n b) p = omega arith
slot_live Dead p = omega arith
slot_live Cut p = omega arith
slot_live Wrong p = omega arith

pub row_next : (m : List ℕ) (at i slots : ℕ) (p : Look) → i < slots
    → test_slots (kinds_at m (at + i * 256) (slots - i)) p ≡ test_slots (kinds_at m (at + (i + 1) * 256) (slots - (i + 1))) (test_slot (kind_of (slot_of (take 256 (drop (at + i * 256) m)))) p)
unfolding test_slots
row_next m at i slots p h =
    let d : slots - i ≡ suc (slots - (i + 1)) = omega arith in
    let e : at + i * 256 + 256 ≡ at + (i + 1) * 256 = omega arith in
    rw (d, kinds_next m (at + i * 256) (slots - (i + 1)), e)

pub row_end : (m : List ℕ) (o i slots : ℕ) (p : Look) → slots ≤ i → test_slots (kinds_at m o (slots - i)) p ≡ p
unfolding test_slots kinds_at slots_at chunk
row_end m o i slots p h = let d : slots - i ≡ 0 = omega arith in rw d

-- ---- one row more, and the end

pub next_live : (t r : SlotTests) → r ≡ next_row t → r.live ≡ t.live
next_live t r e = ap (λ (y : SlotTests). y.live) e ∙ (unfold next_row in refl)

module _ (m : List ℕ) (N B u n : ℕ) where
  pub rows_start : (test_rows (rows_on m N B (u - 0) (n + 0)) (look no_tests none_met)).tests ≡ rows_tested (rows_on m N B u n)
  unfolding rows_tested
  rows_start = let e : n + 0 ≡ n = omega arith in rw (sub-zero u, e)

  pub rows_turn : (k : ℕ) (t z r : SlotTests) (s q : List ℕ) (whole : SlotTests) → k < u → z ≡ next_row t
      → look r q ≡ test_slots (kinds_at m (((n + k) % N * (B + 1) + 1) * 256) B) (look z s) → (test_rows (rows_on m N B (u - k) (n + k)) (look t s)).tests ≡ whole
      → (test_rows (rows_on m N B (u - (k + 1)) (n + (k + 1))) (look r q)).tests ≡ whole
  unfolding test_rows rows_on kinds_at
  rows_turn k t z r s q whole h f e w =
      let d : u - k ≡ suc (u - (k + 1)) = omega arith in
      let g : n + (k + 1) ≡ suc (n + k) = omega arith in
      let x : look r q ≡ test_slots (map kind_of (slots_at m (slots_offset B ((n + k) % N)) B)) (look (next_row t) s) =
      e ∙ ap (λ (y : SlotTests). test_slots (map kind_of (slots_at m (slots_offset B ((n + k) % N)) B)) (look y s)) f in
      rw g (ap (λ (y : Look). (test_rows (rows_on m N B (u - (k + 1)) (suc (n + k))) y).tests) x ∙ (rw d at w))

  pub rows_end : (k : ℕ) (t whole : SlotTests) (s : List ℕ) → u ≤ k → (test_rows (rows_on m N B (u - k) (n + k)) (look t s)).tests ≡ whole → t ≡ whole
  unfolding test_rows rows_on
  rows_end k t whole s h w = let d : u - k ≡ 0 = omega arith in (rw d at w)
