-- A row of slots: one slot more, the end, and counts that fit.
use Prim.Native.Nat.{ℕ, suc, ◌+◌, ◌-◌, ◌*◌, ◌≤◌, ◌<◌}
use mathlib.Core.Path.{◌≡◌}
use mathlib.Core.List.{List, ◌∷◌}
use native.Mathlib.Omega.{arith}
use lib.ListN.{take, drop}
use lib.Seq.{drop-drop}
use Rattle.model.specs.Lists.{chunk}
use Rattle.model.specs.Slot.{slot_of, kind_of}
use Rattle.model.specs.declared.SlotKind.{SlotKind}
use Rattle.model.specs.declared.SlotKind.TheVariants.{Empty, Torn, Live, Dead, Cut, Wrong}
use Rattle.judge.specs.Rows.{Pass, no_row, see, see_all, kinds_at, slots_at, Small}

pub none_small : Small no_row 0
unfolding no_row
none_small = record { live = omega arith; dead = omega arith; cut = omega arith }

pub see_small : (k : SlotKind) (p : Pass) (i : ℕ) → Small p.row i → Small (see k p).row (i + 1)
unfolding see
see_small Empty p i h = record { live = omega arith; dead = omega arith; cut = omega arith }
see_small Torn p i h = record { live = omega arith; dead = omega arith; cut = omega arith }
see_small (Live l n) p i h = record { live = omega arith; dead = omega arith; cut = omega arith }
see_small Dead p i h = record { live = omega arith; dead = omega arith; cut = omega arith }
see_small Cut p i h = record { live = omega arith; dead = omega arith; cut = omega arith }
see_small Wrong p i h = record { live = omega arith; dead = omega arith; cut = omega arith }

pub kinds_next : (m : List ℕ) (o c : ℕ) → kinds_at m o (suc c) ≡ kind_of (slot_of (take 256 (drop o m))) ∷ kinds_at m (o + 256) c
unfolding kinds_at slots_at chunk
kinds_next m o c = rw (drop-drop 256 o m)

pub row_next : (m : List ℕ) (at i slots : ℕ) (p : Pass) → i < slots
    → see_all (kinds_at m (at + i * 256) (slots - i)) p ≡ see_all (kinds_at m (at + (i + 1) * 256) (slots - (i + 1))) (see (kind_of (slot_of (take 256 (drop (at + i * 256) m)))) p)
unfolding see_all
row_next m at i slots p h =
    let d : slots - i ≡ suc (slots - (i + 1)) = omega arith in
    let e : at + i * 256 + 256 ≡ at + (i + 1) * 256 = omega arith in
    rw (d, kinds_next m (at + i * 256) (slots - (i + 1)), e)

pub row_end : (m : List ℕ) (o i slots : ℕ) (p : Pass) → slots ≤ i → see_all (kinds_at m o (slots - i)) p ≡ p
unfolding see_all kinds_at slots_at chunk
row_end m o i slots p h = let d : slots - i ≡ 0 = omega arith in rw d

-- the page that a part of the image is
pub page_part : (m : List ℕ) (o : ℕ) → take (o + 256 - o) (drop o m) ≡ take 256 (drop o m)
page_part m o = let d : o + 256 - o ≡ 256 = omega arith in rw d
