-- `find::first_slot` is the offset of the page of the definition. Assumes nothing.
use Prim.Native.Nat.{ℕ, ◌+◌, ◌*◌, ◌%◌, ◌<◌, ◌≤◌}
use native.Mathlib.Nat.{mod-lt, mul-le-mul_right}
use native.Mathlib.Omega.{arith}
use Rattle.model.specs.Steps.{slot_at}
use borrow.Author.Rules.{rules}
use Rattle.find.proofs.first_slot.Goals as goal

-- the pages before the segment are few
few : (N B n : ℕ) → (0 < N) × (N ≤ 255) × (B ≤ 255) → n % N * (B + 1) ≤ 255 * 256
few N B n h =
    let i : n % N < N = mod-lt n {m = N} h.0 in
    let j : n % N ≤ 255 = omega (arith, h.1) in
    omega (arith, mul-le-mul_right (B + 1) j, h.2)

pub overflow_mul-at : goal.overflow_mul-at
overflow_mul-at c = record { fits = omega (arith, few c.args.geometry.segments c.args.geometry.slots c.args.number.0 c.requires) }

pub overflow_add-at-2 : goal.overflow_add-at-2
overflow_add-at-2 c = record { fits = omega (arith, few c.args.geometry.segments c.args.geometry.slots c.args.number.0 c.requires) }

pub overflow_mul-at-2 : goal.overflow_mul-at-2
overflow_mul-at-2 c = record { fits = omega (arith, few c.args.geometry.segments c.args.geometry.slots c.args.number.0 c.requires) }

pub returns : goal.returns
unfolding slot_at
returns c = search rules
