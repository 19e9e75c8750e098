-- `qbx_files::larger`: an offset that fits is the number that its bits are. Assumes nothing.
use Rattle.std.proofs.Common.{ℕ, ◌≡◌, ◌<◌, ◌^◌, max, ℤ, pos, negsuc, nat_abs, refl, arith, w64}
use Rattle.std.specs.Int.{FitsUnsignedBits}
use mir.Val.{SFits}
use mir.Facts.{to_z-of_z}
use Rattle.qbx_files.specs.Files.{larger_of}
use Rattle.qbx_files.proofs.larger.Goals as goal

fits : (z : ℤ) (n k r : ℕ) → FitsUnsignedBits 64 z → n ≡ nat_abs z → r ≡ max n k → r ≡ larger_of z k
unfolding larger_of
fits (pos m) n k r f e h = omega arith
fits (negsuc m) n k r f e h = absurd f

none : (z : ℤ) (k : ℕ) → SFits w64 z → (FitsUnsignedBits 64 z → ⊥) → k ≡ larger_of z k
unfolding larger_of
none (pos n) k f h = let b : n < 2 ^ 64 = omega (arith, f.sfits) in absurd (h b)
none (negsuc n) k f h = refl

pub returns-in-Ok : goal.returns-in-Ok
returns-in-Ok c =
    let b = c.in-Ok.ensures in
    let e = to_z-of_z c.ranges.offset in
    fits c.args.offset c.in-Ok.length c.args.count c.max.result (rw e at b.0) (rw e at b.1) c.max.ensures

pub returns-in-Err : goal.returns-in-Err
returns-in-Err c =
    let e = to_z-of_z c.ranges.offset in
    none c.args.offset c.args.count c.ranges.offset (λ f. c.in-Err.ensures (rw e f))
