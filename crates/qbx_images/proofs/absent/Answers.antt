-- `qbx_images::absent` is what the definitions say. Assumes nothing.
use mathlib.Core.Path.{◌≡◌, refl, ap, ◌∙◌}
use mathlib.Core.List.{List, ◌++◌}
use native.Mathlib.Omega.{arith}
use Prim.Native.Nat.{ℕ}
use lib.ListN.{length, take, drop, replicate}
use lib.Seq.{length-take-le}
use Rattle.qbx_images.specs.Images.{made, factory}
use Rattle.qbx_images.proofs.absent.Goals as goal

pub returns-then-not-makes : goal.returns-then-not-makes
unfolding made factory
returns-then-not-makes c = rw c.if-not-makes.true (refl, refl)

pub returns : goal.returns
unfolding made factory
returns c =
    let a = c.args in
    let e : length (take a.size a.image.now) ≡ a.size = length-take-le _ _ (omega arith) in
    rw c.if-not-makes.false (refl, ap (λ (l : List ℕ). l ++ drop a.size a.image.now) (c.fill.ensures.after (λ y h. h) ∙ ap (λ (n : ℕ). replicate n 255) e))
