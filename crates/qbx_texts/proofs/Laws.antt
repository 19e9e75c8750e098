-- What is printed, with its bound.
use Prim.Native.Nat.{ℕ, ◌≤◌}
use mathlib.Core.Path.{◌≡◌, ap}
use mathlib.Core.Bool.{Bool, true, false, cond}
use mathlib.Core.List.{List}
use native.Mathlib.Omega.{arith}
use lib.ListN.{length}
use Rattle.model.specs.Chip.{Image, right_size}
use Rattle.text.specs.Buffer.{Print, printed, print_in}
use Rattle.text.specs.declared.Printed.{Printed}
use Rattle.text.proofs.Laws.{print_within}
use Rattle.salvage.specs.Salvage.{salvage_text, salvage_outcome}

pub both : (t start buffer : List ℕ) (p : Printed) → printed p buffer ≡ print_in t start → (printed p buffer ≡ print_in t start) × (p.length ≤ length buffer)
both t start buffer p e = (e, print_within t start buffer p e)

-- a refusal has no text
none_within : (start buffer : List ℕ) (p : Printed) → printed p buffer ≡ record { code = 1; length = 0; buffer = start } → p.length ≤ length buffer
unfolding printed
none_within start buffer p e =
    let h : p.length ≡ 0 = ap (λ (x : Print). x.length) e in
    omega arith

pub both_salvaged : (N B : ℕ) (s : Image) (start buffer : List ℕ) (p : Printed) → printed p buffer ≡ salvage_outcome N B s start → (printed p buffer ≡ salvage_outcome N B s start) × (p.length ≤ length buffer)
unfolding salvage_outcome
both_salvaged N B s start buffer p e = (e, go (right_size N B s) e)
  where
    go : (t : Bool) → printed p buffer ≡ cond t (print_in (salvage_text N B s) start) (record { code = 1; length = 0; buffer = start }) → p.length ≤ length buffer
    go true f = print_within (salvage_text N B s) start buffer p f
    go false f = none_within start buffer p f
