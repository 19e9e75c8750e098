-- A part more of a line.
use Prim.Native.Nat.{ℕ, ◌+◌, ◌≤◌}
use mathlib.Core.Path.{◌≡◌, sym, ◌∙◌, ap, subst}
use mathlib.Core.List.{List, [], ◌++◌, append-nil, append_assoc}
use native.Mathlib.Omega.{arith}
use lib.ListN.{length, take, length-append}
use lib.Seq.{length-take-le, take-append-add, take-append_seam}
use Rattle.qbx_lines.specs.declared.Line.{Line}
use Rattle.qbx_lines.specs.Lines.{said, Added}

-- some bytes in place of those from `at` on
pub put_behind : (start text : List ℕ) (at end n : ℕ) (rest : List ℕ) → at ≤ length start → end ≡ at + length text → n ≡ end
    → take n (take at start ++ (text ++ rest)) ≡ take at start ++ text
put_behind start text at end n rest h e d =
    let a : length (take at start) ≡ at = length-take-le at start h in
    let l : length (take at start) + length text ≡ n = omega arith in
    ap (λ (k : ℕ). take k (take at start ++ (text ++ rest))) (sym l) ∙ take-append-add (take at start) (text ++ rest) (length text) ∙ ap (λ (t : List ℕ). take at start ++ t) (take-append_seam text rest)

-- what a line says with a part more, from what it said
pub more : {l r : Line} {x t : List ℕ} → Added l x r → said l ≡ t → said r ≡ t ++ x
more {x = x} h e = h.says ∙ ap (λ (s : List ℕ). s ++ x) e

-- a part, and nothing behind it
pub more_none : {l r : Line} {x : List ℕ} → Added l x r → Added l (x ++ []) r
more_none {l} {r} {x} h = subst (λ (t : List ℕ). Added l t r) (sym (append-nil x)) h

-- two parts more
pub more_both : {l m r : Line} {x y : List ℕ} → Added l x m → Added m y r → Added l (x ++ y) r
more_both {l} {m} {r} {x} {y} h k =
    record { says = more k h.says ∙ append_assoc (said l) x y; counts = let e = length-append x y in omega (arith, h.counts, k.counts) }
