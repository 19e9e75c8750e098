-- Numbers put behind those that are listed.
use Prim.Native.Nat.{ℕ, zero, suc, ◌+◌, ◌-◌, ◌≤◌, min}
use mathlib.Core.Path.{◌≡◌, refl, sym, ap, ◌∙◌}
use mathlib.Core.List.{List, [], ◌∷◌, ◌++◌, append_assoc}
use native.Mathlib.Omega.{arith}
use lib.ListN.{length, take, drop, length-append, take-append-drop, length-drop}
use lib.Seq.{length-take-le, take-append-add, drop-append-add, take_at, drop_at}
use Rattle.qbx_share_file.specs.AnyFile.{over}
use Rattle.qbx_share_file.specs.Steps.{behind, Kept}

pub behind_none : {T : Type 0} (count : ℕ) (lent : List T) → behind count [] lent ≡ lent
unfolding behind over
behind_none count lent = take-append-drop count lent

pub kept_none : {T : Type 0} (count : ℕ) (lent : List T) → count ≤ length lent → Kept [] count lent count lent
kept_none count lent h = record { puts = λ more. refl; counts = λ more. omega arith; within = h; long = refl }

over_nothing : {T : Type 0} (ns : List T) → over ns [] ≡ []
unfolding over
over_nothing [] = refl
over_nothing (n ∷ ns) = refl

-- of some numbers and more, as many go over a list's first as it holds, and the rest over what is behind them
over_more : {T : Type 0} (ns more lent : List T) (k : ℕ) → k ≡ min (length ns) (length lent) → over (ns ++ more) lent ≡ take k ns ++ over more (drop k lent)
unfolding over
over_more [] more lent zero e = refl
over_more [] more lent (suc k) e = absurd (omega arith)
over_more (n ∷ ns) more [] zero e = sym (over_nothing more)
over_more (n ∷ ns) more [] (suc k) e = absurd (omega arith)
over_more (n ∷ ns) more (x ∷ lent) zero e = absurd (omega arith)
over_more (n ∷ ns) more (x ∷ lent) (suc k) e = ap (λ l. n ∷ l) (over_more ns more lent k (omega arith))

-- as many of them as there is room for, in their place
pub kept_some : {T : Type 0} (ns lent new : List T) (count n k : ℕ) → count ≤ length lent → n ≡ min (length ns) (length lent - count) → k ≡ n → new ≡ take n ns
    → Kept ns count lent (count + n) (take count lent ++ (new ++ drop k (drop count lent)))
unfolding behind
kept_some {T} ns lent new count n k h e d w =
    let a = take count lent in
    let l = drop count lent in
    let after = a ++ (new ++ drop k l) in
    let room : length l ≡ length lent - count = length-drop count lent in
    let la : length a ≡ count = length-take-le count lent h in
    let ln : length new ≡ n = ap length w ∙ length-take-le n ns (omega arith) in
    let first : take (count + n) after ≡ a ++ new = ap (λ (m : ℕ). take (m + n) after) (sym la) ∙ take-append-add a (new ++ drop k l) n ∙ ap (λ (x : List T). a ++ x) (take_at new (drop k l) n ln) in
    let rest : drop (count + n) after ≡ drop k l = ap (λ (m : ℕ). drop (m + n) after) (sym la) ∙ drop-append-add a (new ++ drop k l) n ∙ drop_at new (drop k l) n ln in
    record {
      puts = λ more. rw (first, rest, append_assoc a new (over more (drop k l)), w, d) (ap (λ (x : List T). a ++ x) (over_more ns more l n (omega (arith, room))));
      counts = λ more. omega arith;
      within = omega arith;
      long = omega (arith, length-append a (new ++ drop k l), length-append new (drop k l), length-drop k l, la, ln, room, d);
    }
