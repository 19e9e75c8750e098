-- A word that is too long ends in dots.
use Rattle.std.proofs.Common.{ℕ, ◌≡◌, ◌≤◌, length, take, drop, List, [], ◌++◌, append-nil, refl, sym, ap, ◌∙◌, arith}
use lib.ListN.{length-drop, drop_of_length-le}
use lib.Seq.{length-take-le, drop-append_seam}
use Rattle.qbx_system.proofs.System.word.Goals as goal

ends : (xs ys : List ℕ) → length xs ≡ 64 → drop 61 (take 61 xs ++ (ys ++ drop 3 (drop 61 xs))) ≡ ys
ends xs ys e =
    let t : length (take 61 xs) ≡ 61 = length-take-le 61 xs (omega arith) in
    let h : length (drop 61 xs) ≤ 3 = omega (arith, length-drop 61 xs) in
    let n : drop 3 (drop 61 xs) ≡ [] = drop_of_length-le (drop 61 xs) h in
    ap (λ (k : ℕ). drop k (take 61 xs ++ (ys ++ drop 3 (drop 61 xs)))) (sym t) ∙ (drop-append_seam (take 61 xs) (ys ++ drop 3 (drop 61 xs)) ∙ rw (n, append-nil) refl)

pub returns-then-self-eq-ENAMETOOLONG-clause-dotted : goal.returns-then-self-eq-ENAMETOOLONG-clause-dotted
returns-then-self-eq-ENAMETOOLONG-clause-dotted c = λ h. ends c.arg-n.new.buf c.copy_from_slice.new.self (omega arith) ∙ c.copy_from_slice.ensures.after
