-- A table of summaries filled.
use Prim.Native.Nat.{ℕ, ◌+◌, ◌<◌}
use mathlib.Core.Path.{◌≡◌, refl, sym, ap, ◌∙◌}
use mathlib.Core.List.{List, [], ◌∷◌, ◌++◌, map}
use native.Mathlib.Omega.{arith}
use native.Mathlib.Numerals.{add-one}
use lib.ListN.{length, get_or, take, set}
use lib.Seq.{take-suc, take-suc-set, take_all}
use Rattle.model.specs.Chip.{Image}
use Rattle.model.specs.State.{Segment, blank, segments_of}
use Rattle.model.proofs.Laws.Segments.{segments_length}
use Rattle.judge.specs.declared.Summary.{Summary}
use Rattle.judge.specs.Heads.{bare, outline, heads}

map_append : {A C : Type 0} (f : A → C) (x y : List A) → map f (x ++ y) ≡ map f x ++ map f y
map_append f [] y = refl
map_append {C = C} f (a ∷ x) y = ap {B = List C} (λ z. f a ∷ z) (map_append f x y)

module _ (l : List Segment) (table : List Summary) (i : ℕ) where
  pub filled_turn : (v : Summary) → i < length table → i < length l → bare v ≡ outline (get_or l i blank) → heads i table ≡ map outline (take i l) → heads (i + 1) (set table i v) ≡ map outline (take (i + 1) l)
  unfolding heads
  filled_turn v h k e q =
      rw (add-one i, take-suc-set table i v h, take-suc l i blank k, map_append bare (take i table) (v ∷ []), map_append outline (take i l) (get_or l i blank ∷ []), q, e)

pub filled_end : (N B i : ℕ) (s : Image) (table : List Summary) → i ≡ N → heads i table ≡ map outline (take i (segments_of N B s)) → heads N table ≡ map outline (segments_of N B s)
filled_end N B i s table e q = ap (λ (k : ℕ). heads k table) (sym e) ∙ (q ∙ ap (map outline) (take_all i (segments_of N B s) (omega (arith, segments_length N B s))))
