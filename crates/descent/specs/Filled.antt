-- A table filled by index.
use Rattle.std.specs.Prelude.{ℕ, ◌+◌, ◌<◌, ◌≡◌, refl, List, [], ◌∷◌, ◌++◌, map, length, get_or, take, set}
use Rattle.std.proofs.Common.{sym, ap, add-one, take-suc, take-suc-set}

map_snoc : {A C : Type 0} (f : A → C) (x : List A) (a : A) → map f (x ++ (a ∷ [])) ≡ map f x ++ (f a ∷ [])
map_snoc f [] a = refl
map_snoc {A} {C} f (b ∷ x) a = ap {B = List C} (λ y. f b ∷ y) (map_snoc f x a)

pub fill_more : {A C : Type 0} (f : A → C) (xs : List A) (d : A) (table : List C) (i : ℕ) (v : C) → i < length xs → i < length table → v ≡ f (get_or xs i d) → take i table ≡ map f (take i xs)
    → take (i + 1) (set table i v) ≡ map f (take (i + 1) xs)
fill_more f xs d table i v h k q e =
    rw (add-one i, take-suc-set table i v k, take-suc xs i d h, e, q) (sym (map_snoc f (take i xs) (get_or xs i d)))
