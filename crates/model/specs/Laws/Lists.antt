-- Laws of lists: tests and counts, rows joined, elements of a map. And numbers modulo N.
use Rattle.std.specs.Prelude.{ℕ, zero, suc, ◌+◌, ◌*◌, ◌/◌, ◌%◌, ◌≤◌, ◌<◌, ◌≡◌, refl, Bool, true, false, cond, ◌&&◌, not, length, get_or, set, replicate}
use Rattle.std.proofs.Common.{sym, ap, ◌∙◌, true≢false, arith, div-add-mod', mul-le-mul_right}
use Rattle.std.proofs.lemmas.Bool.{false≢true}
use Rattle.std.proofs.Math.Bool.{and_assoc, and-eq-true_iff}
use mathlib.Core.List.{List, [], ◌∷◌, ◌++◌, map, flatten, append_assoc, append-nil}
use Rattle.std.proofs.Math.Decide.{dec_lt}
use Rattle.model.specs.Lists.{all, count}

-- ---- conjunction

pub and_left : (a b : Bool) → a && b ≡ true → a ≡ true
and_left true b h = refl
and_left false b h = h

pub and_right : (a b : Bool) → a && b ≡ true → b ≡ true
and_right true b h = h
and_right false b h = absurd (false≢true h)

pub and_both : (a b : Bool) → a ≡ true → b ≡ true → a && b ≡ true
and_both a b h k = rw (h, k)

-- ---- every element

pub all_append : {A : Type 0} (f : A → Bool) (xs ys : List A) → all f (xs ++ ys) ≡ all f xs && all f ys
unfolding all
all_append f [] ys = refl
all_append f (x ∷ xs) ys = ap (λ y. f x && y) (all_append f xs ys) ∙ sym (and_assoc (f x) (all f xs) (all f ys))

pub all_join : {A : Type 0} (f : A → Bool) (x y : List A) → all f x ≡ true → all f y ≡ true → all f (x ++ y) ≡ true
all_join f x y p q = rw (all_append f x y, p) q

pub all_parts : {A : Type 0} (f : A → Bool) (x y : List A) → all f (x ++ y) ≡ true → (all f x ≡ true) × (all f y ≡ true)
all_parts f x y h = (and-eq-true_iff (all f x) (all f y)).0 (sym (all_append f x y) ∙ h)

pub all_flatten : {A : Type 0} (f : A → Bool) (l : List (List A)) → all f (flatten l) ≡ all (λ s. all f s) l
unfolding all flatten
all_flatten f [] = refl
all_flatten f (s ∷ l) = all_append f s (flatten l) ∙ ap (λ t. all f s && t) (all_flatten f l)

pub all_replicate : {A : Type 0} (f : A → Bool) (a : A) → f a ≡ true → (n : ℕ) → all f (replicate n a) ≡ true
unfolding all
all_replicate f a h zero = refl
all_replicate f a h (suc n) = rw h (all_replicate f a h n)

-- of rows: of each row
pub all_row : {A : Type 0} (f : A → Bool) (rows : List (List A)) (i : ℕ) → all f (flatten rows) ≡ true → all f (get_or rows i []) ≡ true
unfolding all flatten
all_row f [] i q = refl
all_row f (x ∷ rows) zero q = (all_parts f x (flatten rows) q).0
all_row f (x ∷ rows) (suc i) q = all_row f rows i (all_parts f x (flatten rows) q).1

pub all_get : {A : Type 0} (f : A → Bool) (xs : List A) (i : ℕ) (d : A) → all f xs ≡ true → i < length xs → f (get_or xs i d) ≡ true
unfolding all
all_get f [] i d h l = absurd (omega arith)
all_get f (x ∷ xs) zero d h l = and_left (f x) (all f xs) h
all_get f (x ∷ xs) (suc i) d h l = all_get f xs i d (and_right (f x) (all f xs) h) (omega arith)

pub all_same : {A : Type 0} (f : A → Bool) (l : List A) (i : ℕ) (y d : A) → f y ≡ f (get_or l i d) → all f (set l i y) ≡ all f l
unfolding all
all_same f [] i y d e = refl
all_same f (x ∷ l) zero y d e = ap (λ t. t && all f l) e
all_same f (x ∷ l) (suc i) y d e = ap (λ t. f x && t) (all_same f l i y d e)

pub all_set : {A : Type 0} (f : A → Bool) (xs : List A) (i : ℕ) (y : A) → all f xs ≡ true → f y ≡ true → all f (set xs i y) ≡ true
unfolding all
all_set f [] i y h k = refl
all_set f (x ∷ xs) zero y h k = and_both (f y) (all f xs) k (and_right (f x) (all f xs) h)
all_set f (x ∷ xs) (suc i) y h k = and_both (f x) (all f (set xs i y)) (and_left (f x) (all f xs) h) (all_set f xs i y (and_right (f x) (all f xs) h) k)

-- a test that fails at one element fails of the list
pub all_fails : {A : Type 0} (f : A → Bool) (xs : List A) (i : ℕ) (d : A) → i < length xs → f (get_or xs i d) ≡ false → all f xs ≡ false
unfolding all
all_fails f [] i d l h = absurd (omega arith)
all_fails f (x ∷ xs) zero d l h = rw h
all_fails f (x ∷ xs) (suc i) d l h = go (f x) (all f xs) (all_fails f xs i d (omega arith) h)
  where
    go : (a b : Bool) → b ≡ false → a && b ≡ false
    go true b q = q
    go false b q = refl

-- ---- counting

unfoldable pub one : Bool → ℕ
one true = 1
one false = 0

pub count_append : {A : Type 0} (f : A → Bool) (x y : List A) → count f (x ++ y) ≡ count f x + count f y
unfolding count
count_append f [] y = omega arith
count_append f (e ∷ x) y = go (f e) (count_append f x y)
  where
    go : (t : Bool) → count f (x ++ y) ≡ count f x + count f y → cond t (suc (count f (x ++ y))) (count f (x ++ y)) ≡ cond t (suc (count f x)) (count f x) + count f y
    go true h = omega arith
    go false h = h

pub count_set : {A : Type 0} (f : A → Bool) (xs : List A) (i : ℕ) (y d : A) → i < length xs → count f (set xs i y) + one (f (get_or xs i d)) ≡ count f xs + one (f y)
unfolding count one
count_set f [] i y d h = absurd (omega arith)
count_set f (x ∷ xs) zero y d h = go (f x) (f y)
  where
    go : (a b : Bool) → cond b (suc (count f xs)) (count f xs) + one a ≡ cond a (suc (count f xs)) (count f xs) + one b
    go true true = refl
    go true false = omega arith
    go false true = omega arith
    go false false = refl
count_set f (x ∷ xs) (suc i) y d h = go (f x) (count_set f xs i y d (omega arith))
  where
    go : (a : Bool) → count f (set xs i y) + one (f (get_or xs i d)) ≡ count f xs + one (f y)
        → cond a (suc (count f (set xs i y))) (count f (set xs i y)) + one (f (get_or xs i d)) ≡ cond a (suc (count f xs)) (count f xs) + one (f y)
    go true e = omega arith
    go false e = e

-- wherever it is, there or not
pub count_set_most : {A : Type 0} (f : A → Bool) (xs : List A) (i : ℕ) (y : A) → count f (set xs i y) ≤ one (f y) + count f xs
unfolding count one
count_set_most f [] i y = omega arith
count_set_most f (x ∷ xs) zero y = go (f x) (f y)
  where
    go : (a b : Bool) → cond b (suc (count f xs)) (count f xs) ≤ one b + cond a (suc (count f xs)) (count f xs)
    go true true = omega arith
    go true false = omega arith
    go false true = omega arith
    go false false = omega arith
count_set_most f (x ∷ xs) (suc i) y = go (f x) (count_set_most f xs i y)
  where
    go : (a : Bool) → count f (set xs i y) ≤ one (f y) + count f xs → cond a (suc (count f (set xs i y))) (count f (set xs i y)) ≤ one (f y) + cond a (suc (count f xs)) (count f xs)
    go true h = omega arith
    go false h = h

pub count_none : {A : Type 0} (f : A → Bool) (xs : List A) (i : ℕ) (d : A) → count f xs ≡ 0 → i < length xs → f (get_or xs i d) ≡ false
unfolding count
count_none f [] i d h l = absurd (omega arith)
count_none f (x ∷ xs) zero d h l = go (f x) h
  where
    go : (a : Bool) → cond a (suc (count f xs)) (count f xs) ≡ 0 → a ≡ false
    go true e = absurd (omega arith)
    go false e = refl
count_none f (x ∷ xs) (suc i) d h l = count_none f xs i d (go (f x) h) (omega arith)
  where
    go : (a : Bool) → cond a (suc (count f xs)) (count f xs) ≡ 0 → count f xs ≡ 0
    go true e = absurd (omega arith)
    go false e = e

-- none passes a test if the count is 0, and only then
pub none_count : {A : Type 0} (f : A → Bool) (s : List A) → all (λ k. not (f k)) s ≡ true → count f s ≡ 0
unfolding all count
none_count f [] h = refl
none_count f (k ∷ s) h = go (f k) h (λ p. none_count f s p)
  where
    go : (t : Bool) → (not t && all (λ x. not (f x)) s) ≡ true → (all (λ x. not (f x)) s ≡ true → count f s ≡ 0) → cond t (suc (count f s)) (count f s) ≡ 0
    go true p ih = absurd (false≢true p)
    go false p ih = ih p

pub some_count : {A : Type 0} (f : A → Bool) (s : List A) → all (λ k. not (f k)) s ≡ false → 1 ≤ count f s
unfolding all count
some_count f [] h = absurd (true≢false h)
some_count f (k ∷ s) h = go (f k) h (λ p. some_count f s p)
  where
    go : (t : Bool) → (not t && all (λ x. not (f x)) s) ≡ false → (all (λ x. not (f x)) s ≡ false → 1 ≤ count f s) → 1 ≤ cond t (suc (count f s)) (count f s)
    go true p ih = omega arith
    go false p ih = ih p

-- ---- rows joined

pub flatten_append : {A : Type 0} (a b : List (List A)) → flatten (a ++ b) ≡ flatten a ++ flatten b
unfolding flatten
flatten_append [] b = refl
flatten_append (s ∷ a) b = rw (flatten_append a b) (sym (append_assoc s (flatten a) (flatten b)))

pub flatten_one : {A : Type 0} (s : List A) → flatten (s ∷ []) ≡ s
unfolding flatten
flatten_one s = append-nil s

pub flatten_last : {A : Type 0} (a : List (List A)) (t : List A) → flatten (a ++ (t ∷ [])) ≡ flatten a ++ t
flatten_last a t = flatten_append a (t ∷ []) ∙ rw (flatten_one t)

-- ---- elements of a map, and of a set list

pub map_set : {A B : Type 0} (f : A → B) (xs : List A) (i : ℕ) (y : A) → map f (set xs i y) ≡ set (map f xs) i (f y)
map_set f [] i y = refl
map_set f (x ∷ xs) zero y = refl
map_set {B = B} f (x ∷ xs) (suc i) y = ap {B = List B} (λ z. f x ∷ z) (map_set f xs i y)

pub map_length : {A B : Type 0} (f : A → B) (xs : List A) → length (map f xs) ≡ length xs
map_length f [] = refl
map_length f (x ∷ xs) = ap suc (map_length f xs)

pub map_get : {A B : Type 0} (f : A → B) (xs : List A) (i : ℕ) (d : A) (e : B) → i < length xs → get_or (map f xs) i e ≡ f (get_or xs i d)
map_get f [] i d e h = absurd (omega arith)
map_get f (x ∷ xs) zero d e h = refl
map_get f (x ∷ xs) (suc i) d e h = map_get f xs i d e (omega arith)

-- ---- numbers modulo N

-- two numbers less than N apart with one remainder are equal
pub mod_inj : (N a b : ℕ) → a ≤ b → b < a + N → a % N ≡ b % N → a ≡ b
mod_inj N a b h k e =
    let da = div-add-mod' a N in
    let db = div-add-mod' b N in
    elim (dec_lt (a / N) (b / N)) [
      | yes l ↦ absurd (omega (arith, mul-le-mul_right N l))
      | no l ↦ elim (dec_lt (b / N) (a / N)) [ yes r ↦ absurd (omega (arith, mul-le-mul_right N r)) | no r ↦ omega (arith, ap (λ (y : ℕ). y * N) (quotients (a / N) (b / N) l r)) ]
    ]
  where
    quotients : (x y : ℕ) → ¬ (x < y) → ¬ (y < x) → x ≡ y
    quotients x y p q = omega arith
