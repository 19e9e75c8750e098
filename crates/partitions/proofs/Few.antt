-- No list of a write is long: identifiers are bytes and none comes twice, so that a table has at most 256 items of at most 255 bytes each.
use Rattle.std.specs.Prelude.{ℕ, zero, suc, ◌+◌, ◌*◌, ◌%◌, ◌≤◌, ◌<◌, ◌≡◌, refl, Bool, true, false, cond, ◌&&◌, not, List, [], ◌∷◌, ◌++◌, length, drop, eqb}
use Rattle.std.proofs.Common.{ap, ◌∙◌, arith, suc-mul, mul-le-mul_right, length-append, length-take, eqb-true}
use Rattle.std.proofs.lemmas.Bool.{false≢true, eqb-false}
use Rattle.std.proofs.Math.Decide.{ℕ_discrete}
use Rattle.model.specs.Lists.{all}
use Rattle.model.specs.Chip.{Image, Step, program, erase, Bytes}
use Rattle.model.specs.Steps.{programs}
use Rattle.model.specs.Answers.{Work, first_of}
use Rattle.model.specs.Laws.Lists.{and_left, and_right}
use Rattle.flash.proofs.Laws.{length_programs}
use Rattle.partitions.specs.Layout.{Item, items_from, items_of, distinct, layout_ok, has_item, item_of}
use Rattle.partitions.specs.Partitions.{Newest, nothing, newest, no_run, status_of, next_status, next_partition, image_ok, partition_size, newest_of}
use Rattle.partitions.specs.Items.{identifier_at, data_in, data_at, is_written, is_erased}
use Rattle.partitions.specs.Writes.{Entry, entry_for, write_item, write_items, fill, carried, write_steps}
use Rattle.partitions.specs.Answers.{is_no_run, refusals, item_fits, write_work, worked_in, write_outcome}
use Rattle.partitions.proofs.Laws.{right_layout}

-- ---- distinct identifiers

-- the items but for one identifier
without : ℕ → List Item → List Item
without k [] = []
without k (x ∷ xs) = cond (eqb k x.identifier) (without k xs) (x ∷ without k xs)

Below : ℕ → List Item → Type 0
Below n [] = Unit {0}
Below n (x ∷ xs) = (x.identifier < n) × Below n xs

without_all : (f : Item → Bool) (k : ℕ) (xs : List Item) → all f xs ≡ true → all f (without k xs) ≡ true
unfolding all without
without_all f k [] h = refl
without_all f k (x ∷ xs) h = go (eqb k x.identifier) (and_left (f x) (all f xs) h) (without_all f k xs (and_right (f x) (all f xs) h))
  where
    go : (t : Bool) → f x ≡ true → all f (without k xs) ≡ true → all f (cond t (without k xs) (x ∷ without k xs)) ≡ true
    go true p q = q
    go false p q = rw p q

without_distinct : (k : ℕ) (xs : List Item) → distinct xs ≡ true → distinct (without k xs) ≡ true
unfolding distinct without
without_distinct k [] h = refl
without_distinct k (x ∷ xs) h =
    go (eqb k x.identifier) (without_all (λ y. not (eqb x.identifier y.identifier)) k xs (and_left (all (λ y. not (eqb x.identifier y.identifier)) xs) (distinct xs) h))
    (without_distinct k xs (and_right (all (λ y. not (eqb x.identifier y.identifier)) xs) (distinct xs) h))
  where
    go : (t : Bool) → all (λ y. not (eqb x.identifier y.identifier)) (without k xs) ≡ true → distinct (without k xs) ≡ true → distinct (cond t (without k xs) (x ∷ without k xs)) ≡ true
    go true p q = q
    go false p q = rw p q

-- none has it
without_none : (k : ℕ) (xs : List Item) → all (λ y. not (eqb k y.identifier)) xs ≡ true → without k xs ≡ xs
unfolding all without
without_none k [] h = refl
without_none k (x ∷ xs) h = go (eqb k x.identifier) h (λ w. without_none k xs w)
  where
    go : (t : Bool) → not t && all (λ y. not (eqb k y.identifier)) xs ≡ true → (all (λ y. not (eqb k y.identifier)) xs ≡ true → without k xs ≡ xs) → cond t (without k xs) (x ∷ without k xs) ≡ x ∷ xs
    go true p q = absurd (false≢true p)
    go false p q = ap (λ (l : List Item). x ∷ l) (q p)

-- at most one has it
without_one : (k : ℕ) (xs : List Item) → distinct xs ≡ true → length xs ≤ suc (length (without k xs))
unfolding distinct without
without_one k [] h = omega arith
without_one k (x ∷ xs) h =
    go (eqb k x.identifier) refl (and_left (all (λ y. not (eqb x.identifier y.identifier)) xs) (distinct xs) h)
    (without_one k xs (and_right (all (λ y. not (eqb x.identifier y.identifier)) xs) (distinct xs) h))
  where
    go : (t : Bool) → eqb k x.identifier ≡ t → all (λ y. not (eqb x.identifier y.identifier)) xs ≡ true → length xs ≤ suc (length (without k xs)) → suc (length xs) ≤ suc (length (cond t (without k xs) (x ∷ without k xs)))
    go true e p q = omega (arith, ap length (without_none k xs (rw (← (eqb-true k x.identifier e)) at p)))
    go false e p q = omega arith

less : (n k : ℕ) → k < suc n → (n ≡ k → ⊥) → k < n
less n k h d = elim (ℕ_discrete n k) [ yes e ↦ absurd (d e) | no e ↦ omega arith ]

without_below : (n : ℕ) (xs : List Item) → Below (suc n) xs → Below n (without n xs)
unfolding Below without
without_below n [] b = tt
without_below n (x ∷ xs) b = go (eqb n x.identifier) refl (without_below n xs b.1)
  where
    go : (t : Bool) → eqb n x.identifier ≡ t → Below n (without n xs) → Below n (cond t (without n xs) (x ∷ without n xs))
    go true e q = q
    go false e q = let d = eqb-false n x.identifier e in (less n x.identifier b.0 d, q)

few_below : (n : ℕ) (xs : List Item) → distinct xs ≡ true → Below n xs → length xs ≤ n
unfolding Below
few_below zero [] h b = omega arith
few_below zero (x ∷ xs) h b = absurd (omega (arith, b.0))
few_below (suc n) xs h b = omega (arith, without_one n xs h, few_below n (without n xs) (without_distinct n xs h) (without_below n xs b))

-- ---- items of bytes

Short : List Item → Type 0
Short [] = Unit {0}
Short (x ∷ xs) = (x.size < 256) × Short xs

of_bytes : (o : ℕ) (ns : List ℕ) → Bytes ns → Below 256 (items_from o ns) × Short (items_from o ns)
unfolding items_from Below Short
of_bytes o [] b = (tt, tt)
of_bytes o (i ∷ []) b = (tt, tt)
of_bytes o (i ∷ n ∷ ns) b = let rest = of_bytes (o + 1 + n) ns b.1.1 in ((b.0, rest.0), (b.1.0, rest.1))

short_item : (i : ℕ) (xs : List Item) → Short xs → (item_of i xs).size < 256
unfolding Short item_of
short_item i [] b = omega arith
short_item i (x ∷ xs) b = go (eqb i x.identifier) (short_item i xs b.1)
  where
    go : (t : Bool) → (item_of i xs).size < 256 → (cond t x (item_of i xs)).size < 256
    go true h = b.0
    go false h = h

-- ---- lists

item_steps_lem : (S p : ℕ) (e : Entry) → length (write_item S p e) ≡ length e.contents + 1
unfolding write_item
item_steps_lem S p e =
    let at = identifier_at S p e.item in
    length-append (programs (at + 1) e.contents) (program at e.item.identifier ∷ []) ∙ ap (λ (y : ℕ). y + 1) (length_programs (at + 1) e.contents)

data_short : (S : ℕ) (s : Image) (p : ℕ) (y : Item) → y.size < 256 → length (data_in S s p y) < 256
unfolding data_in
data_short S s p y h = omega (arith, length-take y.size (drop (data_at S p y) s))

carried_steps : (S : ℕ) (s : Image) (p q : ℕ) (e : Entry) → length e.contents < 256 → (xs : List Item) → Short xs → length (write_items S q (carried S s p e xs)) ≤ length xs * 256
unfolding carried write_items Short
carried_steps S s p q e h [] b = omega arith
carried_steps S s p q e h (y ∷ ys) b = go (eqb y.identifier e.item.identifier) (is_written S s p y) (carried_steps S s p q e h ys b.1)
  where
    rest : List Entry
    rest = carried S s p e ys

    copy : Entry
    copy = record { item = y; contents = data_in S s p y }

    go : (t u : Bool) → length (write_items S q rest) ≤ length ys * 256 → length (write_items S q (cond t (e ∷ rest) (cond u (copy ∷ rest) rest))) ≤ suc (length ys) * 256
    go true u r = omega (arith, length-append (write_item S q e) (write_items S q rest), item_steps_lem S q e, suc-mul (length ys) 256)
    go false true r = omega (arith, length-append (write_item S q copy) (write_items S q rest), item_steps_lem S q copy, suc-mul (length ys) 256, data_short S s p y b.0)
    go false false r = omega (arith, suc-mul (length ys) 256)

items_short : (ns : List ℕ) → Bytes ns → Short (items_of ns)
unfolding items_of
items_short ns b = (of_bytes 1 ns b).1

item_short : (ns : List ℕ) (i : ℕ) → Bytes ns → (item_of i (items_of ns)).size < 256
item_short ns i b = short_item i (items_of ns) (items_short ns b)

items_few : (S : ℕ) (ns : List ℕ) → layout_ok S ns ≡ true → Bytes ns → length (items_of ns) ≤ 256
unfolding items_of
items_few S ns ok b = few_below 256 (items_from 1 ns) (right_layout S ns ok).once (of_bytes 1 ns b).0

-- every list of a write
pub few_steps : (P S : ℕ) (ns : List ℕ) (s : Image) (n : Newest) (i : ℕ) (d : List ℕ) → layout_ok S ns ≡ true → Bytes ns → length d ≡ (item_of i (items_of ns)).size
    → length (write_steps P S (items_of ns) s n (record { item = item_of i (items_of ns); contents = d })) ≤ 65538
unfolding write_steps fill write_items
few_steps P S ns s n i d ok b l = go n
  where
    xs : List Item
    xs = items_of ns

    e : Entry
    e = record { item = item_of i xs; contents = d }

    short : length d < 256
    short = omega (arith, item_short ns i b)

    many : length xs ≤ 256
    many = items_few S ns ok b

    filled : (q v : ℕ) (ys : List Step) → length ys ≤ 65536 → length (erase q ∷ (ys ++ (program (q * S) v ∷ []))) ≤ 65538
    filled q v ys h = omega (arith, length-append ys (program (q * S) v ∷ []))

    first : length (write_item S 0 e ++ []) ≤ 65536
    first = omega (arith, length-append (write_item S 0 e) [], item_steps_lem S 0 e, short)

    next : (p q : ℕ) → length (write_items S q (carried S s p e xs)) ≤ 65536
    next p q = omega (arith, carried_steps S s p q e short xs (items_short ns b), mul-le-mul_right 256 many)

    again : (p : ℕ) (t : Bool) → length (cond t (write_item S p e) (fill S (next_partition P p) (carried S s p e xs) (next_status (status_of S s p)))) ≤ 65538
    again p true = omega (arith, item_steps_lem S p e, short)
    again p false = filled (next_partition P p) (next_status (status_of S s p)) (write_items S (next_partition P p) (carried S s p e xs)) (next p (next_partition P p))

    go : (n : Newest) → length (write_steps P S xs s n e) ≤ 65538
    go nothing = filled 0 0 (write_item S 0 e ++ []) first
    go (newest p) = again p (is_erased S s p e.item)
    go no_run = omega arith

few_worked : (P : ℕ) (ns : List ℕ) (s : Image) (i : ℕ) (d : List ℕ) → Bytes ns → length (write_work P ns s i d).steps ≤ 65538
unfolding write_work refusals first_of item_fits
few_worked P ns s i d b = go (image_ok P s) (layout_ok S ns) refl (has_item i (items_of ns)) (eqb (length d) (item_of i (items_of ns)).size) refl (is_no_run (newest_of P s))
  where
    S : ℕ
    S = partition_size P s

    list : List Step
    list = write_steps P S (items_of ns) s (newest_of P s) (entry_for ns i d)

    go : (a t : Bool) → layout_ok S ns ≡ t → (h l : Bool) → eqb (length d) (item_of i (items_of ns)).size ≡ l → (n : Bool)
        → length (cond {A = Work} (eqb (cond (not a) 1 (cond (not t) 2 (cond (not (h && l)) 3 (cond n 4 0)))) 0) (record { code = 0; steps = list }) (record { code = cond (not a) 1 (cond (not t) 2 (cond (not (h && l)) 3 (cond n 4 0))); steps = [] })).steps ≤ 65538
    go true true e true true f true = omega arith
    go true true e true true f false = few_steps P S ns s (newest_of P s) i d e b (eqb-true (length d) (item_of i (items_of ns)).size f)
    go true true e true false f n = omega arith
    go true true e false l f n = omega arith
    go true false e h l f n = omega arith
    go false t e h l f n = omega arith

-- the steps that a write does
pub few_done : (P : ℕ) (ns : List ℕ) (s : Image) (i : ℕ) (d : List ℕ) (allowance : ℕ) → Bytes ns → (write_outcome P ns s i d allowance).count ≤ 65538
unfolding write_outcome worked_in
few_done P ns s i d allowance b = omega (arith, length-take allowance (write_work P ns s i d).steps, few_worked P ns s i d b)

-- ---- a right table is short

even_length : (o : ℕ) (ns : List ℕ) → length ns % 2 ≡ 0 → length ns ≡ length (items_from o ns) * 2
unfolding items_from
even_length o [] e = omega arith
even_length o (i ∷ []) e = absurd (omega arith)
even_length o (i ∷ n ∷ ns) e = let r = even_length (o + 1 + n) ns (omega arith) in omega arith

pub short_table : (S : ℕ) (ns : List ℕ) → layout_ok S ns ≡ true → Bytes ns → length ns ≤ 512
unfolding items_of
short_table S ns ok b = omega (arith, even_length 1 ns (right_layout S ns ok).even, items_few S ns ok b)
