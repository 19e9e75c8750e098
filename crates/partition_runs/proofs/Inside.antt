-- Steps on the items of one partition: they leave every status and every other partition alone. And a partition filled, as far as a cut lets it.
use Rattle.std.specs.Prelude.{ℕ, zero, suc, ◌+◌, ◌-◌, ◌*◌, ◌/◌, ◌%◌, ◌≤◌, ◌<◌, ◌≡◌, refl, ◌≢◌, Bool, true, false, cond, List, [], ◌∷◌, ◌++◌, length, take, eqb}
use Rattle.std.proofs.Common.{ap, ◌∙◌, inl, inr, ⊎_elim, arith, suc-mul, mul-le-mul_right, mod-eq_of_lt, length-append, take_all, ne_eqb}
use Rattle.std.proofs.Math.Nat.{mul-add-mod_self_right}
use Rattle.std.proofs.Math.Decide.{dec_lt, dec_le, ℕ_discrete}
use Rattle.std.proofs.lemmas.List.{take-append-le}
use Rattle.model.specs.Chip.{Step, program, erase}
use Rattle.model.specs.Steps.{programs}
use Rattle.model.proofs.Laws.Programs.{Outside}
use Rattle.partitions.specs.Items.{identifier_at}
use Rattle.partitions.specs.Writes.{Entry, write_item, write_items, fill}
use Rattle.partition_runs.specs.Law.{statuses_set}
use Rattle.partition_runs.specs.Effects.{Leaves}

-- ---- partitions apart

-- a byte of partition r is no byte of partition q
pub apart : (S r q k : ℕ) → r ≢ q → k < S → Outside (r * S + k) (q * S) S
apart S r q k n h = elim (dec_lt r q) [
  | yes l ↦ inl (omega (arith, suc-mul r S, mul-le-mul_right S l))
  | no l ↦ inr (omega (arith, suc-mul q S, mul-le-mul_right S (above l)))
]
  where
    above : (r < q → ⊥) → suc q ≤ r
    above l = elim (ℕ_discrete r q) [ yes e ↦ absurd (n e) | no e ↦ omega arith ]

-- the first byte of no partition is behind the first and before the end of another
status_apart : (S r q i : ℕ) → q * S < i → i < q * S + S → r * S ≢ i
status_apart S r q i l h e = elim (dec_le r q) [
  | yes k ↦ omega (arith, mul-le-mul_right S k)
  | no k ↦ omega (arith, suc-mul q S, mul-le-mul_right S (above k))
]
  where
    above : (r ≤ q → ⊥) → suc q ≤ r
    above k = omega arith

-- ---- steps on items

-- every step programs a byte of partition q behind its status
abbrev pub Within : ℕ → ℕ → List Step → Type 0
Within S q [] = Unit {0}
Within S q (program at v ∷ xs) = (q * S < at) × (at < q * S + S) × Within S q xs
Within S q (erase p ∷ xs) = ⊥

pub within_append : (S q : ℕ) (xs ys : List Step) → Within S q xs → Within S q ys → Within S q (xs ++ ys)
within_append S q [] ys h k = k
within_append S q (program at v ∷ xs) ys h k = (h.0, h.1, within_append S q xs ys h.2 k)
within_append S q (erase p ∷ xs) ys h k = h

pub within_take : (S q n : ℕ) (xs : List Step) → Within S q xs → Within S q (take n xs)
within_take S q zero xs h = tt
within_take S q (suc n) [] h = tt
within_take S q (suc n) (program at v ∷ xs) h = (h.0, h.1, within_take S q n xs h.2)
within_take S q (suc n) (erase p ∷ xs) h = absurd h

pub within_programs : (S q at : ℕ) (vs : List ℕ) → q * S < at → at + length vs ≤ q * S + S → Within S q (programs at vs)
unfolding programs
within_programs S q at [] l h = tt
within_programs S q at (v ∷ vs) l h = (l, omega arith, within_programs S q (suc at) vs (omega arith) (omega arith))

-- an item of the partition
pub item_within : (S q : ℕ) (e : Entry) → length e.contents ≡ e.item.size → 1 ≤ e.item.at → e.item.at + 1 + e.item.size ≤ S → Within S q (write_item S q e)
unfolding write_item identifier_at
item_within S q e l a b = within_append S q (programs (q * S + e.item.at + 1) e.contents) (program (q * S + e.item.at) e.item.identifier ∷ [])
    (within_programs S q (q * S + e.item.at + 1) e.contents (omega arith) (omega arith))
    (omega arith, omega arith, tt)

pub within_leaves : (S q i : ℕ) (xs : List Step) → Within S q xs → Outside i (q * S) S → Leaves S i xs
within_leaves S q i [] h o = tt
within_leaves S q i (program at v ∷ xs) h o = (⊎_elim (λ l e. omega (arith, h.0, l, e)) (λ l e. omega (arith, h.1, l, e)) o, within_leaves S q i xs h.2 o)
within_leaves S q i (erase p ∷ xs) h o = absurd h

-- the status of every partition, its own too
pub within_status : (S q r : ℕ) (xs : List Step) → Within S q xs → Leaves S (r * S) xs
within_status S q r [] h = tt
within_status S q r (program at v ∷ xs) h = (status_apart S r q at h.0 h.1, within_status S q r xs h.2)
within_status S q r (erase p ∷ xs) h = absurd h

pub within_sets : (S q : ℕ) (xs : List Step) → Within S q xs → statuses_set S xs ≡ []
unfolding statuses_set
within_sets S q [] h = refl
within_sets S q (program at v ∷ xs) h =
    let k = at - q * S in
    let e : at ≡ q * S + k = omega (arith, h.0) in
    let m : at % S ≡ k = ap (λ (y : ℕ). y % S) e ∙ mul-add-mod_self_right q S k ∙ mod-eq_of_lt (omega (arith, h.0, h.1)) in
    rw (ne_eqb (at % S) 0 (λ z. omega (arith, h.0, m, z))) (within_sets S q xs h.2)
within_sets S q (erase p ∷ xs) h = absurd h

pub sets_append : (S : ℕ) (xs ys : List Step) → statuses_set S (xs ++ ys) ≡ statuses_set S xs ++ statuses_set S ys
unfolding statuses_set
sets_append S [] ys = refl
sets_append S (program at v ∷ xs) ys = go (eqb (at % S) 0) (sets_append S xs ys)
  where
    go : (t : Bool) → statuses_set S (xs ++ ys) ≡ statuses_set S xs ++ statuses_set S ys
        → cond t (at / S ∷ statuses_set S (xs ++ ys)) (statuses_set S (xs ++ ys)) ≡ cond t (at / S ∷ statuses_set S xs) (statuses_set S xs) ++ statuses_set S ys
    go true e = ap (λ (l : List ℕ). at / S ∷ l) e
    go false e = e
sets_append S (erase p ∷ xs) ys = sets_append S xs ys

-- ---- a partition filled

-- what is done of it: nothing; the erase and some of the items' steps; or all
pub data Part (S q v : ℕ) (es : List Entry) (n : ℕ) : List Step → Type 0 where
  none : n < length (fill S q es v) → Part S q v es n []
  some : (k : ℕ) → k ≤ length (write_items S q es) → n < length (fill S q es v) → Part S q v es n (erase q ∷ take k (write_items S q es))
  whole : length (fill S q es v) ≤ n → Part S q v es n (fill S q es v)

pub part_of : (S q v : ℕ) (es : List Entry) (n : ℕ) → Part S q v es n (take n (fill S q es v))
unfolding fill
part_of S q v es zero = none (omega arith)
part_of S q v es (suc k) = elim (dec_le k (length (write_items S q es))) [ yes h ↦ cut h | no h ↦ full (omega arith) ]
  where
    cut : k ≤ length (write_items S q es) → Part S q v es (suc k) (erase q ∷ take k (write_items S q es ++ (program (q * S) v ∷ [])))
    cut h = rw (take-append-le k (write_items S q es) (program (q * S) v ∷ []) h) (some k h (omega (arith, length-append (write_items S q es) (program (q * S) v ∷ []))))

    full : length (write_items S q es) < k → Part S q v es (suc k) (erase q ∷ take k (write_items S q es ++ (program (q * S) v ∷ [])))
    full h =
        let l = length-append (write_items S q es) (program (q * S) v ∷ []) in
        rw (take_all k (write_items S q es ++ (program (q * S) v ∷ [])) (omega (arith, l))) (whole (omega (arith, l)))
