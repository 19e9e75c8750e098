-- The statuses of an image, one partition after the other: how many there may be, what follows what, and the ends of runs.
use Prim.Native.Nat.{ℕ, zero, suc, ◌+◌, ◌-◌, ◌*◌, ◌%◌, ◌≤◌, ◌<◌}
use mathlib.Core.Path.{◌≡◌, refl, sym, ap, ◌∙◌}
use mathlib.Core.Bool.{Bool, true, false, cond, ◌&&◌, not, and-true, and-false, true≢false}
use mathlib.Core.List.{List, [], ◌∷◌, ◌++◌, append-nil}
use native.Mathlib.Omega.{arith}
use native.Mathlib.Numerals.{add-one}
use native.Mathlib.Nat.{zero-mul, suc-mul, mul-le-mul_right, mod-lt, mod-eq_of_lt, mod_self, mul-lt-mul_of_pos_right}
use native.Mathlib.Decide.{dec_le}
use lib.ListN.{length, get_or, length-append}
use lib.Dec.{eqb}
use borrow.Author.Tests.{eqb-true, ne_eqb, not-true}
use Rattle.std.specs.Prelude.{Option, Some, None, is_some, Ok}
use Rattle.model.specs.Lists.{all}
use Rattle.model.specs.Laws.Lists.{and_left, all_append}
use Rattle.model.specs.Chip.{Image}
use Rattle.partitions.proofs.Laws.{kept_append}
use Rattle.partitions.specs.Partitions.{no_status, next_status, status_of, next_partition, ends_run, indices, kept, nothing, no_run, only_one, newest_in}
use Rattle.partition_status.specs.Said.{said}

-- ---- the partitions' places, and the next one

-- a partition's first byte is one of the image
pub inside : (P S p n : ℕ) → p < P → 0 < S → P * S ≤ n → p * S < n
inside P S p n h k f = omega (arith, mul-lt-mul_of_pos_right h k)

module _ (P p : ℕ) where
  pub next_below : p < P → next_partition P p < P
  unfolding next_partition
  next_below h = mod-lt (p + 1) (omega arith)

  pub next_first : p + 1 ≡ P → 0 ≡ next_partition P p
  unfolding next_partition
  next_first e = rw e (sym (mod_self P))

  pub next_inner : p + 1 < P → p + 1 ≡ next_partition P p
  unfolding next_partition
  next_inner h = sym (mod-eq_of_lt h)

-- ---- where a run ends

-- a partition has no status
abbrev pub none : ℕ → Image → ℕ → Bool
none S s p = eqb (status_of S s p) no_status

-- no status follows another that is there
follows_none : (v u : ℕ) → u ≡ no_status → not (eqb v no_status) && not (eqb u (next_status v)) ≡ false → eqb v no_status ≡ true
unfolding next_status
follows_none v u e = go (eqb v no_status)
  where
    byte : (v + 1) % 255 < 255
    byte = mod-lt (v + 1) (omega arith)

    go : (t : Bool) → not t && not (eqb u ((v + 1) % 255)) ≡ false → t ≡ true
    go true h = refl
    go false h = absurd (true≢false (rw (ne_eqb u ((v + 1) % 255) (λ f. omega (arith, byte))) at h))

-- ---- all partitions, one more at a time

module _ (f : ℕ → Bool) (k : ℕ) where
  all_next : all f (indices (k + 1)) ≡ all f (indices k) && f k
  unfolding indices all
  all_next = rw (add-one k, all_append f (indices k) (k ∷ []), and-true (f k))

  kept_one : f k ≡ true → kept f (indices (k + 1)) ≡ kept f (indices k) ++ (k ∷ [])
  unfolding indices kept
  kept_one e = rw (add-one k, kept_append f (indices k) (k ∷ []), e)

  kept_none : f k ≡ false → kept f (indices (k + 1)) ≡ kept f (indices k)
  unfolding indices kept
  kept_none e = rw (add-one k, kept_append f (indices k) (k ∷ []), e) (append-nil (kept f (indices k)))

-- a test that fails of one fails of all
all_fails : (f : ℕ → Bool) (k P : ℕ) → k < P → f k ≡ false → all f (indices P) ≡ false
all_fails f k zero h e = absurd (omega arith)
all_fails f k (suc P) h e = rw (← add-one P) (all_next f P ∙ elim (dec_le P k) [ yes l ↦ here (omega arith) | no l ↦ rw (all_fails f k P (omega arith) e) ])
  where
    here : k ≡ P → all f (indices P) && f P ≡ false
    here q = rw (← q, e) (and-false (all f (indices k)))

-- what is kept of the first is kept of all
kept_grows : (f : ℕ → Bool) (k P : ℕ) → k ≤ P → length (kept f (indices k)) ≤ length (kept f (indices P))
unfolding indices
kept_grows f k zero h = let e : k ≡ zero = omega arith in rw e (omega arith)
kept_grows f k (suc P) h = elim (dec_le k P) [ yes l ↦ rw (kept_append f (indices P) (P ∷ [])) (omega (arith, kept_grows f k P l, length-append (kept f (indices P)) (kept f (P ∷ [])))) | no l ↦ whole (omega arith) ]
  where
    whole : k ≡ suc P → length (kept f (indices k)) ≤ length (kept f (indices P ++ (P ∷ [])))
    whole e = rw e (omega arith)

several : (xs : List ℕ) → (length xs ≡ 1 → ⊥) → only_one xs ≡ no_run
unfolding only_one
several [] n = refl
several (x ∷ []) n = absurd (n refl)
several (x ∷ y ∷ xs) n = refl

-- ---- the loop over the partitions

-- where a run ends, if one does
abbrev pub end_of : Option ℕ → List ℕ
end_of None = []
end_of (Some p) = p ∷ []

-- what is known of the partitions before k, with the status of the next one and its offset: where a run ends, if one does, and
-- whether one has a status. A run that has not ended goes on with the next.
pub record Looked (P S : ℕ) (s : Image) (last : Option ℕ) (status at k : ℕ) : Type 0 where
  pub within : k ≤ P
  pub here : status ≡ status_of S s (k % P)
  pub place : at ≡ k % P * S
  pub ended : kept (ends_run P S s) (indices k) ≡ end_of last
  pub written : is_some last ≡ true → all (none S s) (indices k) ≡ false
  pub unwritten : is_some last ≡ false → status ≡ no_status → all (none S s) (indices k) ≡ true

pub looked_none : (P S : ℕ) (s : Image) → 0 < P → Looked P S s None (get_or s 0 0) 0 0
unfolding indices all kept status_of
looked_none P S s h =
    let e : 0 % P ≡ 0 = mod-eq_of_lt h in
    record {
      within = omega arith;
      here = rw (e, zero-mul);
      place = rw (e, zero-mul);
      ended = refl;
      written = λ o. cc;
      unwritten = λ o n. refl;
    }

-- no partition at all
pub found_no_partition : (P S : ℕ) (s : Image) → P ≡ 0 → nothing ≡ newest_in P S s
unfolding newest_in indices all
found_no_partition P S s e = rw e

module _ {P S : ℕ} {s : Image} {last : Option ℕ} {status at k : ℕ} (v : Looked P S s last status at k) where
  is_nothing : is_some last ≡ false → last ≡ None
  is_nothing = go last
    where
      go : (l : Option ℕ) → is_some l ≡ false → l ≡ None
      go None e = refl
      go (Some p) e = cc

  no_end : is_some last ≡ false → end_of last ≡ []
  no_end o = ap end_of (is_nothing o)

  -- one more
  module _ (h : k < P) where
    -- where it stands, and ends
    stands : at ≡ k * S
    stands = v.place ∙ ap (λ (i : ℕ). i * S) (mod-eq_of_lt h)

    pub goes_on : at + S ≤ P * S
    goes_on = omega (arith, mul-le-mul_right S h, suc-mul k S, stands)

    -- where the next one stands
    pub place_first : {b : ℕ} → k ≡ P - 1 → b ≡ 0 → b ≡ next_partition P k * S
    place_first e f = rw (← (next_first P k (omega arith)), zero-mul) f

    pub place_inner : {b : ℕ} → (k ≡ P - 1 → ⊥) → b ≡ at + S → b ≡ next_partition P k * S
    place_inner n f = rw (← (next_inner P k (omega (arith, n)))) (omega (arith, f, stands))

    module _ {b : ℕ} (p : b ≡ next_partition P k * S) {t : Bool} (r : t ≡ not (eqb status no_status) && not (eqb (get_or s b 0) (next_status status))) where
      next_here : get_or s b 0 ≡ status_of S s (next_partition P k)
      unfolding status_of
      next_here = rw p

      own : status ≡ status_of S s k
      own = v.here ∙ ap (status_of S s) (mod-eq_of_lt h)

      test : t ≡ ends_run P S s k
      unfolding ends_run
      test = rw (← own, ← next_here) r

      has_status : t ≡ true → none S s k ≡ false
      has_status e = rw (← own) (not-true (eqb status no_status) (and_left (not (eqb status no_status)) _ (sym r ∙ e)))

      pub looked_end : {l : Option ℕ} → t ≡ true → is_some last ≡ false → l ≡ Some k → Looked P S s l (get_or s b 0) b (k + 1)
      unfolding next_partition
      looked_end q o e = record {
        within = omega arith;
        here = next_here;
        place = p;
        ended = kept_one (ends_run P S s) k (sym test ∙ q) ∙ rw (v.ended, no_end o, e);
        written = λ z. all_fails (none S s) k (k + 1) (omega arith) (has_status q);
        unwritten = λ z. absurd (true≢false (rw e at z));
      }

      pub looked_inner : {l : Option ℕ} → t ≡ false → l ≡ last → Looked P S s l (get_or s b 0) b (k + 1)
      unfolding next_partition
      looked_inner q e = rw e (record {
        within = omega arith;
        here = next_here;
        place = p;
        ended = kept_none (ends_run P S s) k (sym test ∙ q) ∙ v.ended;
        written = λ z. all_next (none S s) k ∙ rw (v.written z);
        unwritten = λ z n.
            let blank : eqb status no_status ≡ true = follows_none status (get_or s b 0) n (sym r ∙ q) in
            all_next (none S s) k ∙ rw (← own, blank, v.unwritten z (eqb-true status no_status blank));
      })

      -- a second end
      pub found_second : t ≡ true → is_some last ≡ true → no_run ≡ newest_in P S s
      unfolding newest_in
      found_second q o =
          let f = ends_run P S s in
          let two : length (kept f (indices (k + 1))) ≡ 2 = ap length (kept_one f k (sym test ∙ q) ∙ rw v.ended) ∙ one_end last o in
          let more = kept_grows f (k + 1) P (omega arith) in
          sym (rw (all_fails (none S s) k P h (has_status q)) (several (kept f (indices P)) (λ z. omega arith)))
        where
          one_end : (l : Option ℕ) → is_some l ≡ true → length (end_of l ++ (k ∷ [])) ≡ 2
          one_end None e = cc
          one_end (Some p) e = refl

  -- all are looked at
  module _ (h : P ≤ k) (some : 0 < P) where
    whole : k ≡ P
    whole = omega (arith, v.within)

    found : {t : Bool} → all (none S s) (indices k) ≡ t → newest_in P S s ≡ cond t nothing (only_one (kept (ends_run P S s) (indices k)))
    unfolding newest_in
    found e = rw (← whole, e)

    first : status ≡ status_of S s 0
    first = v.here ∙ rw (whole, mod_self P)

    pub found_one : is_some last ≡ true → said (Ok last) ≡ newest_in P S s
    unfolding only_one said
    found_one o = sym (found (v.written o) ∙ rw v.ended (go last o))
      where
        go : (l : Option ℕ) → is_some l ≡ true → only_one (end_of l) ≡ said (Ok l)
        go None e = cc
        go (Some p) e = refl

    pub found_ring : is_some last ≡ false → (status ≡ no_status → ⊥) → no_run ≡ newest_in P S s
    unfolding only_one
    found_ring o n = sym (found (all_fails (none S s) 0 k (omega arith) (rw (← first) (ne_eqb status no_status n))) ∙ rw (v.ended, no_end o))

    pub found_nothing : is_some last ≡ false → status ≡ no_status → said (Ok last) ≡ newest_in P S s
    unfolding said
    found_nothing o n = rw (is_nothing o) (sym (found (v.unwritten o n)))
