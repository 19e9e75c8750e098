-- The items of one partition carried to an erased one: there each item holds what it held, and the written one its new data.
use Rattle.std.specs.Prelude.{ℕ, ◌+◌, ◌*◌, ◌≤◌, ◌<◌, ◌≡◌, ◌⊎◌, ◌≢◌, Bool, ◌||◌, ◌&&◌, length, drop}
use Rattle.std.proofs.Math.Path.{refl, ap}
use Rattle.std.proofs.Common.{sym, ◌∙◌, subst, inl, inr, arith}
use Rattle.std.proofs.Math.Bool.{true, false, cond, not, false≢true}
use mathlib.Core.List.{List, [], ◌∷◌, ◌++◌, append_assoc, append-nil}
use Rattle.std.proofs.Math.ListN.{get_or, length-drop}
use Rattle.std.proofs.Math.Seq.{length-take-le}
use Rattle.std.proofs.Math.Dec.{eqb}
use borrow.Author.Tests.{eqb-true, eqb-false, eq-eqb, not-true}
use Rattle.model.specs.Lists.{all}
use Rattle.model.specs.Chip.{Image, Step, Bytes}
use Rattle.model.specs.Table.{Found, absent, present}
use Rattle.model.specs.Laws.Lists.{and_left, and_right}
use Rattle.model.proofs.Laws.Bytes.{bytes_take, bytes_drop}
use Rattle.flash.specs.Units.{run_in}
use Rattle.partitions.specs.Layout.{Item, items_from, items_of, distinct, bytes_used, has_item, item_of}
use Rattle.partitions.specs.Items.{identifier_at, data_at, data_in, is_written}
use Rattle.partitions.specs.Writes.{Entry, write_item, write_items, carried}
use Rattle.partitions.proofs.Laws.{RightLayout, item_lies, used_some}
use Rattle.partition_runs.specs.Effects.{run_append, run_length, Leaves, left_alone, leaves_append}
use Rattle.partition_runs.proofs.Inside.{Within, within_append, item_within}
use Rattle.partition_runs.specs.Values.{value_at, same_value, absent_value, item_leaves, item_written}

carried_bytes : (S : ℕ) (s : Image) (p : ℕ) (x : Item) → Bytes s → Bytes (data_in S s p x)
unfolding data_in
carried_bytes S s p x b = bytes_take x.size (drop (data_at S p x) s) (bytes_drop (data_at S p x) s b)

value_is : (S : ℕ) (s : Image) (p : ℕ) (x : Item) → value_at S s p x ≡ cond (is_written S s p x) (present (data_in S s p x)) absent
unfolding value_at
value_is S s p x = refl

-- from partition p of the image s to partition q, with entry e
module _ (S : ℕ) (s : Image) (p q : ℕ) (e : Entry) where
  -- what an item is to hold
  unfoldable pub wanted : Item → Found
  wanted y = cond (eqb y.identifier e.item.identifier) (present e.contents) (value_at S s p y)

  -- the entry of one item, or none
  unfoldable pub head_of : Item → List Entry
  head_of y = cond (eqb y.identifier e.item.identifier) (e ∷ []) (cond (is_written S s p y) (record { item = y; contents = data_in S s p y } ∷ []) [])

  pub carried_next : (y : Item) (ys : List Item) → carried S s p e (y ∷ ys) ≡ head_of y ++ carried S s p e ys
  unfolding carried head_of
  carried_next y ys = go (eqb y.identifier e.item.identifier) (is_written S s p y)
    where
      go : (t u : Bool) → cond t (e ∷ carried S s p e ys) (cond u (record { item = y; contents = data_in S s p y } ∷ carried S s p e ys) (carried S s p e ys))
          ≡ cond t (e ∷ []) (cond u (record { item = y; contents = data_in S s p y } ∷ []) []) ++ carried S s p e ys
      go true u = refl
      go false true = refl
      go false false = refl

  writes_append : (es fs : List Entry) → write_items S q (es ++ fs) ≡ write_items S q es ++ write_items S q fs
  unfolding write_items
  writes_append [] fs = refl
  writes_append (x ∷ es) fs = rw (writes_append es fs) (sym (append_assoc (write_item S q x) (write_items S q es) (write_items S q fs)))

  steps_next : (y : Item) (ys : List Item) → write_items S q (carried S s p e (y ∷ ys)) ≡ write_items S q (head_of y) ++ write_items S q (carried S s p e ys)
  steps_next y ys = ap (write_items S q) (carried_next y ys) ∙ writes_append (head_of y) (carried S s p e ys)

  module _ (sized : length e.contents ≡ e.item.size) (inside : p * S + S ≤ length s) where
    -- an item of the table
    pub record Fine (y : Item) : Type 0 where
      pub first : 1 ≤ y.at
      pub end : y.at + 1 + y.size ≤ S
      pub real : y.identifier ≢ 255
      pub same : y.identifier ≡ e.item.identifier → y ≡ e.item

    data_length : (y : Item) → Fine y → length (data_in S s p y) ≡ y.size
    unfolding data_in data_at identifier_at
    data_length y f = length-take-le y.size (drop (p * S + y.at + 1) s) (omega (arith, length-drop (p * S + y.at + 1) s, f.end))

    -- ---- one item

    head_leaves : (y : Item) → Fine y → (i : ℕ) → (i < q * S + y.at) ⊎ (q * S + y.at + (1 + y.size) ≤ i) → Leaves S i (write_items S q (head_of y))
    unfolding head_of write_items
    head_leaves y f i o = go (eqb y.identifier e.item.identifier) refl (is_written S s p y)
      where
        go : (t : Bool) → eqb y.identifier e.item.identifier ≡ t → (u : Bool)
            → Leaves S i (write_items S q (cond t (e ∷ []) (cond u (record { item = y; contents = data_in S s p y } ∷ []) [])))
        go true w u =
            let z = f.same (eqb-true y.identifier e.item.identifier w) in
            rw append-nil (item_leaves S q e.item e.contents i sized (rw z at o))
        go false w true = rw append-nil (item_leaves S q y (data_in S s p y) i (data_length y f) o)
        go false w false = tt

    head_within : (y : Item) → Fine y → Within S q (write_items S q (head_of y))
    unfolding head_of write_items
    head_within y f = go (eqb y.identifier e.item.identifier) refl (is_written S s p y)
      where
        go : (t : Bool) → eqb y.identifier e.item.identifier ≡ t → (u : Bool)
            → Within S q (write_items S q (cond t (e ∷ []) (cond u (record { item = y; contents = data_in S s p y } ∷ []) [])))
        go true w u =
            let z = f.same (eqb-true y.identifier e.item.identifier w) in
            rw append-nil (item_within S q e sized (omega (arith, ap (λ (x : Item). x.at) z, f.first)) (rw z at f.end))
        go false w true = rw append-nil (item_within S q (record { item = y; contents = data_in S s p y }) (data_length y f) f.first f.end)
        go false w false = tt

    -- ---- the table, from an offset on

    pub record Suits (o : ℕ) (r : List ℕ) : Type 0 where
      pub first : 1 ≤ o
      pub fit : o + bytes_used (items_from o r) ≤ S + 1
      pub real : all (λ x. not (eqb x.identifier 255)) (items_from o r) ≡ true
      pub once : distinct (items_from o r) ≡ true
      pub same : has_item e.item.identifier (items_from o r) ≡ true → item_of e.item.identifier (items_from o r) ≡ e.item

    not_among : (a : ℕ) (xs : List Item) → all (λ y. not (eqb a y.identifier)) xs ≡ true → has_item a xs ≡ true → ⊥
    unfolding all has_item
    not_among a [] h k = false≢true k
    not_among a (x ∷ xs) h k = go (eqb a x.identifier) h k (λ w. not_among a xs w)
      where
        go : (t : Bool) → not t && all (λ y. not (eqb a y.identifier)) xs ≡ true → t || has_item a xs ≡ true → (all (λ y. not (eqb a y.identifier)) xs ≡ true → has_item a xs ≡ true → ⊥) → ⊥
        go true w v ih = false≢true w
        go false w v ih = ih w v

    module _ (o a b : ℕ) (r : List ℕ) (w : Suits o (a ∷ b ∷ r)) where
      abbrev item : Item
      item = record { identifier = a; size = b; at = o }

      abbrev later : List Item
      later = items_from (o + 1 + b) r

      first_fine : Fine item
      unfolding items_from bytes_used all has_item item_of
      first_fine = record {
        first = w.first;
        end = omega (arith, w.fit, used_some later);
        real = eqb-false a 255 (not-true (eqb a 255) (and_left (not (eqb a 255)) (all (λ x. not (eqb x.identifier 255)) later) w.real));
        same = λ z. rw (eq-eqb e.item.identifier a (sym z)) at w.same refl;
      }

      rest_suits : Suits (o + 1 + b) r
      unfolding items_from bytes_used all distinct has_item item_of
      rest_suits = record {
        first = omega arith;
        fit = omega (arith, w.fit);
        real = and_right (not (eqb a 255)) (all (λ x. not (eqb x.identifier 255)) later) w.real;
        once = and_right (all (λ y. not (eqb a y.identifier)) later) (distinct later) w.once;
        same = λ h. go (eqb e.item.identifier a) refl h w.same;
      }
        where
          go : (t : Bool) → eqb e.item.identifier a ≡ t → has_item e.item.identifier later ≡ true
              → (t || has_item e.item.identifier later ≡ true → cond t item (item_of e.item.identifier later) ≡ e.item) → item_of e.item.identifier later ≡ e.item
          go true z h k = absurd (not_among a later (and_left (all (λ y. not (eqb a y.identifier)) later) (distinct later) w.once) (rw (eqb-true e.item.identifier a z) at h))
          go false z h k = k h

    pub carried_within : (o : ℕ) (r : List ℕ) → Suits o r → Within S q (write_items S q (carried S s p e (items_from o r)))
    unfolding items_from carried write_items
    carried_within o [] w = tt
    carried_within o (a ∷ []) w = tt
    carried_within o (a ∷ b ∷ r) w =
        rw (steps_next (item o a b r w) (later o a b r w))
        (within_append S q (write_items S q (head_of (item o a b r w))) (write_items S q (carried S s p e (later o a b r w))) (head_within (item o a b r w) (first_fine o a b r w)) (carried_within (o + 1 + b) r (rest_suits o a b r w)))

    -- what comes before these items is left alone
    later_leaves : (o : ℕ) (r : List ℕ) → Suits o r → (i : ℕ) → i < q * S + o → Leaves S i (write_items S q (carried S s p e (items_from o r)))
    unfolding items_from carried write_items
    later_leaves o [] w i h = tt
    later_leaves o (a ∷ []) w i h = tt
    later_leaves o (a ∷ b ∷ r) w i h =
        rw (steps_next (item o a b r w) (later o a b r w))
        (leaves_append S i (write_items S q (head_of (item o a b r w))) (write_items S q (carried S s p e (later o a b r w))) (head_leaves (item o a b r w) (first_fine o a b r w) i (inl h)) (later_leaves (o + 1 + b) r (rest_suits o a b r w) i (omega arith)))

    module _ (bytes : Bytes s) (new : Bytes e.contents) where
      head_holds : (y : Item) → Fine y → y.identifier < 256 → (t : Image) → length t ≡ length s → q * S + S ≤ length s → ((k : ℕ) → k ≤ y.size → get_or t (q * S + (y.at + k)) 0 ≡ 255)
          → value_at S (run_in S (write_items S q (head_of y)) t) q y ≡ wanted y
      unfolding head_of write_items wanted run_in
      head_holds y f small t l h blank = go (eqb y.identifier e.item.identifier) refl
        where
          empty : get_or t (q * S + y.at) 0 ≡ 255
          empty = ap (λ (z : ℕ). get_or t z 0) (omega arith) ∙ blank 0 (omega arith)

          -- it keeps what it held, if it held something
          old : (u : Bool) → is_written S s p y ≡ u
              → value_at S (run_in S (write_items S q (cond u (record { item = y; contents = data_in S s p y } ∷ []) [])) t) q y ≡ cond u (present (data_in S s p y)) absent
          old true w = rw append-nil (item_written S q y (data_in S s p y) t (data_length y f) (carried_bytes S s p y bytes) small (omega (arith, f.end)) blank)
          old false w = absent_value S q y t (λ z. f.real (sym z ∙ empty))

          go : (b : Bool) → eqb y.identifier e.item.identifier ≡ b
              → value_at S (run_in S (write_items S q (cond b (e ∷ []) (cond (is_written S s p y) (record { item = y; contents = data_in S s p y } ∷ []) []))) t) q y
              ≡ cond b (present e.contents) (value_at S s p y)
          go true w =
              let z = f.same (eqb-true y.identifier e.item.identifier w) in
              rw append-nil (subst (λ (x : Item). value_at S (run_in S (write_item S q e) t) q x ≡ present e.contents) (sym z)
              (item_written S q e.item e.contents t sized new (rw z at small) (omega (arith, rw z at f.end)) (rw z at blank)))
          go false w = unfolded (old (is_written S s p y) refl)
            where
              unfolded : value_at S (run_in S (write_items S q (cond (is_written S s p y) (record { item = y; contents = data_in S s p y } ∷ []) [])) t) q y ≡ cond (is_written S s p y) (present (data_in S s p y)) absent
                  → value_at S (run_in S (write_items S q (cond (is_written S s p y) (record { item = y; contents = data_in S s p y } ∷ []) [])) t) q y ≡ value_at S s p y
              unfolded w = w ∙ sym (value_is S s p y)

      -- each item of the table
      pub carries : (o : ℕ) (r : List ℕ) → Suits o r → Bytes r → (t : Image) → length t ≡ length s → q * S + S ≤ length s → ((k : ℕ) → o ≤ k → k < S → get_or t (q * S + k) 0 ≡ 255)
          → (j : ℕ) → has_item j (items_from o r) ≡ true → value_at S (run_in S (write_items S q (carried S s p e (items_from o r))) t) q (item_of j (items_from o r)) ≡ wanted (item_of j (items_from o r))
      unfolding items_from has_item item_of
      carries o [] w c t l h blank j k = absurd (false≢true k)
      carries o (a ∷ []) w c t l h blank j k = absurd (false≢true k)
      carries o (a ∷ b ∷ r) w c t l h blank j k =
          rw (steps_next y ys, run_append S front back t) (go (eqb j a) k (carries (o + 1 + b) r (rest_suits o a b r w) c.1.1 t₁ length₁ h blank₁ j))
        where
          y : Item
          y = item o a b r w

          ys : List Item
          ys = later o a b r w

          fine : Fine y
          fine = first_fine o a b r w

          front : List Step
          front = write_items S q (head_of y)

          back : List Step
          back = write_items S q (carried S s p e ys)

          t₁ : Image
          t₁ = run_in S front t

          length₁ : length t₁ ≡ length s
          length₁ = run_length S front t ∙ l

          blank₁ : (i : ℕ) → o + 1 + b ≤ i → i < S → get_or t₁ (q * S + i) 0 ≡ 255
          blank₁ i m n = left_alone S (q * S + i) front t (head_leaves y fine (q * S + i) (inr (omega arith))) ∙ blank i (omega arith) n

          first : value_at S (run_in S back t₁) q y ≡ wanted y
          first = same_value S q y t₁ (run_in S back t₁) (omega (arith, length₁, fine.end)) (run_length S back t₁)
              (λ i m. left_alone S (q * S + (o + i)) back t₁ (later_leaves (o + 1 + b) r (rest_suits o a b r w) (q * S + (o + i)) (omega arith)))
              ∙ head_holds y fine c.0 t l h (λ i m. blank (o + i) (omega arith) (omega (arith, fine.end)))

          go : (u : Bool) → u || has_item j ys ≡ true → (has_item j ys ≡ true → value_at S (run_in S back t₁) q (item_of j ys) ≡ wanted (item_of j ys))
              → value_at S (run_in S back t₁) q (cond u y (item_of j ys)) ≡ wanted (cond u y (item_of j ys))
          go true z ih = first
          go false z ih = ih z

-- a right table suits the entry of one of its items
pub table_suits : (S : ℕ) (s : Image) (p q : ℕ) (layout : List ℕ) (i : ℕ) (d : List ℕ) (sized : length d ≡ (item_of i (items_of layout)).size) (inside : p * S + S ≤ length s)
    → RightLayout S layout → has_item i (items_of layout) ≡ true → Suits S s p q (record { item = item_of i (items_of layout); contents = d }) sized inside 1 layout
unfolding items_of
table_suits S s p q layout i d sized inside r h = record {
  first = omega arith;
  fit = omega (arith, r.fit);
  real = r.real;
  once = r.once;
  same = λ k. ap (λ (y : ℕ). item_of y (items_from 1 layout)) (item_lies S i layout r.fit h).named;
}
