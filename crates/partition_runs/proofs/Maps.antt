-- One write and the items of the newest partition: done, the written one holds its new data and every other what it held; cut, all hold what they held.
use Prim.Native.Nat.{ℕ, zero, suc, ◌+◌, ◌*◌, ◌%◌, ◌≤◌, ◌<◌}
use Rattle.std.specs.Prelude.{◌≡◌, refl, ◌≢◌, Bool, true, false, cond, ◌||◌, length, get_or, take, drop, eqb}
use Rattle.std.proofs.Common.{sym, ap, ◌∙◌, subst, arith, mod-lt, add-zero, length-append, length-drop, get_or-take, get_or-drop, length-take-le, eqb-true}
use Rattle.std.proofs.Math.Logic.{inl, inr, ⊎_elim}
use Rattle.std.proofs.lemmas.Bool.{false≢true, eqb-false}
use mathlib.Core.List.{List, [], ◌∷◌, ◌++◌, append-nil}
use Rattle.std.proofs.Math.Decide.{ℕ_discrete}
use Rattle.std.proofs.Math.Seq.{take-length}
use Rattle.std.proofs.lemmas.List.{take-append-le}
use Rattle.model.specs.Chip.{Image, Step, program, erase, Bytes}
use Rattle.model.specs.Table.{Found, absent, present}
use Rattle.model.specs.Header.{is_blank}
use Rattle.model.specs.Steps.{programs}
use Rattle.model.specs.Laws.Lists.{and_left, and_right}
use Rattle.model.proofs.Laws.Programs.{Outside}
use Rattle.flash.specs.Units.{step_in, run_in}
use Rattle.partitions.specs.Layout.{Item, items_from, items_of, has_item, item_of}
use Rattle.partitions.specs.Partitions.{partition_size}
use Rattle.partitions.specs.Items.{identifier_at, is_erased}
use Rattle.partitions.specs.Writes.{Entry, entry_for, write_item, write_items, fill}
use Rattle.partitions.proofs.Laws.{RightLayout, right_layout, Lies, item_lies, item_real, items_apart}
use Rattle.partition_runs.specs.Rotation.{same_turn}
use Rattle.partition_runs.specs.Effects.{run_append, run_length, left_alone, leaves_take, leaves_programs, erase_inside}
use Rattle.partition_runs.specs.Values.{value_at, same_value, absent_value, item_leaves, item_written}
use Rattle.partition_runs.proofs.Carry.{wanted, carries, table_suits}
use Rattle.partition_runs.proofs.Filling.{Sized, sized, partition_inside}
use Rattle.partition_runs.proofs.Calls.{Taken, entries_for}

-- ---- bytes that are all 255

blank_byte : (l : List ℕ) (k : ℕ) → is_blank l ≡ true → k < length l → get_or l k 0 ≡ 255
unfolding is_blank
blank_byte [] k h l = absurd (omega arith)
blank_byte (x ∷ xs) zero h l = eqb-true x 255 (and_left (eqb x 255) (is_blank xs) h)
blank_byte (x ∷ xs) (suc k) h l = blank_byte xs k (and_right (eqb x 255) (is_blank xs) h) (omega arith)

erased_item : (S : ℕ) (s : Image) (p : ℕ) (x : Item) → is_erased S s p x ≡ true → p * S + x.at + 1 + x.size ≤ length s → (k : ℕ) → k ≤ x.size → get_or s (p * S + (x.at + k)) 0 ≡ 255
unfolding is_erased identifier_at
erased_item S s p x e h k l =
    let at = p * S + x.at in
    let m : length (take (1 + x.size) (drop at s)) ≡ 1 + x.size = length-take-le (1 + x.size) (drop at s) (omega (arith, length-drop at s)) in
    ap (λ (y : ℕ). get_or s y 0) (omega arith) ∙ sym (get_or-drop at s k 0) ∙ sym (get_or-take (1 + x.size) (drop at s) k 0 (omega arith)) ∙ blank_byte (take (1 + x.size) (drop at s)) k e (omega arith)

-- an identifier of a table of bytes is one
item_byte : (j o : ℕ) (ns : List ℕ) → Bytes ns → has_item j (items_from o ns) ≡ true → j < 256
unfolding items_from has_item
item_byte j o [] b h = absurd (false≢true h)
item_byte j o (a ∷ []) b h = absurd (false≢true h)
item_byte j o (a ∷ n ∷ ns) b h = go (eqb j a) refl h (λ w. item_byte j (o + 1 + n) ns b.1.1 w)
  where
    go : (u : Bool) → eqb j a ≡ u → u || has_item j (items_from (o + 1 + n) ns) ≡ true → (has_item j (items_from (o + 1 + n) ns) ≡ true → j < 256) → j < 256
    go true w v ih = omega (arith, eqb-true j a w, b.0)
    go false w v ih = ih v

-- the next partition is another one
pub next_other : (P k : ℕ) → 2 ≤ P → k % P ≢ suc k % P
next_other P k two e =
    let w : (k + 0) % P ≡ (k + 1) % P = ap (λ (y : ℕ). y % P) (omega arith) ∙ e ∙ ap (λ (y : ℕ). y % P) (omega arith) in
    omega (arith, same_turn P k 0 1 (omega arith) (omega arith) w)

-- what the newest partition holds of an item, by the reach of the run
unfoldable pub held_by : ℕ → ℕ → Image → ℕ → Item → Found
held_by P S s zero y = absent
held_by P S s (suc k) y = value_at S s (k % P) y

module _ (P : ℕ) (layout : List ℕ) (s : Image) (i : ℕ) (d : List ℕ) (t : Taken P layout s i d) (bytes : Bytes s) (small : Bytes layout) (new : Bytes d) where
  abbrev S : ℕ
  S = partition_size P s

  abbrev items : List Item
  items = items_of layout

  abbrev e : Entry
  e = entry_for layout i d

  z : Sized P S (length s)
  z = sized P s t.right

  right : RightLayout S layout
  right = right_layout S layout t.table

  lies : (j : ℕ) → has_item j items ≡ true → Lies j 1 S (item_of j items)
  lies j h = item_lies S j layout right.fit h

  inside : (p : ℕ) → p < P → p * S + S ≤ length s
  inside p h = partition_inside P S (length s) p z h

  turn : (k : ℕ) → k % P < P
  turn k = mod-lt k {m = P} (omega (arith, z.two))

  real_item : (j : ℕ) → has_item j items ≡ true → j ≢ 255
  real_item j g = item_real j items right.real g

  small_item : (item_of i items).identifier < 256
  unfolding items_of
  small_item = omega (arith, (lies i t.known).named, item_byte i 1 layout small t.known)

  -- a byte of another item is none of the written one's
  beside : (j : ℕ) → has_item j items ≡ true → j ≢ i → (p k : ℕ) → k ≤ (item_of j items).size → Outside (p * S + ((item_of j items).at + k)) (p * S + (item_of i items).at) (1 + (item_of i items).size)
  unfolding items_of
  beside j g n p k m = ⊎_elim (λ h. inr (omega arith)) (λ h. inl (omega arith)) (items_apart i j 1 layout (λ w. n (sym w)) t.known g)

  -- ---- another partition changed

  pub kept_value : (p : ℕ) (u : Image) → p < P → length u ≡ length s → ((k : ℕ) → k < S → get_or u (p * S + k) 0 ≡ get_or s (p * S + k) 0)
      → (j : ℕ) → has_item j items ≡ true → value_at S u p (item_of j items) ≡ value_at S s p (item_of j items)
  kept_value p u h l w j g = let x = lies j g in
      same_value S p (item_of j items) s u (omega (arith, inside p h, x.inside)) l (λ k m. w ((item_of j items).at + k) (omega (arith, x.inside)))

  -- ---- a partition filled

  -- the status is no byte of an item
  status_set : (q v : ℕ) (u : Image) → length u ≡ length s → q < P → (j : ℕ) → has_item j items ≡ true
      → value_at S (run_in S (program (q * S) v ∷ []) u) q (item_of j items) ≡ value_at S u q (item_of j items)
  status_set q v u l h j g = let x = lies j g in
      same_value S q (item_of j items) u (run_in S (program (q * S) v ∷ []) u) (omega (arith, inside q h, x.inside)) (run_length S (program (q * S) v ∷ []) u)
      (λ k m. left_alone S (q * S + ((item_of j items).at + k)) (program (q * S) v ∷ []) u ((λ w. omega (arith, x.behind, w)), tt))

  -- the entries' steps, on the erased partition
  items_written : (A : ℕ) (j : ℕ) → has_item j items ≡ true
      → value_at S (run_in S (write_items S (A % P) (entries_for P S items s A e)) (step_in S (erase (A % P)) s)) (A % P) (item_of j items) ≡ cond (eqb j i) (present d) (held_by P S s A (item_of j items))
  unfolding entries_for write_items held_by wanted run_in items_of
  items_written (suc k) j g =
      let q = suc k % P in
      let erased = step_in S (erase q) s in
      let p = inside (k % P) (turn k) in
      let suits = table_suits S s (k % P) q layout i d t.whole p right t.known in
      let c = carries S s (k % P) q e t.whole p bytes new 1 layout suits small erased (run_length S (erase q ∷ []) s) (inside q (turn (suc k))) (λ m n o. erase_inside S q m s (inside q (turn (suc k))) o) j g in
      c ∙ rw ((lies j g).named, (lies i t.known).named)
  items_written zero j g = rw append-nil (go (eqb j i) refl)
    where
      q : ℕ
      q = 0 % P

      erased : Image
      erased = step_in S (erase q) s

      length_erased : length erased ≡ length s
      length_erased = run_length S (erase q ∷ []) s

      blank : (k : ℕ) → k < S → get_or erased (q * S + k) 0 ≡ 255
      blank k h = erase_inside S q k s (inside q (turn 0)) h

      go : (b : Bool) → eqb j i ≡ b → value_at S (run_in S (write_item S q e) erased) q (item_of j items) ≡ cond b (present d) absent
      go true h =
          let x = lies i t.known in
          rw (eqb-true j i h) (item_written S q (item_of i items) d erased t.whole new small_item (omega (arith, length_erased, inside q (turn 0), x.inside)) (λ k m. blank ((item_of i items).at + k) (omega (arith, x.inside))))
      go false h = absent_value S q (item_of j items) (run_in S (write_item S q e) erased) (λ w. real_item j g (sym (lies j g).named ∙ sym w ∙ untouched))
        where
          untouched : get_or (run_in S (write_item S q e) erased) (q * S + (item_of j items).at) 0 ≡ 255
          untouched =
              left_alone S (q * S + (item_of j items).at) (write_item S q e) erased (item_leaves S q (item_of i items) d (q * S + (item_of j items).at) t.whole (rw add-zero at (beside j g (eqb-false j i h) q 0 (omega arith))))
              ∙ blank (item_of j items).at (omega (arith, (lies j g).inside))

  pub filled_value : (A v : ℕ) (j : ℕ) → has_item j items ≡ true
      → value_at S (run_in S (fill S (A % P) (entries_for P S items s A e) v) s) (A % P) (item_of j items) ≡ cond (eqb j i) (present d) (held_by P S s A (item_of j items))
  unfolding fill run_in
  filled_value A v j g =
      let q = A % P in
      let steps = write_items S q (entries_for P S items s A e) in
      let erased = step_in S (erase q) s in
      rw (run_append S steps (program (q * S) v ∷ []) erased)
      (status_set q v (run_in S steps erased) (run_length S steps erased ∙ run_length S (erase q ∷ []) s) (turn A) j g ∙ items_written A j g)

  -- ---- an item written in place

  module _ (p : ℕ) (h : p < P) (blank : is_erased S s p (item_of i items) ≡ true) where
    free : (k : ℕ) → k ≤ (item_of i items).size → get_or s (p * S + ((item_of i items).at + k)) 0 ≡ 255
    free = erased_item S s p (item_of i items) blank (omega (arith, inside p h, (lies i t.known).inside))

    -- the others are left alone by any part of it
    others_left : (n j : ℕ) → has_item j items ≡ true → j ≢ i → value_at S (run_in S (take n (write_item S p e)) s) p (item_of j items) ≡ value_at S s p (item_of j items)
    others_left n j g w =
        let xs = take n (write_item S p e) in
        same_value S p (item_of j items) s (run_in S xs s) (omega (arith, inside p h, (lies j g).inside)) (run_length S xs s)
        (λ k m. left_alone S (p * S + ((item_of j items).at + k)) xs s (leaves_take S (p * S + ((item_of j items).at + k)) n (write_item S p e)
        (item_leaves S p (item_of i items) d (p * S + ((item_of j items).at + k)) t.whole (beside j g w p k m))))

    pub placed_value : (j : ℕ) → has_item j items ≡ true → value_at S (run_in S (write_item S p e) s) p (item_of j items) ≡ cond (eqb j i) (present d) (value_at S s p (item_of j items))
    placed_value j g = go (eqb j i) refl
      where
        go : (b : Bool) → eqb j i ≡ b → value_at S (run_in S (write_item S p e) s) p (item_of j items) ≡ cond b (present d) (value_at S s p (item_of j items))
        go true w = let x = lies i t.known in
            rw (eqb-true j i w) (item_written S p (item_of i items) d s t.whole new small_item (omega (arith, inside p h, x.inside)) free)
        go false w = subst (λ (xs : List Step). value_at S (run_in S xs s) p (item_of j items) ≡ value_at S s p (item_of j items)) (take-length (write_item S p e)) (others_left (length (write_item S p e)) j g (eqb-false j i w))

    -- cut, its identifier byte is still 255
    pub unplaced_value : (n : ℕ) → n < length (write_item S p e) → (j : ℕ) → has_item j items ≡ true → value_at S (run_in S (take n (write_item S p e)) s) p (item_of j items) ≡ value_at S s p (item_of j items)
    unfolding write_item identifier_at
    unplaced_value n l j g = elim (ℕ_discrete j i) [ yes w ↦ rw w same | no w ↦ others_left n j g w ]
      where
        at : ℕ
        at = p * S + (item_of i items).at

        body : List Step
        body = programs (at + 1) d

        cut : take n (body ++ (program at (item_of i items).identifier ∷ [])) ≡ take n body
        cut = take-append-le n body (program at (item_of i items).identifier ∷ []) (omega (arith, length-append body (program at (item_of i items).identifier ∷ [])))

        here : get_or s at 0 ≡ 255
        here = ap (λ (y : ℕ). get_or s y 0) (omega arith) ∙ free 0 (omega arith)

        after : get_or (run_in S (take n body) s) at 0 ≡ 255
        after = left_alone S at (take n body) s (leaves_take S at n body (leaves_programs S at (at + 1) d (inl (omega arith)))) ∙ here

        named : (item_of i items).identifier ≢ 255
        named w = real_item i t.known (sym (lies i t.known).named ∙ w)

        same : value_at S (run_in S (take n (body ++ (program at (item_of i items).identifier ∷ []))) s) p (item_of i items) ≡ value_at S s p (item_of i items)
        same = rw cut (absent_value S p (item_of i items) (run_in S (take n body) s) (λ w. named (sym w ∙ after)) ∙ sym (absent_value S p (item_of i items) s (λ w. named (sym w ∙ here))))
