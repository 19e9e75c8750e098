-- The items of a table carried from one partition to another: one after the other, and what is carried from an image that differs elsewhere.
use Prim.Native.Nat.{ℕ, ◌+◌, ◌*◌, ◌%◌, ◌≤◌, ◌<◌}
use mathlib.Core.Path.{◌≡◌, refl, sym, ap, ◌∙◌}
use mathlib.Core.Bool.{Bool, true, false, cond, not}
use mathlib.Core.List.{List, [], ◌∷◌, ◌++◌}
use native.Mathlib.Omega.{arith}
use lib.ListN.{length, get_or, take, drop, length-take}
use lib.Dec.{eqb}
use borrow.Author.Tests.{eqb-true, eqb-false, eq-eqb, ne_eqb, not-true}
use Rattle.model.specs.Lists.{all}
use Rattle.model.specs.Laws.Lists.{and_left, and_right}
use Rattle.model.specs.Chip.{Image, Step}
use Rattle.flash.specs.Ran.{Programmed}
use Rattle.flash.specs.Units.{RanIn}
use Rattle.flash.proofs.Laws.{ran_none}
use Rattle.flash.proofs.UnitLaws.{◌then◌, none_in, length_in, programmed_in}
use Rattle.partitions.specs.Layout.{Item, items_from, items_of, distinct, bytes_used, layout_ok, item_of}
use Rattle.partitions.specs.Items.{identifier_at, data_at, data_in, is_written}
use Rattle.partitions.specs.Writes.{Entry, write_item, write_items, carried, item_steps, entry_for}
use Rattle.partitions.proofs.Laws.{right_layout, used_some}
use Rattle.partition_layout.proofs.Walk.{Whole, First, item_in, items_end, items_next, whole_next}
use Rattle.partition_items.specs.Carrying.{carry_steps, CarryOne, Carry}
use Rattle.partition_items.proofs.Laws.{Inside, inside_within, inside_item, Same, ran_kept, piece_same, places_disjoint}

-- ---- one item

module _ (s : Image) (from to identifier size item : ℕ) (contents : List ℕ) where
  pub carry_new : {n r : ℕ} {t : Image} → identifier ≡ item → Programmed (item_steps to identifier contents) n r s t → Programmed (carry_steps s from to identifier size item contents) n r s t
  unfolding carry_steps
  carry_new e d = rw (eq-eqb identifier item e) d

  pub carry_old : {n r : ℕ} {t : Image} → (identifier ≡ item → ⊥) → get_or s from 0 ≡ identifier → Programmed (item_steps to identifier (take size (drop (from + 1) s))) n r s t
      → Programmed (carry_steps s from to identifier size item contents) n r s t
  unfolding carry_steps
  carry_old e f d = rw (ne_eqb identifier item e, eq-eqb (get_or s from 0) identifier f) d

  pub carry_none : (n : ℕ) → (identifier ≡ item → ⊥) → (get_or s from 0 ≡ identifier → ⊥) → Programmed (carry_steps s from to identifier size item contents) n n s s
  unfolding carry_steps
  carry_none n e f B = rw (ne_eqb identifier item e, ne_eqb (get_or s from 0) identifier f) (ran_none B n s)

-- it programs bytes of its place alone
carry_inside : (s : Image) (S p from to identifier size item : ℕ) (contents : List ℕ) → p * S ≤ to → to + 1 + size ≤ p * S + S → (identifier ≡ item → length contents ≡ size)
    → Inside S p (carry_steps s from to identifier size item contents)
unfolding carry_steps
carry_inside s S p from to identifier size item contents h k own = go (eqb identifier item) refl (eqb (get_or s from 0) identifier)
  where
    go : (t : Bool) → eqb identifier item ≡ t → (w : Bool) → Inside S p (cond t (item_steps to identifier contents) (cond w (item_steps to identifier (take size (drop (from + 1) s))) []))
    go true q w = inside_item S p to identifier contents h (omega (arith, own (eqb-true identifier item q)))
    go false q true = inside_item S p to identifier (take size (drop (from + 1) s)) h (omega (arith, length-take size (drop (from + 1) s)))
    go false q false = tt

-- ---- the item that is written is met once

item_named : (i : ℕ) (xs : List Item) → (item_of i xs).identifier ≡ i
unfolding item_of
item_named i [] = refl
item_named i (x ∷ xs) = go (eqb i x.identifier) refl (item_named i xs)
  where
    go : (t : Bool) → eqb i x.identifier ≡ t → (item_of i xs).identifier ≡ i → (cond t x (item_of i xs)).identifier ≡ i
    go true q r = sym (eqb-true i x.identifier q)
    go false q r = r

-- whichever of these items has the identifier of x is x
abbrev pub Agree : Item → List Item → Type 0
Agree x [] = Unit {0}
Agree x (y ∷ ys) = (y.identifier ≡ x.identifier → y ≡ x) × Agree x ys

others_agree : (x : Item) (ys : List Item) → all (λ y. not (eqb x.identifier y.identifier)) ys ≡ true → Agree x ys
unfolding all
others_agree x [] h = tt
others_agree x (y ∷ ys) h =
    let rest = all (λ z. not (eqb x.identifier z.identifier)) ys in
    let here = and_left (not (eqb x.identifier y.identifier)) rest h in
    (λ e. absurd (eqb-false x.identifier y.identifier (not-true _ here) (sym e)), others_agree x ys (and_right (not (eqb x.identifier y.identifier)) rest h))

item_agrees : (i : ℕ) (xs : List Item) → distinct xs ≡ true → Agree (item_of i xs) xs
unfolding distinct item_of
item_agrees i [] h = tt
item_agrees i (x ∷ xs) h =
    let others = all (λ y. not (eqb x.identifier y.identifier)) xs in
    go (eqb i x.identifier) refl (others_agree x xs (and_left others (distinct xs) h)) (item_agrees i xs (and_right others (distinct xs) h))
  where
    go : (t : Bool) → eqb i x.identifier ≡ t → Agree x xs → Agree (item_of i xs) xs → Agree (cond t x (item_of i xs)) (x ∷ xs)
    go true q first later = (λ e. refl, first)
    go false q first later = (λ e. absurd (eqb-false i x.identifier q (sym (e ∙ item_named i xs))), later)

table_agrees : (S i : ℕ) (ns : List ℕ) → layout_ok S ns ≡ true → Agree (item_of i (items_of ns)) (items_of ns)
unfolding layout_ok
table_agrees S i ns e =
    let xs = items_of ns in
    let no_255 = all (λ x. not (eqb x.identifier 255)) xs in
    item_agrees i xs (and_left (distinct xs) _ (and_right no_255 _ (and_right (eqb (length ns % 2) 0) _ e)))

-- ---- the items of a table

-- what the first of them adds
carried_next : (S : ℕ) (s : Image) (from to : ℕ) (e : Entry) (y : Item) (ys : List Item) → (y.identifier ≡ e.item.identifier → y ≡ e.item)
    → write_items S to (carried S s from e (y ∷ ys))
    ≡ carry_steps s (from * S + y.at) (to * S + y.at) y.identifier y.size e.item.identifier e.contents ++ write_items S to (carried S s from e ys)
unfolding carried write_items write_item carry_steps is_written identifier_at data_at data_in
carried_next S s from to e y ys same = go (eqb y.identifier e.item.identifier) refl (eqb (get_or s (from * S + y.at) 0) y.identifier)
  where
    go : (t : Bool) → eqb y.identifier e.item.identifier ≡ t → (w : Bool)
        → write_items S to (cond t (e ∷ carried S s from e ys) (cond w (record { item = y; contents = take y.size (drop (from * S + y.at + 1) s) } ∷ carried S s from e ys) (carried S s from e ys)))
        ≡ cond t (item_steps (to * S + y.at) y.identifier e.contents) (cond w (item_steps (to * S + y.at) y.identifier (take y.size (drop (from * S + y.at + 1) s))) []) ++ write_items S to (carried S s from e ys)
    go true q w = ap (λ (x : Item). item_steps (to * S + x.at) x.identifier e.contents ++ write_items S to (carried S s from e ys)) (sym (same (eqb-true y.identifier e.item.identifier q)))
    go false q true = refl
    go false q false = refl

-- what is carried is told by the bytes of the partition that it is carried from
pub carried_same : (S p : ℕ) (e : Entry) (s t : Image) → length s ≡ length t → Same S p s t → (o : ℕ) (ns : List ℕ) → o + bytes_used (items_from o ns) ≤ S + 1
    → carried S s p e (items_from o ns) ≡ carried S t p e (items_from o ns)
unfolding carried items_from bytes_used is_written identifier_at data_at data_in
carried_same S p e s t l same o [] h = refl
carried_same S p e s t l same o (i ∷ []) h = refl
carried_same S p e s t l same o (i ∷ n ∷ r) h =
    let some = used_some (items_from (o + 1 + n) r) in
    let here : get_or s (p * S + o) 0 ≡ get_or t (p * S + o) 0 = same o (omega arith) in
    let piece : take n (drop (p * S + o + 1) s) ≡ take n (drop (p * S + o + 1) t) = piece_same (p * S + o + 1) n s t l (λ k b. byte k (omega arith)) in
    rw (here, piece, carried_same S p e s t l same (o + 1 + n) r (omega arith))
  where
    byte : (k : ℕ) → o + 1 + k < S → get_or s (p * S + o + 1 + k) 0 ≡ get_or t (p * S + o + 1 + k) 0
    byte k b = let f : p * S + (o + 1 + k) ≡ p * S + o + 1 + k = omega arith in rw f at (same (o + 1 + k) b)

-- ---- the loop over the table

-- its invariant, where so many bytes of the table are left: whatever finishes the rest of the items finishes the whole
pub record Carrying (S from to : ℕ) (layout : List ℕ) (e : Entry) (budget : ℕ) (start s : Image) (left at : ℕ) (xs : List ℕ) : Type 0 where
  pub finish : (r : ℕ) (u : Image) → RanIn (write_items S to (carried S s from e (items_from at xs))) S left r s u → RanIn (write_items S to (carried S start from e (items_of layout))) S budget r start u
  pub pairs : Whole xs
  pub agree : Agree e.item (items_from at xs)
  pub room : at + bytes_used (items_from at xs) ≤ S + 1
  pub size : length s ≡ length start

module _ (S from to item budget : ℕ) (layout contents : List ℕ) (start : Image) (z : Carry S from to layout item contents (length start)) where
  abbrev entry : Entry
  entry = entry_for layout item contents

  pub carrying_start : {xs : List ℕ} → xs ≡ layout → Carrying S from to layout entry budget start start budget 1 xs
  unfolding items_of
  carrying_start q =
      let right = right_layout S layout z.right in
      rw q (record { finish = λ r u d. d; pairs = right.even; agree = table_agrees S item layout z.right; room = omega (arith, right.fit); size = refl })

  module _ (s : Image) (left at : ℕ) (xs : List ℕ) (c : Carrying S from to layout entry budget start s left at xs) where
    pub carrying_end : length xs < 2 → RanIn (write_items S to (carried S start from entry (items_of layout))) S budget left start s
    unfolding carried write_items
    carrying_end h = c.finish left s (rw (items_end xs at h c.pairs) (none_in _ left s))

    module _ {pair ys : List ℕ} (p : First xs pair ys) where
      abbrev first : Item
      first = item_in pair at

      abbrev later : List Item
      later = items_from (at + (1 + first.size)) ys

      items : items_from at xs ≡ first ∷ later
      items = items_next p at ∙ ap (λ (k : ℕ). first ∷ items_from k ys) (omega arith)

      agree : Agree entry.item (first ∷ later)
      agree = rw items at c.agree

      room : at + (1 + first.size + bytes_used later) ≤ S + 1
      unfolding bytes_used
      room = rw items at c.room

      own : first.identifier ≡ item → length contents ≡ first.size
      own e = z.whole ∙ ap (λ (x : Item). x.size) (sym (agree.0 (e ∙ sym (item_named item (items_of layout)))))

      pub carrying_one : CarryOne (from * S + at) (to * S + at) first.identifier first.size item contents (length s)
      carrying_one =
          let some = used_some later in
          record {
            reads = omega (arith, z.reads, c.size, room);
            writes = omega (arith, z.writes, c.size, room);
            apart = places_disjoint S from to at (1 + first.size) z.apart (omega (arith, room));
            own = own;
          }

      -- the item's steps come first, and leave the partition that the others are carried from
      pub carrying_next : (r : ℕ) (t : Image) → Programmed (carry_steps s (from * S + at) (to * S + at) first.identifier first.size item contents) left r s t
          → Carrying S from to layout entry budget start t r (at + (1 + first.size)) ys
      carrying_next r t d =
          let some = used_some later in
          let steps : List Step = carry_steps s (from * S + at) (to * S + at) first.identifier first.size item contents in
          let inside : Inside S to steps = carry_inside s S to (from * S + at) (to * S + at) first.identifier first.size item contents (omega arith) (omega (arith, room)) own in
          let done : RanIn steps S left r s t = programmed_in S (to * S + S) (inside_within S to steps inside) d in
          let l : length t ≡ length s = length_in done in
          let same : carried S t from entry later ≡ carried S s from entry later =
          carried_same S from entry t s l (ran_kept S to from z.apart inside done) (at + (1 + first.size)) ys (omega (arith, room)) in
          let first_steps : write_items S to (carried S s from entry (items_from at xs)) ≡ steps ++ write_items S to (carried S s from entry later) =
          rw items (carried_next S s from to entry first later agree.0
          ∙ ap (λ (j : ℕ). carry_steps s (from * S + at) (to * S + at) first.identifier first.size j contents ++ write_items S to (carried S s from entry later)) (item_named item (items_of layout))) in
          record {
            finish = λ m u w. c.finish m u (rw first_steps (◌then◌ done (rw same at w)));
            pairs = whole_next p c.pairs;
            agree = agree.1;
            room = omega (arith, room);
            size = l ∙ c.size;
          }
