-- Laws of a request before its statuses are looked at: what refuses it, and what an accepted one knows of its board.
use Prim.Native.Nat.{ℕ, zero, suc, ◌+◌, ◌*◌, ◌/◌, ◌%◌, ◌≤◌, ◌<◌}
use mathlib.Core.Path.{◌≡◌, sym, ap, ◌∙◌, subst}
use mathlib.Core.Bool.{Bool, true, false, cond, false≢true}
use mathlib.Core.List.{List, [], ◌∷◌, ◌++◌}
use native.Mathlib.Nat.{mul_comm, suc-mul, mul-le-mul_right, div-add-mod'}
use native.Mathlib.Decide.{dec_le}
use native.Mathlib.Omega.{arith}
use lib.ListN.{length, get_or}
use lib.Dec.{eqb}
use borrow.Author.Tests.{eqb-true, eq-eqb, ne_eqb}
use Rattle.model.specs.Lists.{all}
use Rattle.model.specs.Sequences.{among}
use Rattle.model.specs.Laws.Lists.{and_left, and_right}
use Rattle.model.specs.Chip.{Image}
use Rattle.model.specs.Answers.{first_of}
use Rattle.partitions.specs.declared.Reply.TheVariants.{Partitions, Layout, Mismatch}
use Rattle.partitions.specs.Layout.{Item, items_from, items_of, layout_ok, has_item, item_of}
use Rattle.partitions.specs.Partitions.{partitions_ok, image_ok, partition_size, next_partition, status_of, no_status, ends_run, indices, kept, nothing, newest, only_one, newest_in}
use Rattle.partitions.specs.Answers.{number_of, refusals}
use Rattle.partitions.proofs.Laws.{right_layout, item_lies, used_some}
use Rattle.std.specs.Prelude.{Option, Some, None, Result, Ok, Err, ok_or}
use Rattle.partition_layout.specs.declared.Place.{Place}
use Rattle.partition_layout.specs.Places.{Placed}
use Rattle.partition_status.specs.declared.NoRun.{NoRun}
use Rattle.partition_status.specs.Said.{said}
use Rattle.partition_status.proofs.Laws.{next_below, next_first, next_inner}
use Rattle.partition_items.specs.Carrying.{Carry}
use Rattle.partition_store.specs.Asking.{Known, Asks, Stands}

-- ---- numbers of a board

pub partitions_some : (P : ℕ) → partitions_ok P ≡ true → 2 ≤ P
unfolding partitions_ok among
partitions_some zero e = absurd (false≢true e)
partitions_some (suc zero) e = absurd (false≢true e)
partitions_some (suc (suc k)) e = omega arith

-- the partitions make up the image
pub board_whole : (P n : ℕ) → n % P ≡ 0 → P * (n / P) ≡ n
board_whole P n e = omega (arith, div-add-mod' n P, mul_comm P (n / P))

pub unit_inside : (P S p n : ℕ) → p < P → P * S ≤ n → p * S + S ≤ n
unit_inside P S p n h k = omega (arith, mul-le-mul_right S h, suc-mul p S)

pub next_other : (P p : ℕ) → 2 ≤ P → p < P → p ≡ next_partition P p → ⊥
next_other P p h k e = elim (dec_le P (p + 1)) [ yes l ↦ last (omega arith) | no l ↦ inner (omega arith) ]
  where
    last : p + 1 ≡ P → ⊥
    last f = omega (arith, next_first P p f)

    inner : p + 1 < P → ⊥
    inner f = omega (arith, next_inner P p f)

-- ---- the newest is one of the partitions

abbrev Below : ℕ → List ℕ → Type 0
Below P [] = Unit {0}
Below P (q ∷ qs) = (q < P) × Below P qs

below_append : (P : ℕ) (ps qs : List ℕ) → Below P ps → Below P qs → Below P (ps ++ qs)
below_append P [] qs v w = w
below_append P (p ∷ ps) qs v w = (v.0, below_append P ps qs v.1 w)

indices_below : (P k : ℕ) → k ≤ P → Below P (indices k)
unfolding indices
indices_below P zero h = tt
indices_below P (suc k) h = below_append P (indices k) (k ∷ []) (indices_below P k (omega arith)) (h, tt)

kept_below : (P : ℕ) (f : ℕ → Bool) (ps : List ℕ) → Below P ps → Below P (kept f ps)
unfolding kept
kept_below P f [] w = tt
kept_below P f (p ∷ ps) w = go (f p) (kept_below P f ps w.1)
  where
    go : (t : Bool) → Below P (kept f ps) → Below P (cond t (p ∷ kept f ps) (kept f ps))
    go true r = (w.0, r)
    go false r = r

only_below : (P p : ℕ) (ps : List ℕ) → Below P ps → only_one ps ≡ newest p → p < P
unfolding only_one
only_below P p [] w e = let z : ◌≡◌ {A = ℕ} 0 1 = cc in absurd (omega arith)
only_below P p (q ∷ []) w e = let z : q ≡ p = cc in omega (arith, w.0)
only_below P p (q ∷ r ∷ ps) w e = let z : ◌≡◌ {A = ℕ} 0 1 = cc in absurd (omega arith)

pub newest_below : (P S p : ℕ) (s : Image) → newest_in P S s ≡ newest p → p < P
unfolding newest_in
newest_below P S p s = go (all (λ q. eqb (status_of S s q) no_status) (indices P))
  where
    go : (t : Bool) → cond t nothing (only_one (kept (ends_run P S s) (indices P))) ≡ newest p → p < P
    go true e = let z : ◌≡◌ {A = ℕ} 0 1 = cc in absurd (omega arith)
    go false e = only_below P p (kept (ends_run P S s) (indices P)) (kept_below P (ends_run P S s) (indices P) (indices_below P P (omega arith))) e

-- ---- what refuses a request

module _ (P : ℕ) (layout : List ℕ) (s : Image) (i : ℕ) where
  wrong_image : image_ok P s ≡ false → Asks P layout s i (Err Partitions)
  unfolding first_of refusals number_of
  wrong_image e = (λ z. omega arith, λ fits more h. rw e)

  pub wrong_partitions : partitions_ok P ≡ false → Asks P layout s i (Err Partitions)
  unfolding image_ok
  wrong_partitions e = wrong_image (rw e)

  pub wrong_length : partitions_ok P ≡ true → (length s % P ≡ 0 → ⊥) → Asks P layout s i (Err Partitions)
  unfolding image_ok
  wrong_length e n = wrong_image (rw (e, ne_eqb (length s % P) 0 n))

  pub right_image : partitions_ok P ≡ true → length s % P ≡ 0 → image_ok P s ≡ true
  unfolding image_ok
  right_image e z = rw (e, eq-eqb (length s % P) 0 z)

  module _ (right : image_ok P s ≡ true) where
    pub wrong_table : layout_ok (length s / P) layout ≡ false → Asks P layout s i (Err Layout)
    unfolding first_of refusals number_of partition_size
    wrong_table e = (λ z. omega arith, λ fits more h. rw (right, e))

    wrong_item : layout_ok (length s / P) layout ≡ true → has_item i (items_of layout) ≡ false → Asks P layout s i (Err Mismatch)
    unfolding first_of refusals number_of partition_size
    wrong_item e n = (λ z. omega arith, λ fits more h. rw (right, e, h n))

-- ---- what an accepted one knows

-- a length is one byte of the table
size_short : (i o : ℕ) (ns : List ℕ) → ((k : ℕ) → get_or ns k 0 ≤ 255) → (item_of i (items_from o ns)).size ≤ 255
unfolding items_from item_of
size_short i o [] h = omega arith
size_short i o (k ∷ []) h = omega arith
size_short i o (k ∷ n ∷ r) h = go (eqb i k) (size_short i (o + 1 + n) r (λ j. h (suc (suc j))))
  where
    go : (t : Bool) → (item_of i (items_from (o + 1 + n) r)).size ≤ 255 → (cond t (record { identifier = k; size = n; at = o }) (item_of i (items_from (o + 1 + n) r))).size ≤ 255
    go true q = h 1
    go false q = q

module _ (P : ℕ) (layout : List ℕ) (s : Image) (i at size : ℕ) where
  right_item : image_ok P s ≡ true → layout_ok (length s / P) layout ≡ true → has_item i (items_of layout) ≡ true → item_of i (items_of layout) ≡ record { identifier = i; size = size; at = at }
      → ((k : ℕ) → get_or layout k 0 ≤ 255) → Asks P layout s i (Ok (record { offset = at; length = size }))
  unfolding partition_size items_of
  right_item r t h e small = record { image = r; table = t; has = h; item = e; short = omega (arith, size_short i 1 layout small, ap (λ (x : Item). x.size) e) }

  module _ (a : Known P layout s i at size) where
    -- data of the right length
    pub fitting : (n : ℕ) → n ≡ size → Known P layout s i at n
    fitting n e = subst (λ (k : ℕ). Known P layout s i at k) (sym e) a

    pub stands : Stands P at size (length s)
    unfolding image_ok partition_size
    stands =
        let lies = item_lies (length s / P) i layout (right_layout (length s / P) layout a.table).fit a.has in
        record {
          some = partitions_some P (and_left (partitions_ok P) _ a.image);
          even = eqb-true (length s % P) 0 (and_right (partitions_ok P) _ a.image);
          inside = omega (arith, lies.inside, ap (λ (x : Item). x.at) a.item, ap (λ (x : Item). x.size) a.item);
          short = a.short;
        }

-- what the search of a right table has found, or that it has found nothing
pub found_or : (P : ℕ) (layout : List ℕ) (s : Image) (i : ℕ) → image_ok P s ≡ true → layout_ok (length s / P) layout ≡ true → ((k : ℕ) → get_or layout k 0 ≤ 255)
    → (r : Option Place) → Placed layout i r → Asks P layout s i (ok_or r Mismatch)
found_or P layout s i right table bytes None n = wrong_item P layout s i right table n
found_or P layout s i right table bytes (Some p) h = right_item P layout s i p.offset p.length right table h.0 h.1 bytes

-- an item's bytes in one of the partitions
pub place_inside : (P at size n p : ℕ) → Stands P at size n → p < P → p * (n / P) + at + 1 + size ≤ n
place_inside P at size n p z h = omega (arith, z.inside, unit_inside P (n / P) p n h (omega (arith, board_whole P n z.even)))

-- all of the newest partition's items can be carried to the next
pub carry_next : (P : ℕ) (layout : List ℕ) (s : Image) (i at : ℕ) (contents : List ℕ) (p q : ℕ) → Known P layout s i at (length contents) → p < P → q ≡ next_partition P p
    → Carry (length s / P) p q layout i contents (length s)
unfolding partition_size
carry_next P layout s i at contents p q a h e =
    let z = stands P layout s i at (length contents) a in
    let b : P * (length s / P) ≤ length s = omega (arith, board_whole P (length s) z.even) in
    record {
      right = a.table;
      whole = sym (ap (λ (x : Item). x.size) a.item);
      apart = λ f. next_other P p z.some h (f ∙ e);
      reads = unit_inside P (length s / P) p (length s) h b;
      writes = unit_inside P (length s / P) q (length s) (omega (arith, next_below P p h)) b;
    }

pub table_some : (S : ℕ) (layout : List ℕ) → layout_ok S layout ≡ true → 0 < S
table_some S layout e = omega (arith, (right_layout S layout e).fit, used_some (items_of layout))

-- ---- what the search for the newest says

pub said_below : (P S : ℕ) (s : Image) {r : Result (Option ℕ) NoRun} {p : ℕ} → said r ≡ newest_in P S s → r ≡ Ok (Some p) → p < P
unfolding said
said_below P S s {r} {p} e f = newest_below P S p s (sym e ∙ ap said f)

-- the item's bytes in the newest partition
pub newest_inside : (P at size : ℕ) (s : Image) {r : Result (Option ℕ) NoRun} {p : ℕ} → Stands P at size (length s) → said r ≡ newest_in P (length s / P) s → r ≡ Ok (Some p) → p * (length s / P) + at + 1 + size ≤ length s
newest_inside P at size s {r} {p} z e f = place_inside P at size (length s) p z (said_below P (length s / P) s e f)
