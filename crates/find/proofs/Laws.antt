-- Laws of the search: what is still to be looked at gives the whole answer; the slot that is read; what its kind says of the block.
use Prim.Native.Nat.{ℕ, suc, ◌+◌, ◌-◌, ◌*◌, ◌/◌, ◌%◌, ◌≤◌, ◌<◌}
use mathlib.Core.Path.{◌≡◌, refl, sym, ap, ◌∙◌, subst}
use mathlib.Core.Bool.{Bool, true, false, cond, or-false, true≢false}
use mathlib.Core.List.{List, [], ◌∷◌, map, flat_map, flatten}
use native.Mathlib.Nat.{mod-lt, mul-le-mul_right, suc-mul}
use native.Mathlib.Numerals.{add-one}
use native.Mathlib.Omega.{arith}
use lib.ListN.{length, get_or, take, drop, drop_of_length-le}
use lib.Seq.{drop-cons}
use lib.Dec.{eqb}
use borrow.Author.Tests.{eq-eqb, ne_eqb}
use Rattle.model.specs.declared.BlockNumber.{BlockNumber}
use Rattle.model.specs.declared.SlotKind.{SlotKind}
use Rattle.model.specs.declared.SlotKind.TheVariants.{Live}
use Rattle.model.specs.Chip.{Image, Page, pages_of}
use Rattle.model.specs.Slot.{written, slot_page, Slot, empty, torn, dead, cut, wrong, live, slot_of, kind_of, entry_of}
use Rattle.model.specs.State.{entries, holds, slot_from, place_from}
use Rattle.model.specs.Steps.{slot_at}
use Rattle.model.specs.Table.{lookup, contents_found}
use Rattle.model.specs.Laws.Chunk.{chunk_part}
use Rattle.model.proofs.Laws.Segments.{part_of, part_page, part_size, page_in}
use Rattle.model.proofs.Laws.SlotPage.{live_facts}
use Rattle.bridge.specs.Views.Slots.{entries_append, entries_cons}
use Rattle.flash.specs.Pages.{Sized}
use Rattle.slot.proofs.Laws.Kinds.{Other, other_holds}
use Rattle.std.specs.Prelude.{Option, None}
use Rattle.std.specs.declared.option.Option.{Option}
use Rattle.find.specs.declared.FoundSlot.{FoundSlot}
use Rattle.find.specs.Search.{may_hold, rows_at, slot_found, found_in}
use Rattle.model.proofs.Laws.Tables.{holds_append, lookup_append}

-- ---- what a slot's kind says of the block

-- one of another kind than live does not hold it
other_lacks : (b : ℕ) (k : Slot) → Other (kind_of k) → holds b (entry_of k) ≡ false
unfolding holds
other_lacks b k h = ap (holds b) (other_holds k h)

-- a live one holds its block, with contents of its length
live_holds : (b : ℕ) (k : Slot) (l : ℕ) (n : BlockNumber) → kind_of k ≡ Live l n
    → (holds b (entry_of k) ≡ eqb b n.0) × (eqb b n.0 ≡ true → length (contents_found (lookup b (entry_of k))) ≡ l)
unfolding kind_of entry_of holds lookup contents_found
live_holds b empty l n e = absurd (let z : ◌≡◌ {A = ℕ} 0 1 = cc in omega arith)
live_holds b torn l n e = absurd (let z : ◌≡◌ {A = ℕ} 0 1 = cc in omega arith)
live_holds b dead l n e = absurd (let z : ◌≡◌ {A = ℕ} 0 1 = cc in omega arith)
live_holds b cut l n e = absurd (let z : ◌≡◌ {A = ℕ} 0 1 = cc in omega arith)
live_holds b wrong l n e = absurd (let z : ◌≡◌ {A = ℕ} 0 1 = cc in omega arith)
live_holds b (live m c) l n e =
    let f : ◌≡◌ {A = BlockNumber} (record { 0 = m }) n = cc in
    let g : m ≡ n.0 = ap (λ (x : BlockNumber). x.0) f in
    let h : length c ≡ l = cc in
    (or-false (eqb b m) ∙ ap (eqb b) g, λ t. let u : eqb b m ≡ true = ap (eqb b) g ∙ t in rw u h)

-- ---- the quick test

-- its last comparison decides
pub last_byte : (p : Page) (b : ℕ) → get_or p 0 0 ≡ written → get_or p 2 0 ≡ b % 256 → eqb (get_or p 3 0) (b / 256) ≡ may_hold p b
unfolding may_hold
last_byte p b s e = rw (eq-eqb (get_or p 0 0) written s, eq-eqb (get_or p 2 0) (b % 256) e)

-- a slot whose status or number is another holds no such block
passed_over : (p : Page) (b : ℕ) {t : Bool} → t ≡ may_hold p b → t ≡ false → holds b (entry_of (slot_of p)) ≡ false
unfolding entry_of holds
passed_over p b d f = go (slot_of p) refl
  where
    same : (c : List ℕ) → slot_of p ≡ live b c → may_hold p b ≡ true
    same c e = rw (live_facts p b c e).page (unfold may_hold slot_page in simp (eq-eqb (b % 256) (b % 256) refl, eq-eqb (b / 256) (b / 256) refl))

    go : (k : Slot) → slot_of p ≡ k → holds b (entry_of k) ≡ false
    go empty e = refl
    go torn e = refl
    go dead e = refl
    go cut e = refl
    go wrong e = refl
    go (live n c) e = or-false (eqb b n) ∙ ne_eqb b n (λ q. true≢false (sym (same c (e ∙ ap (λ (m : ℕ). live m c) (sym q))) ∙ sym d ∙ f))

-- ---- slots and rows still to be looked at

module _ (N B b n : ℕ) where
  -- what is found among the slots from slot j of the segment with number n on, and in the rows after them
  unfoldable pub found_from : ℕ → List Slot → List (List Slot) → Option FoundSlot
  found_from j ks rows =
      cond (holds b (entries ks)) (slot_found (slot_at N B n (slot_from b j ks) * 256) (length (contents_found (lookup b (entries ks))))) (found_in N B (suc n) rows b)

  pub row_enter : (ks : List Slot) (rows : List (List Slot)) → found_in N B n (ks ∷ rows) b ≡ found_from 0 ks rows
  unfolding found_from found_in flatten place_from
  row_enter ks rows = go (holds b (entries ks)) refl
    where
      go : (t : Bool) → holds b (entries ks) ≡ t → found_in N B n (ks ∷ rows) b ≡ found_from 0 ks rows
      go true e = rw (entries_append ks (flatten rows), holds_append b (entries ks) (entries (flatten rows)), lookup_append b (entries ks) (entries (flatten rows)), e)
      go false e = rw (entries_append ks (flatten rows), holds_append b (entries ks) (entries (flatten rows)), lookup_append b (entries ks) (entries (flatten rows)), e)

  pub slot_next : (j : ℕ) (k : Slot) (ks : List Slot) (rows : List (List Slot)) → holds b (entry_of k) ≡ false → found_from j (k ∷ ks) rows ≡ found_from (j + 1) ks rows
  unfolding found_from slot_from
  slot_next j k ks rows e = rw (add-one j, entries_cons k ks, holds_append b (entry_of k) (entries ks), lookup_append b (entry_of k) (entries ks), e)

  pub slot_stop : (j : ℕ) (k : Slot) (ks : List Slot) (rows : List (List Slot)) → holds b (entry_of k) ≡ true
      → found_from j (k ∷ ks) rows ≡ slot_found (slot_at N B n j * 256) (length (contents_found (lookup b (entry_of k))))
  unfolding found_from slot_from
  slot_stop j k ks rows e = rw (entries_cons k ks, holds_append b (entry_of k) (entries ks), lookup_append b (entry_of k) (entries ks), e)

  pub row_end : (j : ℕ) (rows : List (List Slot)) → found_from j [] rows ≡ found_in N B (suc n) rows b
  unfolding found_from entries flat_map holds
  row_end j rows = refl

-- ---- the slots of an image, one after the other

-- those of the segment with number n, from slot j on
abbrev pub slots_left : ℕ → ℕ → Image → ℕ → ℕ → List Slot
slots_left N B s n j = map slot_of (drop (suc j) (part_of N B (n % N) s))

-- the page that is read for slot j
abbrev pub page_read : Image → ℕ → Page
page_read s at = take (at + 256 - at) (drop at s)

pub left_next : (N B : ℕ) (s : Image) (n j at : ℕ) → n % N < N → j < B → at ≡ slot_at N B n 0 * 256 + j * 256
    → slots_left N B s n j ≡ slot_of (page_read s at) ∷ slots_left N B s n (j + 1)
unfolding pages_of slot_at
left_next N B s n j at i h e =
    let f : at + 256 - at ≡ 256 = omega arith in
    let g : at ≡ (n % N * (B + 1) + suc j) * 256 = omega arith in
    let p : get_or (part_of N B (n % N) s) (suc j) [] ≡ take 256 (drop ((n % N * (B + 1) + suc j) * 256) s) =
    part_page N B (n % N) (suc j) s i (omega arith) ∙ chunk_part 256 (N * (B + 1)) (n % N * (B + 1) + suc j) s (page_in N B (n % N) (suc j) i (omega arith)) in
    rw (f, g, ← p, add-one j, drop-cons (part_of N B (n % N) s) (suc j) [] (omega (arith, part_size N B (n % N) s i)))

pub left_end : (N B : ℕ) (s : Image) (n j : ℕ) → n % N < N → B ≤ j → slots_left N B s n j ≡ []
left_end N B s n j i h =
    let e : drop (suc j) (part_of N B (n % N) s) ≡ [] = drop_of_length-le (part_of N B (n % N) s) {i = suc j} (omega (arith, part_size N B (n % N) s i)) in
    rw e

-- ---- the walk over the segments

-- what the rows from a turn on give is the whole answer
pub record Searching (N B b : ℕ) (s : Image) (first used turn : ℕ) : Type 0 where
  pub within : turn ≤ used
  pub rest : found_in N B (first + turn) (rows_at N B s (used - turn) (first + turn)) b ≡ found_in N B first (rows_at N B s used first) b

pub searching_start : (N B b : ℕ) (s : Image) (first used : ℕ) → Searching N B b s first used 0
searching_start N B b s first used =
    let e : first + 0 ≡ first = omega arith in
    let f : used - 0 ≡ used = omega arith in
    record { within = omega arith; rest = rw (e, f) }

pub searching_end : (N B b : ℕ) (s : Image) (first used turn : ℕ) → Searching N B b s first used turn → used ≤ turn
    → None ≡ found_in N B first (rows_at N B s used first) b
unfolding found_in rows_at flatten entries flat_map holds
searching_end N B b s first used turn w h = let e : used - turn ≡ 0 = omega arith in rw e at w.rest

-- ---- the walk over the slots of one of them

-- what the slots left there and the rows after them give is the whole answer
pub record Walking (N B b : ℕ) (s : Image) (first used turn from slot : ℕ) : Type 0 where
  pub more : turn < used
  pub within : slot ≤ B
  pub index : (first + turn) % N < N
  pub here : from ≡ slot_at N B (first + turn) 0 * 256
  pub reads : from + B * 256 ≤ length s
  pub rest : found_from N B b (first + turn) slot (slots_left N B s (first + turn) slot) (rows_at N B s (used - (turn + 1)) (suc (first + turn)))
      ≡ found_in N B first (rows_at N B s used first) b

-- its slots lie in the image
pub slots_inside : (N B n : ℕ) → n % N < N → slot_at N B n 0 * 256 + B * 256 ≤ N * (B + 1) * 256
unfolding slot_at
slots_inside N B n h = omega (arith, mul-le-mul_right (B + 1) h, suc-mul (n % N) (B + 1))

pub walking_start : (N B b : ℕ) (s : Image) (first used turn from : ℕ) → Sized N B (length s) → Searching N B b s first used turn → turn < used
    → from ≡ slot_at N B (first + turn) 0 * 256 → Walking N B b s first used turn from 0
unfolding rows_at
walking_start N B b s first used turn from z w h e =
    let n = first + turn in
    let i : n % N < N = mod-lt n {m = N} z.some in
    let u : used - turn ≡ suc (used - (turn + 1)) = omega arith in
    record {
      more = h;
      within = omega arith;
      index = i;
      here = e;
      reads = omega (arith, z.whole, slots_inside N B n i);
      rest = sym (row_enter N B b n (slots_left N B s n 0) (rows_at N B s (used - (turn + 1)) (suc n))) ∙ rw u at w.rest;
    }

module _ (N B b : ℕ) (s : Image) (first used turn from slot : ℕ) (w : Walking N B b s first used turn from slot) where
  abbrev rows : List (List Slot)
  rows = rows_at N B s (used - (turn + 1)) (suc (first + turn))

  pub walking_end : B ≤ slot → Searching N B b s first used (turn + 1)
  walking_end h =
      let e : suc (first + turn) ≡ first + (turn + 1) = omega arith in
      let f : found_in N B (suc (first + turn)) rows b ≡ found_in N B first (rows_at N B s used first) b =
      sym (row_end N B b (first + turn) slot rows) ∙ rw (left_end N B s (first + turn) slot w.index h) at w.rest in
      record { within = omega (arith, w.more); rest = rw e at f }

  -- a slot read: passed over, of another kind, of another block, or the one
  module _ (h : slot < B) where
    abbrev kind : Slot
    kind = slot_of (page_read s (from + slot * 256))

    unread : found_from N B b (first + turn) slot (kind ∷ slots_left N B s (first + turn) (slot + 1)) rows ≡ found_in N B first (rows_at N B s used first) b
    unread = rw (left_next N B s (first + turn) slot (from + slot * 256) w.index h (omega (arith, w.here))) at w.rest

    passed : holds b (entry_of kind) ≡ false → Walking N B b s first used turn from (slot + 1)
    passed e = record {
      more = w.more;
      within = omega arith;
      index = w.index;
      here = w.here;
      reads = w.reads;
      rest = sym (slot_next N B b (first + turn) slot kind (slots_left N B s (first + turn) (slot + 1)) rows e) ∙ unread;
    }

    pub walking_over : {t : Bool} → t ≡ may_hold (page_read s (from + slot * 256)) b → t ≡ false → Walking N B b s first used turn from (slot + 1)
    walking_over d f = passed (passed_over (page_read s (from + slot * 256)) b d f)

    module _ (k : SlotKind) (d : k ≡ kind_of kind) where
      pub walking_other : Other k → Walking N B b s first used turn from (slot + 1)
      walking_other o = passed (other_lacks b kind (subst Other d o))

      module _ (l : ℕ) (n : BlockNumber) (e : k ≡ Live l n) where
        pub walking_next : (n.0 ≡ b → ⊥) → Walking N B b s first used turn from (slot + 1)
        walking_next o = passed ((live_holds b kind l n (sym d ∙ e)).0 ∙ ne_eqb b n.0 (λ q. o (sym q)))

        pub walking_stop : n.0 ≡ b → slot_found (from + slot * 256) l ≡ found_in N B first (rows_at N B s used first) b
        unfolding slot_at
        walking_stop q =
            let r = live_holds b kind l n (sym d ∙ e) in
            let t : eqb b n.0 ≡ true = eq-eqb b n.0 (sym q) in
            let a : slot_at N B (first + turn) slot * 256 ≡ from + slot * 256 = omega (arith, w.here) in
            let f = slot_stop N B b (first + turn) slot kind (slots_left N B s (first + turn) (slot + 1)) rows (r.0 ∙ t) in
            rw (a, r.1 t) at (sym f ∙ unread)
