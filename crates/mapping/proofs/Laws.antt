-- A number with spaces before it, and the rows that are left to add.
use Prim.Native.Nat.{ℕ, zero, suc, ◌+◌, ◌-◌, ◌≤◌, ◌<◌}
use mathlib.Core.Path.{◌≡◌, refl, sym, ap, ◌∙◌}
use mathlib.Core.Bool.{Bool, true, false, cond}
use mathlib.Core.List.{List, [], ◌∷◌, ◌++◌, map, append_assoc}
use native.Mathlib.Omega.{arith}
use native.Mathlib.Numerals.{add-one}
use lib.ListN.{length, get_or, take, drop, replicate, drop_of_length-le}
use lib.Seq.{drop-cons, get_or-take}
use lib.Dec.{eqb}
use Rattle.model.specs.Chip.{Image}
use Rattle.model.specs.Header.{erase_pending}
use Rattle.model.specs.Slot.{Slot}
use Rattle.model.specs.State.{Segment, blank, invalid, in_use, is_in_use, slots_in, segments_of}
use Rattle.model.specs.Laws.Lists.{map_get}
use Rattle.judge.specs.declared.SegmentState.TheVariants.{InUse, Owing}
use Rattle.judge.specs.Heads.{state_seen}
use Rattle.judge.specs.Rows.{slots_at}
use Rattle.judge.specs.Parts.{slots_offset}
use Rattle.text.specs.Text.{text}
use Rattle.text.specs.Decimal.{decimal}
use Rattle.account_text.specs.Account.{shown}
use Rattle.account_text.specs.Map.{marks_from, padded, row_start, state_word, map_row, map_rows}
use Rattle.index.specs.declared.Shown.{Shown}
use Rattle.index.specs.Shows.{shown_as, uncounted}
use Rattle.index.proofs.Walks.{held_shown}
use Rattle.mapping.specs.Marks.{segment_by}

-- ---- a number with spaces before it

pub padded_full : (w n : ℕ) → w ≤ length (decimal n) → padded w n ≡ decimal n
unfolding padded
padded_full w n h = let e : w - length (decimal n) ≡ 0 = omega arith in rw e

take_replicate : {A : Type 0} (k n : ℕ) (v : A) → k ≤ n → take k (replicate n v) ≡ replicate k v
take_replicate zero n v h = refl
take_replicate (suc k) zero v h = absurd (omega arith)
take_replicate {A} (suc k) (suc n) v h = ap {B = List A} (λ z. v ∷ z) (take_replicate k n v (omega arith))

pub padded_part : (w n d : ℕ) → w ≤ 9 → d ≡ length (decimal n) → padded w n ≡ take (w - d - 0) (replicate 9 32) ++ decimal n
unfolding padded
padded_part w n d h e =
    let f : w - d - 0 ≡ w - length (decimal n) = omega arith in
    rw (f, take_replicate {A = ℕ} (w - length (decimal n)) 9 32 (omega arith))

-- ---- the rows

-- a row as it is put together
pub row_joined : (a b c d m n : List ℕ) → a ++ (b ++ (c ++ (d ++ (m ++ n)))) ≡ a ++ ((b ++ (c ++ d)) ++ (m ++ n))
row_joined a b c d m n = ap (λ (z : List ℕ). a ++ z) (ap (λ (z : List ℕ). b ++ z) (sym (append_assoc c d (m ++ n))) ∙ sym (append_assoc b (c ++ d) (m ++ n)))

-- a row by what a table shows of the segment
row_shown : (next i : ℕ) (x : Segment) (ks : List Slot) → (is_in_use x ≡ true → slots_in x ≡ ks) → map_row next i (segment_by (uncounted x).state (uncounted x).number.0 ks) ≡ map_row next i x
unfolding map_row segment_by uncounted shown_as slots_in is_in_use state_seen state_word
row_shown next i blank ks h = refl
row_shown next i invalid ks h = refl
row_shown next i (in_use ver st n xs) ks h = rw (h refl) (go (eqb st erase_pending))
  where
    go : (t : Bool) → map_row next i (segment_by (cond t Owing InUse) n ks) ≡ row_start (eqb (suc n) next) i ++ (cond t (text " owing") (text " used ") ++ (padded 9 n ++ (text " " ++ (marks_from 0 ks ++ text "\n"))))
    go true = refl
    go false = refl

table_row : (N B next : ℕ) (s : Image) (table : List Shown) (i : ℕ) (d : Shown) → 0 < N → i < N → take N table ≡ map uncounted (shown N B (segments_of N B s))
    → map_row next i (segment_by (get_or table i d).state (get_or table i d).number.0 (slots_at s (slots_offset B i) B)) ≡ map_row next i (get_or (shown N B (segments_of N B s)) i blank)
table_row N B next s table i d p h e =
    let l = shown N B (segments_of N B s) in
    let k = held_shown N B s p in
    let g : get_or table i d ≡ uncounted (get_or l i blank) = sym (get_or-take N table i d h) ∙ (ap (λ (z : List Shown). get_or z i d) e ∙ map_get uncounted l i blank d (omega (arith, k.count))) in
    ap (λ (z : Shown). map_row next i (segment_by z.state z.number.0 (slots_at s (slots_offset B i) B))) g ∙ row_shown next i (get_or l i blank) (slots_at s (slots_offset B i) B) (k.slots i h)

pub rows_next : (N B next : ℕ) (s : Image) (table : List Shown) (i : ℕ) (d : Shown) → 0 < N → i < N → take N table ≡ map uncounted (shown N B (segments_of N B s))
    → map_rows next i (drop i (shown N B (segments_of N B s)))
    ≡ map_row next i (segment_by (get_or table i d).state (get_or table i d).number.0 (slots_at s (slots_offset B i) B)) ++ map_rows next (i + 1) (drop (i + 1) (shown N B (segments_of N B s)))
unfolding map_rows
rows_next N B next s table i d p h e =
    let l = shown N B (segments_of N B s) in
    let k : i < length l = omega (arith, (held_shown N B s p).count) in
    rw (drop-cons l i blank k, add-one i, table_row N B next s table i d p h e)

pub rows_end : (next i : ℕ) (l : List Segment) → length l ≤ i → map_rows next i (drop i l) ≡ []
unfolding map_rows
rows_end next i l h = rw (drop_of_length-le l h)
