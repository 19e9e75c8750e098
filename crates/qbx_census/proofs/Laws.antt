-- The census: one slot and one segment more, the one left aside, and the ends.
use Prim.Native.Nat.{ℕ, suc, ◌+◌, ◌-◌, ◌*◌, ◌≤◌, ◌<◌}
use mathlib.Core.Path.{◌≡◌, refl, sym, ap, ◌∙◌}
use mathlib.Core.Bool.{Bool, true, false, cond}
use mathlib.Core.List.{List}
use native.Mathlib.Numerals.{add-one}
use native.Mathlib.Omega.{arith}
use lib.ListN.{length, get_or, take, drop, length-set, drop_of_length-le}
use lib.Seq.{drop-cons, get_or-set_same, get_or-set_other}
use Rattle.model.specs.Lists.{chunk}
use Rattle.model.specs.Chip.{Image, Page}
use Rattle.model.specs.Header.{is_former, header_version, header_in_use, header_status, header_number, is_blank}
use Rattle.model.specs.Slot.{slot_of, kind_of}
use Rattle.model.specs.State.{Segment, blank, invalid, in_use, segments_of}
use Rattle.model.proofs.Laws.Segments.{segments_length}
use Rattle.model.specs.declared.SegmentNumber.{SegmentNumber}
use Rattle.model.specs.declared.SlotKind.{SlotKind}
use Rattle.model.specs.declared.SlotKind.TheVariants.{Empty, Torn, Live, Dead, Cut, Wrong}
use Rattle.std.specs.Prelude.{Option, Some, None}
use Rattle.header_seen.specs.declared.HeaderInUse.{HeaderInUse}
use Rattle.header_seen.specs.Seen.{header_seen}
use Rattle.judge.specs.Rows.{kinds_at, slots_at}
use Rattle.judge.specs.Parts.{header_offset, slots_offset, segment_seen, segment_seen_lem}
use Rattle.rows.proofs.Laws.Rows.{kinds_next, page_part}
use Rattle.account_text.specs.Account.{unseen}
use Rattle.qbx_census.specs.declared.Census.{Census}
use Rattle.qbx_census.specs.Census.{set_aside, total, counted, count_kinds, one_more, count_segment, count_segments}

-- ---- slots

pub counted_total : (c : Census) (k : SlotKind) → total (counted c k) ≤ total c + 1
unfolding counted
counted_total c Empty = omega arith
counted_total c Torn = omega arith
counted_total c (Live n b) = omega arith
counted_total c Dead = omega arith
counted_total c Cut = omega arith
counted_total c Wrong = omega arith

pub slots_next : (m : List ℕ) (at i slots : ℕ) (c : Census) → i < slots
    → count_kinds c (kinds_at m (at + i * 256) (slots - i)) ≡ count_kinds (counted c (kind_of (slot_of (take 256 (drop (at + i * 256) m))))) (kinds_at m (at + (i + 1) * 256) (slots - (i + 1)))
unfolding count_kinds
slots_next m at i slots c h =
    let d : slots - i ≡ suc (slots - (i + 1)) = omega arith in
    let e : at + i * 256 + 256 ≡ at + (i + 1) * 256 = omega arith in
    rw (d, kinds_next m (at + i * 256) (slots - (i + 1)), e)

pub slots_end : (m : List ℕ) (o i slots : ℕ) (c : Census) → slots ≤ i → count_kinds c (kinds_at m o (slots - i)) ≡ c
unfolding count_kinds kinds_at slots_at chunk
slots_end m o i slots c h = let d : slots - i ≡ 0 = omega arith in rw d

-- ---- segments

module _ (N B i : ℕ) (s : Image) (h : i < N) (r : Option HeaderInUse)
    (e : r ≡ header_seen N B i (take (header_offset B i + 256 - header_offset B i) (drop (header_offset B i) s))) where
  hd : Page
  hd = take 256 (drop (header_offset B i) s)

  bs : List ℕ
  bs = take ((B + 1) * 256) (drop (header_offset B i) s)

  seen : r ≡ header_seen N B i (take 256 (drop (header_offset B i) s))
  seen = e ∙ ap (header_seen N B i) (page_part s (header_offset B i))

  pub segment_unused : (c : Census) → r ≡ None → c ≡ count_segment c (get_or (segments_of N B s) i blank)
  unfolding hd bs header_seen segment_seen count_segment
  segment_unused c q = go (header_in_use N B i hd) (is_blank bs) (sym seen ∙ q) ∙ ap (count_segment c) (sym (segment_seen_lem N B i s h)) where
    go : (a t : Bool) → cond {A = Option HeaderInUse} a (Some (record { former = is_former (header_version hd); status = header_status hd; number = record { 0 = header_number hd } })) None ≡ None
        → c ≡ count_segment c (cond a (in_use (header_version hd) (header_status hd) (header_number hd) (slots_at s (slots_offset B i) B)) (cond t blank invalid))
    go true t w = absurd (let z : ◌≡◌ {A = ℕ} 0 1 = cc in omega arith)
    go false true w = refl
    go false false w = refl

  pub segment_used : (c : Census) (x : HeaderInUse) → r ≡ Some x
      → count_kinds (one_more c) (kinds_at s (header_offset B i + 256) B) ≡ count_segment c (get_or (segments_of N B s) i blank)
  unfolding hd bs header_seen segment_seen count_segment kinds_at
  segment_used c x q =
      let o : header_offset B i + 256 ≡ slots_offset B i = omega arith in
      ap (λ (k : ℕ). count_kinds (one_more c) (kinds_at s k B)) o ∙ (go (header_in_use N B i hd) (is_blank bs) (sym seen ∙ q) ∙ ap (count_segment c) (sym (segment_seen_lem N B i s h))) where
        go : (a t : Bool) → cond {A = Option HeaderInUse} a (Some (record { former = is_former (header_version hd); status = header_status hd; number = record { 0 = header_number hd } })) None ≡ Some x
            → count_kinds (one_more c) (kinds_at s (slots_offset B i) B) ≡ count_segment c (cond a (in_use (header_version hd) (header_status hd) (header_number hd) (slots_at s (slots_offset B i) B)) (cond t blank invalid))
        go true t w = refl
        go false t w = absurd (let z : ◌≡◌ {A = ℕ} 0 1 = cc in omega arith)

pub segments_next : (l : List Segment) (i : ℕ) (c : Census) → i < length l → count_segments c (drop i l) ≡ count_segments (count_segment c (get_or l i blank)) (drop (i + 1) l)
unfolding count_segments
segments_next l i c h = rw (drop-cons l i blank h, add-one)

pub segments_end : (l : List Segment) (i : ℕ) (c : Census) → length l ≤ i → count_segments c (drop i l) ≡ c
unfolding count_segments
segments_end l i c h = rw (drop_of_length-le l h)

-- ---- the segment left aside

-- it counts nothing
unseen_counts : (c : Census) (x : Segment) → c ≡ count_segment c (unseen x)
unfolding unseen count_segment
unseen_counts c blank = refl
unseen_counts c invalid = refl
unseen_counts c (in_use e st n ks) = refl

pub aside_there : (l : List Segment) (i k : ℕ) (c : Census) → i < length l → i ≡ k → c ≡ count_segment c (get_or (set_aside k l) i blank)
aside_there l i k c h e =
    let g : get_or (set_aside k l) i blank ≡ unseen (get_or l i blank) = ap (λ (j : ℕ). get_or (set_aside j l) i blank) (sym e) ∙ get_or-set_same l i (unseen (get_or l i blank)) blank h in
    unseen_counts c (get_or l i blank) ∙ ap (count_segment c) (sym g)

pub aside_other : (l : List Segment) (i k : ℕ) (c : Census) → (i ≡ k → ⊥) → count_segment c (get_or l i blank) ≡ count_segment c (get_or (set_aside k l) i blank)
aside_other l i k c h = ap (count_segment c) (sym (get_or-set_other l k i (unseen (get_or l k blank)) blank h))

pub aside_length : (N B : ℕ) (s : Image) (k : ℕ) → length (set_aside k (segments_of N B s)) ≡ N
aside_length N B s k = length-set (segments_of N B s) k (unseen (get_or (segments_of N B s) k blank)) ∙ segments_length N B s
