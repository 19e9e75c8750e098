-- A segment seen by its header.
use Prim.Native.Nat.{ℕ, ◌+◌, ◌-◌, ◌*◌, ◌≤◌, ◌<◌}
use mathlib.Core.Path.{◌≡◌, refl, sym, ap, ◌∙◌}
use mathlib.Core.Bool.{Bool, true, false, cond, beq, true≢false, false≢true}
use mathlib.Core.List.{List, []}
use native.Mathlib.Omega.{arith}
use native.Mathlib.Nat.{mul-le-mul_right, suc-mul}
use lib.ListN.{get_or, take, drop}
use lib.Dec.{eqb}
use Rattle.model.specs.Chip.{Image, Page}
use Rattle.model.specs.Header.{erase_pending, compacted, version_number, is_former, header_version, header_status, header_number, header_in_use, is_blank}
use Rattle.model.specs.Slot.{Slot}
use Rattle.model.specs.State.{blank, invalid, in_use, segments_of, is_in_use, of_version}
use Rattle.std.specs.Prelude.{Option, Some, None}
use Rattle.header_seen.specs.declared.HeaderInUse.{HeaderInUse}
use Rattle.header_seen.specs.Seen.{header_seen}
use Rattle.judge.specs.declared.SegmentState.{SegmentState}
use Rattle.judge.specs.declared.SegmentState.TheVariants.{Blank, Invalid, Owing}
use Rattle.judge.specs.Parts.{header_offset, slots_offset, segment_seen, segment_seen_lem}
use Rattle.judge.specs.Rows.{slots_at}
use Rattle.judge.specs.Heads.{bare_version, bare_of, outline, state_seen}

-- ---- the version that a summary shows

of_version_lem : (t f : Bool) → beq t f ≡ eqb (version_number (bare_version t)) (cond f 1 2)
unfolding bare_version version_number
of_version_lem true true = refl
of_version_lem true false = refl
of_version_lem false true = refl
of_version_lem false false = refl

pub version_used : (x : SegmentState) (t f : Bool) (n : ℕ) → is_in_use (bare_of x t n) ≡ true → beq t f ≡ of_version (cond f 1 2) (bare_of x t n)
unfolding bare_of is_in_use of_version
version_used Blank t f n h = absurd (false≢true h)
version_used Invalid t f n h = absurd (false≢true h)
version_used Rattle.judge.specs.declared.SegmentState.TheVariants.InUse t f n h = of_version_lem t f
version_used Owing t f n h = of_version_lem t f

pub version_unused : (k : ℕ) (x : SegmentState) (t : Bool) (n : ℕ) → is_in_use (bare_of x t n) ≡ false → true ≡ of_version k (bare_of x t n)
unfolding bare_of is_in_use of_version
version_unused k Blank t n h = refl
version_unused k Invalid t n h = refl
version_unused k Rattle.judge.specs.declared.SegmentState.TheVariants.InUse t n h = absurd (true≢false h)
version_unused k Owing t n h = absurd (true≢false h)

-- ---- a segment seen

-- a segment lies inside the image
pub segment_inside : (N B i : ℕ) → i < N → i * (B + 1) * 256 + (B + 1) * 256 ≤ N * (B + 1) * 256
segment_inside N B i h = omega (arith, suc-mul i (B + 1), mul-le-mul_right (B + 1) h)

module _ (N B i : ℕ) (h : Page) (t : Bool) (ks : List Slot) where
  outline_used : (x : HeaderInUse) → header_seen N B i h ≡ Some x → outline (segment_seen N B i h t ks) ≡ bare_of (state_seen x.status) x.former x.number.0
  unfolding header_seen segment_seen outline state_seen
  outline_used x e = go (header_in_use N B i h) e
    where
      state : (b : Bool) (m : ℕ) → in_use (bare_version x.former) (cond b erase_pending compacted) m [] ≡ bare_of (cond b Owing Rattle.judge.specs.declared.SegmentState.TheVariants.InUse) x.former m
      state true m = unfold bare_of in refl
      state false m = unfold bare_of in refl

      go : (b : Bool) → cond {A = Option HeaderInUse} b (Some (record { former = is_former (header_version h); status = header_status h; number = record { 0 = header_number h } })) None ≡ Some x
          → outline (cond b (in_use (header_version h) (header_status h) (header_number h) ks) (cond t blank invalid)) ≡ bare_of (cond (eqb x.status erase_pending) Owing Rattle.judge.specs.declared.SegmentState.TheVariants.InUse) x.former x.number.0
      go true q =
          let r : ◌≡◌ {A = HeaderInUse} (record { former = is_former (header_version h); status = header_status h; number = record { 0 = header_number h } }) x = cc in
          let m : header_number h ≡ x.number.0 = ap (λ (y : HeaderInUse). y.number.0) r in
          let v : is_former (header_version h) ≡ x.former = ap (λ (y : HeaderInUse). y.former) r in
          let a : header_status h ≡ x.status = ap (λ (y : HeaderInUse). y.status) r in
          rw (v, a, m) (state (eqb x.status erase_pending) x.number.0)
      go false q = absurd (let z : ◌≡◌ {A = ℕ} 0 1 = cc in omega arith)

  outline_unused : header_seen N B i h ≡ None → outline (segment_seen N B i h t ks) ≡ cond t blank invalid
  unfolding header_seen segment_seen outline
  outline_unused e = go (header_in_use N B i h) e
    where
      same : (b : Bool) → outline (cond b blank invalid) ≡ cond b blank invalid
      same true = refl
      same false = refl

      go : (b : Bool) → cond {A = Option HeaderInUse} b (Some (record { former = is_former (header_version h); status = header_status h; number = record { 0 = header_number h } })) None ≡ None
          → outline (cond b (in_use (header_version h) (header_status h) (header_number h) ks) (cond t blank invalid)) ≡ cond t blank invalid
      go true q = absurd (let z : ◌≡◌ {A = ℕ} 0 1 = cc in omega arith)
      go false q = same t

module _ (N B i : ℕ) (s : Image) (h : i < N) where
  -- the header page, and the whole segment, as parts of the image
  page_is : take (i * (B + 1) * 256 + 256 - i * (B + 1) * 256) (drop (i * (B + 1) * 256) s) ≡ take 256 (drop (header_offset B i) s)
  page_is = let e : i * (B + 1) * 256 + 256 - i * (B + 1) * 256 ≡ 256 = omega arith in rw e

  whole_is : take (i * (B + 1) * 256 + (B + 1) * 256 - i * (B + 1) * 256) (drop (i * (B + 1) * 256) s) ≡ take ((B + 1) * 256) (drop (header_offset B i) s)
  whole_is = let e : i * (B + 1) * 256 + (B + 1) * 256 - i * (B + 1) * 256 ≡ (B + 1) * 256 = omega arith in rw e

  pub seen_in_use : (r : Option HeaderInUse) (x : HeaderInUse) → r ≡ header_seen N B i (take (i * (B + 1) * 256 + 256 - i * (B + 1) * 256) (drop (i * (B + 1) * 256) s)) → r ≡ Some x
      → bare_of (state_seen x.status) x.former x.number.0 ≡ outline (get_or (segments_of N B s) i blank)
  seen_in_use r x e q = sym (ap outline (segment_seen_lem N B i s h) ∙ outline_used N B i (take 256 (drop (header_offset B i) s)) (is_blank (take ((B + 1) * 256) (drop (header_offset B i) s))) (slots_at s (slots_offset B i) B) x
      (sym (e ∙ ap (header_seen N B i) page_is) ∙ q))

  pub seen_unused : (r : Option HeaderInUse) (t : Bool) → r ≡ header_seen N B i (take (i * (B + 1) * 256 + 256 - i * (B + 1) * 256) (drop (i * (B + 1) * 256) s)) → r ≡ None
      → t ≡ is_blank (take (i * (B + 1) * 256 + (B + 1) * 256 - i * (B + 1) * 256) (drop (i * (B + 1) * 256) s)) → cond t blank invalid ≡ outline (get_or (segments_of N B s) i blank)
  seen_unused r t e q f = ap (λ (x : Bool). cond x blank invalid) (f ∙ ap is_blank whole_is)
      ∙ sym (ap outline (segment_seen_lem N B i s h) ∙ outline_unused N B i (take 256 (drop (header_offset B i) s)) (is_blank (take ((B + 1) * 256) (drop (header_offset B i) s))) (slots_at s (slots_offset B i) B)
      (sym (e ∙ ap (header_seen N B i) page_is) ∙ q))
