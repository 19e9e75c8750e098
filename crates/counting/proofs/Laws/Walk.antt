-- The walk over slots: the numbers that are left, met by what there is, give the whole count.
use Prim.Native.Nat.{ℕ, suc, ◌+◌, ◌-◌, ◌*◌, ◌%◌, ◌≤◌, ◌<◌}
use mathlib.Core.Path.{◌≡◌, refl, sym, ap, ◌∙◌}
use mathlib.Core.Bool.{Bool, true, false, cond}
use mathlib.Core.List.{List, ◌∷◌, ◌++◌}
use native.Mathlib.Omega.{arith}
use native.Mathlib.Nat.{mod-lt}
use lib.ListN.{get_or, take, drop}
use lib.Seq.{get_or-take, get_or-drop, drop-drop}
use lib.Dec.{eqb}
use borrow.Author.Tests.{eq-eqb, ne_eqb}
use Rattle.model.specs.Lists.{chunk}
use Rattle.model.specs.Chip.{Image, Page}
use Rattle.model.specs.Slot.{written, page_block}
use Rattle.model.specs.Steps.{slot_at}
use Rattle.model.proofs.Laws.Segments.{part_of}
use Rattle.places.proofs.Laws.Walk.{slot_pages}
use Rattle.counting.specs.declared.Sought.{Sought}
use Rattle.counting.specs.declared.Met.{Met}
use Rattle.counting.specs.Count.{numbers_in, numbers_at, meet, meet_all}
use Rattle.counting.proofs.Laws.Meet.{meet_few, meet_append}

-- ---- one page more

module _ (q : Sought) (m : Met) (p : Page) (ps : List Page) where
  numbers_stop : get_or p 0 0 ≡ 255 → meet_all q m (numbers_in (p ∷ ps)) ≡ m
  unfolding numbers_in meet_all
  numbers_stop e = rw (eq-eqb (get_or p 0 0) 255 e)

  numbers_next : (get_or p 0 0 ≡ 255 → ⊥) → meet_all q m (numbers_in (p ∷ ps)) ≡ meet_all q (cond (eqb (get_or p 0 0) written) (meet q m (page_block p)) m) (numbers_in ps)
  unfolding numbers_in meet_all
  numbers_next e = rw (ne_eqb (get_or p 0 0) 255 e) (go (eqb (get_or p 0 0) written))
    where
      go : (t : Bool) → meet_all q m (cond t (page_block p ∷ numbers_in ps) (numbers_in ps)) ≡ meet_all q (cond t (meet q m (page_block p)) m) (numbers_in ps)
      go true = refl
      go false = refl

-- ---- the slots of one segment

-- those from a slot on, met by what there is, give the whole
pub record Meeting (s : Image) (B from slot : ℕ) (q : Sought) (m m₀ : Met) : Type 0 where
  pub rest : meet_all q m (numbers_in (chunk (B - slot) 256 (drop (from + slot * 256) s))) ≡ meet_all q m₀ (numbers_in (chunk B 256 (drop from s)))
  pub within : slot ≤ B
  pub few : m.blocks ≤ m₀.blocks + slot

pub meeting_start : (s : Image) (B from : ℕ) (q : Sought) (m : Met) → Meeting s B from 0 q m m
meeting_start s B from q m =
    let e : from + 0 * 256 ≡ from = omega arith in
    let f : B - 0 ≡ B = omega arith in
    record { rest = rw (e, f); within = omega arith; few = omega arith }

module _ (s : Image) (B from slot : ℕ) (q : Sought) (m m₀ : Met) (w : Meeting s B from slot q m m₀) where
  pub meeting_end : B ≤ slot → m ≡ meet_all q m₀ (numbers_in (chunk B 256 (drop from s)))
  unfolding chunk numbers_in meet_all
  meeting_end h = let e : B - slot ≡ 0 = omega arith in rw e at w.rest

  module _ (h : slot < B) where
    abbrev at : ℕ
    at = from + slot * 256

    abbrev page : Page
    page = take 256 (drop at s)

    abbrev later : List Page
    later = chunk (B - (slot + 1)) 256 (drop (from + (slot + 1) * 256) s)

    byte : (k : ℕ) → k < 256 → get_or page k 0 ≡ get_or s (at + k) 0
    byte k l = get_or-take 256 (drop at s) k 0 l ∙ get_or-drop at s k 0

    status : get_or page 0 0 ≡ get_or s at 0
    status = let e : at + 0 ≡ at = omega arith in rw e at (byte 0 (omega arith))

    unread : meet_all q m (numbers_in (page ∷ later)) ≡ meet_all q m₀ (numbers_in (chunk B 256 (drop from s)))
    unfolding chunk
    unread =
        let e : B - slot ≡ suc (B - (slot + 1)) = omega arith in
        let f : at + 256 ≡ from + (slot + 1) * 256 = omega arith in
        rw (e, drop-drop 256 at s, f) at w.rest

    pub meeting_stop : get_or s at 0 ≡ 255 → m ≡ meet_all q m₀ (numbers_in (chunk B 256 (drop from s)))
    meeting_stop e = sym (numbers_stop q m page later (status ∙ e)) ∙ unread

    pub meeting_next : (get_or s at 0 ≡ 255 → ⊥) → (b : ℕ) → b ≡ get_or s (at + 2) 0 + 256 * get_or s (at + 3) 0 → (r : Met) → r ≡ cond (eqb (get_or s at 0) written) (meet q m b) m
        → Meeting s B from (slot + 1) q r m₀
    unfolding page_block
    meeting_next n b e r f =
        let g : page_block page ≡ b = rw (byte 2 (omega arith), byte 3 (omega arith)) (sym e) in
        let k : meet_all q m (numbers_in (page ∷ later)) ≡ meet_all q r (numbers_in later) =
        numbers_next q m page later (λ x. n (sym status ∙ x)) ∙ rw (status, g) (ap (λ (y : Met). meet_all q y (numbers_in later)) (sym f)) in
        record { rest = sym k ∙ unread; within = omega arith; few = omega (arith, meet_few q m b (eqb (get_or s at 0) written) f, w.few) }

-- ---- segment by segment

-- nothing met yet
abbrev pub none : Met
none = record { blocks = 0; stored = false }

-- the segments from a turn on, met by what there is, give the whole
pub record Rounding (N B : ℕ) (s : Image) (q : Sought) (first used turn : ℕ) (m : Met) : Type 0 where
  pub rest : meet_all q m (numbers_at N B s (used - turn) (first + turn)) ≡ meet_all q none (numbers_at N B s used first)
  pub within : turn ≤ used
  pub few : m.blocks ≤ turn * 255

pub rounding_start : (N B : ℕ) (s : Image) (q : Sought) (first used n : ℕ) (t : Bool) → n ≡ 0 → t ≡ false → Rounding N B s q first used 0 (record { blocks = n; stored = t })
rounding_start N B s q first used n t x y =
    let e : first + 0 ≡ first = omega arith in
    let f : used - 0 ≡ used = omega arith in
    rw (x, y) (record { rest = rw (e, f); within = omega arith; few = omega arith })

module _ (N B : ℕ) (s : Image) (q : Sought) (first used turn : ℕ) (m : Met) (w : Rounding N B s q first used turn m) where
  pub rounding_end : used ≤ turn → m ≡ meet_all q none (numbers_at N B s used first)
  unfolding numbers_at meet_all
  rounding_end h = let e : used - turn ≡ 0 = omega arith in rw e at w.rest

  pub rounding_next : (from : ℕ) (r : Met) → turn < used → 0 < N → B ≤ 255 → from ≡ slot_at N B (first + turn) 0 * 256
      → (r ≡ meet_all q m (numbers_in (chunk B 256 (drop from s)))) × (r.blocks ≤ m.blocks + B) → Rounding N B s q first used (turn + 1) r
  unfolding numbers_at
  rounding_next from r h z l e f =
      let n = first + turn in
      let ps = drop 1 (part_of N B (n % N) s) in
      let left = numbers_at N B s (used - (turn + 1)) (suc n) in
      let k : used - turn ≡ suc (used - (turn + 1)) = omega arith in
      let g : suc n ≡ first + (turn + 1) = omega arith in
      let whole : meet_all q m (numbers_in ps ++ left) ≡ meet_all q none (numbers_at N B s used first) = rw k at w.rest in
      let p : r ≡ meet_all q m (numbers_in ps) = rw (slot_pages N B s n (mod-lt n {m = N} z)) (rw e at f.0) in
      record {
        rest = rw g at (ap (λ (y : Met). meet_all q y left) p ∙ sym (meet_append q m (numbers_in ps) left) ∙ whole);
        within = omega arith;
        few = omega (arith, f.1, w.few);
      }
