-- The walk over slots: what is still to be entered gives the whole table.
use Prim.Native.Nat.{ℕ, zero, suc, ◌+◌, ◌-◌, ◌*◌, ◌%◌, ◌≤◌, ◌<◌}
use mathlib.Core.Path.{◌≡◌, refl, sym, ap, ◌∙◌}
use mathlib.Core.Bool.{Bool, true, false, cond}
use mathlib.Core.List.{List, [], ◌∷◌}
use native.Mathlib.Omega.{arith}
use native.Mathlib.Nat.{mod-lt, mul-le-mul_right}
use lib.ListN.{length, get_or, take, drop, set, length-set, length-drop}
use lib.Seq.{get_or-take, get_or-drop, drop-drop, ext_get_or}
use lib.Dec.{eqb}
use borrow.Author.Tests.{eq-eqb, ne_eqb}
use Rattle.model.specs.Lists.{chunk}
use Rattle.model.specs.Chip.{Image, Page, pages_of}
use Rattle.model.specs.Slot.{written, page_block}
use Rattle.model.specs.Steps.{slot_at}
use Rattle.model.specs.Mounted.{Places}
use Rattle.model.specs.Laws.Chunk.{chunk_length, chunk_part}
use Rattle.model.proofs.Laws.Segments.{part_of, part_page, part_size, page_in}
use Rattle.flash.specs.Pages.{Sized}
use Rattle.find.proofs.Laws.{slots_inside}
use Rattle.places.specs.Places.{entered, entered_from}

-- ---- one page more

module _ (at : ℕ) (p : Page) (ps : List Page) (t : Places) where
  pub entered_stop : get_or p 0 0 ≡ 255 → entered at (p ∷ ps) t ≡ t
  unfolding entered
  entered_stop e = rw (eq-eqb (get_or p 0 0) 255 e)

  pub entered_live : get_or p 0 0 ≡ written → entered at (p ∷ ps) t ≡ entered (at + 256) ps (set t (page_block p) at)
  unfolding entered
  entered_live e = rw (e)

  pub entered_over : (get_or p 0 0 ≡ 255 → ⊥) → (get_or p 0 0 ≡ written → ⊥) → entered at (p ∷ ps) t ≡ entered (at + 256) ps t
  unfolding entered
  entered_over e f = rw (ne_eqb (get_or p 0 0) 255 e, ne_eqb (get_or p 0 0) written f)

-- ---- the slots of one segment

-- those from a slot on, entered into what there is, give the whole
pub record Entering (s : Image) (B from slot : ℕ) (t t₀ : Places) : Type 0 where
  pub within : slot ≤ B
  pub long : length t ≡ length t₀
  pub rest : entered (from + slot * 256) (chunk (B - slot) 256 (drop (from + slot * 256) s)) t ≡ entered from (chunk B 256 (drop from s)) t₀

pub entering_start : (s : Image) (B from : ℕ) (t : Places) → Entering s B from 0 t t
entering_start s B from t =
    let e : from + 0 * 256 ≡ from = omega arith in
    let f : B - 0 ≡ B = omega arith in
    record { within = omega arith; long = refl; rest = rw (e, f) }

module _ (s : Image) (B from slot : ℕ) (t t₀ : Places) (w : Entering s B from slot t t₀) where
  pub entering_end : B ≤ slot → t ≡ entered from (chunk B 256 (drop from s)) t₀
  unfolding chunk entered
  entering_end h = let e : B - slot ≡ 0 = omega arith in rw e at w.rest

  module _ (h : slot < B) where
    abbrev at : ℕ
    at = from + slot * 256

    abbrev page : Page
    page = take 256 (drop at s)

    abbrev later : List Page
    later = chunk (B - (slot + 1)) 256 (drop (from + (slot + 1) * 256) s)

    byte : (k : ℕ) → k < 256 → get_or page k 0 ≡ get_or s (at + k) 0
    byte k l = get_or-take 256 (drop at s) k 0 l ∙ get_or-drop at s k 0

    unread : entered at (page ∷ later) t ≡ entered from (chunk B 256 (drop from s)) t₀
    unfolding chunk
    unread =
        let e : B - slot ≡ suc (B - (slot + 1)) = omega arith in
        let f : at + 256 ≡ from + (slot + 1) * 256 = omega arith in
        rw (e, drop-drop 256 at s, f) at w.rest

    status : get_or page 0 0 ≡ get_or s at 0
    status = let e : at + 0 ≡ at = omega arith in rw e at (byte 0 (omega arith))

    next : (u : Places) → length u ≡ length t → entered at (page ∷ later) t ≡ entered (at + 256) later u → Entering s B from (slot + 1) u t₀
    next u l e =
        let f : at + 256 ≡ from + (slot + 1) * 256 = omega arith in
        record { within = omega arith; long = l ∙ w.long; rest = rw f at (sym e ∙ unread) }

    pub entering_stop : get_or s at 0 ≡ 255 → t ≡ entered from (chunk B 256 (drop from s)) t₀
    entering_stop e = sym (entered_stop at page later t (status ∙ e)) ∙ unread

    pub entering_over : (get_or s at 0 ≡ 255 → ⊥) → (get_or s at 0 ≡ written → ⊥) → Entering s B from (slot + 1) t t₀
    entering_over e f = next t refl (entered_over at page later t (λ x. e (sym status ∙ x)) (λ x. f (sym status ∙ x)))

    pub entering_live : get_or s at 0 ≡ written → (b : ℕ) → b ≡ get_or s (at + 2) 0 + 256 * get_or s (at + 3) 0 → Entering s B from (slot + 1) (set t b at) t₀
    unfolding page_block
    entering_live e b q =
        let f : page_block page ≡ b = rw (byte 2 (omega arith), byte 3 (omega arith)) (sym q) in
        next (set t b at) (length-set t b at) (rw f at (entered_live at page later t (status ∙ e)))

-- ---- the lengths stay

pub entered_length : (at : ℕ) (ps : List Page) (t : Places) → length (entered at ps t) ≡ length t
unfolding entered
entered_length at [] t = refl
entered_length at (p ∷ ps) t = go (eqb (get_or p 0 0) 255) (eqb (get_or p 0 0) written) (entered_length (at + 256) ps t) (entered_length (at + 256) ps (set t (page_block p) at))
  where
    go : (x y : Bool) → length (entered (at + 256) ps t) ≡ length t → length (entered (at + 256) ps (set t (page_block p) at)) ≡ length (set t (page_block p) at)
        → length (cond x t (entered (at + 256) ps (cond y (set t (page_block p) at) t))) ≡ length t
    go true y a b = refl
    go false true a b = b ∙ length-set t (page_block p) at
    go false false a b = a

pub entered_from_length : (N B : ℕ) (s : Image) (u n : ℕ) (t : Places) → length (entered_from N B s u n t) ≡ length t
unfolding entered_from
entered_from_length N B s zero n t = refl
entered_from_length N B s (suc u) n t = let ps = drop 1 (part_of N B (n % N) s) in
    entered_from_length N B s u (suc n) (entered (slot_at N B n 0 * 256) ps t) ∙ entered_length (slot_at N B n 0 * 256) ps t

-- ---- segment by segment

-- the pages of the slots, as they lie in the image
pub slot_pages : (N B : ℕ) (s : Image) (n : ℕ) → n % N < N → drop 1 (part_of N B (n % N) s) ≡ chunk B 256 (drop (slot_at N B n 0 * 256) s)
unfolding pages_of slot_at
slot_pages N B s n i = ext_get_or [] (drop 1 part) (chunk B 256 (drop from s)) (long ∙ sym (chunk_length B 256 (drop from s))) (λ q h. page q (omega (arith, long)))
  where
    part : List Page
    part = part_of N B (n % N) s

    from : ℕ
    from = (n % N * (B + 1) + 1) * 256

    long : length (drop 1 part) ≡ B
    long = length-drop 1 part ∙ omega (arith, part_size N B (n % N) s i)

    page : (q : ℕ) → q < B → get_or (drop 1 part) q [] ≡ get_or (chunk B 256 (drop from s)) q []
    page q h =
        let e : (n % N * (B + 1) + (1 + q)) * 256 ≡ from + q * 256 = omega arith in
        let f : get_or part (1 + q) [] ≡ take 256 (drop (from + q * 256) s) =
        part_page N B (n % N) (1 + q) s i (omega arith) ∙ rw e at (chunk_part 256 (N * (B + 1)) (n % N * (B + 1) + (1 + q)) s (page_in N B (n % N) (1 + q) i (omega arith))) in
        let g : get_or (chunk B 256 (drop from s)) q [] ≡ take 256 (drop (from + q * 256) s) = rw (drop-drop (q * 256) from s) at (chunk_part 256 B q (drop from s) h) in
        get_or-drop 1 part q [] ∙ f ∙ sym g

-- the segments from a turn on, entered into what there is, give the whole
pub record Rounding (N B : ℕ) (s : Image) (first count turn : ℕ) (t t₀ : Places) : Type 0 where
  pub within : turn ≤ count
  pub long : length t ≡ length t₀
  pub rest : entered_from N B s (count - turn) (first + turn) t ≡ entered_from N B s count first t₀

pub rounding_start : (N B : ℕ) (s : Image) (first count : ℕ) (t : Places) → Rounding N B s first count 0 t t
rounding_start N B s first count t =
    let e : first + 0 ≡ first = omega arith in
    let f : count - 0 ≡ count = omega arith in
    record { within = omega arith; long = refl; rest = rw (e, f) }

module _ (N B : ℕ) (s : Image) (first count turn : ℕ) (t t₀ : Places) (w : Rounding N B s first count turn t t₀) where
  pub rounding_end : count ≤ turn → t ≡ entered_from N B s count first t₀
  unfolding entered_from
  rounding_end h = let e : count - turn ≡ 0 = omega arith in rw e at w.rest

  pub rounding_next : (from : ℕ) (u : Places) → turn < count → 0 < N → from ≡ slot_at N B (first + turn) 0 * 256 → u ≡ entered from (chunk B 256 (drop from s)) t
      → Rounding N B s first count (turn + 1) u t₀
  unfolding entered_from
  rounding_next from u h z e f =
      let n = first + turn in
      let k : count - turn ≡ suc (count - (turn + 1)) = omega arith in
      let g : suc n ≡ first + (turn + 1) = omega arith in
      let whole : entered_from N B s (count - (turn + 1)) (suc n) (entered (slot_at N B n 0 * 256) (drop 1 (part_of N B (n % N) s)) t) ≡ entered_from N B s count first t₀ = rw k at w.rest in
      let p : u ≡ entered (slot_at N B n 0 * 256) (drop 1 (part_of N B (n % N) s)) t = rw (slot_pages N B s n (mod-lt n {m = N} z)) (rw e at f) in
      record {
        within = omega arith;
        long = ap length f ∙ entered_length from (chunk B 256 (drop from s)) t ∙ w.long;
        rest = rw g at (ap (λ (y : Places). entered_from N B s (count - (turn + 1)) (suc n) y) p ∙ whole);
      }

-- the slots of a segment lie in the image, which has few bytes
pub slots_within : (N B n bytes : ℕ) → Sized N B bytes → slot_at N B n 0 * 256 + B * 256 ≤ bytes
slots_within N B n bytes z = omega (arith, z.whole, slots_inside N B n (mod-lt n {m = N} z.some))

pub few_bytes : (N B bytes : ℕ) → Sized N B bytes → bytes ≤ 16711680
few_bytes N B bytes z = omega (arith, z.whole, mul-le-mul_right (B + 1) z.segments, z.slots)
