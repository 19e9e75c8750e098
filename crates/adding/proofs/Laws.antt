-- Laws of slots added to a fresh image: a segment opened, the page of a live slot written.
use Prim.Native.Nat.{ℕ, suc, ◌+◌, ◌-◌, ◌*◌, ◌%◌, ◌≤◌, ◌<◌}
use mathlib.Core.Path.{◌≡◌, refl, ap, ap₂, ◌∙◌}
use mathlib.Core.List.{List, [], ◌∷◌, ◌++◌, append_assoc}
use native.Mathlib.Nat.{suc-mul, mul-le-mul_right, mod-lt}
use native.Mathlib.Numerals.{add-one}
use native.Mathlib.Omega.{arith}
use lib.ListN.{length, get_or, replicate, length-append, length-replicate}
use borrow.Author.Tests.{lt-ltb, le-ltb}
use Rattle.model.specs.Chip.{Image, Page, Step, erased}
use Rattle.model.specs.Header.{new_version}
use Rattle.model.specs.Slot.{most_contents, slot_page, live, slot_of, Entry, entry_of}
use Rattle.model.specs.Steps.{on_page, slot_at, write_slot, open_segment}
use Rattle.model.specs.Table.{Table}
use Rattle.model.proofs.Laws.SlotPage.{live_facts}
use Rattle.bridge.specs.Lengths.{page_length, write_length, open_length}
use Rattle.moves.specs.Placed.{placed}
use Rattle.flash.specs.Ran.{Programmed}
use Rattle.flash.specs.Pages.{OnPageAt, Sized}
use Rattle.flash.proofs.Laws.{◌then◌, ran_none, ran_length}
use Rattle.flash.proofs.Pages.{in_page}
use Rattle.slot.specs.Parts.{slot_parts}
use Rattle.slot.proofs.Laws.Writes.{slot_parts_lem}
use Rattle.adding.specs.declared.Progress.{Progress}
use Rattle.adding.specs.Adding.{LivePage, Going, Opened, Added}

-- ---- entries placed

module _ (N B n j : ℕ) (e : Entry) (es : Table) where
  placed_here : j < B → placed N B n j (e ∷ es) ≡ on_page (slot_at N B n j) (write_slot e.block e.contents) ++ placed N B n (suc j) es
  unfolding placed
  placed_here h = rw (lt-ltb j B h)

  placed_next : B ≤ j → 0 < B → placed N B n j (e ∷ es) ≡ open_segment N B (new_version 0) (suc n) ++ placed N B (suc n) 0 (e ∷ es)
  unfolding placed
  placed_next h k = rw (le-ltb j B h, lt-ltb 0 B k)

-- ---- a top with an empty slot

module _ (N B : ℕ) (p : Progress) (s : Image) (g : Going N B p (length s)) where
  pub still_free : 0 < p.free → Opened N B p p s s
  still_free h = record {
    steps = [];
    came = record { ran = ran_none B p.left s; counted = omega arith; free = g.free; number = omega arith };
    some = h;
    few = omega arith;
    next = λ e es. refl;
  }

  pub next_opened : {left : ℕ} {t : Image} → p.free ≤ 0 → Programmed (open_segment N B (new_version 0) (p.top.0 + 1)) p.left left s t
      → Opened N B p (record { top = record { 0 = p.top.0 + 1 }; free = B; left = left; steps = p.steps + 21 }) s t
  next_opened h d = record {
    steps = open_segment N B (new_version 0) (p.top.0 + 1);
    came = record { ran = d B; counted = omega (arith, open_length N B 0 (p.top.0 + 1)); free = omega arith; number = omega arith };
    some = g.some;
    few = omega (arith, open_length N B 0 (p.top.0 + 1));
    next = λ e es. next e es;
  }
    where
      next : (e : Entry) (es : Table) → placed N B p.top.0 (B - p.free) (e ∷ es) ≡ open_segment N B (new_version 0) (p.top.0 + 1) ++ placed N B (p.top.0 + 1) (B - B) (e ∷ es)
      next e es =
          let z : B - B ≡ 0 = omega arith in
          rw (z, add-one) (placed_next N B p.top.0 (B - p.free) e es (omega arith) g.some)

-- ---- the page of a live slot

-- what its page says of it
record Says (p : Page) (b : ℕ) (c : List ℕ) : Type 0 where
  whole : length p ≡ 256
  size : get_or p 1 0 ≡ length c
  short : length c ≤ 248
  writes : slot_parts p (get_or p 1 0) ≡ write_slot b c

says : (p : Page) (b : ℕ) (c : List ℕ) → slot_of p ≡ live b c → Says p b c
unfolding most_contents slot_page erased
says p b c h =
    let f = live_facts p b c h in
    let k : length c ≤ 248 = f.short in
    let size : get_or p 1 0 ≡ length c = ap (λ (y : Page). get_or y 1 0) f.page in
    record {
      whole = omega (arith, ap length f.page, length-append c (replicate (248 - length c) 255), length-replicate {A = ℕ} (248 - length c) 255);
      size = size;
      short = k;
      writes = ap₂ slot_parts f.page size ∙ slot_parts_lem b c;
    }

one_entry : (p : Page) (b : ℕ) (c : List ℕ) → slot_of p ≡ live b c → entry_of (slot_of p) ≡ record { block = b; contents = c } ∷ []
unfolding entry_of
one_entry p b c h = ap entry_of h

-- it is a whole page, with a length that fits a slot
pub page_fits : (p : Page) → LivePage p → (length p ≡ 256) × (get_or p 1 0 ≤ 248)
page_fits p (b, c, h) = let f = says p b c h in (f.whole, omega (arith, f.size, f.short))

-- a slot lies inside the image
pub slot_inside : (N B n j bytes : ℕ) → Sized N B bytes → j < B → slot_at N B n j * 256 + 256 ≤ bytes
unfolding slot_at
slot_inside N B n j bytes z h = omega (arith, z.whole, suc-mul (n % N) (B + 1), mul-le-mul_right (B + 1) (mod-lt n {m = N} z.some))

-- its place, from that of the first slot
pub slot_place_lem : (N B n j first : ℕ) → first ≡ slot_at N B n 0 * 256 → first + j * 256 ≡ slot_at N B n j * 256
unfolding slot_at
slot_place_lem N B n j first e = omega (arith, e)

-- the image keeps its length
pub opened_length : (N B : ℕ) (p q : Progress) (s t : Image) → Opened N B p q s t → length t ≡ length s
opened_length N B p q s t o = ran_length o.came.ran

module _ (N B : ℕ) (p q : Progress) (s t : Image) (o : Opened N B p q s t) (page : Page) (lives : LivePage page) where
  pub page_added : (l at : ℕ) {left : ℕ} {u : Image} → l ≡ get_or page 1 0 → at ≡ slot_at N B q.top.0 (B - q.free) * 256 → OnPageAt at (slot_parts page l) q.left left t u
      → Added N B (entry_of (slot_of page)) p (record { top = q.top; free = q.free - 1; left = left; steps = q.steps + 5 + l }) s u
  page_added l at {left} {u} el ea d = go lives
    where
      go : LivePage page → Added N B (entry_of (slot_of page)) p (record { top = q.top; free = q.free - 1; left = left; steps = q.steps + 5 + l }) s u
      go (b, c, h) =
          let f = says page b c h in
          let place = slot_at N B q.top.0 (B - q.free) in
          let xs = on_page place (write_slot b c) in
          let w : Programmed xs q.left left t u = in_page at place (write_slot b c) ea (rw (el, f.writes) at d) in
          let size : length xs ≡ 5 + length c = page_length place (write_slot b c) ∙ write_length b c in
          let both : length (o.steps ++ xs) ≡ length o.steps + length xs = length-append o.steps xs in
          record {
            steps = o.steps ++ xs;
            came = record {
              ran = ◌then◌ o.came.ran (w B);
              counted = omega (arith, o.came.counted, f.size);
              free = omega (arith, o.came.free);
              number = o.came.number;
            };
            few = omega (arith, o.few, f.short);
            next = λ es. next b c h es;
          }
        where
          next : (b : ℕ) (c : List ℕ) → slot_of page ≡ live b c → (es : Table)
              → placed N B p.top.0 (B - p.free) (entry_of (slot_of page) ++ es) ≡ (o.steps ++ on_page (slot_at N B q.top.0 (B - q.free)) (write_slot b c)) ++ placed N B q.top.0 (B - (q.free - 1)) es
          next b c h es =
              let e : Entry = record { block = b; contents = c } in
              let one : entry_of (slot_of page) ≡ e ∷ [] = one_entry page b c h in
              let m : suc (B - q.free) ≡ B - (q.free - 1) = omega (arith, o.some, o.came.free) in
              rw (one, append_assoc, ← m) (o.next e es ∙ ap (λ (y : List Step). o.steps ++ y) (placed_here N B q.top.0 (B - q.free) e es (omega (arith, o.some, o.came.free))))
