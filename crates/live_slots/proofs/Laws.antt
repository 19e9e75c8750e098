-- Laws of copying live slots: a page copied byte by byte; what a live slot, or any other, adds to the copying.
use Prim.Native.Nat.{ℕ, zero, suc, ◌+◌, ◌-◌, ◌*◌, ◌%◌, ◌≤◌, ◌<◌}
use mathlib.Core.Path.{◌≡◌, refl, sym, ap, ap₂, ◌∙◌, subst}
use mathlib.Core.Logic.{◌≢◌}
use mathlib.Core.List.{List, [], ◌∷◌, ◌++◌, map, flat_map}
use native.Mathlib.Nat.{mul-le-mul_right, suc-mul, mod-lt, mod-mod, mod-eq_of_lt}
use native.Mathlib.Numerals.{add-one}
use native.Mathlib.Omega.{arith}
use lib.ListN.{length, get_or, take, drop, drop_of_length-le}
use lib.Seq.{drop-cons, take-append_seam, get_or-set_other, get_or-take, get_or-drop}
use Rattle.model.specs.declared.BlockNumber.{BlockNumber}
use Rattle.model.specs.declared.SlotKind.{SlotKind}
use Rattle.model.specs.declared.SlotKind.TheVariants.{Live}
use Rattle.model.specs.Chip.{Image, Page, Step, program, erase, erased, run, pages_of}
use Rattle.model.specs.Slot.{written, most_contents, slot_page, Slot, empty, torn, dead, cut, wrong, live, slot_of, kind_of, Entry, entry_of}
use Rattle.model.specs.State.{entries}
use Rattle.model.specs.Steps.{on_page, slot_at, write_slot, copy_entries}
use Rattle.model.specs.Laws.Chunk.{chunk_part}
use Rattle.model.proofs.Laws.Pages.{InPage}
use Rattle.model.proofs.Laws.Segments.{parts, part_of, part_page, part_size, page_in, Only, only_run, InSegment, page_in_segment}
use Rattle.model.proofs.Laws.SlotPage.{live_facts, live_status, write_in_page}
use Rattle.flash.specs.Ran.{Ran, Programmed}
use Rattle.flash.proofs.Laws.{◌then◌, ran_none, ran_length, ran_lent}
use Rattle.flash.specs.Pages.{OnPageAt, Sized}
use Rattle.flash.proofs.Pages.{in_page}
use Rattle.slot.proofs.Laws.Kinds.{Other, other_holds}
use Rattle.slot.specs.Parts.{slot_parts}
use Rattle.slot.proofs.Laws.Writes.{slot_parts_lem, write_within}
use Rattle.live_slots.specs.Live.{live_entries, first_slot, Apart, Copied}

-- ---- a live slot by its kind

kind_live : (k : Slot) (l : ℕ) (b : BlockNumber) → kind_of k ≡ Live l b → (c : List ℕ) × (k ≡ live b.0 c) × (length c ≡ l)
unfolding kind_of
kind_live empty l b e = absurd (let z : ◌≡◌ {A = ℕ} 0 1 = cc in omega arith)
kind_live torn l b e = absurd (let z : ◌≡◌ {A = ℕ} 0 1 = cc in omega arith)
kind_live dead l b e = absurd (let z : ◌≡◌ {A = ℕ} 0 1 = cc in omega arith)
kind_live cut l b e = absurd (let z : ◌≡◌ {A = ℕ} 0 1 = cc in omega arith)
kind_live wrong l b e = absurd (let z : ◌≡◌ {A = ℕ} 0 1 = cc in omega arith)
kind_live (live n c) l b e = let f : ◌≡◌ {A = BlockNumber} (record { 0 = n }) b = cc in (c, ap (λ (x : BlockNumber). live x.0 c) f, cc)

page_contents_lem : (p : Page) (b l : ℕ) (c : List ℕ) → p ≡ slot_page b c → length c ≡ l → take l (drop 8 p) ≡ c
unfolding slot_page
page_contents_lem p b l c e f =
    let r : List ℕ = erased (most_contents - length c) in
    ap (λ (y : Page). take l (drop 8 y)) e ∙ ap (λ (k : ℕ). take k (c ++ r)) (sym f) ∙ take-append_seam c r

-- what a live slot holds is in its page
pub record LivePage (p : Page) (l b : ℕ) : Type 0 where
  pub holds : slot_of p ≡ live b (take l (drop 8 p))
  pub short : l ≤ 248
  pub long : length (take l (drop 8 p)) ≡ l
  pub writes : slot_parts p l ≡ write_slot b (take l (drop 8 p))

pub live_page : (p : Page) (l : ℕ) (b : BlockNumber) {k : SlotKind} → k ≡ kind_of (slot_of p) → k ≡ Live l b → LivePage p l b.0
unfolding most_contents
live_page p l b d e = go (kind_live (slot_of p) l b (sym d ∙ e))
  where
    go : ((c : List ℕ) × (slot_of p ≡ live b.0 c) × (length c ≡ l)) → LivePage p l b.0
    go (c, h, k) =
        let f = live_facts p b.0 c h in
        let g : take l (drop 8 p) ≡ c = page_contents_lem p b.0 l c f.page k in
        record {
          holds = rw g h;
          short = omega (arith, f.short);
          long = rw g k;
          writes = ap₂ slot_parts f.page (sym k) ∙ (slot_parts_lem b.0 c ∙ ap (write_slot b.0) (sym g));
        }

-- ---- what steps in one segment keep

in_segment_take : (B t k : ℕ) (xs : List Step) → InSegment B t xs → InSegment B t (take k xs)
in_segment_take B t zero xs h = tt
in_segment_take B t (suc k) [] h = tt
in_segment_take B t (suc k) (program at v ∷ xs) h = (h.0, in_segment_take B t k xs h.1)
in_segment_take B t (suc k) (erase i ∷ xs) h = h

-- the pages of another segment, however far the budget went
pub pages_kept : (N B i t : ℕ) {xs : List Step} {n r : ℕ} {s u : Image} → t < N → (i ≡ t → ⊥) → InSegment B t xs → Ran xs B n r s u → part_of N B i u ≡ part_of N B i s
pages_kept N B i t {xs} {n} {r} {s} {u} h a w d =
    let o : Only N B t s (run B (take n xs) s) = only_run N B t (take n xs) s h (in_segment_take B t n xs w) in
    ap (λ (y : Image). part_of N B i y) d.image ∙ ap (λ (y : List (List Page)). get_or y i []) o ∙ get_or-set_other (parts N B s) t i (part_of N B t (run B (take n xs) s)) [] a

-- ---- the slots of the source, one after the other

-- what the slots from a place on hold
abbrev pub entries_from : ℕ → ℕ → ℕ → Image → ℕ → List Entry
entries_from N B i s j = entries (map slot_of (drop (suc j) (part_of N B i s)))

entries_next : (N B i j : ℕ) (s : Image) → i < N → j < B → entries_from N B i s j ≡ entry_of (slot_of (get_or (part_of N B i s) (suc j) [])) ++ entries_from N B i s (j + 1)
unfolding entries flat_map
entries_next N B i j s h k = rw (add-one, drop-cons (part_of N B i s) (suc j) [] (omega (arith, part_size N B i s h)))

entries_end : (N B i j : ℕ) (s : Image) → i < N → B ≤ j → entries_from N B i s j ≡ []
unfolding entries flat_map
entries_end N B i j s h k =
    let e : drop (suc j) (part_of N B i s) ≡ [] = drop_of_length-le (part_of N B i s) {i = suc j} (omega (arith, part_size N B i s h)) in
    rw e

-- the page that is read for a slot
slot_read : (N B i j : ℕ) (s : Image) (at : ℕ) → i < N → j < B → at ≡ first_slot B i * 256 + j * 256 → take (at + 256 - at) (drop at s) ≡ get_or (part_of N B i s) (suc j) []
unfolding pages_of
slot_read N B i j s at h k e =
    let f : at + 256 - at ≡ 256 = omega arith in
    let g : at ≡ (i * (B + 1) + suc j) * 256 = omega arith in
    rw (f, g) (sym (part_page N B i (suc j) s h (omega arith) ∙ chunk_part 256 (N * (B + 1)) (i * (B + 1) + suc j) s (page_in N B i (suc j) h (omega arith))))

pub slots_inside : (N B i : ℕ) → i < N → first_slot B i * 256 + B * 256 ≤ N * (B + 1) * 256
slots_inside N B i h = omega (arith, mul-le-mul_right (B + 1) h, suc-mul i (B + 1))

-- a slot that is not live holds nothing
unwritten_none : (x : Slot) → ((b : ℕ) (c : List ℕ) → x ≡ live b c → ⊥) → entry_of x ≡ []
unfolding entry_of
unwritten_none empty h = refl
unwritten_none torn h = refl
unwritten_none dead h = refl
unwritten_none cut h = refl
unwritten_none wrong h = refl
unwritten_none (live b c) h = absurd (h b c refl)

-- ---- the loop that copies

-- the loop's invariant, from segment i to segment t: whatever finishes the rest of the copying finishes the whole
pub record Copying (N B i t budget : ℕ) (from s : Image) (left copied slot : ℕ) : Type 0 where
  pub finish : (r : ℕ) (u : Image) → Programmed (copy_entries N B t copied (entries_from N B i from slot)) left r s u → Programmed (copy_entries N B t 0 (entries_from N B i from 0)) budget r from u
  pub counted : copied + length (entries_from N B i from slot) ≡ length (entries_from N B i from 0)
  pub source : i < N
  pub target : t < N
  pub apart : i ≡ t → ⊥
  pub within : slot ≤ B
  pub behind : copied ≤ slot
  pub pages : part_of N B i s ≡ part_of N B i from
  pub size : length s ≡ length from
  pub reads : first_slot B i * 256 + B * 256 ≤ length s
  pub writes : first_slot B t * 256 + B * 256 ≤ length s

pub copying_start : (N B i t o n budget : ℕ) (s : Image) → Sized N B (length s) → i ≡ o % N → t ≡ n % N → Apart N o n → Copying N B i t budget s s budget 0 0
copying_start N B i t o n budget s z e f a =
    let p : 0 < N = z.some in
    let h : i < N = omega (arith, mod-lt o {m = N} p) in
    let k : t < N = omega (arith, mod-lt n {m = N} p) in
    record {
      finish = λ r u d. d;
      counted = omega arith;
      source = h;
      target = k;
      apart = λ w. a (sym e ∙ w ∙ f);
      within = omega arith;
      behind = omega arith;
      pages = refl;
      size = refl;
      reads = omega (arith, z.whole, slots_inside N B i h);
      writes = omega (arith, z.whole, slots_inside N B t k);
    }

module _ (N B i t budget : ℕ) (from s : Image) (left copied slot at : ℕ) (c : Copying N B i t budget from s left copied slot) (more : slot < B)
    (page : Page) (here : at ≡ first_slot B i * 256 + slot * 256) (read : page ≡ take (at + 256 - at) (drop at s)) where
  -- what the slot that was read adds
  slot_adds : entries_from N B i from slot ≡ entry_of (slot_of page) ++ entries_from N B i from (slot + 1)
  slot_adds =
      let e : page ≡ get_or (part_of N B i from) (suc slot) [] = read ∙ slot_read N B i slot s at c.source more here ∙ ap (λ (y : List Page). get_or y (suc slot) []) c.pages in
      entries_next N B i slot from c.source more ∙ ap (λ (y : Page). entry_of (slot_of y) ++ entries_from N B i from (slot + 1)) (sym e)

  copying_none : entry_of (slot_of page) ≡ [] → Copying N B i t budget from s left copied (slot + 1)
  copying_none e =
      let a : entries_from N B i from slot ≡ entries_from N B i from (slot + 1) =
      slot_adds ∙ ap (λ (y : List Entry). y ++ entries_from N B i from (slot + 1)) e in
      record {
        finish = λ r u d. c.finish r u (rw (← a) at d);
        counted = omega (arith, ap length a, c.counted);
        source = c.source;
        target = c.target;
        apart = c.apart;
        within = omega arith;
        behind = omega (arith, c.behind);
        pages = c.pages;
        size = c.size;
        reads = c.reads;
        writes = c.writes;
      }

  pub copying_skip : (k : SlotKind) → k ≡ kind_of (slot_of page) → Other k → Copying N B i t budget from s left copied (slot + 1)
  copying_skip k e o = copying_none (other_holds (slot_of page) (subst Other e o))

  -- by its status alone
  pub copying_unwritten : get_or s at 0 ≢ written → Copying N B i t budget from s left copied (slot + 1)
  copying_unwritten n =
      let z : at + 0 ≡ at = omega arith in
      let first : get_or page 0 0 ≡ get_or s at 0 = ap (λ (y : Page). get_or y 0 0) read ∙ (get_or-take (at + 256 - at) (drop at s) 0 0 (omega arith) ∙ rw z at (get_or-drop at s 0 0)) in
      copying_none (unwritten_none (slot_of page) (λ b d e. n (sym first ∙ live_status page b d e)))

  -- the image when the part with the target's slots comes back
  abbrev Back : ℕ → List ℕ → Image
  Back start q = take start s ++ (q ++ drop (start + B * 256 - start) (drop start s))

  -- what was written in the part, said of the image
  slot_written : (l b start r : ℕ) (q : List ℕ) → LivePage page l b → start ≡ first_slot B t * 256
      → OnPageAt (copied * 256) (slot_parts page l) left r (take (start + B * 256 - start) (drop start s)) q
      → Programmed (on_page (slot_at N B t copied) (write_slot b (take l (drop 8 page)))) left r s (Back start q)
  unfolding slot_at
  slot_written l b start r q v e d C =
      let f : start + B * 256 - start ≡ B * 256 = omega arith in
      let m : t % N ≡ t = mod-eq_of_lt c.target in
      let h : first_slot B t + copied ≡ t * (B + 1) + suc copied = omega arith in
      let w = in_page (copied * 256) copied (slot_parts page l) refl d C in
      rw (m, ← h, f, e)
      (ran_lent (first_slot B t) (B * 256) copied s (write_slot b (take l (drop 8 page))) c.writes (omega (arith, c.behind)) (write_within b (take l (drop 8 page)) (omega (arith, v.short, v.long)))
      (rw (f, e, v.writes) at w))

  slot_in_target : (xs : List Step) → InPage xs → InSegment B t (on_page (slot_at N B t copied) xs)
  unfolding slot_at
  slot_in_target xs p =
      let m : t % N ≡ t = mod-eq_of_lt c.target in
      rw m (page_in_segment B t (suc copied) xs (omega (arith, c.behind)) p)

  pub copying_turn : (k : SlotKind) (l : ℕ) (b : BlockNumber) (start r : ℕ) (q : List ℕ) → k ≡ kind_of (slot_of page) → k ≡ Live l b → start ≡ first_slot B t * 256
      → OnPageAt (copied * 256) (slot_parts page l) left r (take (start + B * 256 - start) (drop start s)) q
      → Copying N B i t budget from (Back start q) r (copied + 1) (slot + 1)
  unfolding most_contents entry_of copy_entries
  copying_turn k l b start r q e f g d =
      let v = live_page page l b e f in
      let x : List ℕ = take l (drop 8 page) in
      let a : entries_from N B i from slot ≡ record { block = b.0; contents = x } ∷ entries_from N B i from (slot + 1) =
      slot_adds ∙ ap (λ (y : Slot). entry_of y ++ entries_from N B i from (slot + 1)) v.holds in
      let w : Programmed (on_page (slot_at N B t copied) (write_slot b.0 x)) left r s (Back start q) = slot_written l b.0 start r q v g d in
      let y : length x ≤ most_contents = omega (arith, v.short, v.long) in
      let z : length (Back start q) ≡ length s = ran_length (w B) in
      record {
        finish = λ m u h. c.finish m u (rw a (λ C. ◌then◌ (w C) (rw (add-one copied) at (h C))));
        counted = omega (arith, ap length a, c.counted);
        source = c.source;
        target = c.target;
        apart = c.apart;
        within = omega arith;
        behind = omega (arith, c.behind);
        pages = pages_kept N B i t c.target c.apart (slot_in_target (write_slot b.0 x) (write_in_page b.0 x y)) (w B) ∙ c.pages;
        size = z ∙ c.size;
        reads = rw z c.reads;
        writes = rw z c.writes;
      }

-- entries are written to the same slots for every number of a segment
same_segment : (N B n j : ℕ) (es : List Entry) → copy_entries N B (n % N) j es ≡ copy_entries N B n j es
unfolding copy_entries slot_at
same_segment N B n j [] = refl
same_segment N B n j (e ∷ es) = rw (mod-mod n N, same_segment N B n (suc j) es)

pub copying_end : (N B i t o n budget : ℕ) {from s : Image} {left copied slot : ℕ} → Copying N B i t budget from s left copied slot → B ≤ slot → i ≡ o % N → t ≡ n % N
    → Copied N B o n budget left copied from s
unfolding copy_entries live_entries
copying_end N B i t o n budget {from} {s} {left} {copied} {slot} c h e f =
    let z : entries_from N B i from slot ≡ [] = entries_end N B i slot from c.source h in
    let a : entries_from N B i from 0 ≡ live_entries N B o from = ap (λ (k : ℕ). entries_from N B k from 0) e in
    let g : copy_entries N B t 0 (entries_from N B i from 0) ≡ copy_entries N B n 0 (live_entries N B o from) =
    ap (λ (k : ℕ). copy_entries N B k 0 (entries_from N B i from 0)) f ∙ same_segment N B n 0 (entries_from N B i from 0) ∙ ap (λ (es : List Entry). copy_entries N B n 0 es) a in
    record {
      ran = subst (λ (xs : List Step). Programmed xs budget left from s) g (c.finish left s (λ C. rw z (ran_none C left s)));
      counted = omega (arith, c.counted, ap length z, ap length a);
    }
