-- Laws of the last steps of a put: the slot is written, and then the old one is marked. On a clean image they are those of the definition.
use Prim.Native.Nat.{ℕ, ◌+◌, ◌-◌, ◌*◌, ◌%◌, ◌≤◌, ◌<◌}
use mathlib.Core.Path.{◌≡◌, refl, ap₂, ◌∙◌, subst}
use mathlib.Core.List.{List, ◌++◌, append-nil}
use native.Mathlib.Nat.{mod-lt, mul-le-mul_right, suc-mul}
use native.Mathlib.Omega.{arith}
use lib.ListN.{length, length-append}
use Rattle.model.specs.Chip.{Image}
use Rattle.model.specs.State.{View, place_of, view}
use Rattle.model.specs.Steps.{on_page, slot_at, write_slot, mark_dead, mark_place, top_number, write_at_top, mark_old}
use Rattle.model.specs.declared.Performed.{Performed}
use Rattle.bridge.specs.Held.{Held, held_of_clean, clean_view}
use Rattle.std.specs.Prelude.{Option, None, Some}
use Rattle.std.specs.declared.option.Option.{Option}
use Rattle.find.specs.declared.FoundSlot.{FoundSlot}
use Rattle.find.proofs.Callers.{Inside, found_inside, FoundAt, found_at, found_nothing}
use Rattle.flash.specs.Ran.{Ran, shifted}
use Rattle.flash.proofs.Laws.{◌then◌, ran_length, ran_left, shifted_page}
use Rattle.flash.specs.Pages.{Sized, OnPageAt}
use Rattle.flash.proofs.Pages.{in_page, sized}
use Rattle.room.specs.declared.Plan.{Plan}
use Rattle.room.specs.declared.Room.{Room}
use Rattle.room.specs.Room.{Worked}
use Rattle.request.specs.Request.{Finished}
use Rattle.put.specs.Writing.{Ready, last_steps, OldInside, Placed, mark_found, last_steps_at, Wrote}
use Rattle.bridge.specs.Lengths.{page_length, write_length}

-- ---- any image

-- once room was made, a free slot and an old one inside the image are all that is left to test
pub worked_placed : (N B : ℕ) (p : Plan) (total budget : ℕ) (r : Room) (f : Option FoundSlot) (c : List ℕ) {s t : Image} → Sized N B (length s) → Worked N B p total budget r s t
    → r.slot < B → OldInside f (length t) → length c ≤ 248 → Placed N B r f c budget (length t)
worked_placed N B p total budget r f c z w h o k = record {
  sized = rw (ran_length w.ran) z;
  some = w.some;
  few = omega (arith, w.spare, z.segments);
  room = h;
  old = o;
  short = k;
  left = ran_left w.ran;
}

module _ (N B : ℕ) (r : Room) (f : Option FoundSlot) (b : ℕ) (c : List ℕ) (budget : ℕ) (t : Image) (k : Placed N B r f c budget (length t)) where
  abbrev page : ℕ
  page = slot_at N B (r.first.0 + r.used - 1) r.slot

  pub place_inside : (at : ℕ) → at ≡ slot_at N B (r.first.0 + r.used - 1) r.slot * 256 → at + 256 ≤ length t
  unfolding slot_at
  place_inside at e = let z = k.sized in
      omega (arith, z.whole, k.room, suc-mul ((r.first.0 + r.used - 1) % N) (B + 1), mul-le-mul_right (B + 1) (mod-lt (r.first.0 + r.used - 1) {m = N} z.some))

  pub old_inside : (x : FoundSlot) → f ≡ Some x → x.place.0 < length t
  old_inside x w = subst (λ (g : Option FoundSlot). OldInside g (length t)) w k.old

  wrote_length : length (on_page page (write_slot b c)) ≡ 5 + length c
  wrote_length = page_length page (write_slot b c) ∙ write_length b c

  module _ (at written : ℕ) {w : Image} (e : at ≡ slot_at N B (r.first.0 + r.used - 1) r.slot * 256) (d : OnPageAt at (write_slot b c) r.left written t w) where
    ran_top : Ran (on_page page (write_slot b c)) B r.left written t w
    ran_top = in_page at page (write_slot b c) e d B

    -- nothing to mark
    pub wrote_new : {p : Performed} → f ≡ None → Finished budget written r.left (5 + length c) p → Wrote N B r f b c budget p t w
    unfolding last_steps_at mark_found
    wrote_new {p} m fin = record {
      left = written;
      ran = rw (m, append-nil (on_page page (write_slot b c))) ran_top;
      finished = rw (m, append-nil (on_page page (write_slot b c)), wrote_length) fin;
    }

    -- and then the old slot
    module _ (y : FoundSlot) (o : f ≡ Some y) (left : ℕ) {x : Image} (g : OnPageAt y.place.0 mark_dead written left w x) where
      mark_length : length (shifted y.place.0 mark_dead) ≡ 1
      unfolding shifted mark_dead
      mark_length = refl

      pub wrote_old : {p : Performed} → Finished budget left r.left (5 + length c + 1) p → Wrote N B r f b c budget p t x
      unfolding last_steps_at mark_found
      wrote_old {p} fin =
          let l : length (on_page page (write_slot b c) ++ shifted y.place.0 mark_dead) ≡ 5 + length c + 1 = length-append (on_page page (write_slot b c)) (shifted y.place.0 mark_dead) ∙ ap₂ ◌+◌ wrote_length mark_length in record {
            left = left;
            ran = rw o (◌then◌ ran_top (g B));
            finished = rw (o, l) fin;
          }

-- ---- a clean image

module _ (N B : ℕ) (r : Room) (f : Option FoundSlot) (b : ℕ) (c : List ℕ) (budget : ℕ) (t : Image) (k : Ready N B r f b c budget t) where
  abbrev v : View
  v = view N B t

  h : Held N B t v
  h = held_of_clean N B t k.size k.state

  pub ready_placed : Placed N B r f c budget (length t)
  ready_placed =
      let z = sized N B t k.size in
      let x = clean_view N B t k.size k.state in record {
        sized = z;
        some = omega (arith, k.used, x.some);
        few = omega (arith, k.used, x.spare, z.segments);
        room = k.room;
        old = inside f refl;
        short = k.short;
        left = k.left;
      }
    where
      inside : (g : Option FoundSlot) → f ≡ g → OldInside g (length t)
      inside (Some x) w =
          let z = sized N B t k.size in
          let i = subst (Inside N B) w (found_inside N B b t z.some r.used r.first.0 k.old) in
          omega (arith, i.0, z.whole)
      inside None w = tt

  marks : (g : Option FoundSlot) → f ≡ g → mark_found f ≡ mark_old N B b v
  unfolding mark_found mark_old mark_place
  marks (Some x) w =
      let a : FoundAt N B b v x.place x.length = found_at N B b t v h k.first k.used k.old x w in
      rw (w, a.held, a.place) (shifted_page (slot_at N B (place_of b v).number (place_of b v).slot) mark_dead)
  marks None w = rw (w, found_nothing N B b t v h k.first k.used k.old w)

  -- the steps are those of the definition
  pub last_steps_lem : last_steps_at N B r f b c ≡ last_steps N B b c (view N B t)
  unfolding last_steps_at last_steps write_at_top top_number
  last_steps_lem = rw (k.first, k.used, k.slot, marks f refl)
