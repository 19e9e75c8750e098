-- Laws of an accepted put: the image once room was made, and the whole list.
use Prim.Native.Nat.{ℕ, ◌+◌, ◌-◌, ◌*◌, ◌≤◌, ◌<◌}
use mathlib.Core.Path.{◌≡◌, refl, sym, ap, ◌∙◌}
use mathlib.Core.Bool.{true, false, cond}
use mathlib.Core.List.{List, ◌++◌}
use native.Mathlib.Omega.{arith}
use lib.ListN.{length, length-append}
use lib.Dec.{ltb, leb}
use borrow.Author.Tests.{lt-ltb, ltb-true, leb-false}
use Rattle.model.specs.Chip.{Image, number_limit, run}
use Rattle.model.specs.Slot.{most_contents}
use Rattle.model.specs.State.{segments_of, View, entries_in, holds, place_of, view}
use Rattle.model.specs.Steps.{on_page, slot_at, write_slot, write_at_top, mark_old, top_row, top_number, has_room, first_empty, Room, room_for, new_numbers, put_steps}
use Rattle.model.specs.Table.{lookup, contents_found}
use Rattle.model.specs.Answers.{put, steps_for, performed, outcome_of}
use Rattle.model.specs.declared.Performed.{Performed}
use Rattle.model.proofs.Laws.Chip.{size_facts}
use Rattle.bridge.specs.Accepted.{refusal, taken_short}
use Rattle.bridge.specs.Held.{Held, clean_of_held}
use Rattle.bridge.specs.Requests.{held_below, room_held}
use Rattle.bridge.specs.Views.Room.{Made, room_made}
use Rattle.bridge.specs.Views.Requests.{room_numbered, worn_carries}
use Rattle.std.specs.Prelude.{Option, None}
use Rattle.std.specs.declared.option.Option.{Option}
use Rattle.find.specs.declared.FoundSlot.{FoundSlot}
use Rattle.find.specs.Search.{rows_at, slot_found, found_in, held_found}
use Rattle.flash.specs.Ran.{Ran}
use Rattle.flash.proofs.Laws.{◌then◌, ran_spent, ran_left, whole_run}
use Rattle.flash.specs.Pages.{Sized}
use Rattle.flash.proofs.Pages.{sized}
use Rattle.room.specs.declared.Plan.{Plan}
use Rattle.room.specs.declared.Room as rooms
use Rattle.request.specs.Request.{Finished}
use Rattle.room.specs.Room.{Planned, Writable, Roomed}
use Rattle.put.specs.Writing.{Accepted, Ready, last_steps, last_steps_at, Wrote}
use Rattle.put.proofs.Laws.LastSteps.{last_steps_lem}
use Rattle.bridge.specs.Lengths.{page_length, write_length}
use Rattle.request.proofs.Answered.{carried, carried_outcome}
use Rattle.bridge.specs.Refusals.{put_accepted}
use Rattle.room.proofs.Laws.{row_full, top_length, plan_held, plan_clean, has_room_lem}

module _ (N B : ℕ) (p : Plan) (total : ℕ) (f : Option FoundSlot) (b : ℕ) (c : List ℕ) (s : Image) (a : Accepted N B p total f b c s) (budget : ℕ) where
  abbrev k : Planned N B p s
  k = a.put.plan

  abbrev v : View
  v = view N B s

  abbrev room : Room
  room = room_for N B v

  -- so room is made as the definition says (`Worked.exact`)
  pub accepted_writable : Writable N B p total s
  accepted_writable = record { plan = k; bytes = a.put.bytes; second = a.second; fresh = a.fresh; tally = a.tally }

  accepted_code : refusal N B s (put b c) ≡ 0
  accepted_code = put_accepted N B s k.size b c a.put.number a.put.taken a.second k.state a.space a.fresh

  -- its list: room, and the last steps
  accepted_steps : steps_for N B (segments_of N B s) (put b c) ≡ room.steps ++ last_steps N B b c room.result
  unfolding steps_for put_steps last_steps view
  accepted_steps = refl

  last_some : (w : View) → 1 ≤ length (last_steps N B b c w)
  unfolding last_steps write_at_top
  last_some w =
      let page = slot_at N B (top_number w) (first_empty (top_row w.slots)) in
      omega (arith, length-append (on_page page (write_slot b c)) (mark_old N B b w), page_length page (write_slot b c), write_length b c)

  -- ---- the budget was spent on room

  pub put_spent : {r : rooms.Room} {t : Image} {q : Performed} → Roomed N B budget r s t → r.left ≡ 0 → Finished budget 0 0 1 q → performed q t ≡ outcome_of N B s budget (put b c)
  put_spent {r} {t} {q} d z fin =
      let ys = last_steps N B b c room.result in
      let ran : Ran room.steps B budget 0 s t = rw z at d.ran in
      let rest : budget - length room.steps ≡ 0 = sym ran.rest in
      carried_outcome N B s budget (put b c) room.steps ys accepted_code accepted_steps (last_some room.result) (record {
        left = 0;
        ran = ◌then◌ ran (ran_spent ys B 0 t refl);
        finished = record { code = fin.code ∙ rw (rest, lt-ltb 0 (length ys) (last_some room.result)) refl; count = fin.count };
      })

  -- ---- room was made whole

  two : 2 ≤ N
  two = (size_facts N B s k.size).two

  slots_two : 2 ≤ B
  slots_two = (size_facts N B s k.size).slots

  made : Made N B v room.result (new_numbers N v)
  made = room_made N B two slots_two v (plan_clean N B p s k)

  room_below : top_number room.result < number_limit N
  room_below = room_numbered N B two slots_two v (plan_clean N B p s k) a.fresh (held_below N B s v (plan_held N B p s k) (plan_clean N B p s k))

  module _ (r : rooms.Room) (t : Image) (d : Roomed N B budget r s t) (left : r.left ≡ 0 → ⊥) where
    some : 0 < r.left
    some = omega arith

    pub room_made_held : Held N B t room.result
    room_made_held = rw (whole_run d.ran some) (room_held N B s v (plan_held N B p s k) a.put.bytes (plan_clean N B p s k) (λ e. worn_carries N B two slots_two v a.second a.fresh e) room_below)

    room_free : first_empty (top_row room.result.slots) < B
    unfolding has_room
    room_free = ltb-true (first_empty (top_row room.result.slots)) B
        (ap (ltb (first_empty (top_row room.result.slots))) (sym (top_length B room.result.slots made.clean.rows made.clean.some)) ∙ (sym (row_full (top_row room.result.slots)) ∙ made.room))

    pub room_sized : Sized N B (length t)
    room_sized = sized N B t room_made_held.size

    pub room_number : r.first.0 + r.used ≤ 4294967296
    unfolding top_number number_limit
    room_number = omega (arith, d.first, d.used, room_below, (size_facts N B s k.size).most)

    -- where nothing had to be done the search before still holds
    pub found_still : leb B p.slot ≡ false → f ≡ found_in N B r.first.0 (rows_at N B t r.used r.first.0) b
    unfolding room_for run
    found_still h =
        let l = leb-false B p.slot h in
        let x : has_room v ≡ true = has_room_lem N B p s k l in
        let same : t ≡ s = whole_run d.ran some ∙ rw x in
        let ef : r.first.0 ≡ p.first.0 = d.first ∙ rw x (sym k.first) in
        let eu : r.used ≡ p.used = d.used ∙ rw x (sym k.used) in
        rw (same, ef, eu) (a.found h)

    -- what a search finds once room was made, by the view
    pub room_found : found_in N B r.first.0 (rows_at N B t r.used r.first.0) b
        ≡ cond (holds b (entries_in (room_for N B (view N B s)).result))
        (slot_found (slot_at N B (place_of b (room_for N B (view N B s)).result).number (place_of b (room_for N B (view N B s)).result).slot * 256) (length (contents_found (lookup b (entries_in (room_for N B (view N B s)).result))))) None
    room_found = rw (d.first, d.used) (held_found N B t room.result b room_made_held)

    pub room_ready : (o : Option FoundSlot) → o ≡ found_in N B r.first.0 (rows_at N B t r.used r.first.0) b → Ready N B r o b c budget t
    room_ready o e =
        let h = room_made_held in
        let view_is : room.result ≡ view N B t = sym h.view in record {
          size = h.size;
          state = clean_of_held N B t room.result h made.clean;
          first = d.first ∙ ap (λ (y : View). y.first) view_is;
          used = d.used ∙ ap (λ (y : View). length y.slots) view_is;
          slot = d.slot some ∙ ap (λ (y : View). first_empty (top_row y.slots)) view_is;
          room = omega (arith, d.slot some, room_free);
          old = e;
          short = unfold most_contents in taken_short (length c) a.put.taken;
          left = ran_left d.ran;
        }

    pub put_done : (o : Option FoundSlot) → o ≡ found_in N B r.first.0 (rows_at N B t r.used r.first.0) b → {u : Image} {q : Performed} → Wrote N B r o b c budget q t u → performed q u ≡ outcome_of N B s budget (put b c)
    put_done o e {u} {q} w =
        let ys = last_steps N B b c room.result in
        let same : last_steps_at N B r o b c ≡ ys = last_steps_lem N B r o b c budget t (room_ready o e) ∙ ap (last_steps N B b c) room_made_held.view in
        carried_outcome N B s budget (put b c) room.steps ys accepted_code accepted_steps (last_some room.result)
        (carried room.steps ys (◌then◌ d.ran (rw same at w.ran)) d.ran.rest refl (rw same at w.finished))
