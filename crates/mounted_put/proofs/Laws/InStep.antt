-- A put on an image and a table in step, where nothing refuses it: the table is that of the image again once the new segments are entered, and once the slot is noted.
use Prim.Native.Nat.{ℕ, ◌+◌, ◌-◌, ◌*◌, ◌<◌}
use mathlib.Core.Path.{◌≡◌, refl, sym, ap, ap₂, ◌∙◌}
use mathlib.Core.Logic.{⊎_elim}
use mathlib.Core.Bool.{Bool, true, false, cond}
use mathlib.Core.List.{List}
use native.Mathlib.Decide.{ℕ_discrete}
use native.Mathlib.Omega.{arith}
use lib.ListN.{length, get_or, drop, set, length-append, length-set}
use lib.Seq.{drop-append_seam, get_or-set_same, get_or-set_other}
use borrow.Author.Tests.{eq-eqb, ne_eqb}
use Rattle.model.specs.Chip.{Image, Bytes, run}
use Rattle.model.specs.State.{View, entries_in, holds, place_of, clean, state, view}
use Rattle.model.specs.Steps.{slot_at, top_row, top_number, first_empty, room_for, new_numbers}
use Rattle.model.specs.Table.{lookup, contents_found}
use Rattle.model.specs.Answers.{code_of, put, work_of, Outcome, performed, outcome_of}
use Rattle.model.specs.Mounted.{Places, least_places, place_entry}
use Rattle.model.specs.declared.Performed.{Performed}
use Rattle.model.proofs.Laws.Chip.{size_facts, run_size}
use Rattle.model.proofs.Laws.SlotPage.{number_below}
use Rattle.bridge.specs.Allowance.{Ends, ends}
use Rattle.bridge.specs.Held.{Held, clean_view, clean_of_held}
use Rattle.bridge.specs.Predicted.{CleanView, after_put}
use Rattle.bridge.specs.Requests as requests
use Rattle.bridge.specs.Views.Entries.{Moved, room_moved}
use Rattle.bridge.specs.Views.EntriesAfter.{put_entry}
use Rattle.bridge.specs.Views.Room.{Made, room_made}
use Rattle.std.specs.Prelude.{Option, None, Ok}
use Rattle.find.specs.declared.FoundSlot.{FoundSlot}
use Rattle.find.specs.Search.{rows_at, slot_found, found_in}
use Rattle.places.specs.Places.{absent, stale, entry_seen, entered_from, noted}
use Rattle.places.proofs.Laws.Entered.{entered_from_length, entered_entry, entered_zero}
use Rattle.bridge.specs.Mounting.{Kept}
use Rattle.places.proofs.Laws.Found.{found_entry, kept_seen, number_above}
use Rattle.room.specs.declared.Plan.{Plan}
use Rattle.room.specs.declared.Room.{Room}
use Rattle.room.specs.Room.{Roomed}
use Rattle.room.proofs.Laws.{top_is}
use Rattle.put.specs.Writing.{Accepted, Ready}
use Rattle.put.proofs.Laws.Put.{room_made_held, room_found, room_ready, put_done}
use Rattle.mounted_write.specs.Continuing.{Written, Stopped}

-- ---- what a lookup sees, as what a search finds

found_as : (o : Option FoundSlot) (x : Bool) (at n : ℕ) → Ok o ≡ cond x (Ok (slot_found at n)) absent → o ≡ cond x (slot_found at n) None
found_as o true at n e = cc
found_as o false at n e = cc

never_stale : (x : Bool) (at n : ℕ) → stale ≡ cond x (Ok (slot_found at n)) absent → ⊥
never_stale true at n e = let z : ◌≡◌ {A = ℕ} 0 1 = cc in omega arith
never_stale false at n e = let z : ◌≡◌ {A = ℕ} 0 1 = cc in omega arith

module _ (N B : ℕ) (p : Plan) (total : ℕ) (f : Option FoundSlot) (b : ℕ) (c : List ℕ) (s : Image) (a : Accepted N B p total f b c s) (budget : ℕ) (r : Room) (x : Image) (d : Roomed N B budget r s x) (left : r.left ≡ 0 → ⊥) (t : Places)
    (k : Kept N B s t) where
  abbrev v : View
  v = view N B s

  abbrev roomed : View
  roomed = (room_for N B v).result

  -- ---- room was made

  h : Held N B x roomed
  h = room_made_held N B p total f b c s a budget r x d left

  clean_before : CleanView N B v
  clean_before = clean_view N B s k.size k.fine

  made : Made N B v roomed (new_numbers N v)
  made = let z = size_facts N B s k.size in room_made N B z.two z.slots v clean_before

  moved : Moved N B v roomed (new_numbers N v)
  moved = let z = size_facts N B s k.size in room_moved N B z.two z.slots v clean_before

  -- the table with the new segments entered
  abbrev mended : Places
  mended = entered_from N B x (r.first.0 + r.used - (p.first.0 + p.used)) (p.first.0 + p.used) t

  rows : length roomed.slots ≡ length moved.kept + length moved.new
  rows = ap length moved.split ∙ length-append moved.kept moved.new

  next : p.first.0 + p.used ≡ roomed.first + length moved.kept
  next = top_is N B p s a.put.plan ∙ sym moved.next

  count : r.first.0 + r.used - (p.first.0 + p.used) ≡ length moved.new
  count = omega (arith, d.first, d.used, rows, next)

  new_rows : drop (length moved.kept) roomed.slots ≡ moved.new
  new_rows = ap (drop (length moved.kept)) moved.split ∙ drop-append_seam moved.kept moved.new

  mended_is : mended ≡ entered_from N B x (length moved.new) (roomed.first + length moved.kept) t
  mended_is = ap₂ (λ (i j : ℕ). entered_from N B x i j t) count next

  mended_entry : (n : ℕ) → 0 < n → n < least_places → get_or mended n 0 ≡ place_entry N B roomed n
  mended_entry n low high =
      ap (λ (y : Places). get_or y n 0) mended_is
      ∙ (entered_entry N B x roomed h (length moved.kept) (length moved.new) (sym rows) made.clean t k.long n high
      ∙ rw (new_rows, moved.next, k.entry n low high) (sym (moved.entry n)))

  pub mended_kept : Kept N B x (entered_from N B x (r.first.0 + r.used - (p.first.0 + p.used)) (p.first.0 + p.used) t)
  mended_kept = record {
    size = h.size;
    fine = clean_of_held N B x roomed h made.clean;
    long = omega (arith, k.long, entered_from_length N B x (r.first.0 + r.used - (p.first.0 + p.used)) (p.first.0 + p.used) t);
    usable = ap (λ (y : Places). get_or y 0 0) mended_is ∙ (entered_zero N B x roomed h (length moved.kept) (length moved.new) (sym rows) made.clean t k.long ∙ k.usable);
    entry = λ n low high. mended_entry n low high ∙ ap (λ (y : View). place_entry N B y n) (sym h.view);
  }

  -- ---- the block looked up

  seen_is : entry_seen B x (get_or mended b 0) ≡ found_entry N B b roomed
  seen_is = kept_seen N B b x mended mended_kept a.put.number ∙ ap (found_entry N B b) h.view

  old_found : (o : Option FoundSlot) → entry_seen B x (get_or mended b 0) ≡ Ok o → o ≡ found_in N B r.first.0 (rows_at N B x r.used r.first.0) b
  old_found o e = found_as o (holds b (entries_in roomed)) (slot_at N B (place_of b roomed).number (place_of b roomed).slot * 256) (length (contents_found (lookup b (entries_in roomed)))) (sym e ∙ seen_is)
      ∙ sym (room_found N B p total f b c s a budget r x d left)

  pub not_stopped : {q : Performed} {u : Image} {w : Places} → Stopped B r b budget q x u (entered_from N B x (r.first.0 + r.used - (p.first.0 + p.used)) (p.first.0 + p.used) t) w → ⊥
  not_stopped z =
      let ready : Ready N B r (found_in N B r.first.0 (rows_at N B x r.used r.first.0) b) b c budget x = room_ready N B p total f b c s a budget r x d left _ refl in
      ⊎_elim (λ g. omega (arith, g, ready.room)) (λ e. never_stale (holds b (entries_in roomed)) _ _ (sym e ∙ seen_is)) z.why

  -- ---- the slot written and noted

  module _ (bytes : Bytes c) (o : Option FoundSlot) (q : Performed) (u : Image) (w : Places) (z : Written N B r o b c budget q x u (entered_from N B x (r.first.0 + r.used - (p.first.0 + p.used)) (p.first.0 + p.used) t) w) where
    pub written_outcome : performed q u ≡ outcome_of N B s budget (put b c)
    written_outcome = put_done N B p total f b c s a budget r x d left o (old_found o z.seen) z.wrote

    module _ (e : code_of q.answer ≡ 0) where
      code : (outcome_of N B s budget (put b c)).code ≡ 0
      unfolding performed
      code = ap (λ (y : Outcome). y.code) (sym written_outcome) ∙ e

      end : Ends N B s budget (put b c)
      end = ends N B s budget (put b c) (λ n. omega (arith, code, n))

      image : u ≡ run B (work_of N B s (put b c)).steps s
      unfolding performed
      image = ap (λ (y : Outcome). y.image) written_outcome ∙ end.image

      after : (state N B (run B (work_of N B s (put b c)).steps s) ≡ clean) × (view N B (run B (work_of N B s (put b c)).steps s) ≡ after_put N B b c v)
      after = requests.put_done N B s k.size k.fine b c a.put.bytes bytes (sym end.code ∙ code)

      abbrev place : ℕ
      place = slot_at N B (top_number roomed) (first_empty (top_row roomed.slots)) * 256

      place_is : slot_at N B (r.first.0 + r.used - 1) r.slot * 256 ≡ place
      unfolding top_number
      place_is = rw (d.first, d.used, d.slot (omega arith))

      table : w ≡ set mended b place
      unfolding noted
      table = z.table ∙ rw (e, place_is)

      below : b < 65535
      below = number_below b a.put.number

      noted_entry : (n : ℕ) → 0 < n → n < least_places → get_or w n 0 ≡ place_entry N B (after_put N B b c v) n
      unfolding after_put
      noted_entry n low high = ap (λ (y : Places). get_or y n 0) table ∙ (elim (ℕ_discrete n b) [
        | yes g ↦ rw (g, eq-eqb b b refl) (get_or-set_same mended b place 0 (omega (arith, mended_kept.long, below)))
        | no g ↦ rw (ne_eqb n b g) (get_or-set_other mended b n place 0 g ∙ mended_entry n low high)
      ] ∙ sym (put_entry N B b c roomed made.clean made.room n))

      pub written_kept : Kept N B u w
      written_kept = record {
        size = rw image (run_size N B (work_of N B s (put b c)).steps s ∙ k.size);
        fine = ap (state N B) image ∙ after.0;
        long = omega (arith, mended_kept.long, ap length table, length-set mended b place);
        usable = ap (λ (y : Places). get_or y 0 0) table ∙ (get_or-set_other mended b 0 place 0 (λ g. omega (arith, g, number_above b a.put.number)) ∙ mended_kept.usable);
        entry = λ n low high. noted_entry n low high ∙ ap (λ (y : View). place_entry N B y n) (sym (ap (view N B) image ∙ after.1));
      }
