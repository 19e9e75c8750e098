-- A put performed, from its parts: what holds whatever image and table are, with what holds in step.
use Prim.Native.Nat.{ℕ, ◌+◌, ◌-◌, ◌*◌, ◌≤◌, ◌<◌}
use mathlib.Core.Path.{◌≡◌, sym, ap, ◌∙◌, subst}
use mathlib.Core.Logic.{◌⊎◌, inl, inr, ⊎_elim}
use mathlib.Core.Bool.{Bool, true, false, cond}
use mathlib.Core.List.{List}
use native.Mathlib.Omega.{arith}
use lib.ListN.{length, get_or, drop, take}
use lib.Seq.{drop-set-lt, get_or-set_same}
use lib.Dec.{ltb}
use Rattle.model.specs.Chip.{Image, Bytes}
use Rattle.model.specs.Steps.{slot_at}
use Rattle.model.specs.Answers.{code_of}
use Rattle.model.specs.Mounted.{Places, least_places, unusable}
use Rattle.model.specs.declared.Performed.{Performed}
use Rattle.model.proofs.Laws.Bytes.{run_bytes}
use Rattle.std.specs.Prelude.{Option}
use Rattle.std.specs.Prelude.{Option, Ok}
use Rattle.find.specs.declared.FoundSlot.{FoundSlot}
use Rattle.request.specs.Request.{Finished}
use Rattle.places.specs.Places.{entry_seen, entered_from, noted}
use Rattle.places.proofs.Laws.Entered.{entered_from_length, entered_from_past}
use Rattle.places.proofs.Laws.Noted.{noted_past, noted_unusable}
use Rattle.room.specs.declared.Plan.{Plan}
use Rattle.room.specs.declared.Room.{Room}
use Rattle.room.specs.Room.{Plannable, Worked}
use Rattle.room.proofs.Laws.{worked_there}
use Rattle.put.specs.Writing.{Placed, Wrote}
use Rattle.put.proofs.Laws.Put.{accepted_writable, put_spent}
use Rattle.mounted_write.specs.Continuing.{RoomMade, Written, Stopped, Continued}
use Rattle.mounted_write.proofs.Laws.Parts.{found_placed}
use Rattle.mounted_put.specs.Performing.{Performs}
use Rattle.mounted_put.proofs.Laws.InStep.{not_stopped, written_outcome, written_kept}

-- ---- what comes back

finished_codes : {budget left before last : ℕ} {q : Performed} → Finished budget left before last q → (code_of q.answer ≡ 0) ⊎ (code_of q.answer ≡ 9)
finished_codes {budget} {left} {before} {last} {q} d = go (ltb before last) d.code
  where
    go : (x : Bool) → code_of q.answer ≡ cond x 9 0 → (code_of q.answer ≡ 0) ⊎ (code_of q.answer ≡ 9)
    go true e = inr e
    go false e = inl e

finished_few : {budget left before last : ℕ} {q : Performed} → Finished budget left before last q → q.steps ≤ budget
finished_few d = omega (arith, d.count)

unusable_zero : (t : Places) → least_places ≤ length t → get_or (unusable t) 0 0 ≡ 0
unfolding unusable
unusable_zero t l = get_or-set_same t 0 0 0 (omega arith)

unusable_past : (t : Places) → drop least_places (unusable t) ≡ drop least_places t
unfolding unusable
unusable_past t = drop-set-lt least_places t 0 0 (omega arith)

module _ (N B : ℕ) (p : Plan) (total b : ℕ) (c : List ℕ) (budget : ℕ) (q : Performed) (r : Room) (s x : Image) (m : Worked N B p total budget r s x) (t w : Places) (long : least_places ≤ length t) where
  -- ---- the budget was spent on room

  pub spent_performs : r.left ≡ 0 → Finished budget 0 0 1 q → w ≡ unusable t → Performs N B p total b c budget q s x t w
  spent_performs z fin e = record {
    codes = finished_codes fin;
    cut = λ h. ap (λ (y : Places). get_or y 0 0) e ∙ unusable_zero t long;
    past = ap (drop least_places) e ∙ unusable_past t;
    few = finished_few fin;
    exact = λ k f a. (
      put_spent N B p total f b c s a budget (m.exact (accepted_writable N B p total f b c s a budget)) z fin,
      λ h. absurd (omega (arith, h, fin.code)),
    );
  }

  -- ---- and else

  module _ (left : r.left ≡ 0 → ⊥) (bytes : Bytes s) (contents : Bytes c) (below : b < least_places) (u : Image) where
    abbrev mended : Places
    mended = entered_from N B x (r.first.0 + r.used - (p.first.0 + p.used)) (p.first.0 + p.used) t

    mended_past : drop least_places mended ≡ drop least_places t
    mended_past = entered_from_past N B x (subst Bytes (sym m.ran.image) (run_bytes B (take budget m.steps) s bytes)) (r.first.0 + r.used - (p.first.0 + p.used)) (p.first.0 + p.used) t

    mended_long : least_places ≤ length mended
    mended_long = omega (arith, long, entered_from_length N B x (r.first.0 + r.used - (p.first.0 + p.used)) (p.first.0 + p.used) t)

    written_performs : (o : Option FoundSlot) → Written N B r o b c budget q x u mended w → Performs N B p total b c budget q s u t w
    written_performs o z = record {
      codes = finished_codes z.wrote.finished;
      cut = λ h. ap (λ (y : Places). get_or y 0 0) z.table ∙ noted_unusable mended b _ _ mended_long h;
      past = ap (drop least_places) z.table ∙ (noted_past mended b _ _ below ∙ mended_past);
      few = finished_few z.wrote.finished;
      exact = λ k f a.
          let d = m.exact (accepted_writable N B p total f b c s a budget) in
          (written_outcome N B p total f b c s a budget r x d left t k contents o q u w z, written_kept N B p total f b c s a budget r x d left t k contents o q u w z);
    }

    stopped_performs : Stopped B r b budget q x u mended w → Performs N B p total b c budget q s u t w
    stopped_performs z = record {
      codes = finished_codes z.finished;
      cut = λ h. ap (λ (y : Places). get_or y 0 0) z.table ∙ unusable_zero mended mended_long;
      past = ap (drop least_places) z.table ∙ (unusable_past mended ∙ mended_past);
      few = finished_few z.finished;
      exact = λ k f a. absurd (not_stopped N B p total f b c s a budget r x (m.exact (accepted_writable N B p total f b c s a budget)) left t k z);
    }

    pub continued_performs : (y : Places) → y ≡ entered_from N B x (r.first.0 + r.used - (p.first.0 + p.used)) (p.first.0 + p.used) t → Continued N B r b c budget q x u y w → Performs N B p total b c budget q s u t w
    continued_performs y e z =
        ⊎_elim (λ g. written_performs g.0 g.1) stopped_performs (subst (λ (i : Places). Continued N B r b c budget q x u i w) e z)

-- ---- there was room, and so nothing moved

module _ (N B : ℕ) (p : Plan) (total b : ℕ) (c : List ℕ) (budget : ℕ) (r : Room) (s : Image) (t : Places) (a : Plannable N B p (length s)) (room : p.slot < B) (left : r.left ≡ budget) (first : r.first.0 ≡ p.first.0)
    (used : r.used ≡ p.used) (slot : r.slot ≡ p.slot) (o : Option FoundSlot) (seen : entry_seen B s (get_or t b 0) ≡ Ok o) where
  pub there_placed : length c ≤ 248 → Placed N B r o c budget (length s)
  there_placed short =
      let m : RoomMade N B r c budget (length s) = record { sized = a.sized; some = omega (arith, used, a.some); few = omega (arith, used, a.spare, a.sized.segments); short = short; left = omega (arith, left) } in
      found_placed N B r b c budget s t m (omega (arith, slot)) o seen

  none_entered : t ≡ entered_from N B s (r.first.0 + r.used - (p.first.0 + p.used)) (p.first.0 + p.used) t
  unfolding entered_from
  none_entered = let z : r.first.0 + r.used - (p.first.0 + p.used) ≡ 0 = omega (arith, first, used) in rw z

  pub there_performs : 0 < budget → least_places ≤ length t → Bytes s → Bytes c → b < least_places → {q : Performed} {u : Image} {w : Places} → Wrote N B r o b c budget q s u
      → w ≡ noted t b (slot_at N B (r.first.0 + r.used - 1) r.slot * 256) (code_of q.answer) → Performs N B p total b c budget q s u t w
  there_performs some long bytes contents below {q} {u} {w} wrote table =
      continued_performs N B p total b c budget q r s s (worked_there N B p total s a budget r room left first used slot) t w long (λ z. omega (arith, left, z)) bytes contents below u t none_entered
      (inl (o, record { seen = seen; wrote = wrote; table = table }))
