-- The parts of a put once room was made, as the code takes them one after the other, on any image with any table.
use Prim.Native.Nat.{ℕ, ◌+◌, ◌-◌, ◌*◌, ◌≤◌, ◌<◌}
use mathlib.Core.Path.{◌≡◌, refl, sym, ap, ◌∙◌}
use mathlib.Core.Logic.{inl, inr}
use mathlib.Core.List.{List}
use native.Mathlib.Omega.{arith}
use lib.ListN.{length, get_or, set}
use Rattle.model.specs.Chip.{Image}
use Rattle.model.specs.Steps.{slot_at}
use Rattle.model.specs.Answers.{code_of}
use Rattle.model.specs.Mounted.{Places, unusable}
use Rattle.model.specs.declared.Performed.{Performed}
use Rattle.std.specs.Prelude.{Option, None, Some, Ok}
use Rattle.std.specs.declared.option.Option.{Option}
use Rattle.find.specs.declared.FoundSlot.{FoundSlot}
use Rattle.request.specs.Request.{Finished}
use Rattle.places.specs.Places.{Entry, stale, entry_seen, noted}
use Rattle.places.proofs.Laws.Seen.{seen_believed}
use Rattle.places.proofs.Laws.Walk.{few_bytes}
use Rattle.room.specs.declared.Room.{Room}
use Rattle.put.specs.Writing.{OldInside, Placed, Wrote}
use Rattle.put.proofs.Laws.LastSteps.{place_inside}
use Rattle.mounted_write.specs.Continuing.{RoomMade, Continued}

pub made_unusable : (t : Places) → set t 0 0 ≡ unusable t
unfolding unusable
made_unusable t = refl

-- noted at the place that was found
pub noted_at : (t w : Places) (b at place code : ℕ) → w ≡ noted t b at code → at ≡ place → w ≡ noted t b place code
noted_at t w b at place code d e = d ∙ ap (λ (y : ℕ). noted t b y code) e

-- a slot's place fits an entry
pub place_fits : (N B : ℕ) (r : Room) (f : Option FoundSlot) (b : ℕ) (c : List ℕ) (budget : ℕ) (s : Image) → Placed N B r f c budget (length s) → (at : ℕ) → at ≡ slot_at N B (r.first.0 + r.used - 1) r.slot * 256 → at < 4294967296
place_fits N B r f b c budget s k at e = omega (arith, place_inside N B r f b c budget s k at e, few_bytes N B (length s) k.sized)

module _ (N B : ℕ) (r : Room) (b : ℕ) (c : List ℕ) (budget : ℕ) (s : Image) (t : Places) where
  -- ---- a slot may be written

  placed : RoomMade N B r c budget (length s) → r.slot < B → (f : Option FoundSlot) → OldInside f (length s) → Placed N B r f c budget (length s)
  placed m h f o = record { sized = m.sized; some = m.some; few = m.few; room = h; old = o; short = m.short; left = m.left }

  -- what an entry says lies in the image
  old_inside : (f : Option FoundSlot) → entry_seen B s (get_or t b 0) ≡ Ok f → OldInside f (length s)
  old_inside (Some x) e = let y = seen_believed B s (get_or t b 0) x e in omega (arith, y.place, y.inside)
  old_inside None e = tt

  -- ---- it was written, or nothing was

  pub found_placed : RoomMade N B r c budget (length s) → r.slot < B → (f : Option FoundSlot) → entry_seen B s (get_or t b 0) ≡ Ok f → Placed N B r f c budget (length s)
  found_placed m h f e = placed m h f (old_inside f e)

  module _ (e : Entry) (seen : e ≡ entry_seen B s (get_or t b 0)) {p : Performed} {u : Image} {w : Places} where
    pub continued_written : (f : Option FoundSlot) → e ≡ Ok f → Wrote N B r f b c budget p s u → w ≡ noted t b (slot_at N B (r.first.0 + r.used - 1) r.slot * 256) (code_of p.answer)
        → Continued N B r b c budget p s u t w
    continued_written f i d j = inl (f, record { seen = sym seen ∙ i; wrote = d; table = j })

    pub continued_stale : e ≡ stale → u ≡ s → Finished budget r.left 0 1 p → w ≡ unusable t → Continued N B r b c budget p s u t w
    continued_stale i same fin j = inr (record { why = inr (sym seen ∙ i); image = same; finished = fin; table = j })

  pub continued_full : {p : Performed} {w : Places} → B ≤ r.slot → Finished budget r.left 0 1 p → w ≡ unusable t → Continued N B r b c budget p s s t w
  continued_full h fin j = inr (record { why = inl h; image = refl; finished = fin; table = j })
